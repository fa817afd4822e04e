-- What plans ask of a type is told by its group.
use Rattle.std.proofs.Common.{◌≡◌, ℕ, refl, sym, ap, List}
use Rattle.std.specs.Prelude.{Bool, true, false}
use Rattle.go_grammar.specs.declared.kind.Arithmetic.{Arithmetic}
use Rattle.go_grammar.specs.declared.kind.Operator.{Operator}
use Rattle.go_grammar.specs.declared.kind.Operator.TheVariants as operator
use Rattle.go_grammar.specs.declared.kind.Sign.{Sign}
use Rattle.go_grammar.specs.declared.kind.Sign.TheVariants as sign
use Rattle.go_grammar.specs.declared.kind.Step.{Step}
use Rattle.go_grammar.specs.declared.kind.Step.TheVariants as step
use Rattle.go_types.specs.Trees.{TypeTree, boolean, text, integer, array, slice, structure, function, declared, TypeRow, none}
use Rattle.go_meaning.specs.Planning.{operation, step_operation, binary_plan, unary_operation, conversion, index_plan, items_of}
use Rattle.go_eval_plans.specs.declared.groups.Group.{Group}
use Rattle.go_eval_plans.specs.declared.groups.Group.TheVariants as group
use Rattle.go_eval_plans.specs.Views.{is_other, IsGroup, member}

abbrev any_other : TypeTree
any_other = function none none

-- it is the same on all types that are other
abbrev pub IsBlind : {X : Type 0} → (TypeTree → X) → Type 0
IsBlind T = (u : TypeTree) → is_other u ≡ true → T u ≡ T any_other

pub told : {X : Type 0} (T : TypeTree → X) → IsBlind T → (f : ℕ → TypeTree) (g : Group) (u : TypeTree) → IsGroup f g u → T (member f g) ≡ T u
told T h f group.Boolean u e = ap T (sym e)
told T h f group.Text u e = ap T (sym e)
told T h f (group.Integer k) u e = ap T (sym e)
told T h f (group.Array n t) u e = ap T (sym e)
told T h f (group.Slice t) u e = ap T (sym e)
told T h f group.Other u e = sym (h u e)

other_cases : {X : Type 0} (T : TypeTree → X) → ((ns : List (List ℕ)) (ts : TypeRow) → T (structure ns ts) ≡ T any_other) → ((ps rs : TypeRow) → T (function ps rs) ≡ T any_other) → ((n : ℕ) → T (declared n) ≡ T any_other) → IsBlind T
other_cases T hs hf hd boolean e = absurd cc
other_cases T hs hf hd text e = absurd cc
other_cases T hs hf hd (integer k) e = absurd cc
other_cases T hs hf hd (array n t) e = absurd cc
other_cases T hs hf hd (slice t) e = absurd cc
other_cases T hs hf hd (structure ns ts) e = hs ns ts
other_cases T hs hf hd (function ps rs) e = hf ps rs
other_cases T hs hf hd (declared n) e = hd n

pub operation_blind : (o : Arithmetic) → IsBlind (operation o)
operation_blind o = other_cases (operation o) (λ ns ts. refl) (λ ps rs. refl) (λ n. refl)

pub step_blind : (s : Step) → IsBlind (step_operation s)
step_blind step.Increment = other_cases (step_operation step.Increment) (λ ns ts. refl) (λ ps rs. refl) (λ n. refl)
step_blind step.Decrement = other_cases (step_operation step.Decrement) (λ ns ts. refl) (λ ps rs. refl) (λ n. refl)

pub binary_blind : (o : Operator) → IsBlind (binary_plan o)
binary_blind operator.Either = other_cases (binary_plan operator.Either) (λ ns ts. refl) (λ ps rs. refl) (λ n. refl)
binary_blind operator.Both = other_cases (binary_plan operator.Both) (λ ns ts. refl) (λ ps rs. refl) (λ n. refl)
binary_blind (operator.Compare c) = other_cases (binary_plan (operator.Compare c)) (λ ns ts. refl) (λ ps rs. refl) (λ n. refl)
binary_blind (operator.Compute o) = other_cases (binary_plan (operator.Compute o)) (λ ns ts. refl) (λ ps rs. refl) (λ n. refl)

pub unary_blind : (s : Sign) → IsBlind (unary_operation s)
unary_blind sign.Plus = other_cases (unary_operation sign.Plus) (λ ns ts. refl) (λ ps rs. refl) (λ n. refl)
unary_blind sign.Minus = other_cases (unary_operation sign.Minus) (λ ns ts. refl) (λ ps rs. refl) (λ n. refl)
unary_blind sign.Not = other_cases (unary_operation sign.Not) (λ ns ts. refl) (λ ps rs. refl) (λ n. refl)
unary_blind sign.Complement = other_cases (unary_operation sign.Complement) (λ ns ts. refl) (λ ps rs. refl) (λ n. refl)

pub target_blind : (u : TypeTree) → IsBlind (λ t. conversion t u)
target_blind boolean = other_cases (λ t. conversion t boolean) (λ ns ts. refl) (λ ps rs. refl) (λ n. refl)
target_blind text = other_cases (λ t. conversion t text) (λ ns ts. refl) (λ ps rs. refl) (λ n. refl)
target_blind (integer k) = other_cases (λ t. conversion t (integer k)) (λ ns ts. refl) (λ ps rs. refl) (λ n. refl)
target_blind (array m t) = other_cases (λ u. conversion u (array m t)) (λ ns ts. refl) (λ ps rs. refl) (λ n. refl)
target_blind (slice t) = other_cases (λ u. conversion u (slice t)) (λ ns ts. refl) (λ ps rs. refl) (λ n. refl)
target_blind (structure ms us) = other_cases (λ t. conversion t (structure ms us)) (λ ns ts. refl) (λ ps rs. refl) (λ n. refl)
target_blind (function qs ss) = other_cases (λ t. conversion t (function qs ss)) (λ ns ts. refl) (λ ps rs. refl) (λ n. refl)
target_blind (declared m) = other_cases (λ t. conversion t (declared m)) (λ ns ts. refl) (λ ps rs. refl) (λ n. refl)

pub operand_blind : (t : TypeTree) → IsBlind (conversion t)
operand_blind boolean = other_cases (conversion boolean) (λ ns ts. refl) (λ ps rs. refl) (λ n. refl)
operand_blind text = other_cases (conversion text) (λ ns ts. refl) (λ ps rs. refl) (λ n. refl)
operand_blind (integer k) = other_cases (conversion (integer k)) (λ ns ts. refl) (λ ps rs. refl) (λ n. refl)
operand_blind (array m t) = other_cases (conversion (array m t)) (λ ns ts. refl) (λ ps rs. refl) (λ n. refl)
operand_blind (slice t) = other_cases (conversion (slice t)) (λ ns ts. refl) (λ ps rs. refl) (λ n. refl)
operand_blind (structure ms us) = other_cases (conversion (structure ms us)) (λ ns ts. refl) (λ ps rs. refl) (λ n. refl)
operand_blind (function qs ss) = other_cases (conversion (function qs ss)) (λ ns ts. refl) (λ ps rs. refl) (λ n. refl)
operand_blind (declared m) = other_cases (conversion (declared m)) (λ ns ts. refl) (λ ps rs. refl) (λ n. refl)

pub index_blind : IsBlind index_plan
index_blind = other_cases index_plan (λ ns ts. refl) (λ ps rs. refl) (λ n. refl)

pub items_blind : (single calls : Bool) → IsBlind (items_of single calls)
items_blind true false = other_cases (items_of true false) (λ ns ts. refl) (λ ps rs. refl) (λ n. refl)
items_blind true true = other_cases (items_of true true) (λ ns ts. refl) (λ ps rs. refl) (λ n. refl)
items_blind false false = other_cases (items_of false false) (λ ns ts. refl) (λ ps rs. refl) (λ n. refl)
items_blind false true = other_cases (items_of false true) (λ ns ts. refl) (λ ps rs. refl) (λ n. refl)
