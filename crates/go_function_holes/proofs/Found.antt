-- Each hole of an expression is one of its constant expressions.
use Rattle.std.proofs.Common.{◌≡◌, ℕ, zero, suc, ◌+◌, Bool, true, false, List, [], ◌∷◌, ◌++◌, Option, Some, None, refl, sym, subst}
use Rattle.std.specs.Prelude.{◌&&◌, not, slice_get}
use Rattle.std.specs.List.{AllByRecursion}
use Rattle.go_grammar.specs.declared.kind.Category.{Category}
use Rattle.go_grammar.specs.Trees.{Tree, node}
use Rattle.go_rewriting.specs.Sites.{whole, is_clear}
use Rattle.go_types.specs.Trees.{TypeTree}
use Rattle.go_typed.specs.Funcs.{size}
use Rattle.go_typed.specs.Trees.{typed, Typeds, none, more, skip, sort_of, parts_of}
use Rattle.go_exprs_rules.specs.declared.fault.TypeFault.{TypeFault}
use Rattle.go_exprs_rules.specs.Faults as faults
use Rattle.go_exprs_rules.specs.Scopes.{Scope, Hint}
use Rattle.go_exprs_rules.specs.Settling.{Part}
use Rattle.go_exprs_rules.specs.Tables.{is_type}
use Rattle.go_exprs_rules.specs.Typing as typings
use Rattle.clone_window.specs.Masses.{is_hole, is_inside, is_expression, is_constant}
use Rattle.param_choose.specs.Holes.{Hole, holes_in, holes_among}
use Rattle.go_stmts_final_types.specs.Known.{IsKnown}
use Rattle.go_stmts_final_types.specs.Shapes.{IsShaped}
use Rattle.go_function_trees.specs.Lists.{Faultless}
use Rattle.go_function_holes.specs.Holes.{ExpressionHole, is_operand_place, calls_no_constant}
use Rattle.go_function_holes.proofs.Below.{Below, Operand, holes-here}
use Rattle.go_function_holes.proofs.Holed.{OfHole, Here, Holes, AllHoles, differ, either, all-weaker, sound}
use Rattle.go_function_holes.proofs.Operands.{typed-part}

pub all-both : {A : Type 0} (P : A → Type 0) (xs ys : List A) → AllByRecursion P xs → AllByRecursion P ys → AllByRecursion P (xs ++ ys)
all-both P [] ys h k = k
all-both P (x ∷ xs) ys h k = (h.0, all-both P xs ys h.1 k)

pub all-at : {A : Type 0} (P : A → Type 0) (xs : List A) (n : ℕ) (x : A) → AllByRecursion P xs → slice_get xs n ≡ Some x → P x
all-at P [] n x h e = absurd cc
all-at P (y ∷ xs) zero x h e = let same : y ≡ x = cc in subst P same h.0
all-at P (y ∷ xs) (suc n) x h e = all-at P xs n x h.1 e

here : (A : Type 0) (a w v : Bool) → (not a && w && not v) ≡ true → Here w v A → A
here A true w v e h = absurd (differ e)
here A false true false e h = h
here A false true true e h = absurd (differ e)
here A false false v e h = absurd (differ e)

module _ (P : OfHole) where
  abbrev pub At : Hole TypeTree → Type 0
  At h = P h.from h.upto

  mutual
    pub holes-found : (k : ℕ) (a : Bool) (x : Part) → Holes P x → AllByRecursion At (holes_in k a x)
    holes-found k a (typed f i j l ps) h =
        either (AllByRecursion At) (is_hole a f l) (record { node = k; from = i; upto = j; sort = l.sort } ∷ []) (holes_among (suc k) (is_inside a f l) ps)
        (λ e. (here (P i j) a (is_expression f && is_constant l.sort) l.varies e h.0, tt)) (λ e. among-found (suc k) (is_inside a f l) ps h.1)

    pub among-found : (k : ℕ) (a : Bool) (ps : Typeds TypeTree) → AllHoles P ps → AllByRecursion At (holes_among k a ps)
    among-found k a none h = tt
    among-found k a (more p ps) h = all-both At (holes_in k a p) (holes_among (k + size p) a ps) (holes-found k a p h.0) (among-found (k + size p) a ps h.1)
    among-found k a (skip ps) h = among-found k a ps h

-- ---- faults

some-least : (f : TypeFault) (o : Option TypeFault) → faults.earlier (Some f) o ≡ None → ⊥
some-least f None e = cc
some-least f (Some g) e = cc

none-reported : (fs : List (List TypeFault)) → faults.reported fs ≡ None → Faultless fs
none-reported [] e = tt
none-reported ([] ∷ fs) e = (refl, none-reported fs e)
none-reported ((f ∷ gs) ∷ fs) e = absurd (some-least f (faults.least gs) e)

-- ---- an expression

clear-whole : (new t : Tree) → is_clear [] (whole new) t ≡ true
clear-whole new (node k i j ps) = refl

below-found : (o : Bool) (c : Category) (t : Tree) (i j : ℕ) → Below o c t i j → ExpressionHole o c t i j
below-found o c t i j h = record { path = h.part ∷ h.path; stood = h.stood; category = h.category; at_path = h.at_path; asked = h.asked; takes = h.takes; expression = h.expression; begins = h.begins; ends = h.ends; clear = h.clear; named = h.named }

operand-found : (o : Bool) (c : Category) (t : Tree) (x : Part) → Operand c t x → Holes (ExpressionHole o c t) x
operand-found o c t x h =
    let P = ExpressionHole o c t in
    holes-here P x
    (λ e v. let u = h.itself e in record { path = []; stood = t; category = c; at_path = refl; asked = refl; takes = u.1; expression = u.0; begins = sym h.begins; ends = sym h.ends; clear = λ new. clear-whole new t; named = refl })
    (all-weaker (Below o c t) P (below-found o c t) (parts_of x) (h.inside o))

pub expression-holes : (o : Bool) (c : Category) (s : Scope) (h : Hint) (t : Tree) → is_operand_place c ≡ true → IsShaped c t → faults.reported (typings.faults s h t) ≡ None → IsKnown (typings.typing s h t) → calls_no_constant (typings.typing s h t) ≡ true
    → is_type (sort_of (typings.typing s h t)) ≡ false → (k n : ℕ) (a : Bool) (hole : Hole TypeTree) → slice_get (holes_in k a (typings.typing s h t)) n ≡ Some hole → ExpressionHole o c t hole.from hole.upto
expression-holes o c s h t e w f known calls untyped k n a hole there =
    let x = typings.typing s h t in
    let part = typed-part c s h t w (none-reported (typings.faults s h t) f) in
    let operand = part.operand e (sound x known calls) untyped in
    all-at (At (ExpressionHole o c t)) (holes_in k a x) n hole (holes-found (ExpressionHole o c t) k a x (operand-found o c t x operand)) there
