-- Unary operators, where a variable stands in place of a constant in the operand.
use Rattle.std.proofs.Common.{◌≡◌, ◌∙◌, ℕ, Bool, true, false, List, [], Option, Some, None, refl, sym, ap}
use Rattle.std.specs.Prelude.{if◌then◌else◌, Result, Ok, Err}
use Rattle.go_base.specs.declared.fault.FaultCode.TheVariants as code
use Rattle.go_constants.specs.declared.values.Const.{Const}
use Rattle.go_constants.specs.declared.values.ConstFault.{ConstFault}
use Rattle.go_grammar.specs.declared.kind.Sign.{Sign}
use Rattle.go_types.specs.Trees.{TypeTree}
use Rattle.go_types.specs.Relations.{Rights}
use Rattle.go_types_relations.specs.Tests.{underlying_of}
use Rattle.go_typed.specs.declared.sort.Untyped.{Untyped}
use Rattle.go_typed.specs.declared.sort.Untyped.TheVariants as untyped
use Rattle.go_typed.specs.Trees.{Sort}
use Rattle.go_typed.specs.Trees as sort
use Rattle.go_exprs_rules.specs.declared.family.OpenKind.{OpenKind}
use Rattle.go_exprs_rules.specs.declared.family.OpenKind.TheVariants as untyped_kind
use Rattle.go_exprs_rules.specs.declared.fault.TypeFault.{TypeFault}
use Rattle.go_exprs_rules.specs.Faults.{fault_at}
use Rattle.go_exprs_rules.specs.Operators.{Common, in_type, in_kind, signed_const, complement_mask, result_in, sign_family, unary_failing, unary_sort}
use Rattle.go_exprs_rules.specs.Sorts.{Stands, is_family, family_of_open, open_kind, suits, kind_of_untyped, kind_of_const}
pub use Rattle.go_exprs_variables.specs.Operands.{IsValue}
use Rattle.go_exprs_variables.specs.Stood.{Stood, as_before, in_place, early}
use Rattle.go_exprs_variables.proofs.Families.{suited}

pub truth_differs : true ≡ false → ⊥
truth_differs e = cc

-- with a constant operand it would be a constant, or nothing known
pub folds : (c : Common) (r : Result Const ConstFault) → IsValue (result_in c (Some r)) → ⊥
folds (in_type t) (Ok v) h = absurd (truth_differs h.constant)
folds (in_kind k) (Ok v) h = absurd (truth_differs h.constant)
folds c (Err e) h = absurd (truth_differs h.known)

module _ (rights : Rights) where
  unless_kept : (b : Bool) (fs : List TypeFault) (i j : ℕ) → (if b then fs else fault_at code.Operands i j) ≡ [] → b ≡ true
  unless_kept true fs i j e = refl
  unless_kept false fs i j e = cc

  pub record Row (o : Sign) (i j : ℕ) (u : Option TypeTree) (a b : Stands) : Type 0 where
    pub failing : unary_failing rights o i j b ≡ []
    pub stands : Stood rights u (unary_sort rights o a) (unary_sort rights o b)

  -- an untyped operand that isn't constant
  open_row : (o : Sign) (i j : ℕ) (t : TypeTree) (k : Untyped) → suits rights (kind_of_untyped k) t ≡ true → unary_failing rights o i j (sort.Open k) ≡ [] → Row o i j (Some t) (sort.Open k) (sort.Value t)
  open_row o i j t untyped.Boolean e f = record {
    failing = ap (λ b. if b then [] else fault_at code.Operands i j) (ap (is_family (sign_family o)) (suited rights untyped_kind.Boolean t e) ∙ unless_kept (is_family (sign_family o) (Some (family_of_open untyped_kind.Boolean))) [] i j f);
    stands = early t (sort.Open untyped.Boolean) untyped_kind.Boolean refl e;
  }
  open_row o i j t untyped.Integer e f = record {
    failing = ap (λ b. if b then [] else fault_at code.Operands i j) (ap (is_family (sign_family o)) (suited rights untyped_kind.Integer t e) ∙ unless_kept (is_family (sign_family o) (Some (family_of_open untyped_kind.Integer))) [] i j f);
    stands = early t (sort.Open untyped.Integer) untyped_kind.Integer refl e;
  }
  open_row o i j t untyped.Rune e f = record {
    failing = ap (λ b. if b then [] else fault_at code.Operands i j) (ap (is_family (sign_family o)) (suited rights untyped_kind.Rune t e) ∙ unless_kept (is_family (sign_family o) (Some (family_of_open untyped_kind.Rune))) [] i j f);
    stands = early t (sort.Open untyped.Rune) untyped_kind.Rune refl e;
  }

  early_row : (o : Sign) (i j : ℕ) (t : TypeTree) (a : Stands) (k : OpenKind) → open_kind a ≡ Some k → suits rights k t ≡ true → unary_failing rights o i j a ≡ [] → IsValue (unary_sort rights o a) → Row o i j (Some t) a (sort.Value t)
  early_row o i j t (sort.Open u) k e g f h = let same : k ≡ kind_of_untyped u = cc in open_row o i j t u (sym (ap (λ z. suits rights z t) same) ∙ g) f
  early_row o i j t (sort.OpenConstant c) k e g f h = absurd (folds (in_kind (kind_of_const c)) (signed_const o (complement_mask None) c) h)
  early_row o i j t a k e g f h = cc

  -- The operation is judged and stands as before.
  pub unary_row : (o : Sign) (i j : ℕ) (u : Option TypeTree) (a b : Stands) → Stood rights u a b → unary_failing rights o i j a ≡ [] → IsValue (unary_sort rights o a) → Row o i j u a b
  unary_row o i j u a b (as_before v c) f h = record { failing = f; stands = as_before u (unary_sort rights o a) }
  unary_row o i j u a b (in_place v t c) f h = absurd (folds (in_type t) (signed_const o (complement_mask (underlying_of rights t)) c) h)
  unary_row o i j u a b (early t c k e g) f h = early_row o i j t c k e g f h
