-- The rule of comparisons, neither of whose operands is `nil`.
use Rattle.std.proofs.Common.{◌≡◌, ◌∙◌, ◌⊎◌, inl, inr, ℕ, Bool, true, false, [], ◌++◌, Option, Some, None, refl, sym, ap}
use Rattle.std.specs.Prelude.{◌&&◌, ◌||◌, if◌then◌else◌, is_some}
use Rattle.go_constants.specs.declared.values.Const.{Const}
use Rattle.go_grammar.specs.declared.kind.Comparison.{Comparison}
use Rattle.go_types.specs.Trees.{TypeTree}
use Rattle.go_types.specs.Relations.{Rights}
use Rattle.go_types_relations.specs.Identity.{is_identical}
use Rattle.go_typed.specs.Trees.{sort_of}
use Rattle.go_exprs_rules.specs.declared.family.OpenKind.{OpenKind}
use Rattle.go_exprs_rules.specs.Operators.{Common, in_type, in_kind, type_in, compared_in, compared_failing, compared_failing_in, compared_refuse, compared_take, compared_take_in, unfit}
use Rattle.go_exprs_rules.specs.Settling.{Part, default, as_type, unrepresented}
use Rattle.go_exprs_rules.specs.Sorts.{Stands, is_constant, is_nil, constant_of, default_type}
use Rattle.go_exprs_variables.specs.Operands.{Operand}
use Rattle.go_exprs_variables.specs.Stood.{Stood, as_before, in_place, early}
use Rattle.go_exprs_variables.proofs.Comparisons.{Compared, there, sooner, compared, fit_in_default}
use Rattle.go_exprs_variables.proofs.Defaults.{default_suits, default_comparable}
use Rattle.go_exprs_variables.proofs.Meeting.{constants, seen}
use Rattle.go_exprs_variables.proofs.Parts.{both_none, none_of_both, neither, of_neither}

module _ (rights : Rights) (itself : (t : TypeTree) → is_identical t t ≡ true) where
  not_nil : (u : Option TypeTree) (b c : Stands) → Stood rights u b c → is_nil b ≡ false → is_nil c ≡ false
  not_nil u b c (as_before v z) e = e
  not_nil u b c (in_place v t z) e = refl
  not_nil u b c (early t z k m n) e = refl

  not_both : (a b c d : Option Const) → (c ≡ a) ⊎ (c ≡ None) → (d ≡ b) ⊎ (d ≡ None) → (is_some a && is_some b) ≡ false → (is_some c && is_some d) ≡ false
  not_both a b c d (inl e) (inl f) g = ap (λ z. is_some z && is_some d) e ∙ ap (λ z. is_some a && is_some z) f ∙ g
  not_both a b c d (inr e) f g = ap (λ z. is_some z && is_some d) e
  not_both a b c d (inl e) (inr f) g = ap (λ z. is_some c && is_some z) f ∙ and_false (is_some c)
    where
      and_false : (b : Bool) → (b && false) ≡ false
      and_false true = refl
      and_false false = refl

  pub type_taken : (b c : Stands) (d : Common) → compared_in rights b c ≡ Some d → (is_constant b && is_constant c) ≡ false → compared_take rights b c ≡ as_type (type_in d)
  type_taken b c (in_type t) e f = ap (compared_take_in b c) e
  type_taken b c (in_kind k) e f = ap (compared_take_in b c) e ∙ ap (λ z. if z then default else as_type (default_type k)) f

  refusal_kept : (d : Common) (x y z v : Part) → (is_constant (sort_of x) && is_constant (sort_of y)) ≡ false → (is_constant (sort_of z) && is_constant (sort_of v)) ≡ false
      → ((t : TypeTree) → unrepresented rights t x ≡ [] → unrepresented rights t z ≡ []) → ((t : TypeTree) → unrepresented rights t y ≡ [] → unrepresented rights t v ≡ []) → compared_refuse rights d x y ≡ [] → compared_refuse rights d z v ≡ []
  refusal_kept (in_type t) x y z v p q f g e =
      let both = both_none (unrepresented rights t x) (unrepresented rights t y) e in
      none_of_both (unrepresented rights t z) (unrepresented rights t v) (f t both.0) (g t both.1)
  refusal_kept (in_kind k) x y z v p q f g e =
      let t = default_type k in
      let old : unrepresented rights t x ++ unrepresented rights t y ≡ [] = sym (ap (λ b. if b then [] else unrepresented rights t x ++ unrepresented rights t y) p) ∙ e in
      let both = both_none (unrepresented rights t x) (unrepresented rights t y) old in
      ap (λ b. if b then [] else unrepresented rights t z ++ unrepresented rights t v) q ∙ none_of_both (unrepresented rights t z) (unrepresented rights t v) (f t both.0) (g t both.1)

  default_refusal : (k : OpenKind) (x y : Part) → (is_constant (sort_of x) && is_constant (sort_of y)) ≡ false → compared_refuse rights (in_kind k) x y ≡ [] → compared_refuse rights (in_type (default_type k)) x y ≡ []
  default_refusal k x y p e = sym (ap (λ b. if b then [] else unrepresented rights (default_type k) x ++ unrepresented rights (default_type k) y) p) ∙ e

  module _ (o : Comparison) (i j : ℕ) where
    abbrev Judged : Part → Part → Part → Part → Type 0
    Judged x y z v = (compared_failing rights o i j z v ≡ []) × (compared_take rights (sort_of z) (sort_of v) ≡ compared_take rights (sort_of x) (sort_of y))

    by_place : (d : Common) (x y z v : Part) → Operand rights (Some (type_in d)) x z → Operand rights (Some (type_in d)) y v → is_nil (sort_of x) ≡ false → is_nil (sort_of y) ≡ false
        → (is_constant (sort_of x) && is_constant (sort_of y)) ≡ false → (is_constant (sort_of z) && is_constant (sort_of v)) ≡ false → compared_in rights (sort_of x) (sort_of y) ≡ Some d
        → unfit rights o i j false d ≡ [] → compared_refuse rights d x y ≡ [] → Compared d (compared_in rights (sort_of z) (sort_of v)) → Judged x y z v
    by_place d x y z v ox oy nx ny p q is f r (there e) =
        let nils : (is_nil (sort_of z) || is_nil (sort_of v)) ≡ false = ap (λ b. b || is_nil (sort_of v)) (not_nil (Some (type_in d)) (sort_of x) (sort_of z) ox.stands nx) ∙ not_nil (Some (type_in d)) (sort_of y) (sort_of v) oy.stands ny in (
          ap (compared_failing_in rights o i j z v) e
              ∙ of_neither (unfit rights o i j (is_nil (sort_of z) || is_nil (sort_of v)) d) (compared_refuse rights d z v) (ap (λ b. unfit rights o i j b d) nils ∙ f) (refusal_kept d x y z v p q (λ t. ox.range t) (λ t. oy.range t) r),
          type_taken (sort_of z) (sort_of v) d e q ∙ sym (type_taken (sort_of x) (sort_of y) d is p),
        )
    by_place d x y z v ox oy nx ny p q is f r (sooner k kind e) =
        let nils : (is_nil (sort_of z) || is_nil (sort_of v)) ≡ false = ap (λ b. b || is_nil (sort_of v)) (not_nil (Some (type_in d)) (sort_of x) (sort_of z) ox.stands nx) ∙ not_nil (Some (type_in d)) (sort_of y) (sort_of v) oy.stands ny in
        let t = default_type k in
        let fit = fit_in_default rights itself (default_suits rights) (default_comparable rights) o i j k (sym (ap (unfit rights o i j false) kind) ∙ f) in
        let refuse = default_refusal k x y p (sym (ap (λ c. compared_refuse rights c x y) kind) ∙ r) in (
          ap (compared_failing_in rights o i j z v) e
              ∙ of_neither (unfit rights o i j (is_nil (sort_of z) || is_nil (sort_of v)) (in_type t)) (compared_refuse rights (in_type t) z v) (ap (λ b. unfit rights o i j b (in_type t)) nils ∙ fit)
              (refusal_kept (in_type t) x y z v p q (λ t. ox.range t) (λ t. oy.range t) refuse),
          type_taken (sort_of z) (sort_of v) (in_type t) e q ∙ sym (ap (λ c. as_type (type_in c)) kind) ∙ sym (type_taken (sort_of x) (sort_of y) d is p),
        )

    -- Operands that are compared are compared still, and take what they took.
    pub comparison_row : (d : Common) (x y z v : Part) → Operand rights (Some (type_in d)) x z → Operand rights (Some (type_in d)) y v → is_nil (sort_of x) ≡ false → is_nil (sort_of y) ≡ false
        → (is_constant (sort_of x) && is_constant (sort_of y)) ≡ false → compared_in rights (sort_of x) (sort_of y) ≡ Some d → compared_failing rights o i j x y ≡ []
        → (compared_failing rights o i j z v ≡ []) × (compared_take rights (sort_of z) (sort_of v) ≡ compared_take rights (sort_of x) (sort_of y))
    comparison_row d x y z v ox oy nx ny p is f =
        let u = Some (type_in d) in
        let q = not_both (constant_of (sort_of x)) (constant_of (sort_of y)) (constant_of (sort_of z)) (constant_of (sort_of v)) (constants rights u (sort_of x) (sort_of z) ox.stands) (constants rights u (sort_of y) (sort_of v) oy.stands) p in
        let nils : (is_nil (sort_of x) || is_nil (sort_of y)) ≡ false = ap (λ b. b || is_nil (sort_of y)) nx ∙ ny in
        let rule = sym (ap (compared_failing_in rights o i j x y) is) ∙ f in
        let both = neither (unfit rights o i j (is_nil (sort_of x) || is_nil (sort_of y)) d) (compared_refuse rights d x y) rule in
        let met = compared rights itself (default_suits rights) (default_comparable rights) (sort_of x) (sort_of y) (sort_of z) (sort_of v) d nx ny
        (not_nil u (sort_of x) (sort_of z) ox.stands nx) (not_nil u (sort_of y) (sort_of v) oy.stands ny) (seen rights u (sort_of x) (sort_of z) ox.stands) (seen rights u (sort_of y) (sort_of v) oy.stands) is in
        by_place d x y z v ox oy nx ny p q is (sym (ap (λ b. unfit rights o i j b d) nils) ∙ both.0) both.1 met
