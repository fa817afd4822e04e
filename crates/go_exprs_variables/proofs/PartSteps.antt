-- The steps of the induction at comparisons.
use Rattle.std.proofs.Common.{◌≡◌, ◌∙◌, ℕ, Bool, true, false, [], ◌∷◌, ◌++◌, Option, Some, None, refl, sym, ap, subst}
use Rattle.std.specs.Prelude.{◌&&◌, ◌||◌, not, if◌then◌else◌}
use Rattle.go_grammar.specs.declared.kind.Comparison.{Comparison}
use Rattle.go_grammar.specs.declared.kind.Kind.TheVariants as kind
use Rattle.go_grammar.specs.declared.kind.Operator.TheVariants as operator
use Rattle.go_types.specs.Trees.{TypeTree}
use Rattle.go_types_relations.specs.Identity.{is_identical}
use Rattle.go_typed.specs.Trees.{Sort, Label, typed, Typeds, sort_of, form_of, label_of, row}
use Rattle.go_typed.specs.Trees as sort
use Rattle.go_exprs_rules.specs.declared.family.OpenKind.{OpenKind}
use Rattle.go_exprs_rules.specs.declared.family.OpenKind.TheVariants as untyped_kind
use Rattle.go_exprs_rules.specs.Operators.{Common, in_type, in_kind, type_in, comparing, folded_both, compared_in, compared_failing, compared_failing_in, compared_refuse, compared_sort, compared_take, compared_take_in, unfit, result_in}
use Rattle.go_exprs_rules.specs.Scopes.{Scope, Hint}
use Rattle.go_exprs_rules.specs.Settling.{Part, settled, default, as_type, unrepresented}
use Rattle.go_exprs_rules.specs.Sorts.{Stands, is_constant, is_open, is_unknown, is_nil, constant_of, takes_type, default_type}
use Rattle.go_exprs_rules.specs.Tables.{Parts, own_faults, built, all_given}
use Rattle.go_exprs_variables.specs.Stood.{Stood, as_before, in_place, early}
use Rattle.go_exprs_variables.specs.Variables.{Standins, wanted, all_wanted, or_wanted, begun}
use Rattle.go_exprs_variables.proofs.Parts.{Operand, both_none, none_of_both, neither, of_neither}
use Rattle.go_exprs_variables.proofs.Unary.{IsValue}
use Rattle.go_exprs_variables.proofs.Binary.{never_folds, not_both, less_folds}
use Rattle.go_exprs_variables.proofs.Meeting.{constants, seen}
use Rattle.go_exprs_variables.proofs.Comparisons.{Compared, there, sooner, compared, fit_in_default}
use Rattle.go_exprs_variables.proofs.Defaults.{default_suits, default_comparable}
use Rattle.go_exprs_variables.proofs.Assembly.{Become, no_more, one, has_taken}
use Rattle.go_exprs_variables.proofs.Operands.{Ready, Fitting, operand, calls_kept, closed_wants, given_under, varies_given}
use Rattle.go_exprs_variables.proofs.NodeSteps.{node_step, rule_of}

module _ (s : Scope) (itself : (t : TypeTree) → is_identical t t ≡ true) (h : Hint) (i j : ℕ) (w : Standins) (a : Bool) where
  abbrev two : Part → Part → Parts
  two x y = Some x ∷ Some y ∷ []

  abbrev ready : Part → Type 0
  ready x = Ready s.rights w a x

  abbrev new : Part → Part
  new x = begun w a x

  known_both : (b c : Bool) → b ≡ false → c ≡ false → not (b || (c || false)) ≡ true
  known_both b c e f = ap (λ z. not (z || (c || false))) e ∙ ap (λ z. not (z || false)) f

  still_known : (u : Option TypeTree) (b c : Stands) → Stood s.rights u b c → is_unknown b ≡ false → is_unknown c ≡ false
  still_known u b c (as_before v z) e = e
  still_known u b c (in_place v t z) e = refl
  still_known u b c (early t z k m n) e = refl

  not_nil : (u : Option TypeTree) (b c : Stands) → Stood s.rights u b c → is_nil b ≡ false → is_nil c ≡ false
  not_nil u b c (as_before v z) e = e
  not_nil u b c (in_place v t z) e = refl
  not_nil u b c (early t z k m n) e = refl

  settled_wants : (t : TypeTree) (x : Part) → wanted w a (settled t x) ≡ None
  settled_wants t x = closed_wants s.rights w a (settled t x) (not_open (sort_of (settled t x)) (has_taken t x))
    where
      not_open : (z : Stands) → takes_type z ≡ false → is_open z ≡ false
      not_open (sort.Open k) e = cc
      not_open sort.Nil e = refl
      not_open (sort.OpenConstant c) e = cc
      not_open (sort.Value v) e = refl
      not_open (sort.Constant v c) e = refl
      not_open sort.Nothing e = refl
      not_open sort.Unknown e = refl
      not_open sort.Blank e = refl
      not_open (sort.Builtin b) e = refl
      not_open sort.Println e = refl
      not_open sort.Package e = refl
      not_open (sort.IsType v) e = refl
      not_open (sort.Results v) e = refl

  -- ---- comparisons: both operands take the type in which they are compared

  -- how they take it: an operation on what isn't both constant
  type_taken : (b c : Stands) (d : Common) → compared_in s.rights b c ≡ Some d → (is_constant b && is_constant c) ≡ false → compared_take s.rights b c ≡ as_type (type_in d)
  type_taken b c (in_type t) e f = ap (compared_take_in b c) e
  type_taken b c (in_kind k) e f = ap (compared_take_in b c) e ∙ ap (λ z. if z then default else as_type (default_type k)) f

  module _ (o : Comparison) where
    refusal_kept : (d : Common) (x y z v : Part) → (is_constant (sort_of x) && is_constant (sort_of y)) ≡ false → (is_constant (sort_of z) && is_constant (sort_of v)) ≡ false
        → ((t : TypeTree) → unrepresented s.rights t x ≡ [] → unrepresented s.rights t z ≡ []) → ((t : TypeTree) → unrepresented s.rights t y ≡ [] → unrepresented s.rights t v ≡ [])
        → compared_refuse s.rights d x y ≡ [] → compared_refuse s.rights d z v ≡ []
    refusal_kept (in_type t) x y z v p q f g e =
        let both = both_none (unrepresented s.rights t x) (unrepresented s.rights t y) e in
        none_of_both (unrepresented s.rights t z) (unrepresented s.rights t v) (f t both.0) (g t both.1)
    refusal_kept (in_kind k) x y z v p q f g e =
        let t = default_type k in
        let old : unrepresented s.rights t x ++ unrepresented s.rights t y ≡ [] = sym (ap (λ b. if b then [] else unrepresented s.rights t x ++ unrepresented s.rights t y) p) ∙ e in
        let both = both_none (unrepresented s.rights t x) (unrepresented s.rights t y) old in
        ap (λ b. if b then [] else unrepresented s.rights t z ++ unrepresented s.rights t v) q ∙ none_of_both (unrepresented s.rights t z) (unrepresented s.rights t v) (f t both.0) (g t both.1)

    default_refusal : (k : OpenKind) (x y : Part) → (is_constant (sort_of x) && is_constant (sort_of y)) ≡ false → compared_refuse s.rights (in_kind k) x y ≡ [] → compared_refuse s.rights (in_type (default_type k)) x y ≡ []
    default_refusal k x y p e = sym (ap (λ b. if b then [] else unrepresented s.rights (default_type k) x ++ unrepresented s.rights (default_type k) y) p) ∙ e

    record Judged (d : Common) (x y : Part) : Type 0 where
      pub failing : compared_failing s.rights o i j (new x) (new y) ≡ []
      pub take : compared_take s.rights (sort_of (new x)) (sort_of (new y)) ≡ as_type (type_in d)

    judged_by : (d : Common) (x y : Part) → Operand s.rights (Some (type_in d)) x (new x) → Operand s.rights (Some (type_in d)) y (new y) → is_nil (sort_of x) ≡ false → is_nil (sort_of y) ≡ false
        → (is_constant (sort_of x) && is_constant (sort_of y)) ≡ false → (is_constant (sort_of (new x)) && is_constant (sort_of (new y))) ≡ false
        → unfit s.rights o i j false d ≡ [] → compared_refuse s.rights d x y ≡ [] → Compared d (compared_in s.rights (sort_of (new x)) (sort_of (new y))) → Judged d x y
    judged_by d x y ox oy nx ny p q f r (there e) =
        let nils : (is_nil (sort_of (new x)) || is_nil (sort_of (new y))) ≡ false = ap (λ b. b || is_nil (sort_of (new y))) (not_nil (Some (type_in d)) (sort_of x) (sort_of (new x)) ox.stands nx) ∙ not_nil (Some (type_in d)) (sort_of y) (sort_of (new y)) oy.stands ny in
        record {
          failing = ap (compared_failing_in s.rights o i j (new x) (new y)) e
              ∙ of_neither (unfit s.rights o i j (is_nil (sort_of (new x)) || is_nil (sort_of (new y))) d) (compared_refuse s.rights d (new x) (new y)) (ap (λ b. unfit s.rights o i j b d) nils ∙ f)
              (refusal_kept d x y (new x) (new y) p q (λ t. ox.range t) (λ t. oy.range t) r);
          take = type_taken (sort_of (new x)) (sort_of (new y)) d e q;
        }
    judged_by d x y ox oy nx ny p q f r (sooner k is e) =
        let nils : (is_nil (sort_of (new x)) || is_nil (sort_of (new y))) ≡ false = ap (λ b. b || is_nil (sort_of (new y))) (not_nil (Some (type_in d)) (sort_of x) (sort_of (new x)) ox.stands nx) ∙ not_nil (Some (type_in d)) (sort_of y) (sort_of (new y)) oy.stands ny in
        let old_fit : unfit s.rights o i j false (in_kind k) ≡ [] = ap (unfit s.rights o i j false) (sym is) ∙ f in
        let fit = fit_in_default s.rights itself (default_suits s.rights) (default_comparable s.rights) o i j k old_fit in
        let refuse = default_refusal k x y p (ap (λ c. compared_refuse s.rights c x y) (sym is) ∙ r) in
        record {
          failing = ap (compared_failing_in s.rights o i j (new x) (new y)) e
              ∙ of_neither (unfit s.rights o i j (is_nil (sort_of (new x)) || is_nil (sort_of (new y))) (in_type (default_type k))) (compared_refuse s.rights (in_type (default_type k)) (new x) (new y)) (ap (λ b. unfit s.rights o i j b (in_type (default_type k))) nils ∙ fit)
              (refusal_kept (in_type (default_type k)) x y (new x) (new y) p q (λ t. ox.range t) (λ t. oy.range t) refuse);
          take = type_taken (sort_of (new x)) (sort_of (new y)) (in_type (default_type k)) e q ∙ ap (λ c. as_type (type_in c)) (sym is);
        }

    -- The whole step at a comparison, where neither operand is `nil` and both fit once they take the type in which they are compared.
    pub comparison_step : (d : Common) (x y : Part) → ready x → ready y → is_nil (sort_of x) ≡ false → is_nil (sort_of y) ≡ false → compared_in s.rights (sort_of x) (sort_of y) ≡ Some d
        → Fitting s.rights w a (type_in d) x → Fitting s.rights w a (type_in d) y → own_faults s (kind.Binary (operator.Compare o)) h i j (two x y) ≡ [] → IsValue (compared_sort o (sort_of x) (sort_of y))
        → (own_faults s (kind.Binary (operator.Compare o)) h i j (two (new x) (new y)) ≡ [])
        × (built s (kind.Binary (operator.Compare o)) h i j (two (new x) (new y)) ≡ begun w a (built s (kind.Binary (operator.Compare o)) h i j (two x y)))
    comparison_step d x y rx ry nx ny is fx fy f value =
        let t = type_in d in
        let ox = operand s.rights w a t x rx fx in
        let oy = operand s.rights w a t y ry fy in
        let judged = known_both (is_unknown (sort_of x)) (is_unknown (sort_of y)) rx.known ry.known in
        let judged_now = known_both (is_unknown (sort_of (new x))) (is_unknown (sort_of (new y))) (still_known (Some t) (sort_of x) (sort_of (new x)) ox.stands rx.known) (still_known (Some t) (sort_of y) (sort_of (new y)) oy.stands ry.known) in
        let op = comparing o in
        let none : folded_both op (constant_of (sort_of x)) (constant_of (sort_of y)) ≡ None = never_folds (in_kind untyped_kind.Boolean) (folded_both op (constant_of (sort_of x)) (constant_of (sort_of y))) value in
        let none_now : folded_both op (constant_of (sort_of (new x))) (constant_of (sort_of (new y))) ≡ None =
        less_folds op (constant_of (sort_of x)) (constant_of (sort_of y)) (constant_of (sort_of (new x))) (constant_of (sort_of (new y))) (constants s.rights (Some t) (sort_of x) (sort_of (new x)) ox.stands) (constants s.rights (Some t) (sort_of y) (sort_of (new y)) oy.stands) none in
        let p = not_both op (constant_of (sort_of x)) (constant_of (sort_of y)) none in
        let q = not_both op (constant_of (sort_of (new x))) (constant_of (sort_of (new y))) none_now in
        let nils : (is_nil (sort_of x) || is_nil (sort_of y)) ≡ false = ap (λ b. b || is_nil (sort_of y)) nx ∙ ny in
        let rule = sym (ap (compared_failing_in s.rights o i j x y) is) ∙ rule_of s (kind.Binary (operator.Compare o)) h i j (two x y) judged f in
        let both = neither (unfit s.rights o i j (is_nil (sort_of x) || is_nil (sort_of y)) d) (compared_refuse s.rights d x y) rule in
        let met = compared s.rights itself (default_suits s.rights) (default_comparable s.rights) (sort_of x) (sort_of y) (sort_of (new x)) (sort_of (new y)) d nx ny
        (not_nil (Some t) (sort_of x) (sort_of (new x)) ox.stands nx) (not_nil (Some t) (sort_of y) (sort_of (new y)) oy.stands ny)
        (seen s.rights (Some t) (sort_of x) (sort_of (new x)) ox.stands) (seen s.rights (Some t) (sort_of y) (sort_of (new y)) oy.stands) is in
        let r = judged_by d x y ox oy nx ny p q (sym (ap (λ b. unfit s.rights o i j b d) nils) ∙ both.0) both.1 met in
        let take_old = type_taken (sort_of x) (sort_of y) d is p in
        let same_sort : compared_sort o (sort_of (new x)) (sort_of (new y)) ≡ compared_sort o (sort_of x) (sort_of y) = ap (result_in (in_kind untyped_kind.Boolean)) (none_now ∙ sym none) in
        let parts : Become s.rights w a None (two x y) (two (settled t x) (settled t y)) (two (new x) (new y)) (two (settled t (new x)) (settled t (new y))) =
        one x (settled t x) (new x) (settled t (new x)) (Some y ∷ []) (Some (settled t y) ∷ []) (Some (new y) ∷ []) (Some (settled t (new y)) ∷ []) (given_under s.rights w a None t x rx fx) (calls_kept s.rights w a x rx) (varies_given s.rights w a (as_type t) (new x))
        (one y (settled t y) (new y) (settled t (new y)) [] [] [] [] (given_under s.rights w a None t y ry fy) (calls_kept s.rights w a y ry) (varies_given s.rights w a (as_type t) (new y)) no_more) in
        node_step s (kind.Binary (operator.Compare o)) h i j w a None (two x y) (two (new x) (new y)) judged judged_now refl f value.constant
        (record { form = refl; key = refl; held = refl; name = λ z. refl })
        (record {
          failing = r.failing;
          stands = subst (Stood s.rights None (compared_sort o (sort_of x) (sort_of y))) (sym same_sort) (as_before None (compared_sort o (sort_of x) (sort_of y)));
          wants = None;
          wanted = sym (ap (λ z. if is_open (compared_sort o (sort_of x) (sort_of y)) then all_wanted w a (row (all_given (z ∷ z ∷ []) (two x y))) else None) take_old ∙ nothing (is_open (compared_sort o (sort_of x) (sort_of y))) t x y);
          sort = same_sort;
          parts = subst (λ z. Become s.rights w a None (two x y) (all_given (z ∷ z ∷ []) (two x y)) (two (new x) (new y)) (all_given (compared_take s.rights (sort_of (new x)) (sort_of (new y)) ∷ compared_take s.rights (sort_of (new x)) (sort_of (new y)) ∷ []) (two (new x) (new y)))) (sym take_old)
              (subst (λ z. Become s.rights w a None (two x y) (two (settled t x) (settled t y)) (two (new x) (new y)) (all_given (z ∷ z ∷ []) (two (new x) (new y)))) (sym r.take) parts);
        })
      where
        nothing : (b : Bool) (t : TypeTree) (x y : Part) → (if b then or_wanted (wanted w a (settled t x)) (or_wanted (wanted w a (settled t y)) None) else None) ≡ None
        nothing false t x y = refl
        nothing true t x y = ap (λ z. or_wanted z (or_wanted (wanted w a (settled t y)) None)) (settled_wants t x) ∙ ap (λ z. or_wanted z None) (settled_wants t y)
