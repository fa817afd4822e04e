-- Unary operators, parentheses and selectors: from the node that fits to its part, and the step.
use Rattle.std.proofs.Common.{◌≡◌, ◌∙◌, ℕ, ◌-◌, Bool, true, false, List, [], ◌∷◌, Option, Some, None, refl, sym, ap, subst}
use Rattle.std.specs.Prelude.{if◌then◌else◌, is_some}
use Rattle.go_base.specs.declared.fault.FaultCode.TheVariants as code
use Rattle.go_grammar.specs.declared.kind.Kind.TheVariants as kind
use Rattle.go_grammar.specs.declared.kind.Sign.{Sign}
use Rattle.go_types.specs.Trees.{TypeTree}
use Rattle.go_typed.specs.declared.form.Form.TheVariants as form
use Rattle.go_typed.specs.declared.form.Referent.TheVariants as referent
use Rattle.go_typed.specs.declared.sort.Untyped.TheVariants as untyped
use Rattle.go_typed.specs.Trees.{Sort, Label, typed, Typeds, sort_of, label_of}
use Rattle.go_typed.specs.Trees as sort
use Rattle.go_exprs_rules.specs.declared.family.OpenKind.{OpenKind}
use Rattle.go_exprs_rules.specs.Faults.{fault_at}
use Rattle.go_exprs_rules.specs.Indexes.{value_or_unknown, named_field, selector_sort, selector_failing}
use Rattle.go_exprs_rules.specs.Operators.{in_kind, signed_const, complement_mask, unary_sort}
use Rattle.go_exprs_rules.specs.Scopes.{Scope, Hint}
use Rattle.go_exprs_rules.specs.Settling.{Part}
use Rattle.go_exprs_rules.specs.Sorts.{Stands, is_constant, is_open, is_unknown, takes_type, open_kind, own_type, form_of_value, underlying_in, kind_of_const}
use Rattle.go_exprs_rules.specs.Tables.{Parts, is_package, selector_parts, label, built, built_by, built_on, is_sound, own_faults, form_by}
use Rattle.clone_window.specs.Masses as masses
use Rattle.go_exprs_variables.specs.Operands.{IsValue}
use Rattle.go_exprs_variables.specs.Variables.{Standins, wanted, begun, Fits, WillFit}
use Rattle.go_exprs_variables.proofs.Identities.{tree_self}
use Rattle.go_exprs_variables.proofs.Leaves.{leaf_stays}
use Rattle.go_exprs_variables.proofs.Nodes.{no_constant, plain}
use Rattle.go_exprs_variables.proofs.NodeSteps.{parts_fit, stands_made, rule_of}
use Rattle.go_exprs_variables.proofs.OneSteps.{inner_sort, parenthesized_step, selector_step}
use Rattle.go_exprs_variables.proofs.Operands.{Ready, open_so, calls_kept, begun_as, wanting_is, closed_wants}
use Rattle.go_exprs_variables.proofs.ShiftSteps.{Left, left_closed, left_open, left_operand}
use Rattle.go_exprs_variables.proofs.Steps.{Begins, quiet, wanting, open_takes_with, unary_step}
use Rattle.go_exprs_variables.proofs.Told.{Turned, the_same, to_value, turned}
use Rattle.go_exprs_variables.proofs.Trees.{Agrees}
use Rattle.go_exprs_variables.proofs.Unary.{folds}
use Rattle.go_exprs_variables.proofs.Waits.{plain_tests, known_first, known_sort, judged, Waits, has_type, waits, part_waits}

module _ (w : Standins) (s : Scope) (h : Hint) (i j : ℕ) where
  abbrev alone : Part → Parts
  alone x = Some x ∷ []

  abbrev new : Part → Part
  new x = begun w false x

  pub left_of : (u : Option TypeTree) (x : Part) → Waits w s.rights x u → Left s tree_self h i j w false x u
  left_of None x (has_type e fits) = left_closed e fits
  left_of (Some t) x (waits t' k e m r fits) = left_open t k e m fits

  -- ---- unary operators

  pub record UnaryFacts (o : Sign) (x : Part) : Type 0 where
    pub known : is_unknown (sort_of x) ≡ false
    pub value : IsValue (unary_sort s.rights o (sort_of x))
    pub later : Option TypeTree
    pub waits : Waits w s.rights x later

  unary_kind : (o : Sign) (a : Stands) (k : OpenKind) → IsValue (unary_sort s.rights o a) → open_kind (unary_sort s.rights o a) ≡ Some k → open_kind a ≡ Some k
  unary_kind o (sort.Open untyped.Boolean) k v e = e
  unary_kind o (sort.Open untyped.Integer) k v e = e
  unary_kind o (sort.Open untyped.Rune) k v e = e
  unary_kind o (sort.OpenConstant c) k v e = absurd (folds (in_kind (kind_of_const c)) (signed_const o (complement_mask None) c) v)
  unary_kind o (sort.Constant t c) k v e = absurd (constant_value (no_constant s.rights o (sort.Constant t c) v))
    where
      constant_value : true ≡ false → ⊥
      constant_value e = cc
  unary_kind o a k v e = cc

  unary_closed : (o : Sign) (a : Stands) → IsValue (unary_sort s.rights o a) → is_open (unary_sort s.rights o a) ≡ false → is_open a ≡ false
  unary_closed o a v e = by_test (is_open a) refl
    where
      by_test : (b : Bool) → is_open a ≡ b → b ≡ false
      by_test false f = refl
      by_test true f = sym ((open_takes_with s.rights o a v).open_still f) ∙ e

  pub unary_facts : (o : Sign) (x : Part) → own_faults s (kind.Unary o) h i j (alone x) ≡ [] → masses.is_constant (sort_of (built s (kind.Unary o) h i j (alone x))) ≡ false → WillFit s.rights w false (built s (kind.Unary o) h i j (alone x)) → UnaryFacts o x
  unary_facts o x f constant fits =
      let js = judged w s h i j (kind.Unary o) (alone x) refl fits in
      let known = (known_first x [] js).0 in
      let is = stands_made s (kind.Unary o) h i j (alone x) js f in
      let value : IsValue (unary_sort s.rights o (sort_of x)) = record {
        constant = plain_tests (unary_sort s.rights o (sort_of x)) (ap (λ z. masses.is_constant (sort_of z)) (sym is) ∙ constant);
        known = ap (λ z. is_unknown (sort_of z)) (sym is) ∙ known_sort w s.rights (built s (kind.Unary o) h i j (alone x)) fits;
      } in
      let part = part_waits w s.rights (form.Unary o) i j (label (form.Unary o) (unary_sort s.rights o (sort_of x)) (alone x)) x sort.none value.constant (unary_closed o (sort_of x) value)
      (λ k e. (k, unary_kind o (sort_of x) k value e, refl)) (subst (WillFit s.rights w false) (plain s o h i j x known f value) fits) in
      record { known = known; value = value; later = part.0; waits = part.1 }

  begins : (x : Part) (u p : Option TypeTree) → Ready s.rights w false x → Waits w s.rights x u → is_constant (sort_of x) ≡ false → wanted w false x ≡ p → Begins w false x
  begins x u None r part c e =
      let is = begun_as s.rights w false x None r e in
      quiet e is (ap sort_of (sym is) ∙ inner_sort s tree_self h i j w false u None x r (left_of u x part) c e)
  begins x None (Some q) r (has_type o fits) c e = let two : None ≡ Some q = sym (closed_wants s.rights w false x o) ∙ e in cc
  begins x (Some t) (Some q) r (waits t' k o m range fits) c e =
      let is = begun_as s.rights w false x (Some q) r e in
      let z = wanting_is s.rights w false t q x r (open_so k o m fits) e in
      wanting q e is (ap sort_of (sym is) ∙ z.1 ∙ ap sort.Value (sym z.0)) (ap is_some o)

  pub unary_whole : (o : Sign) (x : Part) → Ready s.rights w false x → own_faults s (kind.Unary o) h i j (alone x) ≡ [] → UnaryFacts o x
      → (own_faults s (kind.Unary o) h i j (alone (new x)) ≡ []) × (built s (kind.Unary o) h i j (alone (new x)) ≡ begun w false (built s (kind.Unary o) h i j (alone x)))
  unary_whole o x r f facts =
      let left = left_operand s tree_self h i j w false facts.later x r (left_of facts.later x facts.waits) in
      unary_step s o h i j w false facts.later x left.stands (calls_kept s.rights w false x r)
      (begins x facts.later (wanted w false x) r facts.waits (no_constant s.rights o (sort_of x) facts.value) refl) facts.known f facts.value

  -- ---- parentheses

  pub record InnerFacts (x : Part) : Type 0 where
    pub known : is_unknown (sort_of x) ≡ false
    pub plain : is_constant (sort_of x) ≡ false
    pub later : Option TypeTree
    pub waits : Waits w s.rights x later

  pub inner_facts : (x : Part) → own_faults s kind.Parenthesized h i j (alone x) ≡ [] → masses.is_constant (sort_of (built s kind.Parenthesized h i j (alone x))) ≡ false → WillFit s.rights w false (built s kind.Parenthesized h i j (alone x)) → InnerFacts x
  inner_facts x f constant fits =
      let js = judged w s h i j kind.Parenthesized (alone x) refl fits in
      let known = (known_first x [] js).0 in
      let is = stands_made s kind.Parenthesized h i j (alone x) js f in
      let plain : is_constant (sort_of x) ≡ false = plain_tests (sort_of x) (ap (λ z. masses.is_constant (sort_of z)) (sym is) ∙ constant) in
      let part = part_waits w s.rights form.Parenthesized i j (label form.Parenthesized (sort_of x) (alone x)) x sort.none plain (λ e. e) (λ k e. (k, e, refl)) (subst (WillFit s.rights w false) is fits) in
      record { known = known; plain = plain; later = part.0; waits = part.1 }

  pub inner_whole : (x : Part) → Ready s.rights w false x → own_faults s kind.Parenthesized h i j (alone x) ≡ [] → InnerFacts x
      → (own_faults s kind.Parenthesized h i j (alone (new x)) ≡ []) × (built s kind.Parenthesized h i j (alone (new x)) ≡ begun w false (built s kind.Parenthesized h i j (alone x)))
  inner_whole x r f facts = parenthesized_step s tree_self h i j w false facts.later x r (left_of facts.later x facts.waits) f facts.plain

  -- ---- selectors on values

  field_typed : (a : Stands) (name : List ℕ) → is_some (named_field (form_of_value s.rights a) name) ≡ true → is_some (own_type a) ≡ true
  field_typed a name e = by_type (own_type a) e
    where
      by_type : (o : Option TypeTree) → is_some (named_field (underlying_in s.rights o) name) ≡ true → is_some o ≡ true
      by_type (Some t) e = refl
      by_type None e = cc

  typed_closed : (a : Stands) → is_some (own_type a) ≡ true → (takes_type a ≡ false) × (is_open a ≡ false)
  typed_closed (sort.Value t) e = (refl, refl)
  typed_closed (sort.Constant t c) e = (refl, refl)
  typed_closed a e = cc

  pub record FieldFacts (x : Part) : Type 0 where
    pub known : is_unknown (sort_of x) ≡ false
    pub taken : takes_type (sort_of x) ≡ false
    pub closed : is_open (sort_of x) ≡ false
    pub fits : Fits w false x

  rule_holds : (a : Stands) (name : List ℕ) → is_package a ≡ false → selector_failing s.rights i j name a ≡ [] → is_some (named_field (form_of_value s.rights a) name) ≡ true
  rule_holds sort.Package name p e = cc
  rule_holds a name p e = by_test (is_some (named_field (form_of_value s.rights a) name)) e
    where
      by_test : (b : Bool) → (if b then [] else fault_at code.Operands i j) ≡ [] → b ≡ true
      by_test true e = refl
      by_test false e = cc

  selected_closed : (a : Stands) (name : List ℕ) → is_package a ≡ false → (is_open (selector_sort s.rights name a) ≡ false) × (is_constant (selector_sort s.rights name a) ≡ false)
  selected_closed sort.Package name p = cc
  selected_closed a name p = by_field (named_field (form_of_value s.rights a) name)
    where
      by_field : (o : Option TypeTree) → (is_open (value_or_unknown o) ≡ false) × (is_constant (value_or_unknown o) ≡ false)
      by_field None = (refl, refl)
      by_field (Some t) = (refl, refl)

  pub field_facts : (x : Part) → is_package (sort_of x) ≡ false → own_faults s kind.Selector h i j (alone x) ≡ [] → WillFit s.rights w false (built_on s kind.Selector h i j (alone x)) → FieldFacts x
  field_facts x p f fits =
      let js = judged w s h i j kind.Selector (alone x) refl fits in
      let is = stands_made s kind.Selector h i j (alone x) js f in
      let name = s.texts (j - 1) in
      let rule = rule_of s kind.Selector h i j (alone x) js f in
      let closed = typed_closed (sort_of x) (field_typed (sort_of x) name (rule_holds (sort_of x) name p rule)) in
      let node = selected_closed (sort_of x) name p in
      let all = parts_fit s.rights w false (form_by s kind.Selector h i j (alone x)) i j (label (form_by s kind.Selector h i j (alone x)) (selector_sort s.rights name (sort_of x)) (alone x)) (sort.more x sort.none) node.1 node.0 (subst (WillFit s.rights w false) is fits) in
      record { known = (known_first x [] js).0; taken = closed.0; closed = closed.1; fits = all.0 }

  pub field_whole : (x : Part) → Ready s.rights w false x → own_faults s kind.Selector h i j (alone x) ≡ [] → FieldFacts x
      → (own_faults s kind.Selector h i j (alone (new x)) ≡ []) × (built_on s kind.Selector h i j (alone (new x)) ≡ begun w false (built_on s kind.Selector h i j (alone x)))
  field_whole x r f facts = selector_step s tree_self h i j w false x r facts.taken facts.closed facts.fits f

  -- ---- what is selected of the package: one node

  println_stays : (b : Bool) → begun w false (built_by s kind.Selector h i j [] b) ≡ built_by s kind.Selector h i j [] b
  println_stays true = leaf_stays s.rights w false (form.Object referent.Println) i j (label (form.Object referent.Println) sort.Println []) refl refl refl
  println_stays false = leaf_stays s.rights w false (form.Object referent.Println) i j (label (form.Object referent.Println) sort.Unknown []) refl refl refl

  package_kept : (b c : Stands) → Turned w b c → is_package b ≡ true → is_package c ≡ true
  package_kept b c (the_same e) p = ap is_package e ∙ p
  package_kept sort.Package c (to_value e f) p = cc
  package_kept b c (to_value e f) p = cc

  package_new : (b c : Stands) → Turned w b c → is_package b ≡ false → is_package c ≡ false
  package_new b c (the_same e) p = ap is_package e ∙ p
  package_new b (sort.Value t) (to_value e f) p = refl
  package_new b (sort.Constant t v) (to_value e f) p = refl
  package_new b c (to_value e f) p = cc

  -- The whole step, by whether the operand is the package.
  pub selector_whole : (x : Part) (b : Bool) → is_package (sort_of x) ≡ b → Agrees x → (is_package (sort_of x) ≡ false → Ready s.rights w false x × FieldFacts x) → own_faults s kind.Selector h i j (selector_parts (alone x)) ≡ []
      → (own_faults s kind.Selector h i j (selector_parts (alone (new x))) ≡ []) × (built_on s kind.Selector h i j (selector_parts (alone (new x))) ≡ begun w false (built_on s kind.Selector h i j (selector_parts (alone x))))
  selector_whole x true e a facts f =
      let now = package_kept (sort_of x) (sort_of (new x)) (turned w false x a) e in
      let old : selector_parts (alone x) ≡ [] = ap (λ c. if c then [] else alone x) e in
      let new_parts : selector_parts (alone (new x)) ≡ [] = ap (λ c. if c then [] else alone (new x)) now in (
        ap (own_faults s kind.Selector h i j) new_parts ∙ sym (ap (own_faults s kind.Selector h i j) old) ∙ f,
        ap (built_on s kind.Selector h i j) new_parts ∙ sym (println_stays (is_sound kind.Selector [] (own_faults s kind.Selector h i j []))) ∙ ap (λ ys. begun w false (built_on s kind.Selector h i j ys)) (sym old),
      )
  selector_whole x false e a facts f =
      let now = package_new (sort_of x) (sort_of (new x)) (turned w false x a) e in
      let old : selector_parts (alone x) ≡ alone x = ap (λ c. if c then [] else alone x) e in
      let new_parts : selector_parts (alone (new x)) ≡ alone (new x) = ap (λ c. if c then [] else alone (new x)) now in
      let both = facts e in
      let step = field_whole x both.0 (ap (own_faults s kind.Selector h i j) (sym old) ∙ f) both.1 in
      (ap (own_faults s kind.Selector h i j) new_parts ∙ step.0, ap (built_on s kind.Selector h i j) new_parts ∙ step.1 ∙ ap (λ ys. begun w false (built_on s kind.Selector h i j ys)) (sym old))
