-- The steps of the induction at parentheses and selectors.
use Rattle.std.proofs.Common.{◌≡◌, ◌∙◌, ℕ, Bool, true, false, List, [], ◌∷◌, Option, Some, None, refl, sym, ap, subst}
use Rattle.std.specs.Prelude.{◌||◌, ◌-◌, not, if◌then◌else◌, is_some, unwrap_or}
use Rattle.go_constants.specs.declared.values.Const.{Const}
use Rattle.go_grammar.specs.declared.kind.Kind.TheVariants as kind
use Rattle.go_types.specs.Trees.{TypeTree}
use Rattle.go_types_relations.specs.Identity.{is_identical}
use Rattle.go_typed.specs.declared.form.Form.TheVariants as form
use Rattle.go_typed.specs.Trees.{Sort, Label, typed, Typeds, sort_of, form_of, label_of, row}
use Rattle.go_typed.specs.Trees as sort
use Rattle.go_exprs_rules.specs.Indexes.{selector_failing, selector_sort, field_number, value_or_unknown, named_field}
use Rattle.go_exprs_rules.specs.Scopes.{Scope, Hint}
use Rattle.go_exprs_rules.specs.Settling.{Part}
use Rattle.go_exprs_rules.specs.Sorts.{Stands, is_constant, is_open, is_unknown, form_of_value, retyped, takes_type}
use Rattle.go_exprs_rules.specs.Tables.{Parts, own_faults, built, built_on}
use Rattle.go_exprs_variables.specs.Stood.{Stood, as_before, in_place, early}
use Rattle.go_exprs_variables.specs.Variables.{Standins, wanted, or_wanted, begun, Fits}
use Rattle.go_exprs_variables.proofs.Begun.{typed_operand}
use Rattle.go_exprs_variables.proofs.Assembly.{no_more, one, sort_with}
use Rattle.go_exprs_variables.proofs.Operands.{Ready, open_so, calls_kept, closed_wants, closed_part, stays, wanting_is, quiet_is}
use Rattle.go_exprs_variables.proofs.NodeSteps.{node_step, rule_of}
use Rattle.go_exprs_variables.proofs.ShiftSteps.{Left, left_closed, left_open, left_operand}

module _ (s : Scope) (itself : (t : TypeTree) → is_identical t t ≡ true) (h : Hint) (i j : ℕ) (w : Standins) (a : Bool) where
  abbrev alone : Part → Parts
  alone x = Some x ∷ []

  abbrev ready : Part → Type 0
  ready x = Ready s.rights w a x

  abbrev new : Part → Part
  new x = begun w a x

  known_one : (b : Bool) → b ≡ false → not (b || false) ≡ true
  known_one b e = ap (λ z. not (z || false)) e

  still_known : (u : Option TypeTree) (b c : Stands) → Stood s.rights u b c → is_unknown b ≡ false → is_unknown c ≡ false
  still_known u b c (as_before v z) e = e
  still_known u b c (in_place v t z) e = refl
  still_known u b c (early t z k m n) e = refl

  -- ---- parentheses: what stands in them waits with them

  open_value_retyped : (t : TypeTree) (z : Stands) → is_open z ≡ true → is_constant z ≡ false → retyped t z ≡ sort.Value t
  open_value_retyped t (sort.Open u) e f = refl
  open_value_retyped t (sort.OpenConstant c) e f = cc
  open_value_retyped t (sort.Value u) e f = cc
  open_value_retyped t (sort.Constant u c) e f = cc
  open_value_retyped t sort.Nothing e f = cc
  open_value_retyped t sort.Unknown e f = cc
  open_value_retyped t sort.Blank e f = cc
  open_value_retyped t sort.Nil e f = cc
  open_value_retyped t (sort.Builtin b) e f = cc
  open_value_retyped t sort.Println e f = cc
  open_value_retyped t sort.Package e f = cc
  open_value_retyped t (sort.IsType u) e f = cc
  open_value_retyped t (sort.Results u) e f = cc

  same_closed : (u : Option TypeTree) (b c : Stands) → Stood s.rights u b c → u ≡ None → is_constant b ≡ false → c ≡ b
  same_closed u b c (as_before v z) e f = refl
  same_closed u b c (in_place v t z) e f = cc
  same_closed u b c (early t z k m n) e f = cc

  pub inner_sort : (u p : Option TypeTree) (x : Part) → ready x → Left s itself h i j w a x u → is_constant (sort_of x) ≡ false → wanted w a x ≡ p → sort_of (new x) ≡ sort_with s.rights w a p (sort_of x)
  inner_sort None None x r (left_closed e fits) c is = same_closed None (sort_of x) (sort_of (new x)) (left_operand s itself h i j w a None x r (left_closed e fits)).stands refl c
  inner_sort None (Some q) x r (left_closed e fits) c is = let two : None ≡ Some q = sym (closed_wants s.rights w a x e) ∙ is in cc
  inner_sort (Some t) None x r (left_open t' k e m fits) c is = quiet_is s.rights w a x r (ap is_some e) is
  inner_sort (Some t) (Some q) x r (left_open t' k e m fits) c is =
      let z = wanting_is s.rights w a t q x r (open_so k e m fits) is in
      z.1 ∙ sym (open_value_retyped t (sort_of x) (ap is_some e) c) ∙ ap (λ d. retyped d (sort_of x)) (sym z.0)

  inner_wants : (b : Bool) (p : Option TypeTree) → (b ≡ false → p ≡ None) → p ≡ (if b then or_wanted p None else None)
  inner_wants true None e = refl
  inner_wants true (Some t) e = refl
  inner_wants false p e = e refl

  -- The whole step at parentheses.
  pub parenthesized_step : (u : Option TypeTree) (x : Part) → ready x → Left s itself h i j w a x u → own_faults s kind.Parenthesized h i j (alone x) ≡ [] → is_constant (sort_of x) ≡ false
      → (own_faults s kind.Parenthesized h i j (alone (new x)) ≡ []) × (built s kind.Parenthesized h i j (alone (new x)) ≡ begun w a (built s kind.Parenthesized h i j (alone x)))
  parenthesized_step u x r left f value =
      let ops = left_operand s itself h i j w a u x r left in
      let judged = known_one (is_unknown (sort_of x)) r.known in
      let judged_now = known_one (is_unknown (sort_of (new x))) (still_known u (sort_of x) (sort_of (new x)) ops.stands r.known) in
      node_step s kind.Parenthesized h i j w a u (alone x) (alone (new x)) judged judged_now refl f value
      (record { form = refl; key = refl; held = refl; name = λ z. refl })
      (record {
        failing = refl;
        stands = ops.stands;
        wants = wanted w a x;
        wanted = inner_wants (is_open (sort_of x)) (wanted w a x) (λ e. closed_wants s.rights w a x e);
        sort = inner_sort u (wanted w a x) x r left value refl;
        parts = one x x (new x) (new x) [] [] [] [] (stays s.rights w a x (wanted w a x) r refl) (calls_kept s.rights w a x r) refl no_more;
      })

  -- ---- selectors: the operand has its type

  -- it stands as before, or for a value in place of a constant of its type
  pub data Kept (b c : Stands) : Type 0 where
    as_it_was : c ≡ b → Kept b c
    as_value : (t : TypeTree) (v : Const) → b ≡ sort.Constant t v → c ≡ sort.Value t → Kept b c

  kept : (u : Option TypeTree) (b c : Stands) → Stood s.rights u b c → u ≡ None → Kept b c
  kept u b c (as_before v z) e = as_it_was refl
  kept u b c (in_place v t z) e = as_value t z refl refl
  kept u b c (early t z k m n) e = cc

  same_for : {A : Type 0} (g : Stands → A) → ((t : TypeTree) (v : Const) → g (sort.Value t) ≡ g (sort.Constant t v)) → (b c : Stands) → Kept b c → g c ≡ g b
  same_for g e b c (as_it_was f) = ap g f
  same_for g e b c (as_value t v f m) = ap g m ∙ e t v ∙ sym (ap g f)

  selected : (name : List ℕ) (b : Stands) → (is_open (selector_sort s.rights name b) ≡ false) × (is_constant (selector_sort s.rights name b) ≡ false)
  selected name sort.Package = (refl, refl)
  selected name b = by_field (named_field (form_of_value s.rights b) name)
    where
      by_field : (o : Option TypeTree) → (is_open (value_or_unknown o) ≡ false) × (is_constant (value_or_unknown o) ≡ false)
      by_field None = (refl, refl)
      by_field (Some t) = (refl, refl)

  -- The whole step at a selector on a value, as it is laid out.
  pub selector_step : (x : Part) → ready x → takes_type (sort_of x) ≡ false → is_open (sort_of x) ≡ false → Fits w a x → own_faults s kind.Selector h i j (alone x) ≡ []
      → (own_faults s kind.Selector h i j (alone (new x)) ≡ []) × (built_on s kind.Selector h i j (alone (new x)) ≡ begun w a (built_on s kind.Selector h i j (alone x)))
  selector_step x r closed no_open fits f =
      let name = s.texts (j - 1) in
      let st = (typed_operand s.rights w None a x r.keys r.held no_open fits).stands in
      let k = kept None (sort_of x) (sort_of (new x)) st refl in
      let judged = known_one (is_unknown (sort_of x)) r.known in
      let judged_now = known_one (is_unknown (sort_of (new x))) (still_known None (sort_of x) (sort_of (new x)) st r.known) in
      let same_sort : selector_sort s.rights name (sort_of (new x)) ≡ selector_sort s.rights name (sort_of x) = same_for (selector_sort s.rights name) (λ t v. refl) (sort_of x) (sort_of (new x)) k in
      let plain = selected name (sort_of x) in
      node_step s kind.Selector h i j w a None (alone x) (alone (new x)) judged judged_now refl f plain.1
      (record { form = same_for (λ z. form.Selector (unwrap_or (field_number (form_of_value s.rights z) name) 0)) (λ t v. refl) (sort_of x) (sort_of (new x)) k; key = refl; held = refl; name = λ z. refl })
      (record {
        failing = same_for (selector_failing s.rights i j name) (λ t v. refl) (sort_of x) (sort_of (new x)) k ∙ rule_of s kind.Selector h i j (alone x) judged f;
        stands = subst (Stood s.rights None (selector_sort s.rights name (sort_of x))) (sym same_sort) (as_before None (selector_sort s.rights name (sort_of x)));
        wants = None;
        wanted = sym (ap (λ b. if b then or_wanted (wanted w a x) None else None) plain.0);
        sort = same_sort;
        parts = one x x (new x) (new x) [] [] [] [] (closed_part s.rights w a None x r closed no_open) (calls_kept s.rights w a x r) refl no_more;
      })
