-- Index and slice expressions: from the node that fits to its parts, and the step.
use Rattle.std.proofs.Common.{◌≡◌, ◌∙◌, ◌+◌, ℕ, Bool, true, false, [], ◌∷◌, ◌++◌, Option, Some, None, refl, sym, ap, subst}
use Rattle.std.specs.Prelude.{◌&&◌, ◌||◌, not, if◌then◌else◌, is_some}
use Rattle.std.specs.Option.{option_map}
use Rattle.go_base.specs.declared.fault.FaultCode.TheVariants as code
use Rattle.go_grammar.specs.declared.kind.Kind.TheVariants as kind
use Rattle.go_types.specs.Trees.{TypeTree}
use Rattle.go_types.specs.Relations.{Rights}
use Rattle.go_typed.specs.declared.form.Form.TheVariants as form
use Rattle.go_typed.specs.declared.sort.Untyped.TheVariants as untyped
use Rattle.go_typed.specs.Trees.{Sort, Label, typed, Typeds, sort_of, form_of, label_of, row}
use Rattle.go_typed.specs.Trees as sort
use Rattle.go_exprs_rules.specs.declared.family.Family.TheVariants as family
use Rattle.go_exprs_rules.specs.declared.family.OpenKind.{OpenKind}
use Rattle.go_exprs_rules.specs.declared.family.OpenKind.TheVariants as untyped_kind
use Rattle.go_exprs_rules.specs.Indexes.{index_failing_in, index_sort, bound_failing, outside, text_length, optional_bound, bounds_failing, disordered, whole_or_absent, slice_failing, slice_sort, value_or_unknown}
use Rattle.go_exprs_rules.specs.Scopes.{Scope, Hint}
use Rattle.go_exprs_rules.specs.Settling.{Part, settled, unrepresented, at_part, default, as_type, given}
use Rattle.go_exprs_rules.specs.Sorts.{Stands, is_family, or_family, family_of_kind, family_of_type, is_constant, is_open, is_nil, is_unknown, is_text, is_whole, takes_type, open_kind, own_type, constant_of, suits, form_of_value, element_of, slice_element, array_length, value_type, underlying_in, int, byte}
use Rattle.go_exprs_rules.specs.Tables.{Parts, is_judged, is_lost, is_type, is_held, bracketed_parts, label, built_on, own_faults, failing, sort_by, takes, all_given}
use Rattle.go_exprs_variables.specs.Operands.{Bounded, no_bound, a_bound}
use Rattle.go_exprs_variables.specs.Stood.{Stood, as_before}
use Rattle.go_exprs_variables.specs.Variables as variables
use Rattle.go_exprs_variables.specs.Variables.{Standins, all_wanted, begun, put, Fits, AllFit, WillFit}
use Rattle.go_exprs_variables.proofs.Arguments.{Given, given_fitting, given_by_default, default_of}
use Rattle.go_exprs_variables.proofs.Assembly.{keeps_type, is_some_row, Become, no_more, left_out, one}
use Rattle.go_exprs_variables.proofs.Indexes.{index_row}
use Rattle.go_exprs_variables.proofs.NodeSteps.{node_step, parts_fit, stands_made, rule_of}
use Rattle.go_exprs_variables.proofs.Operands.{Ready, closed_so, open_so, calls_kept, varies_given}
use Rattle.go_exprs_variables.proofs.Parts.{both_none, holds}
use Rattle.go_exprs_variables.proofs.Ready.{Facts}
use Rattle.go_exprs_variables.proofs.Shifts.{and_true}
use Rattle.go_exprs_variables.proofs.ShiftSteps.{same_index}
use Rattle.go_exprs_variables.proofs.Identities.{tree_self}
use Rattle.go_exprs_variables.proofs.Slices.{slice_row, sliced_sort}
use Rattle.go_exprs_variables.proofs.Waits.{known_first, known_sort, judged}

-- ---- operands that have a form

module _ (rights : Rights) where
  -- a text, or what has a type, isn't `nil`, and is constant where it is untyped
  pub record Accepted (a : Stands) : Type 0 where
    pub nil : is_nil a ≡ false
    pub opened : is_constant a ≡ false → is_open a ≡ false
    pub value : is_type a ≡ false

  pub text_accepted : (a : Stands) → is_text rights a ≡ true → Accepted a
  text_accepted (sort.Value t) e = record { nil = refl; opened = λ c. refl; value = refl }
  text_accepted (sort.Constant t c) e = record { nil = refl; opened = λ c. refl; value = refl }
  text_accepted (sort.OpenConstant c) e = record { nil = refl; opened = λ c. cc; value = refl }
  text_accepted (sort.Open untyped.Boolean) e = cc
  text_accepted (sort.Open untyped.Integer) e = cc
  text_accepted (sort.Open untyped.Rune) e = cc
  text_accepted a e = cc

  pub form_accepted : (a : Stands) → is_some (own_type a) ≡ true → Accepted a
  form_accepted (sort.Value t) e = record { nil = refl; opened = λ c. refl; value = refl }
  form_accepted (sort.Constant t c) e = record { nil = refl; opened = λ c. refl; value = refl }
  form_accepted a e = cc

  pub element_own : (a : Stands) → is_some (element_of (form_of_value rights a)) ≡ true → is_some (own_type a) ≡ true
  element_own a e = by_type (own_type a) e
    where
      by_type : (o : Option TypeTree) → is_some (element_of (underlying_in rights o)) ≡ true → is_some o ≡ true
      by_type (Some t) e = refl
      by_type None e = cc

  pub slice_own : (a : Stands) → is_some (slice_element (form_of_value rights a)) ≡ true → is_some (own_type a) ≡ true
  slice_own a e = by_type (own_type a) e
    where
      by_type : (o : Option TypeTree) → is_some (slice_element (underlying_in rights o)) ≡ true → is_some o ≡ true
      by_type (Some t) e = refl
      by_type None e = cc

module _ (w : Standins) (rights : Rights) where
  pub accepted_default : (x : Part) → Facts w rights x → is_unknown (sort_of x) ≡ false → Accepted rights (sort_of x) → Fits w false (given default x) → Given w rights default (default_of w rights x) x
  accepted_default x facts known a fits = given_by_default w rights x (facts.ready known a.value) a.nil (λ c k e. no_open (a.opened c) k e) fits
    where
      no_open : {X : Type 0} → is_open (sort_of x) ≡ false → (k : OpenKind) → open_kind (sort_of x) ≡ Some k → X
      no_open e k f = let both : true ≡ false = sym (ap is_some f) ∙ e in cc

  -- ---- integers that take `int`

  whole_kind : (z : Stands) (k : OpenKind) → open_kind z ≡ Some k → is_whole rights z ≡ true → suits rights k int ≡ true
  whole_kind z untyped_kind.Integer e f = refl
  whole_kind z untyped_kind.Rune e f = refl
  whole_kind z untyped_kind.Boolean e f = absurd (no_family (ap (λ o. is_family family.Integers (or_family (family_of_kind o) (family_of_type (form_of_value rights z)))) (sym e) ∙ f))
    where
      no_family : false ≡ true → ⊥
      no_family e = cc
  whole_kind z untyped_kind.Text e f = absurd (no_family (ap (λ o. is_family family.Integers (or_family (family_of_kind o) (family_of_type (form_of_value rights z)))) (sym e) ∙ f))
    where
      no_family : false ≡ true → ⊥
      no_family e = cc

  whole_closed : (z : Stands) → open_kind z ≡ None → is_whole rights z ≡ true → takes_type z ≡ false
  whole_closed sort.Nil e f = cc
  whole_closed (sort.Open u) e f = cc
  whole_closed (sort.OpenConstant u) e f = cc
  whole_closed z e f = refl

  whole_value : (z : Stands) → is_whole rights z ≡ true → is_type z ≡ false
  whole_value (sort.IsType t) e = cc
  whole_value z e = refl

  whole_by : (x : Part) (o : Option OpenKind) → open_kind (sort_of x) ≡ o → Ready rights w false x → is_whole rights (sort_of x) ≡ true → unrepresented rights int x ≡ [] → Fits w false (settled int x) → Given w rights (as_type int) (Some int) x
  whole_by x None is r e range fits =
      let closed = whole_closed (sort_of x) is e in
      let has : Fits w false x = subst (Fits w false) (keeps_type int x closed) fits in
      given_fitting w rights int x r (closed_so (ap is_some is) has) (variables.has (ap is_some is) has)
  whole_by x (Some k) is r e range fits =
      let kind = whole_kind (sort_of x) k is e in
      given_fitting w rights int x r (open_so k is kind fits) (variables.takes int k is kind (λ c. range) fits)

  pub whole_given : (x : Part) → Facts w rights x → is_unknown (sort_of x) ≡ false → is_whole rights (sort_of x) ≡ true → unrepresented rights int x ≡ [] → Fits w false (settled int x) → Given w rights (as_type int) (Some int) x
  whole_given x facts known e range fits = whole_by x (open_kind (sort_of x)) refl (facts.ready known (whole_value (sort_of x) e)) e range fits

-- ---- the nodes

module _ (w : Standins) (s : Scope) (h : Hint) (i j : ℕ) where
  abbrev two : Part → Part → Parts
  two x y = Some x ∷ Some y ∷ []

  abbrev new : Part → Part
  new x = begun w false x

  -- what stands in brackets and is no holder is an index
  pub index_parts : (x y : Part) → is_held (form_of y) ≡ false → bracketed_parts (two x y) ≡ two x y
  index_parts x (typed (form.Held k) a b l ps) e = cc
  index_parts x (typed f a b l ps) e = refl

  value_plain : (o : Option TypeTree) → (is_open (value_or_unknown o) ≡ false) × (is_constant (value_or_unknown o) ≡ false)
  value_plain None = (refl, refl)
  value_plain (Some t) = (refl, refl)

  index_plain : (b : Stands) → (is_open (index_sort s.rights b) ≡ false) × (is_constant (index_sort s.rights b) ≡ false)
  index_plain b = by_text (is_text s.rights b)
    where
      by_text : (t : Bool) → (is_open (if t then sort.Value byte else value_or_unknown (element_of (form_of_value s.rights b))) ≡ false) × (is_constant (if t then sort.Value byte else value_or_unknown (element_of (form_of_value s.rights b))) ≡ false)
      by_text true = (refl, refl)
      by_text false = value_plain (element_of (form_of_value s.rights b))

  pub record IndexFacts (x n : Part) : Type 0 where
    pub first : Given w s.rights default (default_of w s.rights x) x
    pub second : Given w s.rights (as_type int) (Some int) n
    pub nil : is_nil (sort_of x) ≡ false

  indexed : (x n : Part) (b : Bool) → is_text s.rights (sort_of x) ≡ b → (if b then bound_failing s.rights (text_length (constant_of (sort_of x))) n else index_failing_in s.rights i j (form_of_value s.rights (sort_of x)) n) ≡ []
      → Accepted s.rights (sort_of x) × (unrepresented s.rights int n ≡ [])
  indexed x n true e f = (
    text_accepted s.rights (sort_of x) e,
    (both_none (unrepresented s.rights int n) (if outside (text_length (constant_of (sort_of x))) (constant_of (sort_of n)) then at_part code.ConstIndex n else []) f).0,
  )
  indexed x n false e f =
      let u = form_of_value s.rights (sort_of x) in
      let ok = holds (is_some (element_of u)) (bound_failing s.rights (array_length u) n) code.Operands i j f in (
        form_accepted s.rights (sort_of x) (element_own s.rights (sort_of x) ok.0),
        (both_none (unrepresented s.rights int n) (if outside (array_length u) (constant_of (sort_of n)) then at_part code.ConstIndex n else []) ok.1).0,
      )

  pub index_facts : (x n : Part) → Facts w s.rights x → Facts w s.rights n → own_faults s kind.Bracketed h i j (two x n) ≡ [] → WillFit s.rights w false (built_on s kind.Bracketed h i j (two x n)) → IndexFacts x n
  index_facts x n fx fn f fits =
      let js = judged w s h i j kind.Bracketed (two x n) refl fits in
      let first = known_first x (Some n ∷ []) js in
      let second = known_first n [] first.1 in
      let is = stands_made s kind.Bracketed h i j (two x n) js f in
      let rule = rule_of s kind.Bracketed h i j (two x n) js f in
      let inner = if is_text s.rights (sort_of x) then bound_failing s.rights (text_length (constant_of (sort_of x))) n else index_failing_in s.rights i j (form_of_value s.rights (sort_of x)) n in
      let ok = holds (is_whole s.rights (sort_of n)) inner code.Operands i j rule in
      let both = indexed x n (is_text s.rights (sort_of x)) refl ok.1 in
      let plain = index_plain (sort_of x) in
      let all = parts_fit s.rights w false form.Index i j (label form.Index (index_sort s.rights (sort_of x)) (two x n)) (row (two (given default x) (settled int n))) plain.1 plain.0 (subst (WillFit s.rights w false) is fits) in
      record {
        first = accepted_default w s.rights x fx first.0 both.0 all.0;
        second = whole_given w s.rights n fn second.0 ok.0 both.1 all.1.0;
        nil = both.0.nil;
      }

  known_two : (b c : Bool) → b ≡ false → c ≡ false → not (b || (c || false)) ≡ true
  known_two b c e f = ap (λ z. not (z || (c || false))) e ∙ ap (λ z. not (z || false)) f

  -- The step at an index expression.
  pub index_whole : (x n : Part) → own_faults s kind.Bracketed h i j (two x n) ≡ [] → WillFit s.rights w false (built_on s kind.Bracketed h i j (two x n)) → IndexFacts x n
      → (own_faults s kind.Bracketed h i j (two (new x) (new n)) ≡ []) × (built_on s kind.Bracketed h i j (two (new x) (new n)) ≡ begun w false (built_on s kind.Bracketed h i j (two x n)))
  index_whole x n f fits facts =
      let js = judged w s h i j kind.Bracketed (two x n) refl fits in
      let is = stands_made s kind.Bracketed h i j (two x n) js f in
      let now = known_two (is_unknown (sort_of (new x))) (is_unknown (sort_of (new n))) facts.first.known facts.second.known in
      let plain = index_plain (sort_of x) in
      let known : is_unknown (index_sort s.rights (sort_of x)) ≡ false = ap (λ z. is_unknown (sort_of z)) (sym is) ∙ known_sort w s.rights (built_on s kind.Bracketed h i j (two x n)) fits in
      let sorts = same_index s tree_self h i j w false (default_of w s.rights x) (sort_of x) (sort_of (new x)) facts.first.operand.stands known in
      node_step s kind.Bracketed h i j w false None (two x n) (two (new x) (new n)) js now refl f plain.1
      (record { form = refl; key = refl; held = refl; name = λ z. refl })
      (record {
        failing = index_row s.rights i j (default_of w s.rights x) (sort_of x) (sort_of (new x)) n (new n) facts.first.operand.stands facts.second.operand (rule_of s kind.Bracketed h i j (two x n) js f);
        stands = subst (Stood s.rights None (index_sort s.rights (sort_of x))) (sym sorts) (as_before None (index_sort s.rights (sort_of x)));
        wants = None;
        wanted = sym (ap (λ b. if b then all_wanted w false (row (two (given default x) (settled int n))) else None) plain.0);
        sort = sorts;
        parts = one x (given default x) (new x) (given default (new x)) (Some n ∷ []) (Some (settled int n) ∷ []) (Some (new n) ∷ []) (Some (settled int (new n)) ∷ []) facts.first.gives (calls_kept s.rights w false x facts.first.ready) (varies_given s.rights w false default (new x))
            (one n (settled int n) (new n) (settled int (new n)) [] [] [] [] facts.second.gives (calls_kept s.rights w false n facts.second.ready) (varies_given s.rights w false (as_type int) (new n)) no_more);
      })

  -- ---- slice expressions

  -- a bound that is left out, or one that takes `int`
  pub data Bound : Option Part → Type 0 where
    absent : Bound None
    present : (x : Part) → Given w s.rights (as_type int) (Some int) x → Bound (Some x)

  pub data MaybeFacts : Option Part → Type 0 where
    no_facts : MaybeFacts None
    some_facts : (x : Part) → Facts w s.rights x → MaybeFacts (Some x)

  abbrev pub new_bound : Option Part → Option Part
  new_bound (Some x) = Some (new x)
  new_bound None = None

  abbrev given_bound : Option Part → Option Part
  given_bound (Some x) = Some (settled int x)
  given_bound None = None

  abbrev FitsIf : Option Part → Type 0
  FitsIf (Some x) = Fits w false (settled int x)
  FitsIf None = Unit {0}

  abbrev KnownIf : Option Part → Type 0
  KnownIf (Some x) = is_unknown (sort_of x) ≡ false
  KnownIf None = Unit {0}

  bound_given : (x : Option Part) (limit : Option ℕ) → MaybeFacts x → KnownIf x → whole_or_absent s.rights x ≡ true → optional_bound s.rights limit x ≡ [] → FitsIf x → Bound x
  bound_given None limit no_facts k e f fits = absent
  bound_given (Some x) limit (some_facts x' facts) k e f fits =
      present x (whole_given w s.rights x facts k e (both_none (unrepresented s.rights int x) (if outside limit (constant_of (sort_of x)) then at_part code.ConstIndex x else []) f).0 fits)

  bounded : (x : Option Part) → Bound x → Bounded s.rights x (new_bound x)
  bounded None absent = no_bound
  bounded (Some x) (present x' g) = a_bound x (new x) g.operand

  known_bound : (x : Option Part) → Bound x → is_lost (new_bound x) ≡ false
  known_bound None absent = refl
  known_bound (Some x) (present x' g) = g.known

  bound_becomes : (x : Option Part) (ys zs us vs : Parts) → Bound x → Become s.rights w false None ys zs us vs → Become s.rights w false None (x ∷ ys) (given_bound x ∷ zs) (new_bound x ∷ us) (given_bound (new_bound x) ∷ vs)
  bound_becomes None ys zs us vs absent b = left_out ys zs us vs b
  bound_becomes (Some x) ys zs us vs (present x' g) b =
      one x (settled int x) (new x) (settled int (new x)) ys zs us vs g.gives (calls_kept s.rights w false x g.ready) (varies_given s.rights w false (as_type int) (new x)) b

  abbrev three : Part → Option Part → Option Part → Parts
  three x y z = Some x ∷ y ∷ z ∷ []

  pub record SliceFacts (x : Part) (y z : Option Part) : Type 0 where
    pub first : Given w s.rights default (default_of w s.rights x) x
    pub low : Bound y
    pub high : Bound z

  split_known : (y : Option Part) (ys : Parts) → is_judged (y ∷ ys) ≡ true → KnownIf y × (is_judged ys ≡ true)
  split_known None ys e = (tt, e)
  split_known (Some y) ys e = known_first y ys e

  split_fits : (y : Option Part) (ys : Parts) → AllFit w false (row (given_bound y ∷ ys)) → FitsIf y × AllFit w false (row ys)
  split_fits None ys f = (tt, f)
  split_fits (Some y) ys f = (f.0, f.1)

  sliced : (x : Part) (b : Bool) → is_text s.rights (sort_of x) ≡ b → (b || is_some (slice_element (form_of_value s.rights (sort_of x)))) ≡ true → Accepted s.rights (sort_of x)
  sliced x true e f = text_accepted s.rights (sort_of x) e
  sliced x false e f = form_accepted s.rights (sort_of x) (slice_own s.rights (sort_of x) f)

  -- the form of the node, and what its parts take
  slice_made : (x : Part) (y z : Option Part) → is_judged (three x y z) ≡ true → own_faults s kind.Bracketed h i j (three x y z) ≡ []
      → built_on s kind.Bracketed h i j (three x y z) ≡ typed form.Slice i j (label form.Slice (slice_sort (sort_of x)) (three x y z)) (row (three (given default x) (given_bound y) (given_bound z)))
  slice_made x None None js f = stands_made s kind.Bracketed h i j (three x None None) js f
  slice_made x None (Some z) js f = stands_made s kind.Bracketed h i j (three x None (Some z)) js f
  slice_made x (Some y) None js f = stands_made s kind.Bracketed h i j (three x (Some y) None) js f
  slice_made x (Some y) (Some z) js f = stands_made s kind.Bracketed h i j (three x (Some y) (Some z)) js f

  slice_rule : (x : Part) (y z : Option Part) → is_judged (three x y z) ≡ true → own_faults s kind.Bracketed h i j (three x y z) ≡ [] → slice_failing s.rights i j (sort_of x) y z ≡ []
  slice_rule x None z js f = rule_of s kind.Bracketed h i j (three x None z) js f
  slice_rule x (Some y) z js f = rule_of s kind.Bracketed h i j (three x (Some y) z) js f

  pub slice_facts : (x : Part) (y z : Option Part) → Facts w s.rights x → MaybeFacts y → MaybeFacts z → own_faults s kind.Bracketed h i j (three x y z) ≡ [] → WillFit s.rights w false (built_on s kind.Bracketed h i j (three x y z)) → SliceFacts x y z
  slice_facts x y z fx fy fz f fits =
      let js = judged w s h i j kind.Bracketed (three x y z) refl fits in
      let first = known_first x (y ∷ z ∷ []) js in
      let second = split_known y (z ∷ []) first.1 in
      let third = split_known z [] second.1 in
      let is = slice_made x y z js f in
      let form_ok = is_text s.rights (sort_of x) || is_some (slice_element (form_of_value s.rights (sort_of x))) in
      let limit = option_map (λ n. n + 1) (text_length (constant_of (sort_of x))) in
      let ok = holds (form_ok && whole_or_absent s.rights y && whole_or_absent s.rights z) (bounds_failing s.rights limit y z) code.Operands i j (slice_rule x y z js f) in
      let outer = and_true (form_ok && whole_or_absent s.rights y) (whole_or_absent s.rights z) ok.0 in
      let inner = and_true form_ok (whole_or_absent s.rights y) outer.0 in
      let ranges = both_none (optional_bound s.rights limit y ++ optional_bound s.rights limit z) (disordered y z) ok.1 in
      let each = both_none (optional_bound s.rights limit y) (optional_bound s.rights limit z) ranges.0 in
      let plain = value_plain (value_type (sort_of x)) in
      let all = parts_fit s.rights w false form.Slice i j (label form.Slice (slice_sort (sort_of x)) (three x y z)) (row (three (given default x) (given_bound y) (given_bound z))) plain.1 plain.0 (subst (WillFit s.rights w false) is fits) in
      let low = split_fits y (given_bound z ∷ []) all.1 in
      let high = split_fits z [] low.1 in
      record {
        first = accepted_default w s.rights x fx first.0 (sliced x (is_text s.rights (sort_of x)) refl inner.0) all.0;
        low = bound_given y limit fy second.0 inner.1 each.0 low.0;
        high = bound_given z limit fz third.0 outer.1 each.1 high.0;
      }

  known_three : (b c d : Bool) → b ≡ false → c ≡ false → d ≡ false → not (b || (c || (d || false))) ≡ true
  known_three b c d e f g = ap (λ z. not (z || (c || (d || false)))) e ∙ ap (λ z. not (z || (d || false))) f ∙ ap (λ z. not (z || false)) g

  sort_three : (x : Part) (y z : Option Part) → sort_by s kind.Bracketed h i j (three x y z) ≡ slice_sort (sort_of x)
  sort_three x None z = refl
  sort_three x (Some y) z = refl

  failing_three : (x : Part) (y z : Option Part) → failing s kind.Bracketed h i j (three x y z) ≡ slice_failing s.rights i j (sort_of x) y z
  failing_three x None z = refl
  failing_three x (Some y) z = refl

  given_three : (x : Part) (y z : Option Part) → all_given (takes s kind.Bracketed h (three x y z)) (three x y z) ≡ three (given default x) (given_bound y) (given_bound z)
  given_three x None None = refl
  given_three x None (Some z) = refl
  given_three x (Some y) None = refl
  given_three x (Some y) (Some z) = refl

  some_three : (x : Part) (y z : Option Part) → is_some_row s.rights w false (all_given (takes s kind.Bracketed h (three x y z)) (three x y z)) ≡ true
  some_three x y z = ap (is_some_row s.rights w false) (given_three x y z)

  -- The step at a slice expression.
  pub slice_whole : (x : Part) (y z : Option Part) → own_faults s kind.Bracketed h i j (three x y z) ≡ [] → WillFit s.rights w false (built_on s kind.Bracketed h i j (three x y z)) → SliceFacts x y z
      → (own_faults s kind.Bracketed h i j (three (new x) (new_bound y) (new_bound z)) ≡ []) × (built_on s kind.Bracketed h i j (three (new x) (new_bound y) (new_bound z)) ≡ begun w false (built_on s kind.Bracketed h i j (three x y z)))
  slice_whole x y z f fits facts =
      let js = judged w s h i j kind.Bracketed (three x y z) refl fits in
      let a = sort_of x in
      let b = sort_of (new x) in
      let us = three (new x) (new_bound y) (new_bound z) in
      let now = known_three (is_unknown b) (is_lost (new_bound y)) (is_lost (new_bound z)) facts.first.known (known_bound y facts.low) (known_bound z facts.high) in
      let plain = value_plain (value_type a) in
      let sorts : slice_sort b ≡ slice_sort a = sliced_sort s.rights (default_of w s.rights x) a b facts.first.operand.stands refl in
      let same : sort_by s kind.Bracketed h i j us ≡ sort_by s kind.Bracketed h i j (three x y z) = sort_three (new x) (new_bound y) (new_bound z) ∙ sorts ∙ sym (sort_three x y z) in
      let rule = slice_row s.rights i j (default_of w s.rights x) a b y z (new_bound y) (new_bound z) facts.first.operand.stands (bounded y facts.low) (bounded z facts.high) (slice_rule x y z js f) in
      let parts : Become s.rights w false None (three x y z) (three (given default x) (given_bound y) (given_bound z)) us (three (given default (new x)) (given_bound (new_bound y)) (given_bound (new_bound z))) =
      one x (given default x) (new x) (given default (new x)) (y ∷ z ∷ []) (given_bound y ∷ given_bound z ∷ []) (new_bound y ∷ new_bound z ∷ []) (given_bound (new_bound y) ∷ given_bound (new_bound z) ∷ [])
      facts.first.gives (calls_kept s.rights w false x facts.first.ready) (varies_given s.rights w false default (new x))
      (bound_becomes y (z ∷ []) (given_bound z ∷ []) (new_bound z ∷ []) (given_bound (new_bound z) ∷ []) facts.low (bound_becomes z [] [] [] [] facts.high no_more)) in
      node_step s kind.Bracketed h i j w false None (three x y z) us js now (some_three (new x) (new_bound y) (new_bound z)) f (ap is_constant (sort_three x y z) ∙ plain.1)
      (record { form = refl; key = refl; held = refl; name = λ n. refl })
      (record {
        failing = failing_three (new x) (new_bound y) (new_bound z) ∙ rule;
        stands = subst (Stood s.rights None (sort_by s kind.Bracketed h i j (three x y z))) (sym same) (as_before None (sort_by s kind.Bracketed h i j (three x y z)));
        wants = None;
        wanted = sym (ap (λ n. if is_open n then all_wanted w false (row (all_given (takes s kind.Bracketed h (three x y z)) (three x y z))) else None) (sort_three x y z)
            ∙ ap (λ n. if n then all_wanted w false (row (all_given (takes s kind.Bracketed h (three x y z)) (three x y z))) else None) plain.0);
        sort = same;
        parts = subst (λ n. Become s.rights w false None (three x y z) n us (all_given (takes s kind.Bracketed h us) us)) (sym (given_three x y z))
            (subst (λ n. Become s.rights w false None (three x y z) (three (given default x) (given_bound y) (given_bound z)) us n) (sym (given_three (new x) (new_bound y) (new_bound z))) parts);
      })
