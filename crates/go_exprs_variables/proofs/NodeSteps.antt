-- The step of the induction at any node that isn't constant: from its row, and from what becomes of its parts.
use Rattle.std.proofs.Common.{◌≡◌, ◌∙◌, ℕ, Bool, true, false, [], Option, Some, None, refl, sym, ap, subst}
use Rattle.std.specs.Prelude.{◌&&◌, ◌||◌, not, if◌then◌else◌}
use Rattle.go_grammar.specs.declared.kind.Kind.{Kind}
use Rattle.go_types.specs.Trees.{TypeTree}
use Rattle.go_types.specs.Relations.{Rights}
use Rattle.go_typed.specs.declared.form.Form.{Form}
use Rattle.go_typed.specs.Trees.{Sort, Label, Typed, typed, Typeds, sort_of, form_of, label_of, row}
use Rattle.go_typed.specs.Trees as sort
use Rattle.go_exprs_rules.specs.Faults.{or_else}
use Rattle.go_exprs_rules.specs.Names.{place_failing}
use Rattle.go_exprs_rules.specs.Scopes.{Scope, Hint}
use Rattle.go_exprs_rules.specs.Settling.{all_settled, unrepresented, all_unrepresented, unrepresented_constant}
use Rattle.go_exprs_rules.specs.declared.family.OpenKind.{OpenKind}
use Rattle.go_exprs_rules.specs.Sorts.{Stands, is_constant, is_open, open_kind, suits, constant_of}
use Rattle.go_exprs_rules.specs.Tables.{Parts, all_given, made, own_faults, no_faults, built_on, built_by, is_judged, is_placed, placing, failing, sort_by, form_by, takes, is_held, is_variable_name, is_call}
use Rattle.go_exprs_variables.specs.Stood.{Stood, as_before, in_place, early}
use Rattle.go_exprs_variables.specs.Variables as variables
use Rattle.go_exprs_variables.specs.Variables.{Standins, all_wanted, begun, Fits, AllFit, WillFit}
use Rattle.go_exprs_variables.proofs.Parts.{neither, of_neither}
use Rattle.go_exprs_variables.proofs.Places.{place_row}
use Rattle.go_exprs_variables.proofs.Trees.{is_key, retyped_label, inside_kept}
use Rattle.go_exprs_variables.proofs.Begun.{settled_is, open_takes}
use Rattle.go_exprs_variables.proofs.Steps.{one_test, not_inside}
use Rattle.go_exprs_variables.proofs.Assembly.{Become, is_some_row, sort_with, assembled}

module _ (s : Scope) (k : Kind) (h : Hint) (i j : ℕ) where
  rules : (ys : Parts) → is_judged ys ≡ true → own_faults s k h i j ys ≡ or_else (failing s k h i j ys) (placing s k h i j (sort_by s k h i j ys))
  rules ys e = ap (λ b. if b then or_else (failing s k h i j ys) (placing s k h i j (sort_by s k h i j ys)) else []) e

  sound : (b c d : Bool) → c ≡ true → d ≡ true → (b || (c && d)) ≡ true
  sound true c d e f = refl
  sound false c d e f = ap (λ z. z && d) e ∙ f

  -- the node, where no rule fails
  pub stands_made : (ys : Parts) → is_judged ys ≡ true → own_faults s k h i j ys ≡ [] → built_on s k h i j ys ≡ made (form_by s k h i j ys) i j (sort_by s k h i j ys) ys (all_given (takes s k h ys) ys)
  stands_made ys e f = ap (built_by s k h i j ys) (sound (not (is_placed k)) (is_judged ys) (no_faults (own_faults s k h i j ys)) e (ap no_faults f))

  pub rule_of : (ys : Parts) → is_judged ys ≡ true → own_faults s k h i j ys ≡ [] → failing s k h i j ys ≡ []
  rule_of ys e f = (neither (failing s k h i j ys) (placing s k h i j (sort_by s k h i j ys)) (sym (rules ys e) ∙ f)).0

  place_kept : (b : Bool) (u : Option TypeTree) (x z : Stands) → Stood s.rights u x z → (if b then place_failing s.rights h i j x else []) ≡ [] → (if b then place_failing s.rights h i j z else []) ≡ []
  place_kept true u x z st e = place_row s.rights i j h u x z st e
  place_kept false u x z st e = refl

  -- Where the rules of the node hold of the parts with variables in them, its places do too.
  pub no_rules : (u : Option TypeTree) (ys us : Parts) → is_judged ys ≡ true → is_judged us ≡ true → own_faults s k h i j ys ≡ [] → failing s k h i j us ≡ [] → Stood s.rights u (sort_by s k h i j ys) (sort_by s k h i j us) → own_faults s k h i j us ≡ []
  no_rules u ys us e f old new st =
      let both = neither (failing s k h i j ys) (placing s k h i j (sort_by s k h i j ys)) (sym (rules ys e) ∙ old) in
      rules us f ∙ of_neither (failing s k h i j us) (placing s k h i j (sort_by s k h i j us)) new (place_kept (is_placed k) u (sort_by s k h i j ys) (sort_by s k h i j us) st both.1)

  -- What the step wants of a kind of node: its row, and what becomes of its parts, by the type o that it wants now and u that it takes later.
  pub record NodeRow (w : Standins) (a : Bool) (u : Option TypeTree) (ys us : Parts) : Type 0 where
    pub failing : failing s k h i j us ≡ []
    pub stands : Stood s.rights u (sort_by s k h i j ys) (sort_by s k h i j us)
    pub wants : Option TypeTree
    pub wanted : wants ≡ (if is_open (sort_by s k h i j ys) then all_wanted w a (row (all_given (takes s k h ys) ys)) else None)
    pub sort : sort_by s k h i j us ≡ sort_with s.rights w a wants (sort_by s k h i j ys)
    pub parts : Become s.rights w a wants ys (all_given (takes s k h ys) ys) us (all_given (takes s k h us) us)

  -- and of its form, which is that of an expression with parts
  pub record Formed (ys us : Parts) : Type 0 where
    pub form : form_by s k h i j us ≡ form_by s k h i j ys
    pub key : is_key (form_by s k h i j ys) ≡ false
    pub held : is_held (form_by s k h i j ys) ≡ false
    pub name : (z : Stands) → is_variable_name (form_by s k h i j ys) z ≡ false

  still_value : (u : Option TypeTree) (x z : Stands) → Stood s.rights u x z → is_constant x ≡ false → is_constant z ≡ false
  still_value u x z (as_before v c) e = e
  still_value u x z (in_place v t c) e = refl
  still_value u x z (early t c m p q) e = refl

  -- The whole step: over the parts with variables in them no rule fails, and what is made is what was made, with the variables in it.
  pub node_step : (w : Standins) (a : Bool) (u : Option TypeTree) (ys us : Parts) → is_judged ys ≡ true → is_judged us ≡ true → is_some_row s.rights w a (all_given (takes s k h us) us) ≡ true → own_faults s k h i j ys ≡ [] → is_constant (sort_by s k h i j ys) ≡ false
      → Formed ys us → NodeRow w a u ys us → (own_faults s k h i j us ≡ []) × (built_on s k h i j us ≡ begun w a (built_on s k h i j ys))
  node_step w a u ys us e f some old value form r =
      let new = no_rules u ys us e f old r.failing r.stands in
      let not_constant = still_value u (sort_by s k h i j ys) (sort_by s k h i j us) r.stands value in
      let call : (is_call (form_by s k h i j ys) && not (is_constant (sort_by s k h i j us))) ≡ (is_call (form_by s k h i j ys) && not (is_constant (sort_by s k h i j ys))) = ap (λ b. is_call (form_by s k h i j ys) && not b) (not_constant ∙ sym value) in (
        new,
        stands_made us f new ∙ ap (λ q. made q i j (sort_by s k h i j us) us (all_given (takes s k h us) us)) form.form
            ∙ assembled s.rights w a (form_by s k h i j ys) i j (sort_by s k h i j ys) (sort_by s k h i j us) ys (all_given (takes s k h ys) ys) us (all_given (takes s k h us) us) r.wants form.key form.held (one_test (sort_by s k h i j ys) value) some
            (form.name (sort_by s k h i j us)) call r.sort r.wanted r.parts
            ∙ ap (begun w a) (sym (stands_made ys e old)),
      )

-- ---- from the node that fits to its parts

module _ (rights : Rights) (w : Standins) (a : Bool) (f : Form) (i j : ℕ) (l : Label TypeTree) (qs : Typeds TypeTree) (value : is_constant l.sort ≡ false) where
  no_kind : (x : Stands) (k : OpenKind) → is_open x ≡ false → open_kind x ≡ Some k → ⊥
  no_kind (sort.Open u) k e f = cc
  no_kind (sort.OpenConstant c) k e f = cc
  no_kind (sort.Value u) k e f = cc
  no_kind (sort.Constant u c) k e f = cc
  no_kind sort.Nothing k e f = cc
  no_kind sort.Unknown k e f = cc
  no_kind sort.Blank k e f = cc
  no_kind sort.Nil k e f = cc
  no_kind (sort.Builtin b) k e f = cc
  no_kind sort.Println k e f = cc
  no_kind sort.Package k e f = cc
  no_kind (sort.IsType u) k e f = cc
  no_kind (sort.Results u) k e f = cc

  -- a node that has its type
  pub parts_fit : is_open l.sort ≡ false → WillFit rights w a (typed f i j l qs) → AllFit w a qs
  parts_fit e (variables.takes t k o m r fits) = absurd (no_kind l.sort k e o)
  parts_fit e (variables.has o fits) = subst (λ b. AllFit w b qs) (not_inside a f l (one_test l.sort value)) fits.2

  -- a node that takes its type later
  pub record Later (k : OpenKind) : Type 0 where
    pub type : TypeTree
    pub suits : suits rights k type ≡ true
    pub range : all_unrepresented rights type qs ≡ []
    pub fit : AllFit w a (all_settled type qs)

  is_open_by : (x : Stands) (k : OpenKind) → open_kind x ≡ Some k → is_open x ≡ true
  is_open_by x k e = by_test (is_open x) refl
    where
      by_test : (b : Bool) → is_open x ≡ b → b ≡ true
      by_test true f = refl
      by_test false f = absurd (no_kind x k f e)

  range_of : (t : TypeTree) → is_open l.sort ≡ true → unrepresented rights t (typed f i j l qs) ≡ [] → all_unrepresented rights t qs ≡ []
  range_of t e r =
      sym (ap (λ b. if b then (if is_constant l.sort then unrepresented_constant rights t i j (constant_of l.sort) else all_unrepresented rights t qs) else []) e
      ∙ ap (λ b. if b then unrepresented_constant rights t i j (constant_of l.sort) else all_unrepresented rights t qs) value)
      ∙ r

  pub parts_fit_later : (k : OpenKind) → open_kind l.sort ≡ Some k → WillFit rights w a (typed f i j l qs) → Later k
  parts_fit_later k e (variables.has o fits) = absurd (no_kind l.sort k o e)
  parts_fit_later k e (variables.takes t m o s r fits) =
      let same : m ≡ k = cc in
      let is = is_open_by l.sort k e in
      let all : Fits w a (typed f i j (retyped_label t l) (all_settled t qs)) = subst (Fits w a) (settled_is w t f i j l qs (open_takes w l.sort is)) fits in
      record {
        type = t;
        suits = ap (λ z. suits rights z t) (sym same) ∙ s;
        range = range_of t is (r value);
        fit = subst (λ b. AllFit w b (all_settled t qs)) (inside_kept t a f l ∙ not_inside a f l (one_test l.sort value)) all.2;
      }
