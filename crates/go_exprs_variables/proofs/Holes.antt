-- The induction at an expression in place of which a variable stands.
use Rattle.std.proofs.Common.{◌≡◌, ◌∙◌, ℕ, Bool, true, false, List, [], ◌∷◌, ◌++◌, Option, Some, None, refl, sym, ap, subst}
use Rattle.std.specs.Prelude.{◌&&◌, ◌||◌, not, if◌then◌else◌, is_some}
use Rattle.go_grammar.specs.declared.kind.Kind.{Kind}
use Rattle.go_grammar.specs.declared.kind.Kind.TheVariants as kind
use Rattle.go_grammar.specs.Trees.{Tree, node, Trees}
use Rattle.go_grammar.specs.Trees as syntax
use Rattle.go_types.specs.Trees.{TypeTree}
use Rattle.go_types.specs.Relations.{Rights}
use Rattle.go_typed.specs.declared.form.Form.{Form}
use Rattle.go_typed.specs.declared.form.Form.TheVariants as form
use Rattle.go_typed.specs.Trees.{Sort, Label, typed, Typeds, sort_of, row}
use Rattle.go_typed.specs.Trees as sort
use Rattle.go_exprs_rules.specs.declared.fault.TypeFault.{TypeFault}
use Rattle.go_exprs_rules.specs.Faults.{or_else}
use Rattle.go_exprs_rules.specs.Names.{name_sort, name_form, object_sort, object_form, form_or_type, need_of, place_failing, is_no_type}
use Rattle.go_exprs_rules.specs.Scopes.{Scope, Hint, declares, free}
use Rattle.go_exprs_rules.specs.Settling.{Part, all_settled}
use Rattle.go_exprs_rules.specs.Sorts.{Stands, is_open, is_unknown, open_kind}
use Rattle.go_exprs_rules.specs.Tables.{Parts, layout, own_faults, found, built, built_by, made, label, is_sound, is_judged, is_placed, is_held, no_faults, failing, placing, sort_by, form_by, takes, all_given}
use Rattle.go_exprs_rules.specs.Typing.{typing, typings, faults, faults_of_parts}
use Rattle.clone_window.specs.Masses.{is_hole, is_inside, is_expression}
use Rattle.clone_window.specs.Masses as masses
use Rattle.go_exprs_variables.specs.Variables as variables
use Rattle.go_exprs_variables.specs.Variables.{Standin, Standins, StandsIn, ends_at, may_be_constant, node_with, with_variables, all_with_variables, is_naming, at_hole, variable_node, put_over, put, all_put, wanted, all_wanted, first_wanted, begun, final_type, is_unfolded, any_variable, Fits, WillFit, no_rule_fails, IsTypedWithVariables}
use Rattle.go_exprs_variables.proofs.Parts.{neither}
use Rattle.go_exprs_variables.proofs.Places.{stands, untyped_is_none}
use Rattle.go_exprs_variables.proofs.Trees.{hole_kept, retyped_label}
use Rattle.go_exprs_variables.proofs.Begun.{begun_by, settled_is, open_takes, not_wanted, wanted_open_is}

-- ---- rules that fail

pub all_of : (fs gs : List (List TypeFault)) → no_rule_fails (fs ++ gs) ≡ true → (no_rule_fails fs ≡ true) × (no_rule_fails gs ≡ true)
all_of [] gs e = (refl, e)
all_of ([] ∷ fs) gs e = all_of fs gs e
all_of ((f ∷ g) ∷ fs) gs e = cc

pub of_all : (fs gs : List (List TypeFault)) → no_rule_fails fs ≡ true → no_rule_fails gs ≡ true → no_rule_fails (fs ++ gs) ≡ true
of_all [] gs e f = f
of_all ([] ∷ fs) gs e f = of_all fs gs e f
of_all ((g ∷ h) ∷ fs) gs e f = cc

pub nothing_found : (fs : List TypeFault) → no_rule_fails (fs ∷ []) ≡ true → fs ≡ []
nothing_found [] e = refl
nothing_found (f ∷ fs) e = cc

pub found_nothing : (fs : List TypeFault) → fs ≡ [] → no_rule_fails (fs ∷ []) ≡ true
found_nothing [] e = refl
found_nothing (f ∷ fs) e = cc

-- ---- what was typed

expression_unheld : (f : Form) → is_expression f ≡ true → is_held f ≡ false
expression_unheld (form.Held k) e = cc
expression_unheld f e = refl

hole_expression : (f : Form) (l : Label TypeTree) → is_hole false f l ≡ true → is_expression f ≡ true
hole_expression f l e = first (is_expression f) (masses.is_constant l.sort) (not l.varies) e
  where
    first : (b c d : Bool) → ((b && c) && d) ≡ true → b ≡ true
    first true c d e = refl
    first false c d e = cc

or_first : (b c : Bool) → b ≡ true → (b || c) ≡ true
or_first b c e = ap (λ z. z || c) e

constant_no_type : (z : Stands) (t : TypeTree) → final_type z ≡ Some t → is_no_type z ≡ true
constant_no_type (sort.IsType u) t e = cc
constant_no_type sort.Unknown t e = cc
constant_no_type z t e = refl

-- What was typed becomes the variable, and it was no type.
pub record Becomes (w : Standins) (v : Standin) (i j : ℕ) (x : Part) : Type 0 where
  pub begins : begun w false x ≡ variable_node v i j
  pub no_type : is_no_type (sort_of x) ≡ true

begun_hole : (rights : Rights) (w : Standins) (v : Standin) (f : Form) (i j : ℕ) (l : Label TypeTree) (qs : Typeds TypeTree) → w i ≡ Some v → ends_at (Some v) j ≡ true → WillFit rights w false (typed f i j l qs) → Becomes w v i j (typed f i j l qs)
begun_hole rights w v f i j l qs at ends (variables.has o fits) =
    let fit = fits.0 v at (or_first (ends_at (Some v) j) (is_hole false f l) ends) in
    let held = expression_unheld f (hole_expression f l fit.hole) in
    record {
      begins = begun_by rights w false f i j l qs None held (not_wanted rights w false f i j l qs o)
          ∙ ap (λ b. put_over (at_hole w b i) f i j l (all_put w (is_inside false f l) qs)) fit.hole ∙ ap (λ z. put_over z f i j l (all_put w (is_inside false f l) qs)) at;
      no_type = constant_no_type l.sort v.type fit.type;
    }
begun_hole rights w v f i j l qs at ends (variables.takes t k o m r fits) =
    let open_now : is_open l.sort ≡ true = ap is_some o in
    let all : Fits w false (typed f i j (retyped_label t l) (all_settled t qs)) = subst (Fits w false) (settled_is w t f i j l qs (open_takes w l.sort open_now)) fits in
    let fit = all.0 v at (or_first (ends_at (Some v) j) (is_hole false f (retyped_label t l)) ends) in
    let hole : is_hole false f l ≡ true = sym (hole_kept t false f l) ∙ fit.hole in
    let held = expression_unheld f (hole_expression f l hole) in
    let here : at_hole w (is_hole false f l) i ≡ Some v = ap (λ b. at_hole w b i) hole ∙ at in
    let wants : wanted w false (typed f i j l qs) ≡ Some v.type = wanted_open_is rights w false f i j l qs open_now ∙ ap (λ z. first_wanted z (all_wanted w (is_inside false f l) qs)) here in
    let rest = all_put w (is_inside false f (retyped_label v.type l)) (all_settled v.type qs) in
    record {
      begins = begun_by rights w false f i j l qs (Some v.type) held wants
          ∙ ap (put w false) (settled_is w v.type f i j l qs (open_takes w l.sort open_now))
          ∙ ap (λ b. put_over (at_hole w b i) f i j (retyped_label v.type l) rest) (hole_kept v.type false f l ∙ hole) ∙ ap (λ z. put_over z f i j (retyped_label v.type l) rest) at;
      no_type = untyped_is_none rights i j l.sort k o;
    }

pub never_unknown : (rights : Rights) (w : Standins) (x : Part) → WillFit rights w false x → is_unknown (sort_of x) ≡ true → ⊥
never_unknown rights w (typed f i j l qs) (variables.has o fits) e = both (is_unknown l.sort) (is_unfolded f l.sort qs && any_variable w (is_inside false f l) qs) fits.1 e
  where
    both : (b c : Bool) → (b || c) ≡ false → b ≡ true → ⊥
    both true c e f = cc
    both false c e f = cc
never_unknown rights w (typed f i j l qs) (variables.takes t k o m r fits) e = unknown l.sort o e
  where
    unknown : (z : Stands) → open_kind z ≡ Some k → is_unknown z ≡ true → ⊥
    unknown sort.Unknown o e = cc
    unknown (sort.Open u) o e = cc
    unknown (sort.OpenConstant c) o e = cc
    unknown z o e = cc

placed_constant : (k : Kind) → may_be_constant k ≡ true → is_placed k ≡ true
placed_constant kind.Name e = refl
placed_constant kind.Integer e = refl
placed_constant kind.Rune e = refl
placed_constant kind.Text e = refl
placed_constant kind.Parenthesized e = refl
placed_constant (kind.Unary o) e = refl
placed_constant (kind.Binary o) e = refl
placed_constant kind.Call e = refl
placed_constant k e = cc

module _ (w : Standins) (s t : Scope) (st : StandsIn w s t) (h : Hint) (naming : is_naming h ≡ false) (i j : ℕ) (v : Standin) (at : w i ≡ Some v) (ends : ends_at (Some v) j ≡ true) where
  -- the node as it was made, where its parts were free of faults or not
  by_soundness : (k : Kind) (ys : Parts) (b : Bool) → WillFit s.rights w false (built_by s k h i j ys b) → Becomes w v i j (built_by s k h i j ys b)
  by_soundness k ys true fits = begun_hole s.rights w v (form_by s k h i j ys) i j (label (form_by s k h i j ys) (sort_by s k h i j ys) ys) (row (all_given (takes s k h ys) ys)) at ends fits
  by_soundness k ys false fits = begun_hole s.rights w v (form_by s k h i j ys) i j (label (form_by s k h i j ys) sort.Unknown ys) (row ys) at ends fits

  placed : (k : Kind) (ys : Parts) (p q b : Bool) (fs : List TypeFault) → is_placed k ≡ true → is_judged ys ≡ p → (not (is_placed k) || (is_judged ys && no_faults fs)) ≡ b → (if p then or_else (failing s k h i j ys) (placing s k h i j (sort_by s k h i j ys)) else []) ≡ []
      → WillFit s.rights w false (built_by s k h i j ys b) → is_no_type (sort_of (built_by s k h i j ys b)) ≡ true → place_failing s.rights h i j (sort.Value v.type) ≡ []
  placed k ys p q false fs pl ju so f fits no_type = absurd (never_unknown s.rights w (built_by s k h i j ys false) fits refl)
  placed k ys true q true fs pl ju so f fits no_type =
      let old = (neither (failing s k h i j ys) (placing s k h i j (sort_by s k h i j ys)) f).1 in
      stands s.rights i j h v.type (sort_by s k h i j ys) no_type (sym (ap (λ b. if b then place_failing s.rights h i j (sort_by s k h i j ys) else []) pl) ∙ old)
  placed k ys false q true fs pl ju so f fits no_type =
      let never : false ≡ true = sym (ap (λ b. not b || (is_judged ys && no_faults fs)) pl ∙ ap (λ b. b && no_faults fs) ju) ∙ so in cc

  -- the name of the variable
  named_sort : (h : Hint) → is_naming h ≡ false → name_sort t h i ≡ sort.Value v.type
  named_sort declares e = cc
  named_sort free e = cc
  named_sort h e = ap (object_sort t (need_of t.needed h)) (st.variable i v at) ∙ st.type (need_of t.needed h) i v at

  named_form : (h : Hint) → is_naming h ≡ false → name_form t h i ≡ form.Local v.local
  named_form declares e = cc
  named_form free e = cc
  named_form h e = by_sort (named_sort h e)
    where
      by_sort : name_sort t h i ≡ sort.Value v.type → form_or_type (name_sort t h i) (object_form t (t.objects i)) ≡ form.Local v.local
      by_sort e = ap (λ z. form_or_type z (object_form t (t.objects i))) e ∙ ap (object_form t) (st.variable i v at)

  no_rule : place_failing s.rights h i j (sort.Value v.type) ≡ [] → found t kind.Name h i j [] ≡ []
  no_rule e = ap (λ r. place_failing r h i j (name_sort t h i)) st.rights ∙ ap (place_failing s.rights h i j) (named_sort h naming) ∙ e

  named : place_failing s.rights h i j (sort.Value v.type) ≡ [] → built t kind.Name h i j [] ≡ variable_node v i j
  named e =
      ap (λ fs. built_by t kind.Name h i j [] (is_sound kind.Name [] fs)) (no_rule e)
      ∙ ap (λ f. made f i j (name_sort t h i) [] []) (named_form h naming) ∙ ap (λ z. made (form.Local v.local) i j z [] []) (named_sort h naming)

  -- The variable in place of the expression is typed as it stands in place of the hole.
  pub hole_at : (k : Kind) (ps : Trees) → may_be_constant k ≡ true → no_rule_fails (faults s h (node k i j ps)) ≡ true → WillFit s.rights w false (typing s h (node k i j ps)) → IsTypedWithVariables w s t h (node k i j ps)
  hole_at k ps may f fits =
      let ys = layout k (typings s k h ps [] ps) in
      let none_found = nothing_found (own_faults s k h i j ys) (all_of (faults_of_parts s k h ps [] ps) (own_faults s k h i j ys ∷ []) f).1 in
      let b = is_sound k ys (own_faults s k h i j ys) in
      let old = by_soundness k ys b fits in
      let place = placed k ys (is_judged ys) true b (own_faults s k h i j ys) (placed_constant k may) refl refl none_found fits old.no_type in
      let tree : with_variables w (node k i j ps) ≡ node kind.Name i j syntax.none =
      ap (λ c. node_with (c && ends_at (w i) j) k i j (all_with_variables w ps)) may ∙ ap (λ z. node_with (ends_at z j) k i j (all_with_variables w ps)) at ∙ ap (λ c. node_with c k i j (all_with_variables w ps)) ends in
      record {
        typed = ap (typing t h) tree ∙ named place ∙ sym old.begins;
        failing = ap (λ x. no_rule_fails (faults t h x)) tree ∙ found_nothing (found t kind.Name h i j []) (no_rule place);
      }

there_is : (w : Standins) (i j : ℕ) (b : Bool) (o : Option Standin) → w i ≡ o → (b && ends_at o j) ≡ true → (v : Standin) × (w i ≡ Some v) × (ends_at (Some v) j ≡ true) × (b ≡ true)
there_is w i j true (Some v) e f = (v, e, f, refl)
there_is w i j true None e f = cc
there_is w i j false o e f = cc

-- An expression in place of which a variable stands is typed with that.
pub hole_typed : (w : Standins) (s t : Scope) (h : Hint) (k : Kind) (i j : ℕ) (ps : Trees) → StandsIn w s t → is_naming h ≡ false → (may_be_constant k && ends_at (w i) j) ≡ true → no_rule_fails (faults s h (node k i j ps)) ≡ true
    → WillFit s.rights w false (typing s h (node k i j ps)) → IsTypedWithVariables w s t h (node k i j ps)
hole_typed w s t h k i j ps st naming e f fits =
    let is = there_is w i j (may_be_constant k) (w i) refl e in
    hole_at w s t st h naming i j is.0 is.1 is.2 k ps is.3 f fits
