-- The steps of the induction at names.
use Rattle.std.proofs.Common.{◌≡◌, ◌∙◌, ℕ, Bool, true, false, [], Option, Some, None, refl, sym, ap}
use Rattle.std.specs.Prelude.{if◌then◌else◌}
use Rattle.go_grammar.specs.declared.kind.Kind.TheVariants as kind
use Rattle.go_tree.specs.declared.object.Object.{Object}
use Rattle.go_tree.specs.declared.object.Object.TheVariants as object
use Rattle.go_types.specs.Trees.{TypeTree}
use Rattle.go_types.specs.Relations.{Rights}
use Rattle.go_typed.specs.declared.form.Form.{Form}
use Rattle.go_typed.specs.declared.form.Form.TheVariants as form
use Rattle.go_typed.specs.declared.form.Referent.{Referent}
use Rattle.go_typed.specs.Trees.{Sort, Label, typed, Typeds, sort_of, form_of, label_of, row}
use Rattle.go_typed.specs.Trees as sort
use Rattle.go_exprs_rules.specs.Names.{name_sort, name_form, object_sort, object_form, form_or_type, need_of, place_failing}
use Rattle.go_exprs_rules.specs.Scopes.{Scope, Hint, declares, free}
use Rattle.go_exprs_rules.specs.Sorts.{Stands, is_open}
use Rattle.go_exprs_rules.specs.Tables.{found, built, built_by, made, label, is_sound, is_held}
use Rattle.clone_window.specs.Masses.{is_hole, is_inside}
use Rattle.clone_window.specs.Masses as masses
use Rattle.go_exprs_variables.specs.Variables.{Standins, StandsIn, is_naming, at_hole, put_over, begun, wanted, first_wanted}
use Rattle.go_exprs_variables.proofs.Trees.{is_key, plain_sort}
use Rattle.go_exprs_variables.proofs.Begun.{begun_by}
use Rattle.go_exprs_variables.proofs.Steps.{no_hole}

-- ---- nodes without parts

pub leaf_stays : (rights : Rights) (w : Standins) (a : Bool) (f : Form) (i j : ℕ) (l : Label TypeTree) → is_key f ≡ false → is_held f ≡ false → masses.is_constant l.sort ≡ false → begun w a (typed f i j l sort.none) ≡ typed f i j l sort.none
leaf_stays rights w a f i j l key held value =
    let at : at_hole w (is_hole a f l) i ≡ None = ap (λ b. at_hole w b i) (no_hole a f l value) in
    let nothing : wanted w a (typed f i j l sort.none) ≡ None = ap (λ v. if is_open l.sort then first_wanted v None else None) at ∙ none_either (is_open l.sort) in
    begun_by rights w a f i j l sort.none None held nothing ∙ ap (λ v. put_over v f i j l sort.none) at ∙ ap (λ z. typed f i j (record { sort = z; varies = l.varies; calls = l.calls }) sort.none) (plain_sort f l.sort sort.none key)
  where
    none_either : (b : Bool) → (if b then first_wanted None None else None) ≡ None
    none_either true = refl
    none_either false = refl

-- ---- names where no variable stands

module _ (w : Standins) (s t : Scope) (st : StandsIn w s t) (i : ℕ) (away : w i ≡ None) where
  pub sort_kept : (h : Hint) → is_naming h ≡ false → name_sort t h i ≡ name_sort s h i
  sort_kept declares e = cc
  sort_kept free e = cc
  sort_kept h e = ap (λ n. object_sort t (need_of n h) (t.objects i)) st.needed ∙ st.standing (need_of s.needed h) i away

  pub form_kept : (h : Hint) → is_naming h ≡ false → name_form t h i ≡ name_form s h i
  form_kept declares e = cc
  form_kept free e = cc
  form_kept h e = by_sort (sort_kept h e)
    where
      by_sort : name_sort t h i ≡ name_sort s h i → form_or_type (name_sort t h i) (object_form t (t.objects i)) ≡ form_or_type (name_sort s h i) (object_form s (s.objects i))
      by_sort e = ap (λ z. form_or_type z (object_form t (t.objects i))) e ∙ ap (form_or_type (name_sort s h i)) (st.form i away)

  found_kept : (h : Hint) (j : ℕ) → is_naming h ≡ false → found t kind.Name h i j [] ≡ found s kind.Name h i j []
  found_kept h j e = ap (λ r. place_failing r h i j (name_sort t h i)) st.rights ∙ ap (place_failing s.rights h i j) (sort_kept h e)

  made_kept : (h : Hint) (j : ℕ) (b : Bool) → is_naming h ≡ false → built_by t kind.Name h i j [] b ≡ built_by s kind.Name h i j [] b
  made_kept h j true e = ap (λ f. made f i j (name_sort t h i) [] []) (form_kept h e) ∙ ap (λ z. made (name_form s h i) i j z [] []) (sort_kept h e)
  made_kept h j false e = ap (λ f. made f i j sort.Unknown [] []) (form_kept h e)

  name_kept : (h : Hint) (j : ℕ) → is_naming h ≡ false → built t kind.Name h i j [] ≡ built s kind.Name h i j []
  name_kept h j e = ap (λ fs. built_by t kind.Name h i j [] (is_sound kind.Name [] fs)) (found_kept h j e) ∙ made_kept h j (is_sound kind.Name [] (found s kind.Name h i j [])) e

  -- a name's form is none of a key, nor of what holds parts
  object_plain : (o : Option Object) → (is_key (object_form s o) ≡ false) × (is_held (object_form s o) ≡ false)
  object_plain None = (refl, refl)
  object_plain (Some object.Import) = (refl, refl)
  object_plain (Some (object.Predeclared p)) = (refl, refl)
  object_plain (Some (object.Package n)) = by_referent (s.referents n)
    where
      by_referent : (r : Referent) → (is_key (form.Object r) ≡ false) × (is_held (form.Object r) ≡ false)
      by_referent r = (refl, refl)
  object_plain (Some (object.Local g n)) = (refl, refl)

  or_type : (z : Stands) (f : Form) → (is_key f ≡ false) × (is_held f ≡ false) → (is_key (form_or_type z f) ≡ false) × (is_held (form_or_type z f) ≡ false)
  or_type (sort.IsType u) f e = (refl, refl)
  or_type z f e = e

  name_plain : (h : Hint) → is_naming h ≡ false → (is_key (name_form s h i) ≡ false) × (is_held (name_form s h i) ≡ false)
  name_plain declares e = cc
  name_plain free e = cc
  name_plain h e = or_type (name_sort s h i) (object_form s (s.objects i)) (object_plain (s.objects i))

  leaf_by : (h : Hint) (j : ℕ) (a b : Bool) → is_naming h ≡ false → masses.is_constant (sort_of (built_by s kind.Name h i j [] b)) ≡ false → begun w a (built_by s kind.Name h i j [] b) ≡ built_by s kind.Name h i j [] b
  leaf_by h j a true e value = let p = name_plain h e in leaf_stays s.rights w a (name_form s h i) i j (label (name_form s h i) (name_sort s h i) []) p.0 p.1 value
  leaf_by h j a false e value = let p = name_plain h e in leaf_stays s.rights w a (name_form s h i) i j (label (name_form s h i) sort.Unknown []) p.0 p.1 refl

  -- The step at a name, which isn't constant.
  pub name_step : (h : Hint) (j : ℕ) (a : Bool) → is_naming h ≡ false → found s kind.Name h i j [] ≡ [] → masses.is_constant (sort_of (built s kind.Name h i j [])) ≡ false
      → (found t kind.Name h i j [] ≡ []) × (built t kind.Name h i j [] ≡ begun w a (built s kind.Name h i j []))
  name_step h j a e f value = (found_kept h j e ∙ f, name_kept h j e ∙ sym (leaf_by h j a (is_sound kind.Name [] (found s kind.Name h i j [])) e value))
