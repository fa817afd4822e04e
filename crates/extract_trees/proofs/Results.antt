-- Statements without `return` are settled whatever the results of their function are.
use Rattle.std.proofs.Common.{◌≡◌, ◌∙◌, ℕ, suc, Bool, true, false, List, Option, refl, subst}
use Rattle.std.specs.Prelude.{◌&&◌, not}
use Rattle.std.proofs.lemmas.Bool.{and_parts}
use Rattle.go_tree.specs.declared.object.Predeclared.TheVariants as predeclared
use Rattle.go_types.specs.Trees.{TypeTree}
use Rattle.go_typed.specs.declared.form.Form.{Form}
use Rattle.go_typed.specs.declared.form.Form.TheVariants as form
use Rattle.go_typed.specs.declared.form.Referent.{Referent}
use Rattle.go_typed.specs.declared.form.Referent.TheVariants as referent
use Rattle.go_typed.specs.Trees.{Label, Typed, typed, Typeds, form_of, every_form, forms_among}
use Rattle.go_typed.specs.Trees as trees
use Rattle.go_exprs_rules.specs.Sorts.{Stands}
use Rattle.go_exprs_rules.specs.Literals.{key_in}
use Rattle.clone_window.specs.Masses.{is_constant_expression}
use Rattle.extract_trees.specs.Standing.{Around, object_sort, sort_by, told_in, are_quiet, IsRuled, ConstantOr, IsSettled, AreSettled, nothing_told}
use Rattle.extract_trees.specs.Results.{is_no_return, ResultsAreForReturns, OtherResultsHaveOneCopy}
use Rattle.extract_trees.proofs.Copies.{same_windows}

constant_or : (b : Bool) (s : Stands) (q : Bool) (R S : Type 0) → (R → S) → ConstantOr b s q R → ConstantOr b s q S
constant_or true s q R S f h = h
constant_or false s q R S f h = f h

module _ (w : Around) (results : List TypeTree) (locals : List Stands) where
  abbrev other : Around
  other = record w { results = results }

  one_object : (told : Option TypeTree) (r : Referent) → object_sort w told r ≡ object_sort other told r
  one_object told (referent.Predeclared predeclared.Nil) = refl
  one_object told r = refl

  one_sort : (told : Option TypeTree) (f : Form) (s : Stands) (ps : Typeds TypeTree) → sort_by w locals told f s ps ≡ sort_by other locals told f s ps
  one_sort told (form.Object r) s ps = one_object told r
  one_sort told f s ps = refl

  one_told : (told : Option TypeTree) (f : Form) (s : Stands) (ps : Typeds TypeTree) → is_no_return f ≡ true → (k : ℕ) (key : Option ℕ) → told_in w told f s ps k key ≡ told_in other told f s ps k key
  one_told told form.Return s ps h k key = cc
  one_told told f s ps h k key = refl

  mutual
    again : (told : Option TypeTree) (t : Typed TypeTree) → every_form is_no_return t ≡ true → IsSettled w locals told t → IsSettled other locals told t
    again told (typed f i j l ps) h s =
        let p = and_parts (is_no_return f) (forms_among is_no_return ps) h in
        constant_or (is_constant_expression f l) l.sort (not l.calls && are_quiet ps) (IsRuled w locals told f l ps × AreSettled w locals (told_in w told f l.sort ps) ps)
        (IsRuled other locals told f l ps × AreSettled other locals (told_in other told f l.sort ps) ps)
        (λ r. (
          record { holder = r.0.holder; stands = r.0.stands ∙ one_sort told f l.sort ps; other = r.0.other; calls = r.0.calls },
          all_again (told_in w told f l.sort ps) (told_in other told f l.sort ps) (λ k key. one_told told f l.sort ps p.0 k key) ps p.1 r.1,
        )) s

    all_again : (tell tell' : ℕ → Option ℕ → Option TypeTree) → ((k : ℕ) (key : Option ℕ) → tell k key ≡ tell' k key) → (ps : Typeds TypeTree) → forms_among is_no_return ps ≡ true →
        AreSettled w locals tell ps → AreSettled other locals tell' ps
    all_again tell tell' e trees.none h s = s
    all_again tell tell' e (trees.more p ps) h s =
        let x = and_parts (every_form is_no_return p) (forms_among is_no_return ps) h in
        (again (tell' 0 (key_in (form_of p))) p x.0 (subst (λ z. IsSettled w locals z p) (e 0 (key_in (form_of p))) s.0), all_again (λ k. tell (suc k)) (λ k. tell' (suc k)) (λ k key. e (suc k) key) ps x.1 s.1)
    all_again tell tell' e (trees.skip ps) h s = all_again (λ k. tell (suc k)) (λ k. tell' (suc k)) (λ k key. e (suc k) key) ps h s

pub results_unread : ResultsAreForReturns
results_unread w results locals ps h s = all_again w results locals nothing_told nothing_told (λ k key. refl) ps h s

pub other_results : OtherResultsHaveOneCopy
other_results identical w results here there ps qs c d exact h none settled settled' constants numbered =
    same_windows identical w here there ps qs c d exact h settled (results_unread (record w { results = results }) w.results there qs none settled') constants numbered
