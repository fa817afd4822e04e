use Rattle.std.proofs.Common.{◌≡◌, ◌∙◌, ◌+◌, ◌∷◌, suc, sym, ap, drop, drop-cons, add-one}
use Rattle.std.specs.Option.{option_map}
use Rattle.go_scopes_lookup.specs.Views.{unit_view, units_view}
use Rattle.go_scopes.specs.Views.{failure_of}
use Rattle.go_scopes.proofs.Least.{noted_file}
use Rattle.go_scopes.proofs.file_rule.note_files.Goals as goal

pub loop-file-preserved : goal.loop-file-preserved
loop-file-preserved g c =
    let us = c.args.units.now in
    let n = c.loop-file.file in
    let u = c.index-units-file.result in
    let here : drop n us ≡ u ∷ drop (n + 1) us = drop-cons us n u c.loop-file-test.true ∙ ap (λ x. x ∷ drop (suc n) us) (sym c.index-units-file.is) ∙ ap (λ k. u ∷ drop k us) (sym (add-one n)) in
    noted_file (option_map failure_of c.loop-file.found) (option_map failure_of c.in_ok-found.found) g.R.FileRule.code (g.R.FileRule.places c.args.rule.now) n (unit_view u) (units_view (drop n us)) (units_view (drop (n + 1) us)) (ap units_view here) c.in_ok-found.ensures ∙ c.loop-file.invariant
