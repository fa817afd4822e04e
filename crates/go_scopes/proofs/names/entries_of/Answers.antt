use Rattle.std.proofs.Common.{◌≡◌, ◌∙◌, ◌++◌, sym, ap, subst, map, rules}
use Rattle.std.proofs.lemmas.Result.{IfOk-weaker}
use Rattle.go_scopes_events.specs.Scopes.{locals_of, AreNested}
use Rattle.go_scopes_events.proofs.Public.{locals_good}
use Rattle.go_tree.specs.Declarations.{declarations}
use Rattle.go_tree.specs.Meanings.{meanings, imported_from, numbered, first_numbers}
use Rattle.go_scopes_lookup.specs.Views.{units_view, found_view}
use Rattle.go_scopes.proofs.names.entries_of.Goals as goal

pub returns-clause-entries : goal.returns-clause-entries
returns-clause-entries c =
    let units = units_view c.args.units.now in
    let declared : map found_view c.in_ok-declared.declared.items ≡ declarations units = search rules in
    let all : imported_from 0 units ++ numbered first_numbers (map found_view c.deref-2.result.now) ≡ meanings units =
    ap (λ ds. imported_from 0 units ++ numbered first_numbers ds) (ap (map found_view) c.deref-2.ensures.value ∙ declared) in
    IfOk-weaker c.entries.result _ _ (λ v h. h ∙ all) c.entries.ensures

pub returns-clause-nested : goal.returns-clause-nested
returns-clause-nested c =
    let units = units_view c.args.units.now in
    let declared : map found_view c.in_ok-declared.declared.items ≡ declarations units = search rules in
    let all : imported_from 0 units ++ numbered first_numbers (map found_view c.deref-2.result.now) ≡ meanings units =
    ap (λ ds. imported_from 0 units ++ numbered first_numbers ds) (ap (map found_view) c.deref-2.ensures.value ∙ declared) in
    IfOk-weaker c.entries.result _ _ (λ v h n. subst (λ ms. AreNested (locals_of n ms)) (sym (h ∙ all)) (locals_good units c.requires.orderly n).1) c.entries.ensures
