use Rattle.std.proofs.Common.{◌≡◌, ◌∙◌, Some, None, sym, ap}
use Rattle.std.specs.HashMap.{get}
use Rattle.go_scopes_lookup.specs.Views.{found_view}
use Rattle.go_scopes_lookup.specs.Keys.{same_key, is_before}
use Rattle.go_scopes_lookup.proofs.found.is_reused.Goals as goal

pub returns-in-None : goal.returns-in-None
returns-in-None c all known =
    let d = found_view c.args.d.now in
    let none : get same_key c.args.variables.now c.key_of.result ≡ None = sym (c.copied.ensures ∙ c.get.ensures.value) ∙ c.in-None.is in
    sym (ap (is_before d.it.statement) none) ∙ known d c.key_of.result c.key_of.ensures

pub returns-in-Some : goal.returns-in-Some
returns-in-Some c all known =
    let d = found_view c.args.d.now in
    let some : get same_key c.args.variables.now c.key_of.result ≡ Some c.in-Some.first = sym (c.copied.ensures ∙ c.get.ensures.value) ∙ c.in-Some.is in
    sym (ap (is_before d.it.statement) some) ∙ known d c.key_of.result c.key_of.ensures
