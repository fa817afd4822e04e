use Rattle.std.proofs.Common.{◌≡◌, ◌∙◌, true, false, not, Some, None, sym, ap}
use Rattle.std.specs.HashMap.{get}
use Rattle.go_scopes_lookup.specs.Views.{found_view}
use Rattle.go_scopes_lookup.specs.Keys.{same_key, is_parameter, clashes_by}
use Rattle.go_scopes.proofs.redeclared.has_clash.Goals as goal

pub returns-in-None : goal.returns-in-None
returns-in-None c before known =
    let d = found_view c.args.d.now in
    let none : get same_key c.args.names.now c.key_of.result ≡ None = sym (c.copied.ensures ∙ c.get.ensures.value) ∙ c.in-None.is in
    sym (ap (clashes_by (is_parameter d.it.entity)) none) ∙ known d c.key_of.result c.key_of.ensures

pub returns-then-other : goal.returns-then-other
returns-then-other c before known =
    let d = found_view c.args.d.now in
    let some : get same_key c.args.names.now c.key_of.result ≡ Some true = sym (c.copied.ensures ∙ c.get.ensures.value) ∙ (c.in-Some.is ∙ ap (λ b. Some b) c.if-other.true) in
    c.if-other.true ∙ (sym (ap (clashes_by (is_parameter d.it.entity)) some) ∙ known d c.key_of.result c.key_of.ensures)

pub returns-else-other : goal.returns-else-other
returns-else-other c before known =
    let d = found_view c.args.d.now in
    let some : get same_key c.args.names.now c.key_of.result ≡ Some false = sym (c.copied.ensures ∙ c.get.ensures.value) ∙ (c.in-Some.is ∙ ap (λ b. Some b) c.if-other.false) in
    ap not c.is_parameter.ensures ∙ (sym (ap (clashes_by (is_parameter d.it.entity)) some) ∙ known d c.key_of.result c.key_of.ensures)
