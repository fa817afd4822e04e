use Rattle.std.proofs.Common.{rules, ◌≡◌, ◌∙◌, map, not, subst, sym, ap}
use Rattle.std.specs.HashMap as hash
use Rattle.go_package_defs.specs.Knowledge.{outlines}
use Rattle.go_needs.specs.Blocked.{passings}
use Rattle.go_scopes_cycles.specs.Ranks.{same_place}
use Rattle.go_needs.specs.Passing.{ArePassing}
use Rattle.go_needs.proofs.Passes.{passing_is}
use Rattle.go_needs.proofs.Settled.{reach_on}
use Rattle.go_needs.proofs.needs.Needs.passing_by_search.Goals as goal

pub returns : goal.returns
returns c p ds ss test t l e =
    let self = c.args.self.now in
    let m = c.in_ok-nearest.nearest in
    let fails : c.in_ok-fails.fails.items ≡ map not c.args.tests.now = search rules in
    let failing : c.in_ok-fails.fails.items ≡ map not (map test ss) = fails ∙ ap (map not) e in
    let out : c.in_ok-passings.field-0.items ≡ passings (hash.get same_place m) c.args.tests.now 0 self.owners.items = search rules in
    subst (ArePassing test (outlines p ds) ss) (sym (out ∙ ap (λ bs. passings (hash.get same_place m) bs 0 self.owners.items) e))
    (passing_is self m p ds ss test
    (reach_on m self.owners.items c.deref.result.now self.calls.items c.deref-2.result.now (map not (map test ss)) c.deref-3.result.now
    c.deref.ensures.value c.deref-2.ensures.value (c.deref-3.ensures.value ∙ failing) c.in_ok-nearest.ensures)
    t l)
