use Rattle.std.proofs.Common.{◌≡◌, ◌∙◌, sym, Some, arith}
use Rattle.go_scopes.specs.Used.{used_spot}
use Rattle.go_scopes_lookup.specs.Views.{asked_view}
use Rattle.go_scopes.proofs.UsedSpots.{uses-some}
use Rattle.go_scopes.proofs.unused.note_use.Goals as goal

pub returns-in_ok-insert : goal.returns-in_ok-insert
returns-in_ok-insert c d =
    let told : used_spot (asked_view c.args.a.now) ≡ Some c.in-Some.spot = sym c.used_spot.ensures ∙ c.in-Some.is in
    grind (arith, c.in_ok-insert.ensures.updates.0 (d.file, d.it.name), uses-some (asked_view c.args.a.now) d c.in-Some.spot told)
