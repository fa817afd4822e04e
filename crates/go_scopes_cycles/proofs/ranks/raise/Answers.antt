use Rattle.std.proofs.Common.{◌≡◌, true, ap, arith}
use Rattle.std.specs.HashMap.{get}
use Rattle.go_scopes_cycles.specs.Ranks.{Place, same_place}
use Rattle.go_scopes_cycles.proofs.Ranked.{place_sound, raised}
use Rattle.go_scopes_cycles.proofs.ranks.raise.Goals as goal

pub returns-clause-grows : goal.returns-clause-grows
returns-clause-grows c k =
    let m = c.args.bounds.now in
    let place : Place = ((c.args.file, c.in-Some.specification), c.in-Some.part) in
    let alike : same_place place k ≡ true → get same_place m place ≡ get same_place m k = λ e. ap (get same_place m) (place_sound place k e) in
    raised (same_place place k) (get same_place m k) (get same_place c.insert.new.self k) (get same_place m place) c.max-bound.result c.args.rank (c.in_ok-insert.ensures.updates.0 k) alike (grind (arith, c.max-bound.ensures, c.bound_of.ensures))
