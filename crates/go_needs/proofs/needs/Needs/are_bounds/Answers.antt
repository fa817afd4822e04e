use Rattle.std.proofs.Common.{rules, ◌≡◌, map, true}
use Rattle.std.specs.HashMap as hash
use Rattle.go_needs.specs.Bounds.{level_under, are_bounded}
use Rattle.go_needs.specs.Levels.{KnowsNearest}
use Rattle.go_scopes_cycles.specs.Ranks.{same_place}
use Rattle.go_needs.proofs.Bounded.{bounded}
use Rattle.go_needs.proofs.needs.Needs.are_bounds.Goals as goal

pub returns : goal.returns
returns c b p ds t =
    let self = c.args.self.now in
    let m = c.in_ok-nearest.nearest in
    let top = c.args.top in
    let ranks = c.args.ranks.now in
    let bounds = c.args.bounds.now in
    let knows : KnowsNearest m (map (level_under top) bounds) self.calls.items = search rules in
    let test : are_bounded (hash.get same_place m) top ranks bounds 0 self.owners.items ≡ true = search rules in
    bounded self m p ds top ranks bounds knows test t
