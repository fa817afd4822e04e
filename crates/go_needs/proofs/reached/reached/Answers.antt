use Rattle.std.proofs.Common.{rules, ◌≡◌, ◌+◌, ◌≤◌, true, length}
use Rattle.std.specs.HashMap as hash
use Rattle.go_needs.specs.Levels.{are_settled, KnowsNearest}
use Rattle.go_scopes_cycles.specs.Ranks.{same_place}
use Rattle.go_needs.proofs.Settled.{reached_so}
use Rattle.go_needs.proofs.reached.reached.Goals as goal

pub returns : goal.returns
returns c p all f a t =
    let m = c.in_ok-nearest.nearest in
    let os = c.args.owners.now in
    let ls = c.in_ok-levels.levels.items in
    let r = c.saturating_add-bound.result in
    let known : KnowsNearest m ls c.args.calls.now = search rules in
    let right : are_settled (hash.get same_place m) ls c.args.fails.now r 0 os ≡ true = search rules in
    let low : r ≤ length os + length os = search rules in
    reached_so m p os all c.args.calls.now ls c.args.fails.now f r known right low a t
