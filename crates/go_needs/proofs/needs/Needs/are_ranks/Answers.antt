use Rattle.std.proofs.Common.{rules, ◌≡◌, ◌∙◌, map, true, ap, sym, subst}
use Rattle.std.specs.HashMap as hash
use Rattle.go_needs.specs.Bounds.{level_under, are_bounded}
use Rattle.go_needs.specs.Levels.{KnowsNearest}
use Rattle.go_scopes_cycles.specs.Ranks.{same_place}
use Rattle.go_needs.specs.Ranks.{own_bound, are_ranked}
use Rattle.go_needs.proofs.Ranking.{are_ranks}
use Rattle.go_needs.proofs.needs.Needs.are_ranks.Goals as goal

pub returns : goal.returns
returns c b p ds t =
    let self = c.args.self.now in
    let m = c.in_ok-nearest.nearest in
    let top = c.args.top in
    let own = c.args.own.now in
    let all = c.in_ok-bounds.bounds.items in
    let bounds : all ≡ map own_bound own = search rules in
    let nearest : KnowsNearest m (map (level_under top) all) self.calls.items = search rules in
    let test : are_bounded (hash.get same_place m) top own all 0 self.owners.items ≡ true = search rules in
    let ranked : are_ranked (hash.get same_place m) top c.args.ranks.now 0 self.groups.items ≡ true = search rules in
    are_ranks self m p ds top c.args.ranks.now own (subst (λ bs. KnowsNearest m (map (level_under top) bs) self.calls.items) bounds nearest)
    (sym (ap (λ bs. are_bounded (hash.get same_place m) top own bs 0 self.owners.items) bounds) ∙ test) ranked t
