use Rattle.std.proofs.Common.{rules, ◌≡◌, ◌∙◌, ◌+◌, ◌≤◌, map, length, true, ap, sym}
use Rattle.std.specs.HashMap as hash
use Rattle.std.specs.Prelude.{slice_get}
use Rattle.go_needs.specs.Levels.{KnowsNearest}
use Rattle.go_scopes_cycles.specs.Ranks.{same_place}
use Rattle.go_needs.specs.Passing.{is_faulty, is_misassigned}
use Rattle.go_needs.specs.Ranks.{are_lower, shown}
use Rattle.go_needs.proofs.Ranking.{shown_blocked}
use Rattle.go_needs.proofs.needs.Needs.shown.Goals as goal

pub returns : goal.returns
returns c p ds ss n d t ranks same l at fe ae flag =
    let self = c.args.self.now in
    let m = c.in_ok-nearest.nearest in
    let ls = c.in_ok-found.found.levels.items in
    let gs = c.in_ok-found.found.grades.items in
    let rs = c.args.own.now in
    let most = c.saturating_add-bound.result in
    let os = self.owners.items in
    let knows : KnowsNearest m ls self.calls.items = search rules in
    let test : are_lower (hash.get same_place m) ls gs rs c.args.faulty.now c.args.assigning.now 0 os ≡ true = search rules in
    let lower = sym (ap (λ bs. are_lower (hash.get same_place m) ls gs rs bs c.args.assigning.now 0 os) fe ∙ ap (λ cs. are_lower (hash.get same_place m) ls gs rs (map is_faulty ss) cs 0 os) ae) ∙ test in
    let high : most ≤ length os + length os = search rules in
    let out : c.in_ok-shown.field-0.items ≡ shown (hash.get same_place m) gs most rs c.args.ranks.now 0 self.groups.items = search rules in
    shown_blocked self p ds t c.args.ranks.now rs ranks same ss l m ls gs most knows lower high n d at (sym (ap (λ v. slice_get v n) out) ∙ flag)
