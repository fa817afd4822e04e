use Rattle.std.proofs.Common.{map, sym, ◌∙◌}
use Rattle.std.specs.Option.{option_map}
use Rattle.go_typed.specs.Views.{seen, sort_seen}
use Rattle.go_exprs_rules.specs.Hints.{hint_seen}
use Rattle.go_exprs_rules.specs.Tables.{placing}
use Rattle.go_exprs_types.specs.Naming.{names}
use Rattle.go_exprs_engine.proofs.OverParts.{refused, taken}
use Rattle.go_exprs_engine.proofs.survey_nodes.finish.Goals as goal

pub returns-in_ok-lost-in-Some-clause-tree : goal.returns-in_ok-lost-in-Some-clause-tree
returns-in_ok-lost-in-Some-clause-tree c =
    let t = c.args.types.now in
    let s = names t c.args.scope.now in
    let h = hint_seen t c.args.hint in
    let i = c.args.place.first in
    let j = c.args.place.last in
    let x = sort_seen t c.args.sort in
    let ys = map (option_map (seen t)) c.args.parts.items in
    c.in_ok-lost-in-Some.ensures.tree ∙ refused s c.args.kind h i j ys x (placing s c.args.kind h i j x) c.in-Some.fault (sym c.in-Some.is ∙ c.misplaced.ensures)

pub returns-in_ok-fitted-in-None-clause-tree : goal.returns-in_ok-fitted-in-None-clause-tree
returns-in_ok-fitted-in-None-clause-tree c =
    let t = c.args.types.now in
    let s = names t c.args.scope.now in
    let h = hint_seen t c.args.hint in
    let i = c.args.place.first in
    let j = c.args.place.last in
    let x = sort_seen t c.args.sort in
    let ys = map (option_map (seen t)) c.args.parts.items in
    c.in_ok-fitted-in-None.ensures.tree ∙ taken s c.args.kind h i j ys x (placing s c.args.kind h i j x) (sym c.in-None.is ∙ c.misplaced.ensures)
