use Rattle.std.proofs.Common.{◌≡◌, ◌*◌, ◌+◌, [], drop, length, map}
use Rattle.std.specs.Option.{option_map}
use Rattle.go_types_relations.specs.Extends.{Grows}
use Rattle.go_tree.specs.Views.{view, views}
use Rattle.go_tree.proofs.Public.{height, heights}
use Rattle.go_typed.specs.Views.{seen, AllKnown}
use Rattle.go_exprs_rules.specs.Faults.{least, earlier, joined}
use Rattle.go_exprs_rules.specs.Hints.{hint_seen}
use Rattle.go_exprs_rules.specs.Typing.{typings, faults_of_parts}
use Rattle.go_exprs_types.specs.Naming.{names}
use Rattle.go_exprs_engine.proofs.surveying.+survey.Given as goal

-- a node's measure is twice its height and one, and that of parts twice the height of a node that has them
abbrev pub decreases-survey : goal.decreases-survey
decreases-survey l = 2 * height (view l.node.now) + 1

abbrev pub decreases-survey_parts : goal.decreases-survey_parts
decreases-survey_parts l = 2 * heights (views l.written.now)

abbrev pub invariant-survey_parts-loop-place : goal.invariant-survey_parts-loop-place
invariant-survey_parts-loop-place l =
    let s = names l.fn.types l.scope in
    let h = hint_seen l.fn.types l.hint in
    let ps = views l.written in
    let xs = map (option_map (seen l.types)) l.parts.items in
    Grows l.fn.types l.types
    × AllKnown (length l.types.shapes) l.parts.items
    × (typings s l.kind h ps xs (views (drop l.place-index l.written)) ≡ typings s l.kind h ps [] ps)
    × (earlier l.fault (least (joined (faults_of_parts s l.kind h ps xs (views (drop l.place-index l.written))))) ≡ least (joined (faults_of_parts s l.kind h ps [] ps)))
