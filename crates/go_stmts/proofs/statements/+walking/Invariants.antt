use Rattle.std.proofs.Common.{◌*◌, ◌+◌, [], drop, length, map}
use Rattle.std.specs.Option.{option_map}
use Rattle.go_types_relations.specs.Extends.{Extends}
use Rattle.go_tree.specs.Views.{view, views}
use Rattle.go_tree.proofs.Public.{height, heights}
use Rattle.go_typed.specs.Views.{seen, AllKnown}
use Rattle.go_exprs_rules.specs.Hints.{hint_seen}
use Rattle.go_stmts_defs.specs.Frames.{Frame}
use Rattle.go_stmts_defs.specs.Reading.{readings}
use Rattle.go_stmts.specs.Signatures.{results_or}
use Rattle.go_stmts.specs.State.{Shows, KnownState}
use Rattle.go_stmts.proofs.Steps.{Reaches}
use Rattle.go_stmts.proofs.statements.+walking.Given as goal

-- a node's measure is twice its height and one, and that of parts twice the height of a node that has them
abbrev pub decreases-walk : goal.decreases-walk
decreases-walk l = 2 * height (view l.node.now) + 1

abbrev pub decreases-walk_parts : goal.decreases-walk_parts
decreases-walk_parts l = 2 * heights (views l.written.now)

abbrev pub invariant-walk_parts-loop-place : goal.invariant-walk_parts-loop-place
invariant-walk_parts-loop-place l =
    let h = hint_seen l.fn.types l.hint in
    let ps = views l.written in
    let x = l.enclosing.tag.now in
    let rs = l.enclosing.results.now in record {
      extends : Extends l.fn.types l.types;
      known : KnownState l.types l.surroundings l.state l.tag (results_or l.results rs);
      parts : AllKnown (length l.types.shapes) l.parts.items;
      reads : (s : Frame) → Shows l.fn.types l.surroundings l.fn.state x rs s →
          Reaches l.types l.surroundings l.state l.tag (results_or l.results rs) l.kind h ps (map (option_map (seen l.types)) l.parts.items) (views (drop l.place-index l.written)) (readings s l.kind h ps [] [] ps);
    }
