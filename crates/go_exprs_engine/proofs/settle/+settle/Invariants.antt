use Rattle.std.proofs.Common.{◌≡◌, length, map, take}
use Rattle.std.specs.Option.{option_map}
use Rattle.go_types.specs.Tables.{type_of}
use Rattle.go_typed.specs.Views.{seen, AllKnown, view}
use Rattle.go_exprs_rules.specs.Settling.{settled}
use Rattle.go_typed.specs.Funcs.{size}
use Rattle.go_exprs_engine.proofs.settle.+settle.Given as goal

abbrev pub invariant-loop-part : goal.invariant-loop-part
invariant-loop-part l = record {
  unvisited : goal.unvisited-loop-part l;
  known : AllKnown (length l.types.shapes) l.part-items;
  parts : map (option_map (seen l.types)) (take l.part-index l.part-items) ≡ map (option_map (settled (type_of l.types.shapes l.of))) (map (option_map (seen l.types)) (take l.part-index l.initial.part-items));
}

abbrev pub decreases-settle : goal.decreases-settle
decreases-settle l = size (view l.node.now)
