use Rattle.std.proofs.Common.{◌≡◌, ◌++◌, length, drop, map}
use Rattle.std.specs.Option.{option_map}
use Rattle.go_typed.specs.Views.{seen, AllKnown}
use Rattle.go_exprs_rules.specs.Tables.{present}
use Rattle.go_exprs_calls.specs.Shown.{shown, AllShownKnown}
use Rattle.go_exprs_calls.proofs.arguments.present.Given as goal

abbrev pub invariant-loop-part : goal.invariant-loop-part
invariant-loop-part l = record {
  left : AllKnown (length l.types.shapes) (drop l.part-index l.parts);
  known : AllShownKnown (length l.types.shapes) l.nodes.items;
  nodes : shown l.types l.nodes.items ++ present (map (option_map (seen l.types)) (drop l.part-index l.parts)) ≡ present (map (option_map (seen l.types)) l.parts);
}
