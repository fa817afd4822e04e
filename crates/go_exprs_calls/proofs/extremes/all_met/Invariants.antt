use Rattle.std.proofs.Common.{◌≡◌, length, drop}
use Rattle.std.specs.Prelude.{IfSome}
use Rattle.std.specs.Option.{option_map}
use Rattle.go_types.specs.Tables.{rights_of}
use Rattle.go_exprs_rules.specs.Calls.{all_met}
use Rattle.go_exprs_rules.specs.Seen.{common_seen, KnownJoint}
use Rattle.go_exprs_calls.specs.Shown.{shown, AllShownKnown}
use Rattle.go_exprs_calls.proofs.extremes.all_met.Given as goal

abbrev pub invariant-loop-node : goal.invariant-loop-node
invariant-loop-node l = record {
  known : AllShownKnown (length l.types.shapes) (drop l.node-index l.nodes);
  joint : IfSome l.joint (KnownJoint (length l.types.shapes));
  same : all_met (rights_of l.types) (option_map (common_seen l.types) l.joint) (shown l.types (drop l.node-index l.nodes)) ≡ all_met (rights_of l.types) (option_map (common_seen l.types) l.fn.first) (shown l.types l.nodes);
}
