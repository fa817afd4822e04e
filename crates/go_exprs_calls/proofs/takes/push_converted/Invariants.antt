use Rattle.std.proofs.Common.{◌≡◌, ◌++◌, length, drop, map}
use Rattle.std.specs.Prelude.{All}
use Rattle.go_types.specs.Tables.{type_of, rights_of}
use Rattle.go_typed.specs.Trees.{sort_of}
use Rattle.go_exprs_rules.specs.Calls.{conversion_take}
use Rattle.go_exprs_rules.specs.Takes.{take_seen, KnownTake}
use Rattle.go_exprs_calls.specs.Shown.{shown, AllShownKnown}
use Rattle.go_exprs_calls.proofs.takes.push_converted.Given as goal

abbrev pub invariant-loop-node : goal.invariant-loop-node
invariant-loop-node l = record {
  known : All (KnownTake (length l.types.shapes)) l.takes.items;
  left : AllShownKnown (length l.types.shapes) (drop l.node-index l.nodes);
  taken : map (take_seen l.types) l.takes.items ++ map (λ x. conversion_take (rights_of l.types) (type_of l.types.shapes l.to) (sort_of x)) (shown l.types (drop l.node-index l.nodes)) ≡ map (take_seen l.types) l.initial.takes.items ++ map (λ x. conversion_take (rights_of l.types) (type_of l.types.shapes l.to) (sort_of x)) (shown l.types l.nodes);
}
