use Rattle.std.proofs.Common.{◌≡◌, ◌++◌, length, drop, map}
use Rattle.std.specs.Prelude.{All}
use Rattle.go_types.specs.Trees.{row}
use Rattle.go_types.specs.Tables.{type_of}
use Rattle.go_exprs_rules.specs.Literals.{as_optional, keyed_type, key_of}
use Rattle.go_exprs_rules.specs.Takes.{take_seen, KnownTake}
use Rattle.go_exprs_calls.specs.Shown.{shown}
use Rattle.go_exprs_calls.proofs.takes.push_keyed.Given as goal

abbrev pub invariant-loop-node : goal.invariant-loop-node
invariant-loop-node l = record {
  known : All (KnownTake (length l.types.shapes)) l.takes.items;
  taken : map (take_seen l.types) l.takes.items ++ map (λ x. as_optional (keyed_type (row (map (λ f. type_of l.types.shapes f.ty) l.fields)) (key_of x))) (shown l.types (drop l.node-index l.nodes)) ≡ map (take_seen l.types) l.initial.takes.items ++ map (λ x. as_optional (keyed_type (row (map (λ f. type_of l.types.shapes f.ty) l.fields)) (key_of x))) (shown l.types l.nodes);
}
