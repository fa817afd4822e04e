use Rattle.std.proofs.Common.{◌≡◌, length, drop}
use Rattle.std.specs.List.{list_all}
use Rattle.go_types.specs.Tables.{rights_of}
use Rattle.go_typed.specs.Trees.{sort_of}
use Rattle.go_exprs_rules.specs.Sorts.{is_whole}
use Rattle.go_exprs_calls.specs.Shown.{shown, AllShownKnown}
use Rattle.go_exprs_calls.proofs.makes.are_whole.Given as goal

abbrev pub invariant-loop-node : goal.invariant-loop-node
invariant-loop-node l = record {
  known : AllShownKnown (length l.types.shapes) (drop l.node-index l.nodes);
  same : list_all (λ n. is_whole (rights_of l.types) (sort_of n)) (shown l.types (drop l.node-index l.nodes)) ≡ list_all (λ n. is_whole (rights_of l.types) (sort_of n)) (shown l.types l.nodes);
}
