use Rattle.std.proofs.Common.{◌≡◌, ◌+◌, ◌≤◌, drop, length}
use Rattle.go_package_defs.specs.Declarations.{trees_of}
use Rattle.go_tree.specs.Views.{views}
use Rattle.go_needs.proofs.groups.count_values.Given as goal

abbrev pub invariant-loop-value : goal.invariant-loop-value
invariant-loop-value l = record {
  so_far : l.count + length (trees_of (views (drop l.value-index l.values))) ≡ length (trees_of (views l.values));
  low : l.count ≤ l.value-index;
}
