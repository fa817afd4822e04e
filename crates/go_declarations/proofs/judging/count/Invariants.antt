use Rattle.std.proofs.Common.{◌≡◌, ◌≤◌, ◌+◌, drop, length}
use Rattle.go_tree.specs.Views.{views}
use Rattle.go_package_defs.specs.Declarations.{trees_of}
use Rattle.go_declarations.proofs.judging.count.Given as goal

abbrev pub invariant-loop-part : goal.invariant-loop-part
invariant-loop-part l = record {
  below : l.number ≤ l.part-index;
  counted : l.number + length (trees_of (views (drop l.part-index l.parts))) ≡ length (trees_of (views l.parts));
}
