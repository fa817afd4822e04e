use Rattle.std.proofs.Common.{◌≡◌, drop, length}
use Rattle.go_meaning.specs.Operations.{placed}
use Rattle.go_values.specs.Views.{views}
use Rattle.go_eval_operations.proofs.builds.placed.Given as goal

abbrev pub invariant-loop-i : goal.invariant-loop-i
invariant-loop-i l = record {
  rest : placed (drop l.i l.places) (views (drop l.i l.others.items)) (views l.values.items) ≡ placed l.places (views l.fn.others.items) (views l.fn.values.items);
  same : length l.others.items ≡ length l.fn.others.items;
}
