use Rattle.std.proofs.Common.{◌≡◌, ◌<◌, drop}
use Rattle.go_meaning.specs.Operations.{picked}
use Rattle.go_meaning.specs.Values.{nth}
use Rattle.go_values.specs.Views.{views}
use Rattle.go_eval_operations.proofs.picks.picked.Given as goal

abbrev pub invariant-loop-place : goal.invariant-loop-place
invariant-loop-place l = record {
  rest : picked l.comparison (nth (views l.operands) l.best) (drop l.place (views l.operands)) ≡ picked l.comparison (nth (views l.operands) 0) (drop 1 (views l.operands));
  before : l.best < l.place;
}
