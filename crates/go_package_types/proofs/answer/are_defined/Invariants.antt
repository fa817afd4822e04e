use Rattle.std.proofs.Common.{drop}
use Rattle.go_package_types.specs.Answers.{HaveRights}
use Rattle.go_package_types.proofs.answer.are_defined.Given as goal

abbrev pub invariant-loop-number : goal.invariant-loop-number
invariant-loop-number l = HaveRights (drop l.number l.objects) (drop l.number l.all) → HaveRights l.objects l.all
