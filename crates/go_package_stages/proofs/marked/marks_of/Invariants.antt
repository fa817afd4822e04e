use Rattle.std.proofs.Common.{◌≡◌, ◌++◌, drop}
use Rattle.go_package_stages.specs.Marked.{marks_from}
use Rattle.go_package_stages.proofs.marked.marks_of.Given as goal

abbrev pub invariant-loop-number : goal.invariant-loop-number
invariant-loop-number l = l.marks.items ++ marks_from l.stands l.reaches l.number (drop l.number l.bounds) ≡ marks_from l.stands l.reaches 0 l.bounds
