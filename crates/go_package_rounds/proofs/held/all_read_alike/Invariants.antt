use Rattle.std.proofs.Common.{◌≡◌, length, drop}
use Rattle.go_package_rounds.specs.Held.{AllReadAlike}
use Rattle.go_package_rounds.proofs.held.all_read_alike.Given as goal

abbrev pub invariant-loop-number : goal.invariant-loop-number
invariant-loop-number l = AllReadAlike (drop l.number l.old) (drop l.number l.new) → AllReadAlike l.old l.new
