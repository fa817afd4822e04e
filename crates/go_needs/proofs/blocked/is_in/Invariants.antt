use Rattle.std.proofs.Common.{◌≡◌, drop}
use Rattle.go_package_defs.specs.Verdicts.{is_in}
use Rattle.go_needs.proofs.blocked.is_in.Given as goal

abbrev pub invariant-loop-own : goal.invariant-loop-own
invariant-loop-own l = is_in (drop l.own-index l.numbers) l.number ≡ is_in l.numbers l.number
