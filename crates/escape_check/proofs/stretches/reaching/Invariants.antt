use Rattle.std.proofs.Common.{◌≡◌, ◌++◌, drop}
use Rattle.escape_check.specs.Stretches.{reaching}
use Rattle.escape_check.proofs.stretches.reaching.Given as goal

abbrev pub invariant-loop-stretch : goal.invariant-loop-stretch
invariant-loop-stretch l = l.all.items ++ reaching l.reach (drop l.stretch-index l.stretches) ≡ reaching 0 l.stretches
