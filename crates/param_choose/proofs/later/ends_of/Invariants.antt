use Rattle.std.proofs.Common.{◌≡◌, drop}
use Rattle.param_choose.specs.Ends.{ends_by, ends_of}
use Rattle.param_choose.proofs.later.ends_of.Given as goal

abbrev pub invariant-loop-token : goal.invariant-loop-token
invariant-loop-token l = ends_of l.func ≡ ends_by l.ends.items l.token (drop l.token l.tokens)
