use Rattle.std.proofs.Common.{◌≡◌, take, true}
use Rattle.go_tokens.specs.Encoding.{are_allowed}
use Rattle.go_tokens.proofs.encoding.first_refused.Given as goal

abbrev pub invariant-loop-i : goal.invariant-loop-i
invariant-loop-i l = are_allowed (take l.i l.text) ≡ true
