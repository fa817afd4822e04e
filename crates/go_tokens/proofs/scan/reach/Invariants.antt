use Rattle.std.proofs.Common.{◌≡◌, take, Some}
use Rattle.go_tokens.specs.Pieces.{after}
use Rattle.go_tokens.proofs.scan.reach.Given as goal

abbrev pub invariant-loop-i : goal.invariant-loop-i
invariant-loop-i l = after l.fn.begin (take l.i l.text) ≡ Some l.mode
