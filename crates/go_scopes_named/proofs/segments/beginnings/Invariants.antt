use Rattle.std.proofs.Common.{◌≡◌, ◌++◌, drop}
use Rattle.go_scopes_named.proofs.Changing.{froms}
use Rattle.go_scopes_named.proofs.segments.beginnings.Given as goal

abbrev pub invariant-loop-segment : goal.invariant-loop-segment
invariant-loop-segment l = l.tokens.items ++ froms (drop l.segment-index l.segments) ≡ froms l.segments
