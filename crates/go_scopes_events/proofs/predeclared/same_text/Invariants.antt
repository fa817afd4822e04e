use Rattle.std.proofs.Common.{◌≡◌, length}
use Rattle.go_tokens.specs.Spellings.{same_text}
use Rattle.go_scopes_events.proofs.predeclared.same_text.Given as goal

abbrev pub invariant-loop-a : goal.invariant-loop-a
invariant-loop-a l = same_text l.a l.b ≡ same_text l.initial.a l.initial.b

abbrev pub decreases-loop-a : goal.decreases-loop-a
decreases-loop-a l = length l.a
