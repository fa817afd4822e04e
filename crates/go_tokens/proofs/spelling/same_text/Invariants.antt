use Rattle.std.proofs.Common.{◌≡◌, length}
use Rattle.go_tokens.specs.Spellings.{same_text}
use Rattle.go_tokens.proofs.spelling.same_text.Given as goal

abbrev pub invariant-loop-text : goal.invariant-loop-text
invariant-loop-text l = same_text l.text l.word ≡ same_text l.initial.text l.initial.word

abbrev pub decreases-loop-text : goal.decreases-loop-text
decreases-loop-text l = length l.text
