use Rattle.std.proofs.Common.{length, ◌≡◌, ◌-◌, ◌≤◌}
use Rattle.go_tokens.specs.Progress.{state}
use Rattle.go_tokens.proofs.SoFar.{SoFar}
use Rattle.go_tokens.proofs.lexer.lex_text.Given as goal

abbrev pub invariant-loop-index : goal.invariant-loop-index
invariant-loop-index l = record { within : l.index ≤ length l.text; so_far : SoFar l.file l.text l.index l.at (state l.lexer); file : l.lexer.file ≡ l.file }

abbrev pub decreases-loop-index : goal.decreases-loop-index
decreases-loop-index l = length l.text - l.index
