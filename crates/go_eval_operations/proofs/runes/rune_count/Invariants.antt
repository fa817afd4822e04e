use Rattle.std.proofs.Common.{◌≤◌, ◌-◌, length}
use Rattle.go_meaning.specs.Texts.{runes_of}
use Rattle.go_eval_operations.specs.Places.{IsRunePlace}
use Rattle.go_eval_operations.proofs.runes.rune_count.Given as goal

abbrev pub invariant-loop-place : goal.invariant-loop-place
invariant-loop-place l = record { begins : IsRunePlace l.bytes l.count l.place; counted : l.count ≤ length (runes_of l.bytes); fewer : l.count ≤ l.place }

abbrev pub decreases-loop-place : goal.decreases-loop-place
decreases-loop-place l = length l.bytes - l.place
