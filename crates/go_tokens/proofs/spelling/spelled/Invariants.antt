use Rattle.std.proofs.Common.{◌≡◌, length, map}
use Rattle.go_tokens.specs.Spellings.{spelled}
use Rattle.go_tokens.proofs.spelling.spelled.Given as goal

abbrev pub invariant-loop-table : goal.invariant-loop-table
invariant-loop-table l = spelled (map (λ k. (k.0.now, k.1)) l.table) l.word ≡ spelled (map (λ k. (k.0.now, k.1)) l.initial.table) l.word

abbrev pub decreases-loop-table : goal.decreases-loop-table
decreases-loop-table l = length l.table
