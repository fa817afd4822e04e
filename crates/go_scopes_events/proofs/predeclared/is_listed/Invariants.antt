use Rattle.std.proofs.Common.{◌≡◌, length, map}
use Rattle.go_tokens.specs.Spellings.{listed}
use Rattle.go_scopes_events.proofs.predeclared.is_listed.Given as goal

abbrev pub invariant-loop-table : goal.invariant-loop-table
invariant-loop-table l = listed (map (λ k. k.now) l.table) l.name ≡ listed (map (λ k. k.now) l.initial.table) l.name

abbrev pub decreases-loop-table : goal.decreases-loop-table
decreases-loop-table l = length l.table
