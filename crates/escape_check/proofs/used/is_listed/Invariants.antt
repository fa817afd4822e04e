use Rattle.std.proofs.Common.{◌≡◌, map, drop}
use Rattle.go_tokens.specs.Spellings.{listed}
use Rattle.escape_check.proofs.used.is_listed.Given as goal

abbrev pub invariant-loop-text : goal.invariant-loop-text
invariant-loop-text l = listed (map (λ k. k.now) l.table) l.name ≡ listed (map (λ k. k.now) (drop l.text-index l.table)) l.name
