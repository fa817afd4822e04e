use Rattle.std.proofs.Common.{◌≡◌, ◌++◌, drop}
use Rattle.go_needs.specs.Groups.{numbers_in}
use Rattle.go_needs.proofs.groups.numbers_in.Given as goal

abbrev pub invariant-loop-token : goal.invariant-loop-token
invariant-loop-token l = l.numbers.items ++ numbers_in l.uses l.file (drop l.token-index l.tokens) ≡ numbers_in l.uses l.file l.tokens
