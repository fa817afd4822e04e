use Rattle.std.proofs.Common.{◌≡◌, drop}
use Rattle.go_needs.specs.Ranks.{all_from}
use Rattle.go_needs.proofs.ranked.all_from.Given as goal

abbrev pub invariant-loop-number : goal.invariant-loop-number
invariant-loop-number l = all_from l.rank l.ranks (drop l.number-index l.numbers) ≡ all_from l.rank l.ranks l.numbers
