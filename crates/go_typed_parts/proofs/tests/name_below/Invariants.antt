use Rattle.std.proofs.Common.{◌≡◌, drop}
use Rattle.go_typed.specs.Funcs.{are_below}
use Rattle.go_typed_parts.proofs.tests.name_below.Given as goal

abbrev pub invariant-loop-token : goal.invariant-loop-token
invariant-loop-token l = are_below l.count (drop l.token-index l.tokens) ≡ are_below l.count l.tokens
