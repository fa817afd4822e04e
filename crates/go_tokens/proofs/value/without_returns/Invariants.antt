use Rattle.std.proofs.Common.{◌≡◌, ◌++◌, drop}
use Rattle.go_tokens.specs.Literals.{without_returns}
use Rattle.go_tokens.proofs.value.without_returns.Given as goal

abbrev pub invariant-loop-c : goal.invariant-loop-c
invariant-loop-c l = l.bytes.items ++ without_returns (drop l.c-index l.text) ≡ without_returns l.text
