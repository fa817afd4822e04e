use Rattle.std.proofs.Common.{◌≡◌, ◌++◌, drop, map, not}
use Rattle.go_needs.proofs.blocked.failing.Given as goal

abbrev pub invariant-loop-test : goal.invariant-loop-test
invariant-loop-test l = l.fails.items ++ map not (drop l.test-index l.tests) ≡ map not l.tests
