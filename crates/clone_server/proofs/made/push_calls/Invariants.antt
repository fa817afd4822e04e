use Rattle.std.proofs.Common.{◌≡◌, ◌++◌}
use Rattle.clone_server.specs.Made.{call_lines}
use Rattle.clone_server.proofs.made.push_calls.Given as goal

abbrev pub invariant-loop-number : goal.invariant-loop-number
invariant-loop-number l = l.out.items ≡ l.fn.out.items ++ call_lines l.number-counter
