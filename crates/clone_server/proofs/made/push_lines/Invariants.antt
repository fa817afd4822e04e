use Rattle.std.proofs.Common.{◌≡◌, ◌++◌}
use Rattle.clone_server.specs.Made.{behind_draws, drawn_lines}
use Rattle.clone_server.proofs.made.push_lines.Given as goal

abbrev pub invariant-loop : goal.invariant-loop
invariant-loop l =
    (l.out.items ≡ l.fn.out.items ++ drawn_lines l.counter l.fn.draws.state)
    × (l.draws.state ≡ behind_draws l.counter l.fn.draws.state)
