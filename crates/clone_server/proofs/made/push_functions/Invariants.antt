use Rattle.std.proofs.Common.{◌≡◌, ◌++◌, ◌*◌}
use Rattle.clone_server.specs.Made.{behind_draws, functions_text, lines_of_function}
use Rattle.clone_server.proofs.made.push_functions.Given as goal

abbrev pub invariant-loop-number : goal.invariant-loop-number
invariant-loop-number l =
    (l.out.items ≡ l.fn.out.items ++ functions_text l.number l.fn.seed)
    × (l.draws.state ≡ behind_draws (l.number * lines_of_function) l.fn.seed)
