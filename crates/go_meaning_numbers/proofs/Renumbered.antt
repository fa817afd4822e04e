-- A package whose functions are numbered anew has the same runs.
use Rattle.std.proofs.Common.{◌≡◌, ℕ, List, [], sym, ap, ◌∙◌}
use Rattle.std.specs.Prelude.{replicate}
use Rattle.go_meaning.specs.Values.{NilFunction}
use Rattle.go_meaning.specs.Meaning.{Program, start, run}
use Rattle.go_meaning_simulation.proofs.Public.{runs_same}
use Rattle.go_meaning_numbers.specs.Moved.{world_moved}
use Rattle.go_meaning_numbers.specs.Laws.{AreNumberedAnew}
use Rattle.go_meaning_numbers.proofs.Moving.{replicate_moved}
use Rattle.go_meaning_numbers.proofs.Sides.{forward, backward, mirrored}

pub start_moved : (s : ℕ → ℕ) (P Q : Program) → Q.count ≡ P.count → (input : List ℕ) → start Q input ≡ world_moved s (start P input)
start_moved s P Q e input =
    ap (λ n. record { arrays = []; variables = replicate n NilFunction; input = input; output = [] }) e ∙ ap (λ vs. record { arrays = []; variables = vs; input = input; output = [] }) (sym (replicate_moved s P.count NilFunction))

pub renumbered_run_same : (s : ℕ → ℕ) (P Q : Program) → AreNumberedAnew s P Q → (input : List ℕ) (turns depth : ℕ) → run Q input turns depth ≡ run P input turns depth
renumbered_run_same s P Q m = runs_same (forward s) (backward s) (mirrored s) P Q m (start_moved s P Q m.count)
