use Rattle.go_tree.specs.Declarations.{declarations}
use Rattle.go_tree.specs.Needs.{cycles}
use Rattle.go_heads.specs.Functions.{function_alone}
use Rattle.go_heads.specs.Objects.{units_of}
use Rattle.std.specs.Prelude.{length, ◌+◌}
use Rattle.go_scopes_bodies.specs.Faults.{all_asked, outer_in, own_cycles, shared}
use Rattle.go_scopes_bodies.proofs.Cycles.{cycles_by_functions}
use Rattle.go_scopes_bodies.proofs.Each.{by_functions}
use Rattle.go_scopes_bodies.proofs.laws.cycles_are_judged_by_functions.Goals as goal

pub returns : goal.returns
returns c =
    λ fs h g.
    let ds = declarations (units_of fs) in
    let rounds = length ds + length ds in
    by_functions fs (λ n f. own_cycles (function_alone f) (outer_in fs n)) (cycles (all_asked fs) rounds (shared ds)) (cycles (all_asked fs) rounds ds) (cycles_by_functions c.declarations_bound_rounds.ensures fs h g)
