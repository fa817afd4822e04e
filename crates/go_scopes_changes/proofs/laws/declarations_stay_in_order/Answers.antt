use Rattle.std.proofs.Common.{◌+◌, ◌≤◌, List, length, arith}
use Rattle.go_tree.specs.Declarations.{Found, declarations}
use Rattle.go_heads.specs.Objects.{units_of}
use Rattle.go_scopes_bodies.specs.Faults.{shared}
use Rattle.go_scopes_changes.proofs.Cycles.{cycles_stay, shared_fewer}
use Rattle.go_scopes_changes.proofs.laws.declarations_stay_in_order.Goals as goal

pub returns : goal.returns
returns c = λ old new h k e none.
    let ds : List Found = declarations (units_of old) in
    let es : List Found = declarations (units_of new) in
    let fewer : length (shared ds) ≤ length ds = shared_fewer ds in
    cycles_stay c.heads_tell_names.ensures old new h k e c.declarations_bound_rounds.ensures (length ds + length ds) (length es + length es) (omega (arith, fewer)) none
