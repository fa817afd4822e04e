use Rattle.std.proofs.Common.{◌≡◌, ℕ, ◌++◌, List, map, drop}
use Rattle.param_choose.specs.Handed.{HandedHole, hole_shown}
use Rattle.param_choose.specs.declared.choice.HoleParameter.{HoleParameter}
use Rattle.escape_check.proofs.sites.push_hole_types.Given as goal

abbrev pub invariant-loop-hole : goal.invariant-loop-hole
invariant-loop-hole l =
    let types : List HoleParameter → List ℕ = λ hs. map (λ (x : HandedHole ℕ). x.type) (map hole_shown hs) in
    l.types.items ++ types (drop l.hole-index l.holes) ≡ l.fn.types.items ++ types l.holes
