use Rattle.std.proofs.Common.{◌≡◌, ℕ, ◌++◌, List, map, drop}
use Rattle.param_choose.specs.Handed.{HandedHole, hole_shown}
use Rattle.param_choose.specs.declared.choice.HoleParameter.{HoleParameter}
use Rattle.escape_check.proofs.sites.numbers_of.Given as goal

abbrev pub invariant-loop-hole : goal.invariant-loop-hole
invariant-loop-hole l =
    let numbers : List HoleParameter → List ℕ = λ hs. map (λ (x : HandedHole ℕ). x.number) (map hole_shown hs) in
    l.numbers.items ++ numbers (drop l.hole-index l.holes) ≡ numbers l.holes
