use Rattle.std.proofs.Common.{◌≡◌, ◌+◌, drop}
use Rattle.go_typed.specs.Views.{views}
use Rattle.clone_window.specs.Masses.{masses}
use Rattle.clone_window.specs.Caps.{capped}
use Rattle.clone_window.proofs.mass.+mass.Given as goal

-- The mass is what is summed up so far and what is left.
abbrev pub invariant-masses_of-loop-part : goal.invariant-masses_of-loop-part
invariant-masses_of-loop-part l =
    (capped (masses l.inside (views l.parts)) ≡ capped (l.sum + masses l.inside (views (drop l.part-index l.parts)))) × (l.sum ≡ capped l.sum)
