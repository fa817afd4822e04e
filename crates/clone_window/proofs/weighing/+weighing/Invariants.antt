use Rattle.std.proofs.Common.{◌≡◌, ◌+◌, ◌++◌, drop}
use Rattle.go_typed.specs.Views.{views}
use Rattle.clone_window.specs.Caps.{capped}
use Rattle.clone_window.specs.Masses.{masses}
use Rattle.clone_window.specs.Weights.{row_masses, rows, weights_among}
use Rattle.clone_window.proofs.weighing.+weighing.Given as goal

-- The mass is what is summed up so far and what is left, and so are the rows.
abbrev pub invariant-weigh_parts-loop-part : goal.invariant-weigh_parts-loop-part
invariant-weigh_parts-loop-part l =
    (capped (masses l.inside (views l.parts)) ≡ capped (l.sum + masses l.inside (views (drop l.part-index l.parts))))
    × (l.sum ≡ capped l.sum)
    × (rows l.fn.table.items ++ weights_among (views l.parts) ≡ rows l.table.items ++ weights_among (views (drop l.part-index l.parts)))

abbrev pub invariant-weigh_each-loop-part : goal.invariant-weigh_each-loop-part
invariant-weigh_each-loop-part l =
    (row_masses (views l.parts) ≡ l.out.items ++ row_masses (views (drop l.part-index l.parts)))
    × (rows l.fn.table.items ++ weights_among (views l.parts) ≡ rows l.table.items ++ weights_among (views (drop l.part-index l.parts)))
