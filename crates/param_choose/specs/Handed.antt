-- What is handed over, as the program holds it: of a hole that is a parameter its numbers and its type.
use Rattle.std.specs.Prelude.{ℕ, List, ◌++◌, map}
use Rattle.param_choose.specs.declared.choice.Choice.{Choice as FoundChoice}
use Rattle.param_choose.specs.declared.choice.HoleParameter.{HoleParameter as FoundParameter}
use Rattle.param_choose.specs.Choosing.{Choice, HoleParameter}
use Rattle.param_choose.specs.Locals.{Variable}
use Rattle.param_choose.specs.Plans.{Parameter, hole, Planned, free_parameter, assigned_result, declared_result}
use Rattle.param_choose.specs.Shown.{variable_view}

-- its number among the holes, and among the nodes of the function
pub record HandedHole (T : Type 0) : Type 0 where
  pub number : ℕ
  pub node : ℕ
  pub type : T

pub record Handed (T : Type 0) : Type 0 where
  pub free : List (Variable T)
  pub holes : List (HandedHole T)
  pub assigned : List (Variable T)
  pub declared : List (Variable T)

abbrev pub handed_hole : {T : Type 0} → HoleParameter T → HandedHole T
handed_hole h = record { number = h.number; node = h.node; type = h.type }

abbrev pub handed : {T : Type 0} → Choice T → Handed T
handed c = record { free = c.free; holes = map handed_hole c.holes; assigned = c.assigned; declared = c.declared }

abbrev pub handed_parameter : {T : Type 0} → HandedHole T → Parameter T
handed_parameter h = hole h.node h.type

-- the plan of what is handed over
abbrev pub planned_by : {T : Type 0} → Handed T → Planned T
planned_by c = record { parameters = map free_parameter c.free ++ map handed_parameter c.holes; results = map assigned_result c.assigned ++ map declared_result c.declared }

-- ---- what the program's own words show

abbrev pub hole_shown : FoundParameter → HandedHole ℕ
hole_shown h = record { number = h.number; node = h.node; type = h.ty }

abbrev pub choice_shown : FoundChoice → Handed ℕ
choice_shown c = record { free = map variable_view c.free.items; holes = map hole_shown c.holes.items; assigned = map variable_view c.assigned.items; declared = map variable_view c.declared.items }
