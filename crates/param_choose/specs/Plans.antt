-- What is handed over, as contracts see it: parameters and results with their types.
use Rattle.std.specs.Prelude.{ℕ, ◌<◌, List, ◌++◌, map}
use Rattle.std.specs.List.{AllByRecursion}
use Rattle.go_types.specs.Tables.{Table, type_of}
use Rattle.go_types.specs.Trees.{TypeTree}
use Rattle.param_choose.specs.declared.plan.Param.{Param}
use Rattle.param_choose.specs.declared.plan.Param.TheVariants as param
use Rattle.param_choose.specs.declared.plan.PlanResult.{PlanResult}
use Rattle.param_choose.specs.declared.plan.PlanResult.TheVariants as plan_result
use Rattle.param_choose.specs.declared.plan.Plan.{Plan}
use Rattle.param_choose.specs.Locals.{Variable}
use Rattle.param_choose.specs.Choosing.{HoleParameter, Choice}

-- a local or a node of the template, with its type
pub data Parameter (T : Type 0) : Type 0 where
  free : ℕ → T → Parameter T
  hole : ℕ → T → Parameter T

-- a local of the template, with its type
pub data Result (T : Type 0) : Type 0 where
  assigned : ℕ → T → Result T
  declared : ℕ → T → Result T

pub record Planned (T : Type 0) : Type 0 where
  pub parameters : List (Parameter T)
  pub results : List (Result T)

abbrev pub free_parameter : {T : Type 0} → Variable T → Parameter T
free_parameter v = free v.local v.type

abbrev pub hole_parameter : {T : Type 0} → HoleParameter T → Parameter T
hole_parameter h = hole h.node h.type

abbrev pub assigned_result : {T : Type 0} → Variable T → Result T
assigned_result v = assigned v.local v.type

abbrev pub declared_result : {T : Type 0} → Variable T → Result T
declared_result v = declared v.local v.type

-- Parameters are the free locals and then holes; results are the assigned ones and then the declared ones.
abbrev pub planned : {T : Type 0} → Choice T → Planned T
planned c = record { parameters = map free_parameter c.free ++ map hole_parameter c.holes; results = map assigned_result c.assigned ++ map declared_result c.declared }

-- ---- what the program's plans show

abbrev pub param_view : Param → Parameter ℕ
param_view (param.Free n t) = free n t
param_view (param.Hole n t) = hole n t

abbrev pub result_view : PlanResult → Result ℕ
result_view (plan_result.Assigned n t) = assigned n t
result_view (plan_result.Declared n t) = declared n t

abbrev pub plan_view : Plan → Planned ℕ
plan_view p = record { parameters = map param_view p.params; results = map result_view p.results }

abbrev pub parameter_mapped : {T U : Type 0} → (T → U) → Parameter T → Parameter U
parameter_mapped g (free n t) = free n (g t)
parameter_mapped g (hole n t) = hole n (g t)

abbrev pub result_mapped : {T U : Type 0} → (T → U) → Result T → Result U
result_mapped g (assigned n t) = assigned n (g t)
result_mapped g (declared n t) = declared n (g t)

abbrev pub planned_mapped : {T U : Type 0} → (T → U) → Planned T → Planned U
planned_mapped g p = record { parameters = map (parameter_mapped g) p.parameters; results = map (result_mapped g) p.results }

-- in a table, with the types themselves
abbrev pub plan_seen : Table → Plan → Planned TypeTree
plan_seen t p = planned_mapped (type_of t.shapes) (plan_view p)
