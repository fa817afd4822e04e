use Rattle.std.proofs.Common.{◌≡◌, ℕ, ◌++◌, List, map, drop}
use Rattle.param_choose.specs.Locals.{Variable}
use Rattle.param_choose.specs.Shown.{variable_view}
use Rattle.param_choose.specs.declared.variables.Variable.{Variable as Found}
use Rattle.escape_check.proofs.sites.locals_of_variables.Given as goal

abbrev pub invariant-loop-variable : goal.invariant-loop-variable
invariant-loop-variable l =
    let numbers : List Found → List ℕ = λ vs. map (λ (x : Variable ℕ). x.local) (map variable_view vs) in
    l.locals.items ++ numbers (drop l.variable-index l.variables) ≡ numbers l.variables
