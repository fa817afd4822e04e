use Rattle.std.proofs.Common.{◌≡◌, ℕ, Bool, ◌++◌, not, map, slice_get, drop}
use Rattle.param_choose.specs.Members.{declared_between}
use Rattle.param_choose.specs.Locals.{variables_where}
use Rattle.param_choose.specs.Shown.{variable_view}
use Rattle.param_choose.proofs.variables.these_free.Given as goal

abbrev pub invariant-loop-local : goal.invariant-loop-local
invariant-loop-local l =
    let outside : ℕ → Bool = λ n. not (declared_between l.extent.first l.extent.from l.extent.upto (slice_get l.declared n)) in
    map variable_view l.out.items ++ variables_where l.func.locals outside (drop l.local-index l.locals) ≡ variables_where l.func.locals outside l.locals
