use Rattle.std.proofs.Common.{◌≡◌, ◌++◌, drop}
use Rattle.go_typed.specs.Views.{views}
use Rattle.param_choose.specs.Locals.{names_declared}
use Rattle.param_choose.proofs.names.names_declared.Given as goal

abbrev pub invariant-loop-statement : goal.invariant-loop-statement
invariant-loop-statement l = names_declared (views l.statements) ≡ l.out.items ++ names_declared (views (drop l.statement-index l.statements))
