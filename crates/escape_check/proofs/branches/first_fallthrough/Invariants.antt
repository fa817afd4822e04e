use Rattle.std.proofs.Common.{◌≡◌, drop}
use Rattle.go_typed.specs.Lists.{present}
use Rattle.go_typed.specs.Trees.{form_of}
use Rattle.go_typed.specs.Views.{views}
use Rattle.go_stmts_defs.specs.Ending.{is_fallthrough}
use Rattle.escape_check.specs.Firsts.{first_where}
use Rattle.escape_check.proofs.branches.first_fallthrough.Given as goal

abbrev pub invariant-loop-statement : goal.invariant-loop-statement
invariant-loop-statement l =
    first_where (λ x. is_fallthrough (form_of x)) (present (views l.statements)) ≡ first_where (λ x. is_fallthrough (form_of x)) (present (views (drop l.statement-index l.statements)))
