use Rattle.std.proofs.Common.{Ok, Err, refl, ap}
use Rattle.go_base.specs.Gives.{◌>>=◌}
use Rattle.go_exprs.specs.Expressions.{failure_named}
use Rattle.go_package_defs.specs.Answer.{package_answer}
use Rattle.go_package.specs.Checks.{sources_in, declared}
use Rattle.go_package.proofs.Following.{fails_behind}
use Rattle.go_package.proofs.phases.check_declarations.Goals as goal

pub returns-in-Ok-clause-exact : goal.returns-in-Ok-clause-exact
returns-in-Ok-clause-exact c = ap (λ r. r >>= λ e. Ok (c.args.uses, e)) c.in-Ok.ensures.exact

pub returns-in-Err-clause-exact : goal.returns-in-Err-clause-exact
returns-in-Err-clause-exact c =
    fails_behind declared (package_answer (sources_in c.args.files.now) c.args.uses) (λ e. Ok (c.args.uses, e)) (failure_named c.in-Err.error) c.of_declarations.result (Err c.of_declarations.result) c.in-Err.ensures.exact
    c.of_declarations.ensures refl
