use Rattle.std.proofs.lemmas.Result.{err_from_is_err_and}
use Rattle.go_eval.proofs.Programs.{program_ran, program_left}
use Rattle.go_eval.proofs.steps.run_program.Goals as goal

pub returns : goal.returns
returns c = program_ran c.args.checked.now c.args.main c.args.engine.now.machine c.run_variables.new.engine.machine c.run_main.new.engine.machine c.run_main.result c.in_ok-run_variables.ensures c.run_main.ensures

pub returns-in_err-run_variables : goal.returns-in_err-run_variables
returns-in_err-run_variables c =
    let q = err_from_is_err_and c.from_residual.result c.from_residual.ensures.1 in
    rw (q.1, q.2) (program_left c.args.checked.now c.args.main c.in_err-run_variables.field-0.0 c.args.engine.now.machine c.run_variables.new.engine.machine c.in_err-run_variables.ensures)
