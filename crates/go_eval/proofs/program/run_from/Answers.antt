use Rattle.go_eval.proofs.Programs.{ran_whole}
use Rattle.go_eval.proofs.program.run_from.Goals as goal

pub returns : goal.returns
returns c = c.outcome_of.ensures _
    (ran_whole c.args.checked.now c.args.main c.args.input.now c.args.turns c.in_ok-machine.machine c.in_ok-machine.ensures c.run_program-answer.result c.run_program-answer.new.engine.machine c.run_program-answer.ensures)
