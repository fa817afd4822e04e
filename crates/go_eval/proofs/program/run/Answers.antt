use Rattle.std.proofs.Common.{sym, ap, subst, ◌∙◌}
use Rattle.go_base.specs.Gives.{Gives}
use Rattle.go_eval.specs.Runs.{run_by, outcome_view, refusal}
use Rattle.go_eval.proofs.program.run.Goals as goal

pub returns-in-Some : goal.returns-in-Some
returns-in-Some c = subst (Gives outcome_view refusal c.run_from.result) (sym (ap (run_by c.args.checked.now c.args.input.now c.args.turns) (sym c.main_number.ensures ∙ c.in-Some.is))) c.run_from.ensures

pub returns-in-None : goal.returns-in-None
returns-in-None c = ap (run_by c.args.checked.now c.args.input.now c.args.turns) (sym c.main_number.ensures ∙ c.in-None.is)
