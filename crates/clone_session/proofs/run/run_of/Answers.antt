use Rattle.std.proofs.Common.{subst}
use Rattle.go_base.specs.Gives.{Gives}
use Rattle.go_eval.specs.Runs.{outcome_view, refusal}
use Rattle.clone_session.proofs.run.run_of.Goals as goal

pub returns : goal.returns
returns c whole checked =
    subst (Gives outcome_view refusal c.run.result) (c.runs_follow_from_the_texts.ensures.run c.args.checked.now whole c.args.input.now c.args.turns c.requires checked) c.run.ensures
