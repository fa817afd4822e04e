use Rattle.std.proofs.Common.{◌∙◌}
use Rattle.std.proofs.lemmas.Result.{IfOk-weaker}
use Rattle.clone_session.proofs.Told.{told}
use Rattle.clone_session.proofs.extract_answers.placed_line.Goals as goal

pub returns : goal.returns
returns g c = IfOk-weaker c.extract_reply.result _ _ (λ reply h. h ∙ told c.args.session.now.texts c.args.code c.args.member c.args.span c.name_at.result.now c.name_at.ensures) c.extract_reply.ensures
