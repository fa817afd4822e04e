use Rattle.std.proofs.Common.{◌≡◌, ◌∙◌, ap, subst}
use Rattle.std.proofs.lemmas.Result.{IfOk-weaker}
use Rattle.go_base.specs.Gives.{Unless}
use Rattle.go_scopes.specs.Views.{failure_of}
use Rattle.go_package_defs.specs.Checked.{IsReported}
use Rattle.go_package_defs.specs.Refusals.{check_refusal}
use Rattle.clone_replies.specs.ReplyContents.{run_in}
use Rattle.clone_session.specs.Answers.{fault_line, good, faulty}
use Rattle.clone_session.proofs.run_answers.ran.Goals as goal

pub returns-in-Ok-clause-reply : goal.returns-in-Ok-clause-reply
returns-in-Ok-clause-reply g c =
    let it = c.in-Ok.ensures.answer in
    IfOk-weaker c.reply_to.result _ _ (λ reply h. good it.good.0 it.good.1 h) (c.reply_to.ensures (run_in it.good.0 c.args.input.now c.args.turns) (it.run it.good.0 it.good.1))

pub returns-in-Err-Fault-clause-reply : goal.returns-in-Err-Fault-clause-reply
returns-in-Err-Fault-clause-reply g c =
    let f = c.in-Err-Fault.fault in
    let texts : c.run_present.new.self.texts ≡ c.args.session.now.texts = ap (λ s. s.texts) c.run_present.ensures.kept in
    let reported : IsReported c.args.session.now.texts (failure_of f) =
    subst (λ e. Unless (check_refusal e) (λ fault. IsReported c.args.session.now.texts (failure_of fault))) c.in-Err-Fault.field-0-is c.in-Err-Fault.ensures.answer in
    IfOk-weaker c.fault_line.result _ _ (λ reply h. faulty f reported (h ∙ ap (λ ts. fault_line ts f) texts)) c.fault_line.ensures
