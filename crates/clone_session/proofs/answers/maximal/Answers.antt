use Rattle.std.proofs.Common.{◌≡◌, ◌∙◌, ap, subst}
use Rattle.std.proofs.lemmas.Result.{IfOk-weaker}
use Rattle.go_scopes.specs.Views.{failure_of}
use Rattle.go_package_defs.specs.Checked.{IsChecked, IsReported}
use Rattle.clone_replies.specs.Maximal.{maximal_reply}
use Rattle.clone_session.specs.Answers.{fault_line, good, faulty}
use Rattle.clone_session.proofs.answers.maximal.Goals as goal

pub returns-in-Some-clause-reply : goal.returns-in-Some-clause-reply
returns-in-Some-clause-reply g c =
    let f = c.in-Some.fault in
    let texts : c.refresh.new.session.texts ≡ c.args.session.now.texts = ap (λ s. s.texts) c.refresh.ensures.kept in
    let reported = subst (λ ts. IsReported ts (failure_of f)) texts c.in-Some.ensures.reported in
    IfOk-weaker c.fault_line.result _ _ (λ reply h. faulty f reported (h ∙ ap (λ ts. fault_line ts f) texts)) c.fault_line.ensures

pub returns-in-None-clause-reply : goal.returns-in-None-clause-reply
returns-in-None-clause-reply g c =
    let texts : c.refresh.new.session.texts ≡ c.args.session.now.texts = ap (λ s. s.texts) c.refresh.ensures.kept in
    let bounds : c.refresh.new.session.bounds ≡ c.args.session.now.bounds = ap (λ s. s.bounds) c.refresh.ensures.kept in
    let whole = c.in-None.ensures.good in
    let checked = subst (λ ts. IsChecked ts whole.0) texts whole.1 in
    IfOk-weaker c.report.result _ _ (λ reply h. good whole.0 checked (h whole.0 whole.1 ∙ ap (λ b. maximal_reply b whole.0) bounds)) c.report.ensures
