use Rattle.std.proofs.Common.{◌≡◌, ◌∙◌, ap, subst}
use Rattle.std.proofs.lemmas.Result.{IfOk-weaker}
use Rattle.go_scopes.specs.Views.{failure_of}
use Rattle.go_package_defs.specs.Checked.{IsReported}
use Rattle.clone_session.specs.Answers.{fault_line}
use Rattle.clone_session.specs.Extracting.{choice_of, Extracts, faulty}
use Rattle.clone_session.proofs.extract_answers.extracted.Goals as goal

pub returns-in-Some-clause-reply : goal.returns-in-Some-clause-reply
returns-in-Some-clause-reply g c =
    let f = c.in-Some.fault in
    let texts : c.refresh.new.session.texts ≡ c.args.session.now.texts = ap (λ s. s.texts) c.refresh.ensures.kept in
    let reported = subst (λ ts. IsReported ts (failure_of f)) texts c.in-Some.ensures.reported in
    IfOk-weaker c.fault_line.result _ _ (λ reply h. faulty f reported (h ∙ ap (λ ts. fault_line ts f) texts) texts) c.fault_line.ensures

pub returns-clause-reply : goal.returns-clause-reply
returns-clause-reply g c =
    let texts : c.refresh.new.session.texts ≡ c.args.session.now.texts = ap (λ s. s.texts) c.refresh.ensures.kept in
    let bounds : c.refresh.new.session.bounds ≡ c.args.session.now.bounds = ap (λ s. s.bounds) c.refresh.ensures.kept in
    let name = c.args.name.now in
    IfOk-weaker c.taken_line.result _ _ (λ reply h.
    subst (λ b. Extracts b c.args.session.now.texts c.args.class name (choice_of c.args.choice.now) reply c.taken_line.new.session.texts) bounds
    (subst (λ ts. Extracts c.refresh.new.session.bounds ts c.args.class name (choice_of c.args.choice.now) reply c.taken_line.new.session.texts) texts
    (subst (λ choice. Extracts c.refresh.new.session.bounds c.refresh.new.session.texts c.args.class name choice reply c.taken_line.new.session.texts) c.in_ok-choice.ensures h))) c.taken_line.ensures.reply
