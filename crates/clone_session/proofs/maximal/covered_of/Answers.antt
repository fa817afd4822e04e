use Rattle.std.proofs.Common.{◌∙◌, ap}
use Rattle.std.proofs.lemmas.Result.{IfOk-weaker}
use Rattle.clone_window.specs.Bodies.{bodies_of}
use Rattle.clone_report.specs.Covered.{coverage}
use Rattle.clone_replies.specs.Classes.{classes_in}
use Rattle.clone_session.proofs.maximal.covered_of.Goals as goal

pub returns : goal.returns
returns c =
    let p = c.args.checked.now in
    let law = c.reports_follow_from_the_texts.ensures in
    IfOk-weaker c.covered.result _ _ (λ n h bounds whole checked same. h
    ∙ ap (λ cs. coverage cs p.files (bodies_of p.functions) c.args.file) same
    ∙ law.covered (classes_in bounds whole) p whole c.args.file c.requires checked) c.covered.ensures
