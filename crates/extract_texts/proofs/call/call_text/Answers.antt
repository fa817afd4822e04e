use Rattle.std.proofs.Common.{◌∙◌}
use Rattle.std.proofs.lemmas.Result.{IfOk-weaker}
use Rattle.extract_texts.proofs.Seen.{call_seen}
use Rattle.extract_texts.proofs.call.call_text.Goals as goal

pub returns : goal.returns
returns c =
    IfOk-weaker c.written_call.result _ _
    (λ text h. h ∙ call_seen c.args.checked.now c.args.name.now c.args.template.now c.args.member.now c.requires.template c.requires.member)
    c.written_call.ensures
