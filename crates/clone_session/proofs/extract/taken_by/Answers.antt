use Rattle.std.proofs.Common.{◌≡◌, ◌∙◌, subst}
use Rattle.go_base.specs.Gives.{Unless}
use Rattle.go_typed.specs.Contents.{content}
use Rattle.escape_check.specs.Shown.{refusal_view}
use Rattle.extract_rewrite.specs.declared.error.ExtractError.{ExtractError}
use Rattle.extract_rewrite.specs.Answers.{IsRefused}
use Rattle.extract_rewrite.specs.Shown.{extract_refusal}
use Rattle.clone_session.specs.Extracting.{members_by}
use Rattle.clone_session.proofs.extract.taken_by.Goals as goal

pub returns-in-Err-Refused-clause-answer : goal.returns-in-Err-Refused-clause-answer
returns-in-Err-Refused-clause-answer c =
    let p = content c.args.checked.now in
    let name = c.args.name.now in
    let r = refusal_view c.in-Err-Refused.refusal in
    let why : IsRefused p name c.deref-2.result.now r = subst (λ (e : ExtractError). Unless (extract_refusal e) (IsRefused p name c.deref-2.result.now)) c.in-Err-Refused.field-0-is c.in-Err-Refused.ensures.answer in
    let same : c.deref-2.result.now ≡ members_by c.args.members.now c.args.numbers.now = c.deref-2.ensures.value ∙ c.in_ok-windows.ensures in
    (r, subst (λ ws. IsRefused p name ws r) same why, c.refusal_by.ensures)
