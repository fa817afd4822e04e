use Rattle.std.proofs.Common.{◌≡◌, ◌∙◌, ap, subst}
use Rattle.std.proofs.lemmas.Result.{IfOk-weaker}
use Rattle.go_base.specs.Gives.{Unless}
use Rattle.go_package_defs.specs.Checked.{names_of}
use Rattle.escape_check.specs.Shown.{refusal_view}
use Rattle.extract_rewrite.specs.declared.error.ExtractError.{ExtractError}
use Rattle.extract_rewrite.specs.Shown.{extract_refusal, extracted_shown}
use Rattle.clone_session.specs.Extracting.{done, kept, kept_line, IsDone, IsNotDone}
use Rattle.clone_session.proofs.extract_answers.taken_line.Goals as goal

pub returns-in-Ok-clause-reply : goal.returns-in-Ok-clause-reply
returns-in-Ok-clause-reply g c =
    let s = c.args.session.now in
    let x = extracted_shown c.in-Ok.extracted in
    let is = subst (λ n. IsDone s.bounds s.texts c.args.class n c.args.choice.now x) c.bytes.ensures.value c.in-Ok.ensures.answer in
    IfOk-weaker c.done_line.result _ _ (λ reply h. done x is h c.in-Ok.ensures.texts) c.done_line.ensures

pub returns-in-Err-Refused-clause-reply : goal.returns-in-Err-Refused-clause-reply
returns-in-Err-Refused-clause-reply g c =
    let s = c.args.session.now in
    let r = refusal_view c.in-Err-Refused.refusal in
    let told : IsNotDone s.bounds s.texts c.args.class c.bytes.result.now c.args.choice.now r = subst (λ (e : ExtractError). Unless (extract_refusal e) (IsNotDone s.bounds s.texts c.args.class c.bytes.result.now c.args.choice.now)) c.in-Err-Refused.field-0-is c.in-Err-Refused.ensures.answer in
    let why = subst (λ n. IsNotDone s.bounds s.texts c.args.class n c.args.choice.now r) c.bytes.ensures.value told in
    let texts : c.extract.new.self.texts ≡ s.texts = ap (λ x. x.texts) c.in-Err-Refused.ensures.err in
    IfOk-weaker c.refused_line.result _ _ (λ reply h. kept (refusal_view c.in-Err-Refused.refusal) why (h ∙ ap (λ ts. kept_line (names_of ts) (refusal_view c.in-Err-Refused.refusal)) texts) texts) c.refused_line.ensures
