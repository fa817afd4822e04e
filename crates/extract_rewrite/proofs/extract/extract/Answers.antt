use Rattle.std.proofs.Common.{rules, ◌≡◌, None, true, false, sym, subst}
use Rattle.edit_apply.specs.Applied.{applied}
use Rattle.extract_rewrite.specs.Reading.{Judges}
use Rattle.extract_rewrite.specs.Ready.{CanBeDone}
use Rattle.extract_rewrite.proofs.Extracting.{applicable_within, done, past}
use Rattle.extract_rewrite.proofs.extract.extract.Goals as goal

pub keeps_limits-requires-clause-edits : goal.keeps_limits-requires-clause-edits
keeps_limits-requires-clause-edits c =
    let texts = c.args.texts.now in
    let x = c.in_ok-extracted.extracted in
    let none : c.in_ok-refused.field-0 ≡ None = search rules in
    let ready : CanBeDone texts x.edits = done c.args.checked.now texts c.args.name.now c.args.members.now c.requires.texts c.edits_can_be_done.ensures c.requires.checked c.all.ensures.package
    c.in_ok-refused.field-0 x c.in_ok-refused.ensures none c.in_ok-extracted.ensures in
    subst (λ fs. CanBeDone fs c.as_slice.result.now) (sym c.all.ensures.files) (subst (CanBeDone texts) (sym c.as_slice.ensures) ready)

pub returns-then-branch-clause-ready : goal.returns-then-branch-clause-ready
returns-then-branch-clause-ready c =
    let texts = c.args.texts.now in
    let x = c.in_ok-extracted.extracted in
    let none : c.in_ok-refused.field-0 ≡ None = search rules in
    let ready : CanBeDone texts x.edits = done c.args.checked.now texts c.args.name.now c.args.members.now c.requires.texts c.edits_can_be_done.ensures c.requires.checked c.all.ensures.package
    c.in_ok-refused.field-0 x c.in_ok-refused.ensures none c.in_ok-extracted.ensures in
    let judged : Judges true (applied c.all.result.now c.as_slice.result.now) = subst (λ b. Judges b (applied c.all.result.now c.as_slice.result.now)) c.if-branch.true c.in_ok-keeps_limits.ensures in
    let within : Judges true (applied c.all.result.now x.edits) = subst (λ es. Judges true (applied c.all.result.now es)) c.as_slice.ensures judged in
    applicable_within texts x.edits ready (subst (λ fs. Judges true (applied fs x.edits)) c.all.ensures.files within)

pub returns-else-branch-clause-answer : goal.returns-else-branch-clause-answer
returns-else-branch-clause-answer c =
    let texts = c.args.texts.now in
    let x = c.in_ok-extracted.extracted in
    let none : c.in_ok-refused.field-0 ≡ None = search rules in
    let judged : Judges false (applied c.all.result.now c.as_slice.result.now) = subst (λ b. Judges b (applied c.all.result.now c.as_slice.result.now)) c.if-branch.false c.in_ok-keeps_limits.ensures in
    let beyond : Judges false (applied c.all.result.now x.edits) = subst (λ es. Judges false (applied c.all.result.now es)) c.as_slice.ensures judged in
    let passes : Judges false (applied texts x.edits) = subst (λ fs. Judges false (applied fs x.edits)) c.all.ensures.files beyond in
    past c.args.checked.now texts c.args.name.now c.args.members.now c.requires.texts c.in_ok-refused.field-0 x c.limit_refusal.result c.in_ok-refused.ensures none
    c.in_ok-extracted.ensures passes c.limit_refusal.ensures
