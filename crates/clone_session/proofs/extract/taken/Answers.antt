use Rattle.std.proofs.Common.{◌≡◌, ◌∙◌, Some, map, sym, ap, subst}
use Rattle.escape_check.specs.Shown.{refusal_view}
use Rattle.clone_window.specs.Bodies.{bodies_of}
use Rattle.clone_classes.specs.declared.choose.ChooseError.{ChooseError}
use Rattle.clone_classes.specs.Choices.{chosen, place_of, IsRefused}
use Rattle.clone_classes.specs.Listing.{members_of}
use Rattle.clone_session.specs.Extracting.{member_refusal, numbered, IsKept, no_class, no_member}
use Rattle.clone_session.proofs.Taken.{AnsweredFrom, of_members}
use Rattle.clone_session.proofs.extract.taken.Goals as goal

pub returns-in-Ok-clause-answer : goal.returns-in-Ok-clause-answer
returns-in-Ok-clause-answer c =
    let p = c.args.checked.now in
    let members = c.in-Some.class.now.members in
    let name = c.args.name.now in
    let there : numbered (members_of c.args.classes.now) c.args.class ≡ Some members = sym c.in-Some.ensures in
    let by_slice = subst (λ ms. AnsweredFrom p ms c.deref.result.now name c.taken_by.result) c.as_slice-members.ensures c.taken_by.ensures.answer in
    let by_items = subst (λ ns. AnsweredFrom p members ns name c.taken_by.result) c.deref.ensures.value by_slice in
    of_members (members_of c.args.classes.now) p c.args.class name c.args.choice.now members c.in-Ok.numbers.items c.taken_by.result there c.in-Ok.ensures.chosen by_items

pub returns-in-Err-NoMember-clause-answer : goal.returns-in-Err-NoMember-clause-answer
returns-in-Err-NoMember-clause-answer c =
    let p = c.args.checked.now in
    let members = c.in-Some.class.now.members in
    let there : numbered (members_of c.args.classes.now) c.args.class ≡ Some members = sym c.in-Some.ensures in
    let places = map (place_of (bodies_of p.functions)) members in
    let none = subst (λ (e : ChooseError). IsRefused (chosen places c.args.choice.now) e) c.in-Err-NoMember.field-0-is c.in-Err-NoMember.ensures.refused in
    let told : refusal_view c.unlisted.result ≡ member_refusal c.in-Err-NoMember.number = c.unlisted.ensures ∙ ap (λ n. member_refusal n) c.in-Err-NoMember.number-is in
    subst (IsKept (members_of c.args.classes.now) p c.args.class c.args.name.now c.args.choice.now) (sym told) (no_member members c.in-Err-NoMember.number there none)

pub returns-in-None-clause-answer : goal.returns-in-None-clause-answer
returns-in-None-clause-answer c =
    subst (IsKept (members_of c.args.classes.now) c.args.checked.now c.args.class c.args.name.now c.args.choice.now) (sym c.unlisted-in-None.ensures) (no_class (sym c.in-None.ensures))
