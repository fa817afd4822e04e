use Rattle.std.proofs.Common.{◌≡◌, ◌∙◌, None, ap, map, sym}
use Rattle.std.specs.Option.{option_map}
use Rattle.go_typed.specs.Funcs.{tree_of}
use Rattle.param_choose.specs.Choosing.{choice}
use Rattle.param_choose.specs.Members.{member_over, members_in}
use Rattle.param_choose.specs.Shown.{array_in}
use Rattle.escape_check.specs.Shown.{member_view, refused_view, unnumbered}
use Rattle.std.proofs.lemmas.Result.{IfOk-weaker}
use Rattle.escape_check.proofs.KnownTypes.{handed_known}
use Rattle.escape_check.proofs.Whole.{early, found_early, found_late}
use Rattle.escape_check.proofs.refusal.first_of.Goals as goal

pub returns-in-Some : goal.returns-in-Some
returns-in-Some c =
    let p = c.args.checked.now in
    let f = c.args.func.now in
    let ms = members_in p c.args.windows.now in
    let t = member_over p.uses c.args.template.now f.locals f.tokens (tree_of f) in
    found_early p c.args.name.now ms t (map member_view c.deref-2.result.now) (refused_view c.in-Some.refused)
    (ap (map member_view) c.deref-2.ensures.value ∙ c.in_ok-members.ensures.members)
    (sym (ap (option_map refused_view) c.in-Some.is) ∙ c.in_ok-refused.ensures)

pub site_refusal-requires-clause-types : goal.site_refusal-requires-clause-types
site_refusal-requires-clause-types c =
    let p = c.args.checked.now in
    handed_known p c.types.ensures.stands c.args.template.now c.args.func.now c.requires.function (members_in p c.args.windows.now) _ c.in_ok-choice.ensures

pub returns : goal.returns
returns c =
    let p = c.args.checked.now in
    let f = c.args.func.now in
    let ms = members_in p c.args.windows.now in
    let t = member_over p.uses c.args.template.now f.locals f.tokens (tree_of f) in
    let es : map member_view c.deref-4.result.now ≡ map unnumbered ms = ap (map member_view) c.deref-4.ensures.value ∙ c.in_ok-members.ensures.members in
    let none : None ≡ early p c.args.name.now (map member_view c.deref-4.result.now) =
    sym (ap (option_map refused_view) c.in_default.is)
    ∙ c.in_ok-refused.ensures
    ∙ ap (λ xs. early p c.args.name.now (map member_view xs)) (c.deref-2.ensures.value ∙ sym c.deref-4.ensures.value) in
    IfOk-weaker c.site_refusal.result _ _
    (λ r k. found_late p c.args.name.now ms t (map member_view c.deref-4.result.now) (member_view c.member_of-template.result) (option_map refused_view r) es c.member_of-template.ensures.shown none k)
    (c.site_refusal.ensures (choice (array_in p.types) ms t) c.in_ok-choice.ensures)
