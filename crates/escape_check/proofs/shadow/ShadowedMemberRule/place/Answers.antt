use Rattle.std.proofs.Common.{◌∙◌, map, ap}
use Rattle.param_choose.specs.Shown.{variable_view}
use Rattle.escape_check.specs.Places.{local_text, sources_in}
use Rattle.escape_check.specs.Shown.{member_view}
use Rattle.escape_check.proofs.Shadowing.{free_told, shadow_told}
use Rattle.escape_check.proofs.shadow.ShadowedMemberRule.place.Goals as goal

pub returns : goal.returns
returns c =
    let s = sources_in c.args.checked.now in
    let m = member_view c.args.member.now in
    let e = c.extent.result in
    let vs = c.deref.result.now in
    let free = ap (map variable_view) c.deref.ensures.value ∙ c.in_ok-free.ensures ∙ free_told c.args.member.now e.first e.from e.upto c.extent.ensures.first c.extent.ensures.from c.extent.ensures.upto in
    c.first_among.ensures (map (λ v. local_text s m v.local) (map variable_view vs)) c.in_ok-texts.ensures
    ∙ shadow_told s m (map variable_view vs) c.deref-2.result.now free (c.deref-2.ensures.value ∙ c.in_ok-names.ensures)
