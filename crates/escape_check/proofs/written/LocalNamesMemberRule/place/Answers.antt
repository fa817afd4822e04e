use Rattle.std.proofs.Common.{◌≡◌, ◌∙◌, nat_eq, Some, None, sym, ap}
use Rattle.std.specs.Prelude.{◌&&◌, ◌||◌, not}
use Rattle.std.specs.HashSet as set
use Rattle.std.specs.List.{list_any}
use Rattle.go_typed.specs.declared.walk.LocalUse.{LocalUse}
use Rattle.param_choose.specs.Holes.{is_outer}
use Rattle.param_choose.specs.Members.{uses_within}
use Rattle.param_choose.specs.Shown.{holes_view}
use Rattle.escape_check.specs.Names.{hole_covers, is_free, is_in_hole, is_unwritable}
use Rattle.escape_check.specs.Places.{sources_in}
use Rattle.escape_check.specs.Shown.{member_view}
use Rattle.escape_check.proofs.Refusing.{first_named}
use Rattle.escape_check.proofs.written.LocalNamesMemberRule.place.Goals as goal

pub returns-in-Some : goal.returns-in-Some
returns-in-Some c =
    let m = member_view c.args.member.now in
    let alike : (u : LocalUse) → ((is_outer m u && not (set.contains nat_eq c.in_ok-holes.holes u.token)) || (is_free m u.local && set.contains nat_eq c.in_ok-closed.closed u.token)) ≡ is_unwritable m u = λ u. (
    ap (λ b. (is_outer m u && not b) || (is_free m u.local && set.contains nat_eq c.in_ok-closed.closed u.token)) (
    c.in_ok-holes.ensures u.token
    ∙ ap (λ hs. list_any (λ h. hole_covers h u.token) (holes_view hs)) c.deref.ensures.value
    ∙ ap (list_any (λ h. hole_covers h u.token)) c.in_ok-holes_of.ensures
    )
    ∙ ap (λ b. (is_outer m u && not (is_in_hole m u.token)) || (is_free m u.local && b)) (c.in_ok-closed.ensures u.token)
    ) in
    ap Some c.token_place.ensures
    ∙ first_named (sources_in c.args.checked.now) m (λ u. (is_outer m u && not (set.contains nat_eq c.in_ok-holes.holes u.token)) || (is_free m u.local && set.contains nat_eq c.in_ok-closed.closed u.token))
    (is_unwritable m) alike (uses_within m) (Some c.in-Some.token) (sym c.in-Some.is ∙ c.first_unwritable.ensures)

pub returns : goal.returns
returns c =
    let m = member_view c.args.member.now in
    let alike : (u : LocalUse) → ((is_outer m u && not (set.contains nat_eq c.in_ok-holes.holes u.token)) || (is_free m u.local && set.contains nat_eq c.in_ok-closed.closed u.token)) ≡ is_unwritable m u = λ u. (
    ap (λ b. (is_outer m u && not b) || (is_free m u.local && set.contains nat_eq c.in_ok-closed.closed u.token)) (
    c.in_ok-holes.ensures u.token
    ∙ ap (λ hs. list_any (λ h. hole_covers h u.token) (holes_view hs)) c.deref.ensures.value
    ∙ ap (list_any (λ h. hole_covers h u.token)) c.in_ok-holes_of.ensures
    )
    ∙ ap (λ b. (is_outer m u && not (is_in_hole m u.token)) || (is_free m u.local && b)) (c.in_ok-closed.ensures u.token)
    ) in
    first_named (sources_in c.args.checked.now) m (λ u. (is_outer m u && not (set.contains nat_eq c.in_ok-holes.holes u.token)) || (is_free m u.local && set.contains nat_eq c.in_ok-closed.closed u.token))
    (is_unwritable m) alike (uses_within m) None (sym c.in-None.is ∙ c.first_unwritable.ensures)
