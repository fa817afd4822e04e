use Rattle.std.proofs.Common.{◌≡◌, ◌∙◌, filter, nat_eq, Some, None, sym, ap}
use Rattle.std.specs.HashSet as set
use Rattle.std.specs.List.{list_any}
use Rattle.go_typed.specs.declared.walk.LocalUse.{LocalUse}
use Rattle.param_choose.specs.Holes.{is_fixed}
use Rattle.param_choose.specs.Locals.{declared_names, has}
use Rattle.param_choose.specs.Members.{occurs_later}
use Rattle.escape_check.specs.Names.{escapes, uses_behind}
use Rattle.escape_check.specs.Places.{sources_in}
use Rattle.escape_check.specs.Shown.{member_view}
use Rattle.escape_check.proofs.Escaping.{has-filter}
use Rattle.escape_check.proofs.Refusing.{first_named, nothing_escapes}
use Rattle.escape_check.proofs.escapes.EscapesMemberRule.place.Goals as goal

pub returns-then-not-any_later : goal.returns-then-not-any_later
returns-then-not-any_later c =
    let m = member_view c.args.member.now in
    nothing_escapes (sources_in c.args.checked.now) m (
    ap (λ ns. list_any (occurs_later m) (filter (is_fixed m) ns)) (sym (c.deref.ensures.value ∙ c.in_ok-names.ensures))
    ∙ ap (list_any (occurs_later m)) (sym (c.deref-2.ensures.value ∙ c.in_ok-fixed.ensures))
    ∙ sym (c.any_later.ensures c.args.checked.now c.requires.sound)
    ∙ c.if-not-any_later.true
    )

pub returns-in-Some : goal.returns-in-Some
returns-in-Some c =
    let m = member_view c.args.member.now in
    let alike : (u : LocalUse) → set.contains nat_eq c.in_ok-fixed-2.fixed u.local ≡ escapes m u = λ u. (
    c.in_ok-fixed-2.ensures u.local
    ∙ ap (λ ns. has ns u.local) (c.deref-3.ensures.value ∙ c.in_ok-fixed.ensures ∙ ap (filter (is_fixed m)) (c.deref.ensures.value ∙ c.in_ok-names.ensures))
    ∙ has-filter (is_fixed m) (declared_names m) u.local
    ) in
    ap Some c.token_place.ensures
    ∙ first_named (sources_in c.args.checked.now) m (λ u. set.contains nat_eq c.in_ok-fixed-2.fixed u.local) (escapes m) alike (uses_behind m) (Some c.in-Some.token) (sym c.in-Some.is ∙ c.first_escape.ensures)

pub returns : goal.returns
returns c =
    let m = member_view c.args.member.now in
    let alike : (u : LocalUse) → set.contains nat_eq c.in_ok-fixed-2.fixed u.local ≡ escapes m u = λ u. (
    c.in_ok-fixed-2.ensures u.local
    ∙ ap (λ ns. has ns u.local) (c.deref-3.ensures.value ∙ c.in_ok-fixed.ensures ∙ ap (filter (is_fixed m)) (c.deref.ensures.value ∙ c.in_ok-names.ensures))
    ∙ has-filter (is_fixed m) (declared_names m) u.local
    ) in
    first_named (sources_in c.args.checked.now) m (λ u. set.contains nat_eq c.in_ok-fixed-2.fixed u.local) (escapes m) alike (uses_behind m) None (sym c.in-None.is ∙ c.first_escape.ensures)
