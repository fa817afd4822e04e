use Rattle.std.proofs.Common.{◌∙◌, ◌<◌, ◌||◌, ℕ, Bool, List, filter, length, map, sym, ap, subst}
use Rattle.std.specs.List.{AllByRecursion, list_any}
use Rattle.param_choose.specs.Members.{occurs_later}
use Rattle.param_choose.specs.Shown.{holes_view}
use Rattle.escape_check.specs.Collecting.{names_of_types}
use Rattle.escape_check.specs.Places.{local_text, sources_in}
use Rattle.escape_check.specs.Shown.{member_view}
use Rattle.escape_check.specs.Texts.{AreTexts}
use Rattle.escape_check.specs.Types.{TypeName, is_hidden, local_types, needed_truths}
use Rattle.escape_check.specs.Written.{type_name_view}
use Rattle.escape_check.proofs.AtSites.{hidden_told, if_told}
use Rattle.escape_check.proofs.KnownTypes.{site_known}
use Rattle.escape_check.proofs.site.HiddenAtSite.hides.Goals as goal

pub hides_any-requires-clause-below : goal.hides_any-requires-clause-below
hides_any-requires-clause-below c =
    let p = c.args.checked.now in
    subst (λ (ts : List ℕ). AllByRecursion (λ t. t < length p.types.shapes) ts) (sym (c.deref-4.ensures.value ∙ c.in_ok-types.ensures))
    (site_known p c.types.ensures.stands c.args.member.now c.requires.sound c.deref-3.result.now)

pub returns-then-branch : goal.returns-then-branch
returns-then-branch c =
    let p = c.args.checked.now in
    let s = sources_in p in
    let m = member_view c.args.member.now in
    let d = c.args.self.now.declared in
    let ks = c.args.self.now.holes.now in
    let later = c.in_ok-later.later.items in
    let hidden : TypeName → Bool = is_hidden s m later in
    let told = hidden_told p d ks m c.in_ok-results.results.items later c.in_ok-types.types.items
    (c.in_ok-results.ensures c.requires.knows.places)
    (c.in_ok-later.ensures p c.requires.sound ∙ ap (filter (occurs_later m)) c.deref.ensures.value)
    (c.in_ok-types.ensures ∙ ap (local_types m) c.deref-3.ensures.value) in
    let texts : AreTexts c.in_ok-texts.texts (map (local_text s m) later) = subst (λ (ns : List ℕ). AreTexts c.in_ok-texts.texts (map (local_text s m) ns)) c.deref-2.ensures.value c.in_ok-texts.ensures in
    let named = sym (c.in_ok-hides_any.ensures later texts ∙ ap (λ ts. list_any hidden (names_of_types p ts)) c.deref-4.ensures.value) in
    sym (ap (λ b. b || list_any hidden (needed_truths ks m)) (named ∙ c.if-branch.true)) ∙ told

pub returns : goal.returns
returns c =
    let p = c.args.checked.now in
    let s = sources_in p in
    let m = member_view c.args.member.now in
    let d = c.args.self.now.declared in
    let ks = c.args.self.now.holes.now in
    let later = c.in_ok-later.later.items in
    let hidden : TypeName → Bool = is_hidden s m later in
    let told = hidden_told p d ks m c.in_ok-results.results.items later c.in_ok-types.types.items
    (c.in_ok-results.ensures c.requires.knows.places)
    (c.in_ok-later.ensures p c.requires.sound ∙ ap (filter (occurs_later m)) c.deref.ensures.value)
    (c.in_ok-types.ensures ∙ ap (local_types m) c.deref-3.ensures.value) in
    let texts : AreTexts c.in_ok-texts.texts (map (local_text s m) later) = subst (λ (ns : List ℕ). AreTexts c.in_ok-texts.texts (map (local_text s m) ns)) c.deref-2.ensures.value c.in_ok-texts.ensures in
    let named = sym (c.in_ok-hides_any.ensures later texts ∙ ap (λ ts. list_any hidden (names_of_types p ts)) c.deref-4.ensures.value) in
    if_told _ _
    (λ b k. k
    ∙ ap (λ xs. list_any hidden (map type_name_view xs)) c.deref-6.ensures.value
    ∙ c.in_ok-truths.ensures m hidden (ap holes_view c.deref-5.ensures.value ∙ c.in_ok-holes_of.ensures)
    ∙ sym (ap (λ b. b || list_any hidden (needed_truths ks m)) (named ∙ c.if-branch.false))
    ∙ told)
    c.any_hidden.result (c.any_hidden.ensures later texts)
