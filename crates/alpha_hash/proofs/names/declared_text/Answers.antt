use Rattle.std.proofs.Common.{◌≡◌, ◌∙◌, ◌<◌, ◌≤◌, List, true, false, length, ap, sym, subst}
use Rattle.std.specs.Prelude.{Some, slice_get}
use Rattle.go_tree.specs.declared.object.Declared.{Declared}
use Rattle.alpha_hash.proofs.Declared.{declared-at, declared-end, declared-nowhere, shows}
use Rattle.alpha_hash.proofs.names.declared_text.Goals as goal

pub returns-then-shown : goal.returns-then-shown
returns-then-shown c =
    let p = c.args.checked.now in
    let i = c.loop-number.number in
    let few : i < length p.uses.package_level =
    subst (λ (ds : List Declared). i < length ds) (c.package_objects-objects.ensures.objects ∙ ap (λ u. u.package_level) c.uses.ensures) c.loop-number-test.true in
    let e : shows c.args.outline (slice_get p.env.referents i) ≡ Some true = sym c.is_shown.ensures ∙ c.in-Some.is ∙ ap Some c.if-shown.true in
    c.name_at.ensures ∙ sym (declared-at p c.args.outline p.env.referents p.uses.package_level i true e few) ∙ sym c.loop-number.invariant

pub returns-in-None : goal.returns-in-None
returns-in-None c =
    let p = c.args.checked.now in
    sym (declared-nowhere p c.args.outline p.env.referents p.uses.package_level c.loop-number.number (sym c.is_shown.ensures ∙ c.in-None.is)) ∙ sym c.loop-number.invariant

pub loop-number-preserved : goal.loop-number-preserved
loop-number-preserved c =
    let p = c.args.checked.now in
    let i = c.loop-number.number in
    let few : i < length p.uses.package_level =
    subst (λ (ds : List Declared). i < length ds) (c.package_objects-objects.ensures.objects ∙ ap (λ u. u.package_level) c.uses.ensures) c.loop-number-test.true in
    let e : shows c.args.outline (slice_get p.env.referents i) ≡ Some false = sym c.is_shown.ensures ∙ c.in-Some.is ∙ ap Some c.if-shown.false in
    c.loop-number.invariant ∙ declared-at p c.args.outline p.env.referents p.uses.package_level i false e few

pub returns : goal.returns
returns c =
    let p = c.args.checked.now in
    let i = c.loop-number.number in
    let all : length p.uses.package_level ≤ i =
    subst (λ (ds : List Declared). length ds ≤ i) (c.package_objects-objects.ensures.objects ∙ ap (λ u. u.package_level) c.uses.ensures) c.loop-number-test.false in
    sym (declared-end p c.args.outline p.env.referents p.uses.package_level i all) ∙ sym c.loop-number.invariant
