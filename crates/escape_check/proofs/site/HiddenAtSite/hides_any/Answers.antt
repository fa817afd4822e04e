use Rattle.std.proofs.Common.{◌≡◌, ◌∙◌, ℕ, Bool, false, get_or, refl, sym, ap, arith}
use Rattle.std.proofs.lemmas.List.{drop_all}
use Rattle.std.specs.Prelude.{nat_eq}
use Rattle.std.specs.HashSet as set
use Rattle.std.specs.List.{list_any}
use Rattle.escape_check.specs.Collecting.{names_of_type, names_of_types}
use Rattle.escape_check.specs.Places.{sources_in}
use Rattle.escape_check.specs.Shown.{member_view}
use Rattle.escape_check.specs.Types.{TypeName, is_hidden}
use Rattle.escape_check.proofs.AtSites.{passed_more, type_found, type_passed}
use Rattle.escape_check.proofs.site.HiddenAtSite.hides_any.Goals as goal
use Rattle.escape_check.proofs.site.HiddenAtSite.hides_any.Goals.{then-not-contains+in_ok-hides_one+else-branch+in_ok-insert, else-not-contains}

pub returns-then-branch : goal.returns-then-branch
returns-then-branch c = λ locals known.
    let p = c.args.checked.now in
    let hidden : TypeName → Bool = is_hidden (sources_in p) (member_view c.args.member.now) locals in
    let ts = c.args.types.now in
    let i = c.loop-of.of-index in
    sym ((c.loop-of.invariant locals known).1 ∙ type_found p hidden ts i (get_or ts i 0) 0 c.loop-of-test.true refl (sym (c.in_ok-hides_one.ensures locals known) ∙ c.if-branch.true))

pub loop-of-preserved : goal.loop-of-preserved
loop-of-preserved c = λ locals known.
    let p = c.args.checked.now in
    let hidden : TypeName → Bool = is_hidden (sources_in p) (member_view c.args.member.now) locals in
    let ts = c.args.types.now in
    let i = c.loop-of.of-index in
    let t = get_or ts i 0 in
    let inv = c.loop-of.invariant locals known in
    let tested : ℕ → Bool = λ t. list_any hidden (names_of_type p t) in
    elim c.if-not-contains.branch [
      | then-not-contains+in_ok-hides_one+else-branch+in_ok-insert w ↦
          let none : tested t ≡ false = sym (w.in_ok-hides_one.ensures locals known) ∙ w.if-branch.false in (
            λ q there. passed_more tested c.loop-of.passed w.insert.new.self t (λ k. w.in_ok-insert.ensures.updates.0 k) inv.0 none q (ap (λ x. set.contains nat_eq x q) (sym w.passed-is) ∙ there),
            inv.1 ∙ type_passed p hidden ts i t 0 c.loop-of-test.true refl none,
          )
      | else-not-contains w ↦ (
        λ q there. inv.0 q (ap (λ x. set.contains nat_eq x q) (sym w.passed-is) ∙ there),
        inv.1 ∙ type_passed p hidden ts i t 0 c.loop-of-test.true refl (inv.0 t (sym c.contains.ensures ∙ w.if-not-contains.false)),
      )
    ]

pub returns : goal.returns
returns c = λ locals known.
    let p = c.args.checked.now in
    let hidden : TypeName → Bool = is_hidden (sources_in p) (member_view c.args.member.now) locals in
    sym ((c.loop-of.invariant locals known).1 ∙ ap (λ ks. list_any hidden (names_of_types p ks)) (drop_all c.loop-of.of-index c.args.types.now (omega (arith, c.loop-of-test.false))))
