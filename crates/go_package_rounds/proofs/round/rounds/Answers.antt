use Rattle.std.proofs.Common.{◌≡◌, ℕ, suc, ◌+◌, ◌<◌, ◌≤◌, List, length, map, refl, ap, sym, subst, ◌∙◌, arith}
use Rattle.go_types_relations.proofs.Public.{extends_self, extends_both}
use Rattle.go_package_defs.specs.Verdicts.{known, next_states}
use Rattle.go_package_defs.specs.Sources as sources
use Rattle.go_package_rounds.specs.Held.{all_seen, summary, AllReadAlike}
use Rattle.go_package_rounds.specs.World.{package_in, outlines_in, Shows}
use Rattle.go_package_rounds.proofs.Settled.{settles}
use Rattle.go_package_rounds.proofs.Stays.{fits_more, all_stay}
use Rattle.go_package_rounds.proofs.round.rounds.Goals as goal

pub returns-in_err-next-clause-extends : goal.returns-in_err-next-clause-extends
returns-in_err-next-clause-extends c = extends_both c.args.types.now c.loop-number.types c.round.new.types c.loop-number.invariant.0 c.round.ensures.extends

pub loop-number-preserved : goal.loop-number-preserved
loop-number-preserved c =
    let b = c.loop-number.types in
    let z = c.round.new.types in
    let w = c.args.world.now in
    let p = package_in w in
    let os = outlines_in w in
    let n = c.loop-number.number in
    let next : suc n ≡ n + 1 = omega arith in (
      extends_both c.args.types.now b z c.loop-number.invariant.0 c.round.ensures.extends,
      fits_more b z c.round.ensures.table c.round.ensures.extends w c.loop-number.invariant.1,
      c.in_ok-next.ensures.known,
      λ h. subst (λ m. Shows z w c.in_ok-next.next.items (known p os m)) next (c.in_ok-next.ensures.shows (known p os n) (subst (λ xs. Shows b w xs (known p os n)) (sym c.deref.ensures.value) (c.loop-number.invariant.3 h))),
    )

pub returns-then-all_read_alike-clause-extends : goal.returns-then-all_read_alike-clause-extends
returns-then-all_read_alike-clause-extends c = extends_both c.args.types.now c.loop-number.types c.round.new.types c.loop-number.invariant.0 c.round.ensures.extends

pub returns-then-all_read_alike-clause-shows : goal.returns-then-all_read_alike-clause-shows
returns-then-all_read_alike-clause-shows c = λ h.
    let b = c.loop-number.types in
    let z = c.round.new.types in
    let w = c.args.world.now in
    let p = package_in w in
    let os = outlines_in w in
    let n = c.loop-number.number in
    let hs = c.loop-number.all.items in
    let ks = c.in_ok-next.next.items in
    let old = c.loop-number.invariant.3 h in
    let new = c.in_ok-next.ensures.shows (known p os n) (subst (λ xs. Shows b w xs (known p os n)) (sym c.deref.ensures.value) old) in
    let test = c.loop-number-test.true in
    let most = c.in_ok-most.ensures in
    let alike : AllReadAlike hs ks = subst (λ xs. AllReadAlike xs ks) c.deref-in-loop-number.ensures.value (subst (λ ys. AllReadAlike c.deref-in-loop-number.result.now ys) c.deref-in-loop-number-2.ensures.value (c.if-all_read_alike.ensures refl)) in
    let before : all_seen z hs ≡ map summary (known p os n) = all_stay b z c.round.ensures.table c.round.ensures.extends hs c.loop-number.invariant.2 ∙ old.states in
    subst (Shows z w ks) (sym (settles z p os n (sources.rounds p) hs ks alike before new.states (let lt : n < sources.rounds p = omega (arith, test, most) in lt))) new

pub returns-clause-shows : goal.returns-clause-shows
returns-clause-shows c = λ h.
    let p = package_in c.args.world.now in
    let os = outlines_in c.args.world.now in
    let most = c.in_ok-most.ensures in
    let test = c.loop-number-test.false in
    let end = c.loop-number.auto.number-end in
    let is : c.loop-number.number ≡ sources.rounds p = omega (arith, most, test, end) in
    subst (λ m. Shows c.loop-number.types c.args.world.now c.loop-number.all.items (known p os m)) is (c.loop-number.invariant.3 h)
