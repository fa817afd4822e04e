use Rattle.std.proofs.Common.{◌≡◌, ◌<◌, ◌≤◌, ℕ, take, drop, length, sym, ap, ◌∙◌, subst, add-one, ◌⊎◌, inl, inr, arith}
use Rattle.std.proofs.lemmas.Result.{err_from_is_err_and}
use Rattle.go_meaning.specs.Doings.{stores}
use Rattle.go_values.specs.Views.{view, views}
use Rattle.go_eval_plans.specs.Machines.{outcome, IsLeft}
use Rattle.go_eval_plans.specs.Programs.{doings}
use Rattle.go_eval_machine.proofs.Storing.{stored, not_stored, all_stored}
use Rattle.go_eval_machine.proofs.store.store_all.Goals as goal

pub loop-number-preserved : goal.loop-number-preserved
loop-number-preserved c =
    let l = c.loop-number in
    let i = l.number in
    let p = c.args.checked.now in
    let xs = c.args.parts.now in
    let m = c.args.targets in
    let us = views l.left.now in
    let vs = views l.values.items in
    let us2 = views c.above-left.result.now in
    let vs1 = views c.take_at-value.new.values.items in
    let h : i < m = omega (arith, c.loop-number-test.true, c.lesser-end.ensures.first) in
    let h1 : i < length xs = omega (arith, c.loop-number-test.true, c.lesser-end.ensures.second) in
    record {
      is = λ n d. l.invariant.is n d
          ∙ (stored p n xs m i d l.machine c.store.new.machine us vs c.in_ok-count.count (view c.take_at-value.result) (views c.below.result.now) us2 vs1 (c.in_ok-count.ensures n) c.below.ensures c.take_at-value.ensures.taken h h1 c.above-left.ensures c.take_at-value.ensures.left (c.in_ok-store.ensures.is n d)
          ∙ ap (λ (j : ℕ). outcome (stores (drop j (take m (doings p n xs))) us2 (drop j vs1)) d c.store.new.machine) (sym (add-one i)));
      turns = c.in_ok-store.ensures.turns ∙ l.invariant.turns;
    }

pub returns-clause-is : goal.returns-clause-is
returns-clause-is c = λ n d.
    let l = c.loop-number in
    let p = c.args.checked.now in
    let xs = c.args.parts.now in
    let m = c.args.targets in
    l.invariant.is n d ∙ all_stored p n xs m l.number d l.machine l.machine (views l.left.now) (drop l.number (views l.values.items)) (past c.lesser-end.ensures.either)
  where
    past : (c.lesser-end.result ≡ c.args.targets) ⊎ (c.lesser-end.result ≡ length c.args.parts.now) → (c.args.targets ≤ c.loop-number.number) ⊎ (length c.args.parts.now ≤ c.loop-number.number)
    past (inl e) = inl (omega (arith, e, c.loop-number-test.false))
    past (inr e) = inr (omega (arith, e, c.loop-number-test.false))

pub returns-in_err-store-clause-is : goal.returns-in_err-store-clause-is
returns-in_err-store-clause-is c = λ n d.
    let l = c.loop-number in
    let i = l.number in
    let p = c.args.checked.now in
    let xs = c.args.parts.now in
    let m = c.args.targets in
    let us = views l.left.now in
    let vs = views l.values.items in
    let q = err_from_is_err_and c.from_residual-in_err-store.result c.from_residual-in_err-store.ensures.1 in
    let e = c.in_err-store.field-0.0 in
    let h : i < m = omega (arith, c.loop-number-test.true, c.lesser-end.ensures.first) in
    let h1 : i < length xs = omega (arith, c.loop-number-test.true, c.lesser-end.ensures.second) in
    rw (q.1, q.2) (subst (IsLeft e c.store.new.machine) (sym (l.invariant.is n d)) (not_stored p n xs m i d l.machine c.store.new.machine us vs c.in_ok-count.count (view c.take_at-value.result) (views c.below.result.now) us vs (c.in_ok-count.ensures n) c.below.ensures c.take_at-value.ensures.taken h h1 e (c.in_err-store.ensures.is n d)))
