use Rattle.std.proofs.Common.{◌≡◌, ℕ, List, take, refl, sym, ap, ◌∙◌, subst, arith, Err}
use Rattle.std.proofs.lemmas.Result.{err_from_is_err_and}
use Rattle.go_values.specs.Views.{views}
use Rattle.go_eval_plans.specs.declared.exit.Exit.{Exit}
use Rattle.go_eval_machine.specs.declared.task.Iteration.{Iteration}
use Rattle.go_eval_machine.specs.declared.task.What.TheVariants as what
use Rattle.go_eval_machine.specs.Engines.{Goes, works, lays_finds}
use Rattle.go_eval_machine.proofs.Public.{goes_given, goes_spent, goes_unspent}
use Rattle.go_eval.proofs.Ranging.{items_done, item_spent, item_next}
use Rattle.go_eval.proofs.ranges.item.Goals as goal

pub returns-then-deref : goal.returns-then-deref
returns-then-deref c = λ p h.
    let x = c.args.node.now in
    let b = c.args.base in
    let g = c.args.iteration in
    let m = c.args.engine.now in
    let vs = views m.values.items in
    let next : c.deref.result.now.next ≡ g.value.next = ap (λ (i : Iteration). i.next) c.deref.ensures in
    let count : c.deref-2.result.now.count ≡ g.value.count = ap (λ (i : Iteration). i.count) c.deref-2.ensures in
    goes_given p (works p x b (what.Item g)) m c.cut.new.self (tt {0}) (take b vs) c.cut.ensures.kept c.cut.ensures.values (λ n s. items_done p n x b s vs g h.1.count (omega (arith, c.if-deref.true, next, count)))

pub returns : goal.returns
returns c = λ p h.
    let x = c.args.node.now in
    let b = c.args.base in
    let g = c.args.iteration in
    let m = c.args.engine.now in
    let vs = views m.values.items in
    let next : c.deref.result.now.next ≡ g.value.next = ap (λ (i : Iteration). i.next) c.deref.ensures in
    let count : c.deref-2.result.now.count ≡ g.value.count = ap (λ (i : Iteration). i.count) c.deref-2.ensures in
    let m2 = record c.cut.new.self { machine = c.spend.new.self } in
    let end = c.deref-3.result.now.targets in
    goes_spent p (works p x b (what.Item g)) (lays_finds p x (what.ItemTo g) end) m c.cut.new.self m2 c.lay_finds.result c.lay_finds.new.self (take b vs) c.cut.ensures.kept c.cut.ensures.values refl refl refl c.in_ok-spend.ensures
    (c.lay_finds.ensures p (h.0, (h.1, omega (arith, c.if-deref.false, next, count)))) (λ n s. item_next p n x b s vs g h.1.count (omega (arith, c.if-deref.false, next, count)) end (ap (λ (i : Iteration). i.targets) c.deref-3.ensures))

pub returns-in_err-spend : goal.returns-in_err-spend
returns-in_err-spend c = λ p h.
    let x = c.args.node.now in
    let b = c.args.base in
    let g = c.args.iteration in
    let m = c.args.engine.now in
    let vs = views m.values.items in
    let next : c.deref.result.now.next ≡ g.value.next = ap (λ (i : Iteration). i.next) c.deref.ensures in
    let count : c.deref-2.result.now.count ≡ g.value.count = ap (λ (i : Iteration). i.count) c.deref-2.ensures in
    let m2 = record c.cut.new.self { machine = c.spend.new.self } in
    let q = err_from_is_err_and c.from_residual.result c.from_residual.ensures.1 in
    rw (q.1, q.2) (subst (λ (e : Exit). Goes {X = Unit {0}} p (works p x b (what.Item g)) m (Err e) m2) (sym c.in_err-spend.ensures.0)
    (goes_unspent p (works p x b (what.Item g)) m c.cut.new.self m2 c.cut.ensures.kept refl refl c.in_err-spend.ensures.1 c.in_err-spend.ensures.2 (λ n s. item_spent p n x b s vs g h.1.count (omega (arith, c.if-deref.false, next, count)))))
