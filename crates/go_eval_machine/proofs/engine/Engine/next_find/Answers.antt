use Rattle.std.proofs.Common.{◌≡◌, ◌+◌, ◌-◌, length, refl, ◌∙◌, arith}
use Rattle.go_typed.specs.declared.node.TypedNode.TheViews.{out-TypedNode}
use Rattle.go_values.specs.Views.{views}
use Rattle.go_eval_machine.specs.declared.task.What.TheVariants as what
use Rattle.go_eval_machine.specs.Tasks.{parts_of}
use Rattle.go_eval_machine.specs.Engines.{works, seeks_part}
use Rattle.go_eval_machine.proofs.Begins.{as_many}
use Rattle.go_eval_machine.proofs.Going.{goes_pushed, goes_given}
use Rattle.go_eval_machine.proofs.Gathering.{finds_next, finds_done, finds_over}
use Rattle.go_eval_machine.proofs.Giving.{kept_still, finds_skipped}
use Rattle.go_eval_machine.proofs.engine.Engine.next_find.Goals as goal

pub returns : goal.returns
returns c = λ p h.
    let x = c.args.node.now in
    let b = c.args.base in
    let old = c.args.self.now in
    let vs = views old.values.items in
    let k = c.args.next in
    let end = c.args.end in
    let j = c.first_sought-number.result in
    goes_pushed p (works p x b (what.Finds k end)) (seeks_part p x j) x c.lower-low.result (what.Finds (j + 1) end) old c.push.new.self c.seek_later.result c.seek_later.new.self (h, tt) c.in_ok-push.ensures (c.seek_later.ensures p h)
    (λ n s. let e : length (parts_of p n x) ≡ length (out-TypedNode x).parts.items = as_many p n (out-TypedNode x).parts.items in
    λ d f w t. finds_skipped p n x b s vs (j - k) k end j (omega (arith, c.first_sought-number.ensures.first)) (c.first_sought-number.ensures.plain p n) d f w t
    ∙ finds_next p n x b s vs j end (j + 1) c.lower-low.result (omega arith) c.lower-low.ensures (omega (arith, c.if-number-end.false)) (omega (arith, e, c.count.ensures, c.if-number-count.false)) d f w t)

pub returns-then-next-end : goal.returns-then-next-end
returns-then-next-end c = λ p h.
    let x = c.args.node.now in
    let b = c.args.base in
    let old = c.args.self.now in
    let vs = views old.values.items in
    goes_given p (works p x b (what.Finds c.args.next c.args.end)) old old (tt {0}) vs (record { tasks = refl; machine = refl; depth = refl }) refl
    (λ n s. finds_done p n x b s vs c.args.next c.args.end (omega (arith, c.if-next-end.true)))

pub returns-then-number-end : goal.returns-then-number-end
returns-then-number-end c = λ p h.
    let x = c.args.node.now in
    let b = c.args.base in
    let old = c.args.self.now in
    let vs = views old.values.items in
    let k = c.args.next in
    let end = c.args.end in
    let j = c.first_sought-number.result in
    goes_given p (works p x b (what.Finds k end)) old old (tt {0}) vs (kept_still old) refl
    (λ n s d f w t. finds_skipped p n x b s vs (j - k) k end j (omega (arith, c.first_sought-number.ensures.first)) (c.first_sought-number.ensures.plain p n) d f w t
    ∙ finds_done p n x b s vs j end (omega (arith, c.if-number-end.true)) d f w t)

pub returns-then-number-count : goal.returns-then-number-count
returns-then-number-count c = λ p h.
    let x = c.args.node.now in
    let b = c.args.base in
    let old = c.args.self.now in
    let vs = views old.values.items in
    let k = c.args.next in
    let end = c.args.end in
    let j = c.first_sought-number.result in
    goes_given p (works p x b (what.Finds k end)) old old (tt {0}) vs (kept_still old) refl
    (λ n s. let e : length (parts_of p n x) ≡ length (out-TypedNode x).parts.items = as_many p n (out-TypedNode x).parts.items in
    λ d f w t. finds_skipped p n x b s vs (j - k) k end j (omega (arith, c.first_sought-number.ensures.first)) (c.first_sought-number.ensures.plain p n) d f w t
    ∙ finds_over p n x b s vs j end (omega (arith, e, c.count.ensures, c.if-number-count.true)) d f w t)
