use Rattle.std.proofs.Common.{◌≡◌, ◌+◌, length, refl, arith, Ok}
use Rattle.go_typed.specs.declared.node.TypedNode.TheViews.{out-TypedNode}
use Rattle.go_values.specs.Views.{views}
use Rattle.go_eval_machine.specs.declared.task.What.TheVariants as what
use Rattle.go_eval_machine.specs.Tasks.{parts_of}
use Rattle.go_eval_machine.specs.Engines.{works, asks_part}
use Rattle.go_eval_machine.proofs.Begins.{as_many}
use Rattle.go_eval_machine.proofs.Going.{goes_pushed, goes_given}
use Rattle.go_eval_machine.proofs.Gathering.{values_next, values_done, values_over}
use Rattle.go_eval_machine.proofs.Giving.{kept_still, goes_gave, gave_low}
use Rattle.go_eval_machine.proofs.engine.Engine.next_value.Goals as goal

pub returns : goal.returns
returns c = λ p h.
    let x = c.args.node.now in
    let low = c.lower-low.result in
    let old = c.args.self.now in
    let end = c.args.end in
    let j = c.in_ok-number.number in
    let m = c.give_parts.new.self in
    let g = c.in_ok-number.ensures in
    goes_gave p x c.args.next end j c.args.base low old m c.lower-low.ensures g c.ask_later.result c.ask_later.new.self
    (goes_pushed p (works p x low (what.Values j end)) (asks_part p x j) x low (what.Values (j + 1) end) m c.push.new.self c.ask_later.result c.ask_later.new.self (h, tt) c.in_ok-push.ensures (c.ask_later.ensures p h)
    (λ n s. let e : length (parts_of p n x) ≡ length (out-TypedNode x).parts.items = as_many p n (out-TypedNode x).parts.items in
    values_next p n x low s (views m.values.items) j end (j + 1) low (omega arith) (gave_low p x c.args.next end j c.args.base low old m c.lower-low.ensures g) (omega (arith, c.if-number-end.false)) (omega (arith, e, c.count.ensures, c.if-number-count.false))))

pub returns-then-number-end : goal.returns-then-number-end
returns-then-number-end c = λ p h.
    let x = c.args.node.now in
    let low = c.lower-low.result in
    let m = c.give_parts.new.self in
    let end = c.args.end in
    let j = c.in_ok-number.number in
    goes_gave p x c.args.next end j c.args.base low c.args.self.now m c.lower-low.ensures c.in_ok-number.ensures (Ok (tt {0})) m
    (goes_given p (works p x low (what.Values j end)) m m (tt {0}) (views m.values.items) (kept_still m) refl (λ n s. values_done p n x low s (views m.values.items) j end (omega (arith, c.if-number-end.true))))

pub returns-then-number-count : goal.returns-then-number-count
returns-then-number-count c = λ p h.
    let x = c.args.node.now in
    let low = c.lower-low.result in
    let m = c.give_parts.new.self in
    let end = c.args.end in
    let j = c.in_ok-number.number in
    goes_gave p x c.args.next end j c.args.base low c.args.self.now m c.lower-low.ensures c.in_ok-number.ensures (Ok (tt {0})) m
    (goes_given p (works p x low (what.Values j end)) m m (tt {0}) (views m.values.items) (kept_still m) refl
    (λ n s. let e : length (parts_of p n x) ≡ length (out-TypedNode x).parts.items = as_many p n (out-TypedNode x).parts.items in values_over p n x low s (views m.values.items) j end (omega (arith, e, c.count.ensures, c.if-number-count.true))))
