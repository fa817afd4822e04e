use Rattle.std.proofs.Common.{◌≡◌, take, length, arith}
use Rattle.go_values.specs.Views.{views}
use Rattle.go_eval_machine.specs.declared.task.What.TheVariants as what
use Rattle.go_eval_machine.specs.Engines.{works, lays_value}
use Rattle.go_eval_machine.proofs.Going.{goes_kept, goes_given}
use Rattle.go_eval_machine.proofs.Stepping.{sequence_next, sequence_done}
use Rattle.std.specs.Prelude.{◌+◌}
use Rattle.go_typed.specs.declared.node.TypedNode.TheViews.{out-TypedNode}
use Rattle.go_eval_machine.specs.Tasks.{parts_of}
use Rattle.go_eval_machine.proofs.Begins.{as_many}
use Rattle.go_eval_machine.proofs.engine.Engine.sequence.Goals as goal

pub returns-then-next-count : goal.returns-then-next-count
returns-then-next-count c =
    let p = c.args.checked.now in
    let x = c.args.node.now in
    let b = c.args.base in
    let old = c.args.self.now in
    let vs = views old.values.items in
    let k = c.args.next in
    goes_kept p (works p x b (what.Sequence k)) (lays_value p x (what.Sequence (k + 1)) k) old c.cut.new.self c.lay_begun.result c.lay_begun.new.self (take b vs) c.cut.ensures.kept c.cut.ensures.values c.lay_begun.ensures
    (λ n s. sequence_next p n x b s vs k (k + 1) (omega arith) (let e : length (parts_of p n x) ≡ length (out-TypedNode x).parts.items = as_many p n (out-TypedNode x).parts.items in omega (arith, e, c.count.ensures, c.if-next-count.true)))

pub returns-else-next-count : goal.returns-else-next-count
returns-else-next-count c =
    let p = c.args.checked.now in
    let x = c.args.node.now in
    let b = c.args.base in
    let old = c.args.self.now in
    let vs = views old.values.items in
    let k = c.args.next in
    goes_given p (works p x b (what.Sequence k)) old c.cut.new.self (tt {0}) (take b vs) c.cut.ensures.kept c.cut.ensures.values
    (λ n s. sequence_done p n x b s vs k (let e : length (parts_of p n x) ≡ length (out-TypedNode x).parts.items = as_many p n (out-TypedNode x).parts.items in omega (arith, e, c.count.ensures, c.if-next-count.false)))
