use Rattle.std.proofs.Common.{length}
use Rattle.go_typed.specs.declared.node.TypedNode.TheViews.{out-TypedNode}
use Rattle.go_values.specs.Views.{views}
use Rattle.go_eval_plans.proofs.Public.{known_parts, known_entry}
use Rattle.go_eval_machine.specs.declared.task.What.TheVariants as what
use Rattle.go_eval_machine.specs.Engines.{asks_part, lays}
use Rattle.go_eval_machine.proofs.Going.{goes_same}
use Rattle.go_eval_machine.proofs.Plans.{block_asked}
use Rattle.go_eval_machine.proofs.engine.Engine.ask_block.Goals as goal

pub returns-in-Some : goal.returns-in-Some
returns-in-Some c =
    let p = c.args.checked.now in
    let x = c.args.node.now in
    let k = c.args.number in
    let y = c.in-Some.block.now in
    let old = c.args.self.now in
    let xs = (out-TypedNode x).parts.items in
    goes_same p (asks_part p x k) (lays p y (what.Sequence 0)) old c.begin_sequence.result c.begin_sequence.new.self c.begin_sequence.ensures
    (λ n s. block_asked p x y k c.in-Some.ensures.0 (c.in-Some.ensures.1 p) n s (views old.values.items))

pub begin_sequence-requires : goal.begin_sequence-requires
begin_sequence-requires c =
    let k = length c.args.checked.now.types.shapes in
    known_entry k (out-TypedNode c.args.node.now).parts.items c.args.number c.in-Some.block.now (known_parts k c.args.node.now c.requires) c.in-Some.ensures.0
