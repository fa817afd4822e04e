use Rattle.std.proofs.Common.{sym}
use Rattle.go_types.specs.Tables.{type_of, rights_of}
use Rattle.go_typed.specs.Views.{all_seen}
use Rattle.go_typed.specs.declared.node.TypedNode.TheViews.{out-TypedNode}
use Rattle.go_values.specs.Views.{views}
use Rattle.go_eval_machine.proofs.computing.computed_deed.Goals as goal

pub returns-in-Planned : goal.returns-in-Planned
returns-in-Planned c = λ p x.
    rw c.in-Planned.is (c.computed.ensures (rights_of p.types) (type_of p.types.shapes) (all_seen p.types (out-TypedNode x).parts.items) (views c.args.operands.now) (sym c.operand-left.ensures) (sym c.operand-right.ensures))
