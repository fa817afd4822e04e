use Rattle.param_choose.specs.Shown.{array_in}
use Rattle.param_choose.proofs.Roots.{root_parenthesized, root_selected, root_indexed, root_elsewhere}
use Rattle.param_choose.proofs.assigned.+roots.Goals as goal

pub root_of-returns-in-Parenthesized : goal.root_of-returns-in-Parenthesized
root_of-returns-in-Parenthesized t c =
    root_parenthesized (array_in c.args.types.now) c.args.node.now c.deref.result.now c.first_root.result c.in-Parenthesized.is c.deref.ensures.value c.first_root.ensures

pub root_of-returns-in-Selector : goal.root_of-returns-in-Selector
root_of-returns-in-Selector t c =
    root_selected (array_in c.args.types.now) c.args.node.now c.in-Selector.field-0 c.deref-in-Selector.result.now c.first_root-in-Selector.result
    c.in-Selector.is c.deref-in-Selector.ensures.value c.first_root-in-Selector.ensures

pub root_of-returns-then-holds_array : goal.root_of-returns-then-holds_array
root_of-returns-then-holds_array t c =
    root_indexed (array_in c.args.types.now) c.args.node.now c.holds_array.result c.deref-in-Index.result.now c.deref-then-holds_array.result.now c.first_root-then-holds_array.result
    c.in-Index.is c.deref-in-Index.ensures.value c.holds_array.ensures c.if-holds_array.true c.deref-then-holds_array.ensures.value c.first_root-then-holds_array.ensures

pub root_of-returns-else-holds_array : goal.root_of-returns-else-holds_array
root_of-returns-else-holds_array t c =
    root_elsewhere (array_in c.args.types.now) c.args.node.now c.holds_array.result c.deref-in-Index.result.now c.in-Index.is c.deref-in-Index.ensures.value c.holds_array.ensures c.if-holds_array.false
