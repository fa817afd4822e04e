use Rattle.std.proofs.Common.{List, Some, Bor, sym, ap, ◌∙◌, arith}
use Rattle.go_typed.specs.declared.node.TypedNode.{TypedNode}
use Rattle.go_typed.specs.Views.{seen}
use Rattle.go_exprs_rules.specs.Faults.{least}
use Rattle.go_exprs_rules.specs.Literals.{at_optional, too_many}
use Rattle.go_exprs_calls.specs.Shown.{shown}
use Rattle.go_exprs_calls.proofs.Lists.{nth_within, nth_past}
use Rattle.go_exprs_calls.proofs.elements.too_many.Goals as goal

pub returns-then-limit-nodes : goal.returns-then-limit-nodes
returns-then-limit-nodes c =
    let t = c.args.types.now in
    let ns = c.args.nodes.now in
    sym (ap (λ l. least (too_many l (shown t ns))) c.in_ok-limit.was ∙ ap (λ o. least (at_optional o)) (nth_within t ns c.in_ok-limit.limit c.index-nodes-limit.result (omega arith)) ∙ ap (λ (n : Bor TypedNode). least (at_optional (Some (seen t n.now)))) (sym c.index-nodes-limit.is) ∙ ap least c.fault_at.ensures)

pub returns-else-limit-nodes : goal.returns-else-limit-nodes
returns-else-limit-nodes c =
    let t = c.args.types.now in
    let ns = c.args.nodes.now in
    sym (ap (λ l. least (too_many l (shown t ns))) c.in_ok-limit.was ∙ ap (λ o. least (at_optional o)) (nth_past t ns c.in_ok-limit.limit (omega arith)))
