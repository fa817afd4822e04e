use Rattle.std.proofs.Common.{subst}
use Rattle.go_eval_plans.specs.declared.plan.Plan.{Plan}
use Rattle.go_eval_machine.specs.Giving.{HasPlan}
use Rattle.go_eval_machine.proofs.Plans.{no_operands_local, no_operands_variable, no_operands_declared, no_operands_blank}
use Rattle.go_eval_machine.proofs.ready.is_plain_place.Goals as goal

pub returns-in-Some-Local : goal.returns-in-Some-Local
returns-in-Some-Local c = λ t p n.
    let x = c.args.node.now in
    no_operands_local p n x _ (subst (λ (q : Plan). HasPlan p x q) c.in-Some-Local.field-0-is (c.in-Some-Local.ensures p))

pub returns-in-Some-Variable : goal.returns-in-Some-Variable
returns-in-Some-Variable c = λ t p n.
    let x = c.args.node.now in
    no_operands_variable p n x _ (subst (λ (q : Plan). HasPlan p x q) c.in-Some-Variable.field-0-is (c.in-Some-Variable.ensures p))

pub returns-in-Some-Declare : goal.returns-in-Some-Declare
returns-in-Some-Declare c = λ t p n.
    let x = c.args.node.now in
    no_operands_declared p n x _ (subst (λ (q : Plan). HasPlan p x q) c.in-Some-Declare.field-0-is (c.in-Some-Declare.ensures p))

pub returns-in-Some-Ignore : goal.returns-in-Some-Ignore
returns-in-Some-Ignore c = λ t p n.
    let x = c.args.node.now in
    no_operands_blank p n x (subst (λ (q : Plan). HasPlan p x q) c.in-Some-Ignore.field-0-is (c.in-Some-Ignore.ensures p))
