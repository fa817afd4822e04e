use Rattle.std.proofs.Common.{List, ap, ◌∙◌, subst}
use Rattle.go_meaning.specs.Values.{nth}
use Rattle.go_eval_plans.specs.declared.plan.Plan.{Plan}
use Rattle.go_values.specs.declared.value.Value.{Value}
use Rattle.go_values.specs.Views.{view, views}
use Rattle.go_eval_machine.specs.Giving.{HasPlan}
use Rattle.go_eval_machine.proofs.Plans.{gives_constant, gives_function, gives_local, gives_variable}
use Rattle.go_eval_machine.proofs.Values.{view_function}
use Rattle.go_eval_machine.proofs.ready.ready_value.Goals as goal

pub returns-in-Some-Constant : goal.returns-in-Some-Constant
returns-in-Some-Constant c = λ p n d.
    let x = c.args.node.now in
    gives_constant p n x d c.args.machine.now (subst (λ (q : Plan). HasPlan p x q) c.in-Some-Constant.field-0-is (c.in-Some-Constant.ensures p))
    (view c.in_ok-constant_of-in-Some-Constant.field-0) (c.in_ok-constant_of-in-Some-Constant.ensures p)

pub returns-in-Some-Function : goal.returns-in-Some-Function
returns-in-Some-Function c = λ p n d.
    let x = c.args.node.now in
    gives_function p n x d c.args.machine.now c.in-Some-Function.number (subst (λ (q : Plan). HasPlan p x q) c.in-Some-Function.field-0-is (c.in-Some-Function.ensures p)) _ (view_function c.in-Some-Function.number)

pub returns-in-Some-Local : goal.returns-in-Some-Local
returns-in-Some-Local c = λ p n d.
    let x = c.args.node.now in
    let k = c.in-Some-Local.number in
    gives_local p n x d c.args.machine.now k (subst (λ (q : Plan). HasPlan p x q) c.in-Some-Local.field-0-is (c.in-Some-Local.ensures p))
    (view c.in_ok-value-in-Some-Local.value) (c.in_ok-value-in-Some-Local.ensures ∙ (c.operand.ensures ∙ ap (λ (vs : List Value). nth (views vs) k) c.deref.ensures.value))

pub returns-in-Some-Variable : goal.returns-in-Some-Variable
returns-in-Some-Variable c = λ p n d.
    let x = c.args.node.now in
    gives_variable p n x d c.args.machine.now c.in-Some-Variable.number (subst (λ (q : Plan). HasPlan p x q) c.in-Some-Variable.field-0-is (c.in-Some-Variable.ensures p))
    (view c.in_ok-value-in-Some-Variable.value) c.in_ok-value-in-Some-Variable.ensures
