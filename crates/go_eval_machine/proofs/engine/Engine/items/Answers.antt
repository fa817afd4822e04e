use Rattle.std.proofs.Common.{sym, subst}
use Rattle.go_eval_plans.specs.declared.plan.Items.{Items}
use Rattle.go_eval_plans.specs.declared.plan.Items.TheVariants as items
use Rattle.go_eval_plans.specs.declared.plan.Plan.TheVariants as plan
use Rattle.go_meaning.specs.Values.{Value, NilFunction}
use Rattle.go_values.specs.declared.value.Value as code
use Rattle.go_values.proofs.Public.{view_nil}
use Rattle.go_values.specs.Views.{view, views}
use Rattle.go_eval_machine.specs.declared.task.What.TheVariants as what
use Rattle.go_eval_machine.specs.Engines.{Goes, begins, lays_given, lays_value}
use Rattle.go_eval_machine.proofs.Going.{goes_same}
use Rattle.go_eval_machine.proofs.Begins.{begins_fixed, begins_elements, begins_cells, begins_runes, begins_numbers}
use Rattle.go_eval_machine.proofs.engine.Engine.items.Goals as goal

pub returns-in-Fixed : goal.returns-in-Fixed
returns-in-Fixed c = λ p h.
    let x = c.args.node.now in
    let m = c.args.targets in
    let old = c.args.self.now in
    let vs = views old.values.items in
    subst (λ (i : Items). Goes p (begins p x (plan.Iterate m i)) old c.lay_given.result c.lay_given.new.self) (sym c.in-Fixed.is)
    (goes_same p (begins p x (plan.Iterate m (items.Fixed c.in-Fixed.field-0))) (lays_given p x (what.Items m (items.Fixed c.in-Fixed.field-0)) NilFunction) old c.lay_given.result c.lay_given.new.self (subst (λ (v : Value). Goes p (lays_given p x (what.Items m (items.Fixed c.in-Fixed.field-0)) v) old c.lay_given.result c.lay_given.new.self) view_nil (subst (λ (i : Items). Goes p (lays_given p x (what.Items m i) (view code.NilFunction)) old c.lay_given.result c.lay_given.new.self) c.in-Fixed.is (c.lay_given.ensures p (h, tt)))) (λ n s. begins_fixed p n x s vs m c.in-Fixed.field-0))

pub returns-in-Elements : goal.returns-in-Elements
returns-in-Elements c = λ p h.
    let x = c.args.node.now in
    let m = c.args.targets in
    let old = c.args.self.now in
    let vs = views old.values.items in
    subst (λ (i : Items). Goes p (begins p x (plan.Iterate m i)) old c.lay_value.result c.lay_value.new.self) (sym c.in-Elements.is)
    (goes_same p (begins p x (plan.Iterate m items.Elements)) (lays_value p x (what.Items m items.Elements) m) old c.lay_value.result c.lay_value.new.self (subst (λ (i : Items). Goes p (lays_value p x (what.Items m i) m) old c.lay_value.result c.lay_value.new.self) c.in-Elements.is (c.lay_value.ensures p (h, tt))) (λ n s. begins_elements p n x s vs m))

pub returns-in-Cells : goal.returns-in-Cells
returns-in-Cells c = λ p h.
    let x = c.args.node.now in
    let m = c.args.targets in
    let old = c.args.self.now in
    let vs = views old.values.items in
    subst (λ (i : Items). Goes p (begins p x (plan.Iterate m i)) old c.lay_value-in-Cells.result c.lay_value-in-Cells.new.self) (sym c.in-Cells.is)
    (goes_same p (begins p x (plan.Iterate m items.Cells)) (lays_value p x (what.Items m items.Cells) m) old c.lay_value-in-Cells.result c.lay_value-in-Cells.new.self (subst (λ (i : Items). Goes p (lays_value p x (what.Items m i) m) old c.lay_value-in-Cells.result c.lay_value-in-Cells.new.self) c.in-Cells.is (c.lay_value-in-Cells.ensures p (h, tt))) (λ n s. begins_cells p n x s vs m))

pub returns-in-Runes : goal.returns-in-Runes
returns-in-Runes c = λ p h.
    let x = c.args.node.now in
    let m = c.args.targets in
    let old = c.args.self.now in
    let vs = views old.values.items in
    subst (λ (i : Items). Goes p (begins p x (plan.Iterate m i)) old c.lay_value-in-Runes.result c.lay_value-in-Runes.new.self) (sym c.in-Runes.is)
    (goes_same p (begins p x (plan.Iterate m items.Runes)) (lays_value p x (what.Items m items.Runes) m) old c.lay_value-in-Runes.result c.lay_value-in-Runes.new.self (subst (λ (i : Items). Goes p (lays_value p x (what.Items m i) m) old c.lay_value-in-Runes.result c.lay_value-in-Runes.new.self) c.in-Runes.is (c.lay_value-in-Runes.ensures p (h, tt))) (λ n s. begins_runes p n x s vs m))

pub returns-in-Numbers : goal.returns-in-Numbers
returns-in-Numbers c = λ p h.
    let x = c.args.node.now in
    let m = c.args.targets in
    let old = c.args.self.now in
    let vs = views old.values.items in
    subst (λ (i : Items). Goes p (begins p x (plan.Iterate m i)) old c.lay_value-in-Numbers.result c.lay_value-in-Numbers.new.self) (sym c.in-Numbers.is)
    (goes_same p (begins p x (plan.Iterate m items.Numbers)) (lays_value p x (what.Items m items.Numbers) m) old c.lay_value-in-Numbers.result c.lay_value-in-Numbers.new.self (subst (λ (i : Items). Goes p (lays_value p x (what.Items m i) m) old c.lay_value-in-Numbers.result c.lay_value-in-Numbers.new.self) c.in-Numbers.is (c.lay_value-in-Numbers.ensures p (h, tt))) (λ n s. begins_numbers p n x s vs m))
