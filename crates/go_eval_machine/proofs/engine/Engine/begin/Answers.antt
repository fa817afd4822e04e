use Rattle.std.proofs.Common.{◌∷◌, [], ◌++◌, length, refl, sym, ap, ◌∙◌, subst, Ok, Err}
use Rattle.go_types.specs.Tables.{type_of, rights_of}
use Rattle.go_meaning.specs.Values as meant
use Rattle.go_meaning.specs.Operations.{ReadVariable}
use Rattle.go_meaning.specs.Planning.{zero_in}
use Rattle.go_typed.specs.declared.node.TypedNode.TheViews.{out-TypedNode}
use Rattle.go_typed.specs.Views.{sort_seen}
use Rattle.go_eval_plans.specs.declared.plan.Plan.{Plan}
use Rattle.go_eval_plans.specs.declared.plan.Plan.TheVariants as plan
use Rattle.go_eval_plans.specs.Known.{KnownPlan}
use Rattle.go_eval_plans.specs.Views.{constant_in, type_in}
use Rattle.go_values.specs.Views.{views}
use Rattle.go_eval_machine.specs.declared.task.Deed.TheVariants as deed
use Rattle.go_eval_machine.specs.declared.task.What.TheVariants as what
use Rattle.go_eval_machine.specs.Engines.{Goes, begins, asks_part, gives, reads, operates, lays, lays_value, lays_find, lays_values, lays_finds}
use Rattle.go_eval_machine.proofs.Going.{goes_same, goes_given}
use Rattle.go_eval_machine.proofs.Begins.{begins_inner, begins_field, begins_element, begins_cell, begins_perform, begins_apply, begins_returns, begins_both, begins_either, begins_branch, begins_loop, begins_step, begins_operate, begins_assign, begins_zero, begins_sequence, begins_otherwise, begins_case, begins_select, begins_local, begins_variable, begins_constant, begins_function, begins_nil, begins_declare, begins_ignore, begins_skip, left_break, left_continue, left_fall, as_many}
use Rattle.go_eval_plans.specs.declared.exit.Exit.TheVariants as exit
use Rattle.go_eval_machine.proofs.Values.{view_function}
use Rattle.go_eval_machine.proofs.engine.Engine.begin.Goals as goal

pub returns-in-Constant : goal.returns-in-Constant
returns-in-Constant c =
    let p = c.args.checked.now in
    let x = c.args.node.now in
    let old = c.args.self.now in
    let vs = views old.values.items in
    subst (λ (q : Plan). Goes p (begins p x q) old c.constant.result c.constant.new.self) (sym c.in-Constant.is)
    (goes_same p (begins p x plan.Constant) (gives (constant_in (sort_seen p.types (out-TypedNode x).sort))) old c.constant.result c.constant.new.self (c.constant.ensures p) (λ n s. begins_constant p n x s vs))

pub returns-in-Nil : goal.returns-in-Nil
returns-in-Nil c =
    let p = c.args.checked.now in
    let x = c.args.node.now in
    let old = c.args.self.now in
    let vs = views old.values.items in
    subst (λ (q : Plan). Goes p (begins p x q) old c.zero.result c.zero.new.self) (sym c.in-Nil.is)
    (goes_same p (begins p x (plan.Nil c.in-Nil.ty)) (gives (meant.zero_value (zero_in (rights_of p.types) (type_in (type_of p.types.shapes) c.in-Nil.ty)))) old c.zero.result c.zero.new.self c.zero.ensures (λ n s. begins_nil p n x s vs c.in-Nil.ty))

pub returns-in-Local : goal.returns-in-Local
returns-in-Local c =
    let p = c.args.checked.now in
    let x = c.args.node.now in
    let old = c.args.self.now in
    let vs = views old.values.items in
    subst (λ (q : Plan). Goes p (begins p x q) old c.local.result c.local.new.self) (sym c.in-Local.is)
    (goes_same p (begins p x (plan.Local c.in-Local.number)) (reads c.in-Local.number) old c.local.result c.local.new.self (c.local.ensures p) (λ n s. begins_local p n x s vs c.in-Local.number))

pub returns-in-Variable : goal.returns-in-Variable
returns-in-Variable c =
    let p = c.args.checked.now in
    let x = c.args.node.now in
    let old = c.args.self.now in
    let vs = views old.values.items in
    subst (λ (q : Plan). Goes p (begins p x q) old c.variable.result c.variable.new.self) (sym c.in-Variable.is)
    (goes_same p (begins p x (plan.Variable c.in-Variable.number)) (operates (ReadVariable c.in-Variable.number)) old c.variable.result c.variable.new.self (c.variable.ensures p) (λ n s. begins_variable p n x s vs c.in-Variable.number))

pub returns-in-Declare : goal.returns-in-Declare
returns-in-Declare c =
    let p = c.args.checked.now in
    let x = c.args.node.now in
    let old = c.args.self.now in
    let vs = views old.values.items in
    subst (λ (q : Plan). Goes {X = Unit {0}} p (begins p x q) old (Ok (tt {0})) old) (sym c.in-Declare.is)
    (goes_given p (begins p x (plan.Declare c.in-Declare.field-0)) old old (tt {0}) vs (record { tasks = refl; machine = refl; depth = refl }) refl (λ n s. begins_declare p n x s vs c.in-Declare.field-0))

pub returns-in-Ignore : goal.returns-in-Ignore
returns-in-Ignore c =
    let p = c.args.checked.now in
    let x = c.args.node.now in
    let old = c.args.self.now in
    let vs = views old.values.items in
    subst (λ (q : Plan). Goes {X = Unit {0}} p (begins p x q) old (Ok (tt {0})) old) (sym c.in-Ignore.is)
    (goes_given p (begins p x plan.Ignore) old old (tt {0}) vs (record { tasks = refl; machine = refl; depth = refl }) refl (λ n s. begins_ignore p n x s vs))

pub returns-in-Skip : goal.returns-in-Skip
returns-in-Skip c =
    let p = c.args.checked.now in
    let x = c.args.node.now in
    let old = c.args.self.now in
    let vs = views old.values.items in
    subst (λ (q : Plan). Goes {X = Unit {0}} p (begins p x q) old (Ok (tt {0})) old) (sym c.in-Skip.is)
    (goes_given p (begins p x plan.Skip) old old (tt {0}) vs (record { tasks = refl; machine = refl; depth = refl }) refl (λ n s. begins_skip p n x s vs))

pub returns-in-Inner : goal.returns-in-Inner
returns-in-Inner c =
    let p = c.args.checked.now in
    let x = c.args.node.now in
    let old = c.args.self.now in
    let vs = views old.values.items in
    subst (λ (q : Plan). Goes p (begins p x q) old c.ask.result c.ask.new.self) (sym c.in-Inner.is)
    (goes_same p (begins p x plan.Inner) (asks_part p x 0) old c.ask.result c.ask.new.self (c.ask.ensures p c.requires.node) (λ n s. begins_inner p n x s vs))

pub returns-in-FieldOf : goal.returns-in-FieldOf
returns-in-FieldOf c =
    let p = c.args.checked.now in
    let x = c.args.node.now in
    let old = c.args.self.now in
    let vs = views old.values.items in
    subst (λ (q : Plan). Goes p (begins p x q) old c.lay_value.result c.lay_value.new.self) (sym c.in-FieldOf.is)
    (goes_same p (begins p x (plan.FieldOf c.in-FieldOf.field)) (lays_value p x (what.Perform (deed.Field c.in-FieldOf.field)) 0) old c.lay_value.result c.lay_value.new.self (c.lay_value.ensures p (c.requires.node, tt)) (λ n s. begins_field p n x s vs c.in-FieldOf.field))

pub returns-in-ElementOf : goal.returns-in-ElementOf
returns-in-ElementOf c =
    let p = c.args.checked.now in
    let x = c.args.node.now in
    let old = c.args.self.now in
    let vs = views old.values.items in
    subst (λ (q : Plan). Goes p (begins p x q) old c.perform_values.result c.perform_values.new.self) (sym c.in-ElementOf.is)
    (goes_same p (begins p x (plan.ElementOf c.in-ElementOf.length)) (lays_values p x (what.Perform (deed.Element c.in-ElementOf.length)) 2) old c.perform_values.result c.perform_values.new.self c.perform_values.ensures (λ n s. begins_element p n x s vs c.in-ElementOf.length))

pub returns-in-CellOf : goal.returns-in-CellOf
returns-in-CellOf c =
    let p = c.args.checked.now in
    let x = c.args.node.now in
    let old = c.args.self.now in
    let vs = views old.values.items in
    subst (λ (q : Plan). Goes p (begins p x q) old c.perform_values-in-CellOf.result c.perform_values-in-CellOf.new.self) (sym c.in-CellOf.is)
    (goes_same p (begins p x plan.CellOf) (lays_values p x (what.Perform deed.Cell) 2) old c.perform_values-in-CellOf.result c.perform_values-in-CellOf.new.self c.perform_values-in-CellOf.ensures (λ n s. begins_cell p n x s vs))

pub returns-in-Perform : goal.returns-in-Perform
returns-in-Perform c =
    let p = c.args.checked.now in
    let x = c.args.node.now in
    let old = c.args.self.now in
    let vs = views old.values.items in
    subst (λ (q : Plan). Goes p (begins p x q) old c.perform_values-in-Perform.result c.perform_values-in-Perform.new.self) (sym c.in-Perform.is)
    (goes_same p (begins p x (plan.Perform c.in-Perform.operation)) (lays_values p x (what.Perform (deed.Planned c.in-Perform.operation)) c.count-end.result) old c.perform_values-in-Perform.result c.perform_values-in-Perform.new.self c.perform_values-in-Perform.ensures (λ n s. begins_perform p n x s vs c.count-end.result (c.count-end.ensures ∙ sym (as_many p n (out-TypedNode x).parts.items)) c.in-Perform.operation))

pub returns-in-Both : goal.returns-in-Both
returns-in-Both c =
    let p = c.args.checked.now in
    let x = c.args.node.now in
    let old = c.args.self.now in
    let vs = views old.values.items in
    subst (λ (q : Plan). Goes p (begins p x q) old c.lay_value-in-Both.result c.lay_value-in-Both.new.self) (sym c.in-Both.is)
    (goes_same p (begins p x plan.Both) (lays_value p x what.Both 0) old c.lay_value-in-Both.result c.lay_value-in-Both.new.self (c.lay_value-in-Both.ensures p (c.requires.node, tt)) (λ n s. begins_both p n x s vs))

pub returns-in-Either : goal.returns-in-Either
returns-in-Either c =
    let p = c.args.checked.now in
    let x = c.args.node.now in
    let old = c.args.self.now in
    let vs = views old.values.items in
    subst (λ (q : Plan). Goes p (begins p x q) old c.lay_value-in-Either.result c.lay_value-in-Either.new.self) (sym c.in-Either.is)
    (goes_same p (begins p x plan.Either) (lays_value p x what.Either 0) old c.lay_value-in-Either.result c.lay_value-in-Either.new.self (c.lay_value-in-Either.ensures p (c.requires.node, tt)) (λ n s. begins_either p n x s vs))

pub returns-in-Apply : goal.returns-in-Apply
returns-in-Apply c =
    let p = c.args.checked.now in
    let x = c.args.node.now in
    let old = c.args.self.now in
    let vs = views old.values.items in
    subst (λ (q : Plan). Goes p (begins p x q) old c.lay_values.result c.lay_values.new.self) (sym c.in-Apply.is)
    (goes_same p (begins p x plan.Apply) (lays_values p x what.Apply c.count-end-in-Apply.result) old c.lay_values.result c.lay_values.new.self (c.lay_values.ensures p (c.requires.node, tt)) (λ n s. begins_apply p n x s vs c.count-end-in-Apply.result (c.count-end-in-Apply.ensures ∙ sym (as_many p n (out-TypedNode x).parts.items))))

pub returns-in-Returns : goal.returns-in-Returns
returns-in-Returns c =
    let p = c.args.checked.now in
    let x = c.args.node.now in
    let old = c.args.self.now in
    let vs = views old.values.items in
    subst (λ (q : Plan). Goes p (begins p x q) old c.lay_values-in-Returns.result c.lay_values-in-Returns.new.self) (sym c.in-Returns.is)
    (goes_same p (begins p x plan.Returns) (lays_values p x what.Return c.count-end-in-Returns.result) old c.lay_values-in-Returns.result c.lay_values-in-Returns.new.self (c.lay_values-in-Returns.ensures p (c.requires.node, tt)) (λ n s. begins_returns p n x s vs c.count-end-in-Returns.result (c.count-end-in-Returns.ensures ∙ sym (as_many p n (out-TypedNode x).parts.items))))

pub returns-in-StepBy : goal.returns-in-StepBy
returns-in-StepBy c =
    let p = c.args.checked.now in
    let x = c.args.node.now in
    let old = c.args.self.now in
    let vs = views old.values.items in
    subst (λ (q : Plan). Goes p (begins p x q) old c.lay_find.result c.lay_find.new.self) (sym c.in-StepBy.is)
    (goes_same p (begins p x (plan.StepBy c.in-StepBy.operation)) (lays_find p x (what.Step c.in-StepBy.operation) 0) old c.lay_find.result c.lay_find.new.self (c.lay_find.ensures p (c.requires.node, (subst (KnownPlan (length p.types.shapes)) c.in-StepBy.is c.requires.plan))) (λ n s. begins_step p n x s vs c.in-StepBy.operation))

pub returns-in-OperateBy : goal.returns-in-OperateBy
returns-in-OperateBy c =
    let p = c.args.checked.now in
    let x = c.args.node.now in
    let old = c.args.self.now in
    let vs = views old.values.items in
    subst (λ (q : Plan). Goes p (begins p x q) old c.lay_find-in-OperateBy.result c.lay_find-in-OperateBy.new.self) (sym c.in-OperateBy.is)
    (goes_same p (begins p x (plan.OperateBy c.in-OperateBy.operation)) (lays_find p x (what.Load c.in-OperateBy.operation) 0) old c.lay_find-in-OperateBy.result c.lay_find-in-OperateBy.new.self (c.lay_find-in-OperateBy.ensures p (c.requires.node, (subst (KnownPlan (length p.types.shapes)) c.in-OperateBy.is c.requires.plan))) (λ n s. begins_operate p n x s vs c.in-OperateBy.operation))

pub returns-in-AssignTo : goal.returns-in-AssignTo
returns-in-AssignTo c =
    let p = c.args.checked.now in
    let x = c.args.node.now in
    let old = c.args.self.now in
    let vs = views old.values.items in
    subst (λ (q : Plan). Goes p (begins p x q) old c.lay_finds.result c.lay_finds.new.self) (sym c.in-AssignTo.is)
    (goes_same p (begins p x (plan.AssignTo c.in-AssignTo.targets)) (lays_finds p x (what.Assign c.in-AssignTo.targets) c.in-AssignTo.targets) old c.lay_finds.result c.lay_finds.new.self (c.lay_finds.ensures p (c.requires.node, tt)) (λ n s. begins_assign p n x s vs c.in-AssignTo.targets))

pub returns-in-ZeroTo : goal.returns-in-ZeroTo
returns-in-ZeroTo c =
    let p = c.args.checked.now in
    let x = c.args.node.now in
    let old = c.args.self.now in
    let vs = views old.values.items in
    subst (λ (q : Plan). Goes p (begins p x q) old c.lay_finds-in-ZeroTo.result c.lay_finds-in-ZeroTo.new.self) (sym c.in-ZeroTo.is)
    (goes_same p (begins p x (plan.ZeroTo c.in-ZeroTo.targets c.in-ZeroTo.ty)) (lays_finds p x (what.Zero c.in-ZeroTo.targets c.in-ZeroTo.ty) c.in-ZeroTo.targets) old c.lay_finds-in-ZeroTo.result c.lay_finds-in-ZeroTo.new.self (c.lay_finds-in-ZeroTo.ensures p (c.requires.node, (subst (KnownPlan (length p.types.shapes)) c.in-ZeroTo.is c.requires.plan))) (λ n s. begins_zero p n x s vs c.in-ZeroTo.targets c.in-ZeroTo.ty))

pub returns-in-Breaks : goal.returns-in-Breaks
returns-in-Breaks c = subst (λ (q : Plan). Goes {X = Unit {0}} c.args.checked.now (begins c.args.checked.now c.args.node.now q) c.args.self.now (Err exit.Break) c.args.self.now) (sym c.in-Breaks.is) (left_break c.args.checked.now c.args.node.now c.args.self.now)

pub returns-in-Continues : goal.returns-in-Continues
returns-in-Continues c = subst (λ (q : Plan). Goes {X = Unit {0}} c.args.checked.now (begins c.args.checked.now c.args.node.now q) c.args.self.now (Err exit.Continue) c.args.self.now) (sym c.in-Continues.is) (left_continue c.args.checked.now c.args.node.now c.args.self.now)

pub returns-in-Falls : goal.returns-in-Falls
returns-in-Falls c = subst (λ (q : Plan). Goes {X = Unit {0}} c.args.checked.now (begins c.args.checked.now c.args.node.now q) c.args.self.now (Err exit.Fallthrough) c.args.self.now) (sym c.in-Falls.is) (left_fall c.args.checked.now c.args.node.now c.args.self.now)

pub returns-in-Sequence : goal.returns-in-Sequence
returns-in-Sequence c =
    let p = c.args.checked.now in
    let x = c.args.node.now in
    let old = c.args.self.now in
    let vs = views old.values.items in
    subst (λ (q : Plan). Goes p (begins p x q) old c.lay.result c.lay.new.self) (sym c.in-Sequence.is)
    (goes_same p (begins p x plan.Sequence) (lays p x (what.Sequence 0)) old c.lay.result c.lay.new.self (c.lay.ensures p (c.requires.node, tt)) (λ n s. begins_sequence p n x s vs))

pub returns-in-Branch : goal.returns-in-Branch
returns-in-Branch c =
    let p = c.args.checked.now in
    let x = c.args.node.now in
    let old = c.args.self.now in
    let vs = views old.values.items in
    subst (λ (q : Plan). Goes p (begins p x q) old c.lay_value-in-Branch.result c.lay_value-in-Branch.new.self) (sym c.in-Branch.is)
    (goes_same p (begins p x plan.Branch) (lays_value p x what.Condition 0) old c.lay_value-in-Branch.result c.lay_value-in-Branch.new.self (c.lay_value-in-Branch.ensures p (c.requires.node, tt)) (λ n s. begins_branch p n x s vs))

pub returns-in-Select : goal.returns-in-Select
returns-in-Select c =
    let p = c.args.checked.now in
    let x = c.args.node.now in
    let old = c.args.self.now in
    let vs = views old.values.items in
    subst (λ (q : Plan). Goes p (begins p x q) old c.lay_value-in-Select.result c.lay_value-in-Select.new.self) (sym c.in-Select.is)
    (goes_same p (begins p x (plan.Select c.in-Select.tag c.in-Select.default)) (lays_value p x (what.Tag c.in-Select.tag c.in-Select.default) 0) old c.lay_value-in-Select.result c.lay_value-in-Select.new.self (c.lay_value-in-Select.ensures p (c.requires.node, tt)) (λ n s. begins_select p n x s vs c.in-Select.tag c.in-Select.default))

pub returns-in-CaseOf : goal.returns-in-CaseOf
returns-in-CaseOf c =
    let p = c.args.checked.now in
    let x = c.args.node.now in
    let old = c.args.self.now in
    let vs = views old.values.items in
    subst (λ (q : Plan). Goes p (begins p x q) old c.lay-in-CaseOf.result c.lay-in-CaseOf.new.self) (sym c.in-CaseOf.is)
    (goes_same p (begins p x (plan.CaseOf c.in-CaseOf.values)) (lays p x (what.Sequence c.in-CaseOf.values)) old c.lay-in-CaseOf.result c.lay-in-CaseOf.new.self (c.lay-in-CaseOf.ensures p (c.requires.node, tt)) (λ n s. begins_case p n x s vs c.in-CaseOf.values))

pub returns-in-Otherwise : goal.returns-in-Otherwise
returns-in-Otherwise c =
    let p = c.args.checked.now in
    let x = c.args.node.now in
    let old = c.args.self.now in
    let vs = views old.values.items in
    subst (λ (q : Plan). Goes p (begins p x q) old c.lay-in-Otherwise.result c.lay-in-Otherwise.new.self) (sym c.in-Otherwise.is)
    (goes_same p (begins p x plan.Otherwise) (lays p x (what.Sequence 0)) old c.lay-in-Otherwise.result c.lay-in-Otherwise.new.self (c.lay-in-Otherwise.ensures p (c.requires.node, tt)) (λ n s. begins_otherwise p n x s vs))

pub returns-in-Loop : goal.returns-in-Loop
returns-in-Loop c =
    let p = c.args.checked.now in
    let x = c.args.node.now in
    let old = c.args.self.now in
    let vs = views old.values.items in
    subst (λ (q : Plan). Goes p (begins p x q) old c.lay_value-in-Loop.result c.lay_value-in-Loop.new.self) (sym c.in-Loop.is)
    (goes_same p (begins p x (plan.Loop c.in-Loop.condition)) (lays_value p x (what.Turn c.in-Loop.condition) 0) old c.lay_value-in-Loop.result c.lay_value-in-Loop.new.self (c.lay_value-in-Loop.ensures p (c.requires.node, tt)) (λ n s. begins_loop p n x s vs c.in-Loop.condition))

pub returns-in-Iterate : goal.returns-in-Iterate
returns-in-Iterate c =
    let p = c.args.checked.now in
    subst (λ (q : Plan). Goes p (begins p c.args.node.now q) c.args.self.now c.items.result c.items.new.self) (sym c.in-Iterate.is) (c.items.ensures p c.requires.node)

pub returns-in_ok-give-in-Function : goal.returns-in_ok-give-in-Function
returns-in_ok-give-in-Function c =
    let p = c.args.checked.now in
    let x = c.args.node.now in
    let old = c.args.self.now in
    let vs = views old.values.items in
    subst (λ (q : Plan). Goes {X = Unit {0}} p (begins p x q) old (Ok (tt {0})) c.give.new.self) (sym c.in-Function.is)
    (goes_given p (begins p x (plan.Function c.in-Function.number)) old c.give.new.self (tt {0}) (vs ++ meant.Function c.in-Function.number ∷ []) c.in_ok-give-in-Function.ensures.kept (c.in_ok-give-in-Function.ensures.values ∙ ap (λ u. vs ++ u ∷ []) (view_function c.in-Function.number)) (λ n s. begins_function p n x s vs c.in-Function.number))

pub zero-requires : goal.zero-requires
zero-requires c = subst (KnownPlan (length c.args.checked.now.types.shapes)) c.in-Nil.is c.requires.plan
