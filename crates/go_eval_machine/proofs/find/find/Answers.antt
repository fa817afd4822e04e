use Rattle.go_values.specs.Views.{views}
use Rattle.go_eval_plans.specs.Programs.{doing}
use Rattle.go_eval_machine.specs.declared.task.What.TheVariants as what
use Rattle.go_eval_machine.specs.Engines.{seeks, seeks_part, lays_find}
use Rattle.go_eval_machine.proofs.Going.{goes_same, goes_laid, goes_undecided}
use Rattle.go_eval_machine.proofs.GoingAssignments.{goes_nothing}
use Rattle.go_eval_machine.proofs.Finding.{is_nothing, is_undecided, finds_part, finds_element, finds_cell}
use Rattle.go_values.specs.Worlds.{world_view}
use Rattle.go_eval_machine.proofs.find.find.Goals as goal

pub returns-in-Local : goal.returns-in-Local
returns-in-Local c = let p = c.args.checked.now in let x = c.args.node.now in let m = c.args.engine.now in goes_nothing p (seeks p x) m (λ n s. is_nothing s (views m.values.items) (doing p n x).find (c.in-Local.ensures n).find)

pub returns-in-Name : goal.returns-in-Name
returns-in-Name c = let p = c.args.checked.now in let x = c.args.node.now in let m = c.args.engine.now in goes_nothing p (seeks p x) m (λ n s. is_nothing s (views m.values.items) (doing p n x).find (c.in-Name.ensures n).find)

pub returns-in-Variable : goal.returns-in-Variable
returns-in-Variable c = let p = c.args.checked.now in let x = c.args.node.now in let m = c.args.engine.now in goes_nothing p (seeks p x) m (λ n s. is_nothing s (views m.values.items) (doing p n x).find (c.in-Variable.ensures n).find)

pub returns-in-Blank : goal.returns-in-Blank
returns-in-Blank c = let p = c.args.checked.now in let x = c.args.node.now in let m = c.args.engine.now in goes_nothing p (seeks p x) m (λ n s. is_nothing s (views m.values.items) (doing p n x).find (c.in-Blank.ensures n).find)

pub returns-in-Inner : goal.returns-in-Inner
returns-in-Inner c =
    let p = c.args.checked.now in
    let x = c.args.node.now in
    let m = c.args.engine.now in
    goes_same p (seeks p x) (seeks_part p x 0) m c.seek.result c.seek.new.self (c.seek.ensures p c.requires) (λ n s. finds_part p n x s (views m.values.items) (c.in-Inner.ensures n).find)

pub returns-in-Field : goal.returns-in-Field
returns-in-Field c =
    let p = c.args.checked.now in
    let x = c.args.node.now in
    let m = c.args.engine.now in
    goes_same p (seeks p x) (seeks_part p x 0) m c.seek-in-Field.result c.seek-in-Field.new.self (c.seek-in-Field.ensures p c.requires) (λ n s. finds_part p n x s (views m.values.items) (c.in-Field.ensures n).find)

pub returns-in-Element : goal.returns-in-Element
returns-in-Element c =
    let p = c.args.checked.now in
    let x = c.args.node.now in
    let m = c.args.engine.now in
    goes_same p (seeks p x) (lays_find p x what.Index 0) m c.lay_find.result c.lay_find.new.self (c.lay_find.ensures p (c.requires, tt)) (λ n s. finds_element p n x s (views m.values.items) c.in-Element.field-0 (c.in-Element.ensures n))

pub returns-in_ok-push-in-Cell : goal.returns-in_ok-push-in-Cell
returns-in_ok-push-in-Cell c =
    let p = c.args.checked.now in
    let x = c.args.node.now in
    let m = c.args.engine.now in
    goes_laid p (seeks p x) x c.top-base.result (what.Values 0 2) m c.push.new.self (tt {0}) (c.requires, tt) c.in_ok-push-in-Cell.ensures
    (λ n s. finds_cell p n x s (views m.values.items) c.top-base.result c.top-base.ensures (c.in-Cell.ensures n))

pub returns-in-Case : goal.returns-in-Case
returns-in-Case c = let p = c.args.checked.now in let x = c.args.node.now in let m = c.args.engine.now in
    goes_undecided p (seeks p x) m (λ n s. is_undecided s (views m.values.items) (doing p n x).find (c.in-Case.ensures n).find m.depth (views m.machine.frame.items) (world_view m.machine.world) m.machine.turns)

pub returns-in-Otherwise : goal.returns-in-Otherwise
returns-in-Otherwise c = let p = c.args.checked.now in let x = c.args.node.now in let m = c.args.engine.now in
    goes_undecided p (seeks p x) m (λ n s. is_undecided s (views m.values.items) (doing p n x).find (c.in-Otherwise.ensures n).find m.depth (views m.machine.frame.items) (world_view m.machine.world) m.machine.turns)

pub returns-in-Nothing : goal.returns-in-Nothing
returns-in-Nothing c = let p = c.args.checked.now in let x = c.args.node.now in let m = c.args.engine.now in
    goes_undecided p (seeks p x) m (λ n s. is_undecided s (views m.values.items) (doing p n x).find (c.in-Nothing.ensures n).find m.depth (views m.machine.frame.items) (world_view m.machine.world) m.machine.turns)
