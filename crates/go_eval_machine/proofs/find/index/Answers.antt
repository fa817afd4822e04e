use Rattle.go_values.specs.Views.{views}
use Rattle.go_eval_machine.specs.declared.task.What.TheVariants as what
use Rattle.go_eval_machine.specs.Engines.{works}
use Rattle.go_eval_machine.proofs.Going.{goes_pushed}
use Rattle.go_eval_machine.specs.Tests.{tests}
use Rattle.go_eval_machine.proofs.Finding.{index_next}
use Rattle.go_eval_machine.proofs.find.index.Goals as goal

pub returns : goal.returns
returns c =
    let p = c.args.checked.now in
    let x = c.args.node.now in
    let b = c.args.base in
    let m = c.args.engine.now in
    let k = c.top-end.result in
    goes_pushed p (works p x b what.Index) (tests p x 0 b) x b (what.Tested k) m c.push.new.self c.test.result c.test.new.engine (c.requires, tt) c.in_ok-push.ensures c.test.ensures
    (λ n s. index_next p n x s (views m.values.items) b k c.top-end.ensures)
