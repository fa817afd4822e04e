use Rattle.std.proofs.Common.{List, take, length, refl, ap, ◌∙◌}
use Rattle.go_values.specs.Views.{views}
use Rattle.go_meaning.specs.Values.{Value}
use Rattle.go_eval_machine.specs.declared.task.What.TheVariants as what
use Rattle.go_eval_machine.specs.Tasks.{task_rest}
use Rattle.go_eval_machine.specs.Engines.{Work, works, asks_part}
use Rattle.go_eval_machine.proofs.Going.{goes_kept, goes_pushed}
use Rattle.go_eval_machine.proofs.Finding.{tested_next}
use Rattle.go_eval_machine.proofs.find.tested.Goals as goal

pub returns : goal.returns
returns c = λ p h.
    let x = c.args.node.now in
    let b = c.args.base in
    let end = c.args.end in
    let m = c.args.engine.now in
    let m1 = c.cut.new.self in
    let vs = views m.values.items in
    let k = c.top-index.result in
    let all : Work = λ n s us. asks_part p x 1 n (task_rest p n x b (what.Behind k) s) us in
    goes_kept p (works p x b (what.Tested end)) all m m1 c.ask.result c.ask.new.self (take end vs) c.cut.ensures.kept c.cut.ensures.values
    (goes_pushed p all (asks_part p x 1) x b (what.Behind k) m1 c.push.new.self c.ask.result c.ask.new.self (h, tt) c.in_ok-push.ensures (c.ask.ensures p h) (λ n s d f w t. refl))
    (λ n s. tested_next p n x s vs b end k (c.top-index.ensures ∙ ap (λ (us : List Value). length us) c.cut.ensures.values))
