use Rattle.std.proofs.Common.{ℕ, refl, sym, ap, ◌++◌, ◌∷◌, [], Ok}
use Rattle.go_values.specs.Views.{view, views}
use Rattle.go_eval_machine.specs.Tasks.{task_rest}
use Rattle.go_eval_machine.specs.Engines.{Work, lays_given}
use Rattle.go_eval_machine.proofs.Going.{goes_pushed, goes_given}
use Rattle.go_eval_machine.proofs.engine.Engine.lay_given.Goals as goal

pub returns : goal.returns
returns c = λ p h.
    let x = c.args.node.now in
    let w = c.args.what in
    let v = view c.args.value in
    let old = c.args.self.now in
    let m = c.push.new.self in
    let vs = views old.values.items in
    let one : Work = λ n s us. s.go (us ++ v ∷ []) in
    goes_pushed p (lays_given p x w v) one x c.top-base.result w old m (Ok (tt {0})) c.give.new.self h c.in_ok-push.ensures
    (goes_given p one m c.give.new.self (tt {0}) (views m.values.items ++ v ∷ []) c.in_ok-give.ensures.kept c.in_ok-give.ensures.values (λ n s d f u t. refl))
    (λ n s d f u t. ap (λ (b : ℕ). (task_rest p n x b w s).go (vs ++ v ∷ []) d f u t) (sym c.top-base.ensures))
