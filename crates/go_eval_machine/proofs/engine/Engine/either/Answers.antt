use Rattle.std.proofs.Common.{[], ◌∷◌, ◌++◌, take, refl, sym, ap, ◌∙◌, Ok}
use Rattle.go_values.specs.Views.{views}
use Rattle.go_eval_machine.specs.declared.task.What.TheVariants as what
use Rattle.go_eval_machine.specs.Engines.{Work, works, asks_part}
use Rattle.go_eval_machine.proofs.Going.{goes_kept, goes_given}
use Rattle.go_eval_machine.proofs.Stepping.{either_true, either_false}
use Rattle.std.specs.Prelude.{true, false}
use Rattle.go_meaning.specs.Values as meant
use Rattle.go_eval_machine.proofs.Values.{view_truth}
use Rattle.go_eval_machine.proofs.engine.Engine.either.Goals as goal

pub returns-in_ok-give : goal.returns-in_ok-give
returns-in_ok-give c = λ p h.
    let x = c.args.node.now in
    let b = c.args.base in
    let old = c.args.self.now in
    let vs = views old.values.items in
    let m = c.test.new.self in
    let one : Work = λ n s us. s.go (us ++ meant.Truth true ∷ []) in
    goes_kept p (works p x b what.Either) one old m (Ok (tt {0})) c.give.new.self (take b vs) c.test.ensures.kept c.test.ensures.values
    (goes_given p one m c.give.new.self (tt {0}) (views m.values.items ++ meant.Truth true ∷ []) c.in_ok-give.ensures.kept (c.in_ok-give.ensures.values ∙ ap (λ u. views m.values.items ++ u ∷ []) (view_truth true)) (λ n s d f u t. refl))
    (λ n s. either_true p n x b s vs (sym c.test.ensures.holds ∙ c.if-test.true))

pub returns-else-test : goal.returns-else-test
returns-else-test c = λ p h.
    let x = c.args.node.now in
    let b = c.args.base in
    let old = c.args.self.now in
    let vs = views old.values.items in
    goes_kept p (works p x b what.Either) (asks_part p x 1) old c.test.new.self c.ask.result c.ask.new.self (take b vs) c.test.ensures.kept c.test.ensures.values (c.ask.ensures p h)
    (λ n s. either_false p n x b s vs (sym c.test.ensures.holds ∙ c.if-test.false))
