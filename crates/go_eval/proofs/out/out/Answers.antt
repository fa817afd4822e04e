use Rattle.std.proofs.Common.{refl, sym, subst, take, Err}
use Rattle.go_values.specs.Views.{views}
use Rattle.go_eval_machine.specs.declared.task.What.{What}
use Rattle.go_eval_machine.specs.declared.task.What.TheVariants as what
use Rattle.go_eval_machine.specs.Engines.{Goes}
use Rattle.go_eval_machine.proofs.Public.{kept_itself}
use Rattle.go_eval.specs.Outs.{outs}
use Rattle.go_eval.proofs.Leaving.{goes_out, value_lets, place_lets, others_let, drops_by}
use Rattle.go_eval.proofs.out.out.Goals as goal

pub returns-in-Value : goal.returns-in-Value
returns-in-Value c = λ p h. let x = c.args.node.now in let b = c.args.base in let m = c.args.engine.now in let e = c.args.exit in
    subst (λ (w : What). Goes {X = Unit {0}} p (outs p x b w e) m (Err e) m) (sym c.in-Value.is) (goes_out p (outs p x b what.Value e) m m (views m.values.items) (kept_itself m) refl e (λ n s. value_lets p n x b s (views m.values.items) e))

pub returns-in-Find : goal.returns-in-Find
returns-in-Find c = λ p h. let x = c.args.node.now in let b = c.args.base in let m = c.args.engine.now in let e = c.args.exit in
    subst (λ (w : What). Goes {X = Unit {0}} p (outs p x b w e) m (Err e) m) (sym c.in-Find.is) (goes_out p (outs p x b what.Find e) m m (views m.values.items) (kept_itself m) refl e (λ n s. place_lets p n x b s (views m.values.items) e))

pub returns : goal.returns
returns c = λ p h. let x = c.args.node.now in let b = c.args.base in let m = c.args.engine.now in let e = c.args.exit in let w = c.args.what in let d = c.in_default in
    goes_out p (outs p x b w e) m c.cut.new.self (take b (views m.values.items)) c.cut.ensures.kept c.cut.ensures.values e
    (λ n s. others_let p n x b s (views m.values.items) w e (drops_by w d.not-Value d.not-Find d.not-Fall d.not-Round d.not-ItemRound d.not-Leave))
