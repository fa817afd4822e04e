use Rattle.std.proofs.Common.{◌≡◌, ℕ, ◌∷◌, Option, drop, suc, sym, subst}
use Rattle.go_meaning.specs.Meaning.{with_arguments}
use Rattle.go_values.specs.Views as values
use Rattle.go_eval_plans.proofs.Frames.{unnamed, named}
use Rattle.go_eval_plans.proofs.calls.give.Goals as goal

pub returns-in-Some : goal.returns-in-Some
returns-in-Some c = λ ps.
    subst (λ (o : Option ℕ). with_arguments (o ∷ ps) (drop c.args.number (values.views c.args.operands.now.items)) (values.views c.args.frame.now.items) ≡ with_arguments ps (drop (suc c.args.number) (values.views c.move_to.new.operands.items)) (values.views c.move_to.new.frame.items)) (sym c.in-Some.is)
    (named ps c.args.number (values.views c.args.operands.now.items) (values.views c.args.frame.now.items) c.in-Some.local (values.views c.move_to.new.operands.items) (values.views c.move_to.new.frame.items) c.move_to.ensures.frame c.move_to.ensures.operands)

pub returns-in-None : goal.returns-in-None
returns-in-None c = λ ps.
    subst (λ (o : Option ℕ). with_arguments (o ∷ ps) (drop c.args.number (values.views c.args.operands.now.items)) (values.views c.args.frame.now.items) ≡ with_arguments ps (drop (suc c.args.number) (values.views c.args.operands.now.items)) (values.views c.args.frame.now.items)) (sym c.in-None.is)
    (unnamed ps c.args.number (values.views c.args.operands.now.items) (values.views c.args.frame.now.items))
