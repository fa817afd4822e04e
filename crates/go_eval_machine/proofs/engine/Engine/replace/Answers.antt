use Rattle.std.proofs.Common.{◌≡◌, [], ◌∷◌, ◌++◌, take, drop, subst, refl, Result, Ok, Err}
use Rattle.go_meaning.specs.Computations.{World, Panics}
use Rattle.go_meaning.specs.Operations.{perform}
use Rattle.go_values.specs.declared.value.Value.{Value}
use Rattle.go_values.specs.declared.panic.Panic.{Panic}
use Rattle.go_values.specs.Deeds.{deed}
use Rattle.go_values.specs.Views.{view, views, panic_view}
use Rattle.go_eval_plans.specs.declared.exit.Exit.TheVariants as exit
use Rattle.go_eval_machine.specs.declared.task.What.TheVariants as what
use Rattle.go_eval_machine.specs.Tasks.{deed_view}
use Rattle.go_eval_machine.specs.Engines.{Work, works}
use Rattle.go_eval_machine.proofs.Going.{goes_kept, goes_given, goes_panicked}
use Rattle.go_eval_machine.proofs.Performed.{computed_gives, computed_traps}
use Rattle.go_eval_machine.proofs.engine.Engine.replace.Goals as goal

pub returns-in_ok-give-in-Ok : goal.returns-in_ok-give-in-Ok
returns-in_ok-give-in-Ok c = λ p x o h.
    let b = c.args.base in
    let old = c.args.self.now in
    let vs = views old.values.items in
    let m1 = c.cut.new.self in
    let u = c.in-Ok.value in
    let one : Work = λ n s us. s.go (us ++ view u ∷ []) in
    goes_kept p (works p x b (what.Perform o)) one old m1 (Ok (tt {0})) c.give.new.self (take b vs) c.cut.ensures.kept c.cut.ensures.values
    (goes_given p one m1 c.give.new.self (tt {0}) (views m1.values.items ++ view u ∷ []) c.in_ok-give-in-Ok.ensures.kept c.in_ok-give-in-Ok.ensures.values (λ n s d f v t. refl))
    (computed_gives p x b o old m1 c.give.new.self (view u) (subst (λ (r : Result Value Panic). (w : World) → perform (deed_view p x o) (drop b vs) w ≡ deed w r) c.in-Ok.is h))

pub returns-in-Err : goal.returns-in-Err
returns-in-Err c = λ p x o h.
    let b = c.args.base in
    let old = c.args.self.now in
    let vs = views old.values.items in
    let m1 = c.cut.new.self in
    let k = c.in-Err.panic in
    goes_kept p (works p x b (what.Perform o)) (λ n s ws. s.out ws (Panics (panic_view k))) old m1 (Err (exit.Panic k)) m1 (take b vs) c.cut.ensures.kept c.cut.ensures.values
    (goes_panicked p m1 k) (computed_traps p x b o old m1 m1 k (subst (λ (r : Result Value Panic). (w : World) → perform (deed_view p x o) (drop b vs) w ≡ deed w r) c.in-Err.is h))
