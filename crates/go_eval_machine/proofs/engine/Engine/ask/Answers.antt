use Rattle.std.proofs.Common.{ℕ, subst}
use Rattle.std.specs.Prelude.{Bool}
use Rattle.go_typed.specs.Packages.{PackageView}
use Rattle.go_meaning.specs.Computations.{Comp}
use Rattle.go_meaning.specs.Doings.{at}
use Rattle.go_eval_machine.specs.declared.engine.Engine.{Engine}
use Rattle.go_eval_machine.specs.Tasks.{parts_of}
use Rattle.go_eval_machine.specs.Engines.{Goes, asks_part}
use Rattle.go_eval_machine.specs.Giving.{IsGiven}
use Rattle.go_eval_machine.proofs.Giving.{asked_given}
use Rattle.go_eval_machine.proofs.engine.Engine.ask.Goals as goal

pub returns-then-branch : goal.returns-then-branch
returns-then-branch c = λ p h.
    let x = c.args.node.now in
    let k = c.args.number in
    let old = c.args.self.now in
    let m = c.give_ready.new.self in
    let part : PackageView → ℕ → Comp = λ q n. (at (parts_of q n x) k).value in
    asked_given p x k old m (tt {0}) (subst (λ (b : Bool). IsGiven part old b m) c.if-branch.true c.in_ok-give_ready.ensures)

pub returns-else-branch : goal.returns-else-branch
returns-else-branch c = λ p h.
    let x = c.args.node.now in
    let k = c.args.number in
    let old = c.args.self.now in
    let m = c.give_ready.new.self in
    let part : PackageView → ℕ → Comp = λ q n. (at (parts_of q n x) k).value in
    subst (λ (e : Engine). Goes p (asks_part p x k) e c.ask_later.result c.ask_later.new.self) (subst (λ (b : Bool). IsGiven part old b m) c.if-branch.false c.in_ok-give_ready.ensures) (c.ask_later.ensures p h)
