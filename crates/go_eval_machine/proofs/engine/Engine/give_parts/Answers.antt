use Rattle.std.proofs.Common.{◌+◌, ℕ, sym, subst, add-one, arith}
use Rattle.std.specs.Prelude.{Bool}
use Rattle.go_typed.specs.Packages.{PackageView}
use Rattle.go_meaning.specs.Computations.{Comp}
use Rattle.go_meaning.specs.Doings.{at}
use Rattle.go_eval_machine.specs.declared.engine.Engine.{Engine}
use Rattle.go_eval_machine.specs.Tasks.{parts_of}
use Rattle.go_eval_machine.specs.Giving.{GaveParts, IsGiven}
use Rattle.go_eval_machine.proofs.Giving.{gave_none_yet, gave_one_more, gave_all}
use Rattle.go_eval_machine.proofs.engine.Engine.give_parts.Goals as goal

pub loop-number-init : goal.loop-number-init
loop-number-init c = gave_none_yet c.args.node.now c.args.next c.args.end c.args.self.now

pub loop-number-preserved : goal.loop-number-preserved
loop-number-preserved c =
    let x = c.args.node.now in
    let l = c.loop-number in
    let part : PackageView → ℕ → Comp = λ q n. (at (parts_of q n x) l.number).value in
    gave_one_more x c.args.next c.args.end l.number (l.number + 1) c.args.self.now l.self c.give_ready.new.self (add-one l.number) (omega (arith, c.loop-number-test.true)) l.invariant
    (subst (λ (b : Bool). IsGiven part l.self b c.give_ready.new.self) c.if-not-branch.false c.in_ok-give_ready.ensures)

pub returns-then-not-branch : goal.returns-then-not-branch
returns-then-not-branch c =
    let x = c.args.node.now in
    let l = c.loop-number in
    let part : PackageView → ℕ → Comp = λ q n. (at (parts_of q n x) l.number).value in
    subst (λ (m : Engine). GaveParts x c.args.next c.args.end l.number c.args.self.now m) (sym (subst (λ (b : Bool). IsGiven part l.self b c.give_ready.new.self) c.if-not-branch.true c.in_ok-give_ready.ensures)) l.invariant

pub returns : goal.returns
returns c = gave_all c.args.node.now c.args.next c.args.end c.loop-number.number c.args.self.now c.loop-number.self (omega (arith, c.loop-number-test.false)) c.loop-number.invariant
