use Rattle.std.proofs.Common.{ℕ, [], ◌∷◌, ◌++◌, refl}
use Rattle.std.proofs.lemmas.Result.{err_from_is_err_and}
use Rattle.go_meaning.specs.Computations.{Comp}
use Rattle.go_values.specs.Views.{view, views}
use Rattle.go_eval_machine.specs.declared.task.What.TheVariants as what
use Rattle.go_eval_machine.specs.Rests.{then_rest}
use Rattle.go_eval_machine.specs.Tasks.{parts_of}
use Rattle.go_eval_machine.specs.Engines.{Work, works, asks_part}
use Rattle.go_eval_machine.proofs.Going.{goes_kept}
use Rattle.go_meaning.specs.Doings.{at}
use Rattle.go_eval_machine.proofs.Operating.{one_read, not_read, load_reads}
use Rattle.go_eval_machine.proofs.operate.read.Goals as goal

pub returns : goal.returns
returns c =
    let p = c.args.checked.now in
    let x = c.args.node.now in
    let b = c.args.base in
    let o = c.args.operation in
    let m = c.args.engine.now in
    let v = view c.in_ok-read.read in
    let y : ℕ → Comp = λ n. (at (parts_of p n x) 1).value in
    let all : Work = λ n s us. then_rest (y n) s (us ++ v ∷ []) in
    one_read p (works p x b (what.Load o)) x o b y m c.loaded.new.engine c.push.new.self v c.in_ok-read.ensures.0 c.in_ok-read.ensures.1 c.top-value.result c.lower-low.result c.top-value.ensures c.lower-low.ensures c.in_ok-push.ensures (c.requires.node, c.requires.operation) (load_reads p x b o m) c.ask.result c.ask.new.self
    (goes_kept p all (asks_part p x 1) c.push.new.self c.give.new.self c.ask.result c.ask.new.self (views c.push.new.self.values.items ++ v ∷ []) c.in_ok-give.ensures.kept c.in_ok-give.ensures.values (c.ask.ensures p c.requires.node) (λ n s d f w t. refl))

pub returns-in_err-read : goal.returns-in_err-read
returns-in_err-read c =
    let p = c.args.checked.now in
    let x = c.args.node.now in
    let b = c.args.base in
    let o = c.args.operation in
    let m = c.args.engine.now in
    let y : ℕ → Comp = λ n. (at (parts_of p n x) 1).value in
    let q = err_from_is_err_and c.from_residual.result c.from_residual.ensures.1 in
    let e = c.in_err-read.field-0.0 in
    rw (q.1, q.2) (not_read p (works p x b (what.Load o)) x o b y m c.loaded.new.engine (load_reads p x b o m) e c.in_err-read.ensures.0 c.in_err-read.ensures.1.0 c.in_err-read.ensures.1.1)
