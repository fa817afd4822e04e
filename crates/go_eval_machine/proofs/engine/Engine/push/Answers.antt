use Rattle.std.proofs.Common.{refl, sym, subst}
use Rattle.go_eval_machine.specs.declared.task.Task.{Task}
use Rattle.go_eval_machine.specs.Tasks.{AreFit}
use Rattle.go_eval_machine.proofs.Tasks.{one_on_top, fit_on_top}
use Rattle.go_eval_machine.proofs.engine.Engine.push.Goals as goal

pub returns : goal.returns
returns c =
    let ts = c.args.self.now.tasks.items in
    let t : Task = record { node = c.args.node; base = c.args.base; what = c.args.what } in
    record {
      rest = λ p n. one_on_top p n ts c.push.new.self.items t c.in_ok-push.ensures.items;
      fits = λ k h a. subst (AreFit k) (sym c.in_ok-push.ensures.items) (fit_on_top k ts t h a);
      values = refl;
      machine = refl;
      depth = refl;
    }
