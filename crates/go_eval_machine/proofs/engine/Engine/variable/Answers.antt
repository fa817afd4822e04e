use Rattle.std.proofs.Common.{◌++◌, ◌∷◌, []}
use Rattle.go_meaning.specs.Operations.{ReadVariable}
use Rattle.go_values.specs.Views.{view, views}
use Rattle.go_values.specs.Worlds.{world_view}
use Rattle.go_eval_machine.specs.Tasks.{rest}
use Rattle.go_eval_machine.specs.Engines.{operates}
use Rattle.go_eval_machine.proofs.Performing.{operation_gives}
use Rattle.go_eval_machine.proofs.Going.{given_at}
use Rattle.go_eval_machine.proofs.engine.Engine.variable.Goals as goal

pub returns : goal.returns
returns c = λ p.
    let old = c.args.self.now in
    let v = view c.in_ok-value.value in
    let o = ReadVariable c.args.number in
    given_at p (operates o) old c.give.new.self (tt {0}) (views old.values.items ++ v ∷ []) c.in_ok-give.ensures.kept c.in_ok-give.ensures.values
    (λ n le. operation_gives (rest p n old.tasks.items) (views old.values.items) old.depth (views old.machine.frame.items) (world_view old.machine.world) old.machine.turns o [] v (world_view old.machine.world) c.in_ok-value.ensures)
