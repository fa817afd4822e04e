use Rattle.std.proofs.Common.{◌++◌, ◌∷◌, [], List, ap, ◌∙◌}
use Rattle.go_meaning.specs.Values.{nth}
use Rattle.go_values.specs.declared.value.Value.{Value}
use Rattle.go_values.specs.Views.{view, views}
use Rattle.go_values.specs.Worlds.{world_view}
use Rattle.go_eval_machine.specs.Tasks.{rest}
use Rattle.go_eval_machine.specs.Engines.{reads}
use Rattle.go_eval_machine.proofs.Performing.{read_gives}
use Rattle.go_eval_machine.proofs.Going.{given_at}
use Rattle.go_eval_machine.proofs.engine.Engine.local.Goals as goal

pub returns : goal.returns
returns c = λ p.
    let old = c.args.self.now in
    let v = view c.in_ok-value.value in
    let k = c.args.number in
    given_at p (reads k) old c.give.new.self (tt {0}) (views old.values.items ++ v ∷ []) c.in_ok-give.ensures.kept c.in_ok-give.ensures.values
    (λ n le. read_gives (rest p n old.tasks.items) (views old.values.items) old.depth (views old.machine.frame.items) (world_view old.machine.world) old.machine.turns k v
    (c.in_ok-value.ensures ∙ (c.operand.ensures ∙ ap (λ (vs : List Value). nth (views vs) k) c.deref.ensures.value)))
