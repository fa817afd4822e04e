use Rattle.std.proofs.Common.{[], ap, ◌∙◌, slice_set}
use Rattle.std.proofs.lemmas.List.{set-set}
use Rattle.go_meaning.specs.Values as meant
use Rattle.go_meaning.specs.Operations.{Gives}
use Rattle.go_values.specs.Views.{views}
use Rattle.go_values.specs.Worlds.{world_view}
use Rattle.go_values.proofs.world.World.take_variable.Goals as goal

pub returns-clause-left : goal.returns-clause-left
returns-clause-left c = λ v.
    let w = world_view c.args.self.now in
    let k = c.args.number in
    ap (λ vs. Gives [] (record w { variables = slice_set vs k v })) c.taken.ensures.left ∙ ap (λ vs. Gives [] (record w { variables = vs })) (set-set w.variables k meant.NilFunction v)
