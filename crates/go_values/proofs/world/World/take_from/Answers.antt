use Rattle.std.proofs.Common.{◌≡◌, [], ◌∷◌, sym, ap, ◌∙◌, subst}
use Rattle.go_meaning.specs.Values as meant
use Rattle.go_meaning.specs.Operations.{with_cells}
use Rattle.go_values.specs.Views.{view}
use Rattle.go_values.specs.Worlds.{array_views, world_view}
use Rattle.go_values.proofs.Views.{view_slice}
use Rattle.go_values.proofs.Arrays.{cell_again}
use Rattle.go_values.proofs.world.World.take_from.Goals as goal

pub returns-in-Slice-clause-left : goal.returns-in-Slice-clause-left
returns-in-Slice-clause-left c = λ v.
    let s = c.in-Slice.segment in
    let w = world_view c.args.self.now in
    let new = array_views c.take_in.new.arrays.items in
    let is : view c.args.slice.now ≡ meant.Slice s.array s.start s.length s.capacity = ap view c.in-Slice.is ∙ view_slice s in
    subst (λ (u : meant.Value). with_cells u c.args.place (v ∷ []) (record w { arrays = new }) ≡ with_cells u c.args.place (v ∷ []) w) (sym is)
    (cell_again w new s.array s.start s.length s.capacity c.args.place meant.NilFunction v c.take_in.ensures.left)
