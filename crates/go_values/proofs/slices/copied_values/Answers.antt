use Rattle.std.proofs.Common.{◌≡◌, List, IfOk, ap, ◌∙◌, subst, take}
use Rattle.go_meaning.specs.Values.{Value}
use Rattle.go_values.specs.Views.{views}
use Rattle.go_values.specs.Worlds.{world_view}
use Rattle.go_values.proofs.Copying.{text_read}
use Rattle.go_values.proofs.slices.copied_values.Goals as goal

pub returns-in-Text : goal.returns-in-Text
returns-in-Text c =
    subst (λ (us : List Value). IfOk c.values_of.result (λ vs. views vs.items ≡ us))
    (text_read c.args.origin.now c.in-Text.bytes c.first_bytes.result.now c.args.count (world_view c.args.world.now) c.in-Text.is (c.first_bytes.ensures ∙ ap (take c.args.count) c.as_slice.ensures))
    c.values_of.ensures
