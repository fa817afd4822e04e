use Rattle.std.proofs.Common.{Vec, Global, length, sym, ap, ◌∙◌}
use Rattle.go_meaning.specs.Operations.{length_of}
use Rattle.go_values.specs.Views.{view, views}
use Rattle.go_values.specs.declared.value.Value.{Value}
use Rattle.go_values.proofs.Views.{view_parts, listed_valued}
use Rattle.go_values.proofs.Heap.{length_views}
use Rattle.go_values.proofs.slices.length.Goals as goal

pub returns-in-Parts : goal.returns-in-Parts
returns-in-Parts c =
    let v = c.in-Parts.parts in
    ap length c.as_slice-in-Parts.ensures.value ∙ ap (λ (w : Vec Value Global). length w.items) c.as_ref.ensures
    ∙ sym (ap (λ x. length_of (view x)) c.in-Parts.is ∙ ap length_of (view_parts v) ∙ ap length (listed_valued (views v.value.items)) ∙ length_views v.value.items)
