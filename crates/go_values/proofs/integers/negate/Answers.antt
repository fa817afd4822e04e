use Rattle.std.proofs.Common.{◌≡◌, [], ◌∷◌, pos, neg_ℤ, ◌-ℤ◌, sym, ap, ◌∙◌}
use Rattle.std.specs.Int.{w128}
use Rattle.std.proofs.lemmas.Int.{to_z-of_z}
use Rattle.go_ints.specs.Kinds.{wrapped_into}
use Rattle.go_meaning.specs.Values as meant
use Rattle.go_meaning.specs.Values.{whole_of}
use Rattle.go_meaning.specs.Operations.{Gives}
use Rattle.go_values.specs.Views.{view}
use Rattle.go_values.proofs.Views.{view_whole}
use Rattle.go_values.proofs.Wrapping.{negated}
use Rattle.go_values.proofs.integers.negate.Goals as goal

pub returns : goal.returns
returns c w =
    let kind = c.args.kind in
    let z = whole_of (view c.args.x.now) in
    let told_x = to_z-of_z w128 c.whole.result (record { sfits = c.whole.type_inv }) in
    let told_o = to_z-of_z w128 c.opposite.result (record { sfits = c.opposite.type_inv }) in
    let told_w = to_z-of_z w128 c.wrap_into.result (record { sfits = c.wrap_into.type_inv }) in
    let opposite : c.opposite.result ≡ pos 0 -ℤ wrapped_into kind c.whole.result = simp told_x at c.opposite.ensures in
    let wrapped : c.wrap_into.result ≡ wrapped_into kind c.opposite.result = simp told_o at c.wrap_into.ensures in
    let all : c.wrap_into.result ≡ wrapped_into kind (neg_ℤ z) =
    wrapped ∙ ap (wrapped_into kind) (opposite ∙ ap (λ y. pos 0 -ℤ wrapped_into kind y) c.whole.ensures) ∙ negated kind z in
    sym (ap (λ v. Gives (v ∷ []) w) (view_whole _ ∙ ap meant.Whole (told_w ∙ all)))
