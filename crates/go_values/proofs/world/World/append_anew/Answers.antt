use Rattle.std.proofs.Common.{◌≡◌, ◌+◌, ◌*◌, ◌++◌, length, max, sym, ap, ◌∙◌}
use Rattle.go_meaning.specs.Operations.{capacity_of, contents, length_of, new_slice}
use Rattle.go_values.specs.Views.{view, views}
use Rattle.go_values.specs.Worlds.{world_view}
use Rattle.go_values.proofs.Appending.{if_weaker}
use Rattle.go_values.proofs.world.World.append_anew.Goals as goal

pub returns-clause-value : goal.returns-clause-value
returns-clause-value c =
    let s = view c.args.slice.now in
    let vs = c.args.values.items in
    let w = world_view c.args.self.now in
    let f = view c.args.zero.now in
    let all : views c.in_ok-all.all.items ≡ contents s w ++ views vs = c.in_ok-all.ensures ∙ ap (λ us. us ++ views vs) (c.in_ok-elements.ensures ∙ c.contents.ensures) in
    let n : c.in_ok-capacity.capacity ≡ max (length_of s + length vs) (2 * capacity_of s) =
    c.in_ok-capacity.ensures ∙ ap (λ us. max (length_of s + length us) (2 * capacity_of s)) c.as_slice.ensures.value in
    if_weaker c.new_slice.result _ _ (λ v h. sym (ap (λ us. new_slice us c.in_ok-capacity.capacity f w) all ∙ ap (λ k. new_slice (contents s w ++ views vs) k f w) n) ∙ h) c.new_slice.ensures.value
