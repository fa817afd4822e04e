use Rattle.std.proofs.Common.{◌≡◌, ◌∙◌, ◌-◌, ◌<◌, Some, None, slice_get, ap, sym, arith}
use Rattle.std.specs.Option.{option_map}
use Rattle.go_typed.specs.NodeTables.{part_there}
use Rattle.go_typed.specs.Places.{nodes}
use Rattle.go_typed.specs.Views.{view}
use Rattle.go_typed.proofs.NodeTables.{node-absent, node-placed, part-found, above-found, mapped-twice}
use Rattle.go_typed.proofs.node_table.NodeTable.+node.Goals as goal

pub returns-in_err-place : goal.returns-in_err-place
returns-in_err-place t c =
    let lookup : slice_get c.args.self.now.places.items (c.args.number - 1) ≡ None = c.place.ensures ∙ c.in_err-place.was in
    let gone : c.from_residual.result ≡ None = c.from_residual.ensures in
    node-absent (view c.args.tree.now) c.args.self.now c.args.number c.requires c.if-number-eq0.false lookup
    ∙ ap (option_map (λ n. view n.now)) (sym gone)

pub node-requires : goal.node-requires
node-requires t c =
    let lookup : slice_get c.args.self.now.places.items (c.args.number - 1) ≡ Some c.in_ok-place.place = c.place.ensures ∙ c.in_ok-place.was in
    let stands = node-placed (view c.args.tree.now) c.args.self.now c.args.number c.in_ok-place.place c.requires c.if-number-eq0.false lookup in
    let low : c.in_ok-place.place.above < c.args.number = stands.behind in
    (omega (arith, low, c.decreases), c.requires)

pub returns-in_err-above : goal.returns-in_err-above
returns-in_err-above t c =
    let lookup : slice_get c.args.self.now.places.items (c.args.number - 1) ≡ Some c.in_ok-place.place = c.place.ensures ∙ c.in_ok-place.was in
    let stands = node-placed (view c.args.tree.now) c.args.self.now c.args.number c.in_ok-place.place c.requires c.if-number-eq0.false lookup in
    absurd (above-found (nodes (view c.args.tree.now)) c.in_ok-place.place c.args.number stands (c.node.ensures ∙ ap (option_map (λ n. view n.now)) (c.in_err-above.was)))

pub returns : goal.returns
returns t c =
    let lookup : slice_get c.args.self.now.places.items (c.args.number - 1) ≡ Some c.in_ok-place.place = c.place.ensures ∙ c.in_ok-place.was in
    let stands = node-placed (view c.args.tree.now) c.args.self.now c.args.number c.in_ok-place.place c.requires c.if-number-eq0.false lookup in
    part-found (nodes (view c.args.tree.now)) c.in_ok-place.place c.args.number c.in_ok-above.above.now stands (c.node.ensures ∙ ap (option_map (λ n. view n.now)) (c.in_ok-above.was))
    ∙ ap (λ ps. option_map view (part_there (slice_get ps c.in_ok-place.place.part))) (sym c.deref.ensures.value)
    ∙ ap (option_map view) c.part_at.ensures
    ∙ mapped-twice (λ n. n.now) view c.part_at.result
