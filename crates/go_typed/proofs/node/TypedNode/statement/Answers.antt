use Rattle.std.proofs.Common.{◌≡◌, ◌∙◌, ◌≤◌, drop, length, slice_get, Some, ap, refl, arith}
use Rattle.std.proofs.lemmas.Option.{slice_get_read}
use Rattle.std.proofs.lemmas.List.{drop_all}
use Rattle.go_typed.specs.Lists.{present}
use Rattle.go_typed.specs.Views.{views}
use Rattle.go_typed.proofs.Walks.{rest, statement_is}
use Rattle.go_typed.proofs.node.TypedNode.statement.Goals as goal

pub returns-then-left-eq0 : goal.returns-then-left-eq0
returns-then-left-eq0 c =
    let parts = c.deref-part-items.result.now in
    let i = c.loop-part.part-index in
    let there : slice_get parts i ≡ Some (Some c.in-Some.part) = slice_get_read parts (length parts) i c.part-item.result refl c.loop-part-test.true c.part-item.is ∙ ap Some c.in-Some.is in
    statement_is c.args.self.now parts c.args.number c.values_count.result c.loop-part.left i c.deref-part-items.ensures.value c.values_count.ensures c.loop-part.invariant
    ∙ ap (slice_get (present (views (drop i parts)))) c.if-left-eq0.true
    ∙ ap (λ row. slice_get (present row) 0) (rest parts i c.in-Some.part there)

pub returns : goal.returns
returns c =
    let parts = c.deref-part-items.result.now in
    let i = c.loop-part.part-index in
    let ended : length parts ≤ i = omega (arith, c.loop-part-test.false) in
    statement_is c.args.self.now parts c.args.number c.values_count.result c.loop-part.left i c.deref-part-items.ensures.value c.values_count.ensures c.loop-part.invariant
    ∙ ap (λ ps. slice_get (present (views ps)) c.loop-part.left) (drop_all i parts ended)
