use Rattle.std.proofs.Common.{◌≡◌, ◌∙◌, ◌≤◌, suc, drop, length, ap, sym, arith}
use Rattle.std.proofs.lemmas.List.{drop_all}
use Rattle.go_typed.specs.Funcs.{size, sizes}
use Rattle.go_typed.specs.Views.{view, views}
use Rattle.go_typed.proofs.Nodes.{size_opened}
use Rattle.go_typed.proofs.node.TypedNode.+size.Goals as goal

pub returns : goal.returns
returns t c =
    let parts = c.deref-part-items.result.now in
    let i = c.loop-part.part-index in
    let ended : length parts ≤ i = omega (arith, c.loop-part-test.false) in
    let left : sizes (views (drop i parts)) ≡ 0 = ap (λ ps. sizes (views ps)) (drop_all i parts ended) in
    let whole : size (view c.args.self.now) ≡ suc (sizes (views parts)) = size_opened c.args.self.now ∙ ap (λ qs. suc (sizes (views qs))) (sym c.deref-part-items.ensures.value) in
    omega (arith, left, whole, c.loop-part.invariant.0, c.loop-part.invariant.1)
