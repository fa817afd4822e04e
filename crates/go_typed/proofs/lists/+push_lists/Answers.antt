use Rattle.std.proofs.Common.{◌∙◌, ◌++◌, ◌≤◌, ap, sym, length, arith}
use Rattle.std.proofs.lemmas.List.{append_assoc, append-nil, drop_all}
use Rattle.go_typed.specs.Lists.{lists_among, own_list, seen_lists}
use Rattle.go_typed.specs.Views.{view, views}
use Rattle.go_typed.proofs.Nodes.{lists_opened}
use Rattle.go_typed.proofs.lists.+push_lists.Goals as goal

pub returns : goal.returns
returns t c =
    let parts = c.deref-part-items.result.now in
    let i = c.loop-part.part-index in
    let now = seen_lists c.loop-part.nodes.items in
    let old = seen_lists c.args.nodes.now.items in
    let own = own_list (view c.args.node.now) in
    let ended : length parts ≤ i = omega (arith, c.loop-part-test.false) in
    sym (append-nil now)
    ∙ ap (λ ps. now ++ lists_among (views ps)) (sym (drop_all i parts ended))
    ∙ sym c.loop-part.invariant
    ∙ ap (λ ns. ns ++ lists_among (views parts)) c.in_ok-push_own.ensures
    ∙ append_assoc old own (lists_among (views parts))
    ∙ ap (λ ps. old ++ (own ++ lists_among (views ps))) c.deref-part-items.ensures.value
    ∙ ap (λ ns. old ++ ns) (sym (lists_opened c.args.node.now))
