use Rattle.std.proofs.Common.{◌≡◌, ◌∙◌, ◌+◌, ◌≤◌, ◌++◌, drop, length, slice_get, Some, ap, sym, subst, refl, arith, ℕ, suc}
use Rattle.std.proofs.lemmas.Option.{slice_get_read}
use Rattle.std.proofs.lemmas.List.{append_assoc, drop_all}
use Rattle.go_typed.specs.declared.node.TypedNode.{out-TypedNode}
use Rattle.go_typed.specs.Funcs.{size, sizes}
use Rattle.go_typed.specs.NodeTables.{part_places, numbers_among, own_number}
use Rattle.go_typed.specs.Trees.{Typeds, more, none}
use Rattle.go_typed.specs.Views.{view, views}
use Rattle.go_typed.proofs.Nodes.{size_opened}
use Rattle.go_typed.proofs.NodeTables.{NodesLeft, NodesDone, nodes-room, nodes-end, inner_opened, numbers_opened}
use Rattle.go_typed.proofs.Walks.{rest}
use Rattle.go_typed.proofs.node_table.NodeTable.+push_node.Goals as goal

pub push_node-requires : goal.push_node-requires
push_node-requires t c =
    let parts = c.deref-part-items.result.now in
    let i = c.loop-part.part-index in
    let there : slice_get parts i ≡ Some (Some c.in-Some.part) = slice_get_read parts (length parts) i c.part-item.result refl c.loop-part-test.true c.part-item.is ∙ ap Some c.in-Some.is in
    let P : Typeds ℕ → Type 0 = λ r. NodesLeft c.args.number c.loop-part.next c.loop-part.index (views parts) r c.push_own.new.self.places.items c.loop-part.self.places.items c.push_own.new.self.lists.items c.loop-part.self.lists.items in
    let left : P (more (view c.in-Some.part) (views (drop (i + 1) parts))) = subst P (rest parts i c.in-Some.part there) c.loop-part.invariant.0 in
    let room = nodes-room c.args.number c.loop-part.next c.loop-part.index (views parts) (view c.in-Some.part) (views (drop (i + 1) parts)) c.push_own.new.self.places.items c.loop-part.self.places.items c.push_own.new.self.lists.items c.loop-part.self.lists.items left in
    let whole : size (view c.args.node.now) ≡ suc (sizes (views parts)) = size_opened c.args.node.now ∙ ap (λ qs. suc (sizes (views qs))) (sym c.deref-part-items.ensures.value) in
    (omega (arith, room, whole, c.loop-part.invariant.2, c.decreases), omega (arith, room, whole, c.requires))

pub returns-clause-next : goal.returns-clause-next
returns-clause-next t c =
    let parts = c.deref-part-items.result.now in
    let n = c.args.number in
    let node = c.args.node.now in
    let first = c.push_own.new.self in
    let now = c.loop-part.self in
    let P : Typeds ℕ → Type 0 = λ r. NodesLeft n c.loop-part.next c.loop-part.index (views parts) r first.places.items now.places.items first.lists.items now.lists.items in
    let ended : length parts ≤ c.loop-part.part-index = omega (arith, c.loop-part-test.false) in
    let left : P none = subst P (ap views (drop_all c.loop-part.part-index parts ended)) c.loop-part.invariant.0 in
    let done : NodesDone n c.loop-part.next (views parts) first.places.items now.places.items first.lists.items now.lists.items = nodes-end n c.loop-part.next c.loop-part.index (views parts) first.places.items now.places.items first.lists.items now.lists.items left in
    let same : views parts ≡ views (out-TypedNode node).parts.items = ap views c.deref-part-items.ensures.value in
    let whole : size (view node) ≡ suc (sizes (views parts)) = size_opened node ∙ ap (λ qs. suc (sizes qs)) (sym same) in
    let e : c.loop-part.next ≡ suc n + sizes (views parts) = done.next_is in
    omega (arith, whole, e)

pub returns-clause-places : goal.returns-clause-places
returns-clause-places t c =
    let parts = c.deref-part-items.result.now in
    let n = c.args.number in
    let node = c.args.node.now in
    let first = c.push_own.new.self in
    let now = c.loop-part.self in
    let P : Typeds ℕ → Type 0 = λ r. NodesLeft n c.loop-part.next c.loop-part.index (views parts) r first.places.items now.places.items first.lists.items now.lists.items in
    let ended : length parts ≤ c.loop-part.part-index = omega (arith, c.loop-part-test.false) in
    let left : P none = subst P (ap views (drop_all c.loop-part.part-index parts ended)) c.loop-part.invariant.0 in
    let done : NodesDone n c.loop-part.next (views parts) first.places.items now.places.items first.lists.items now.lists.items = nodes-end n c.loop-part.next c.loop-part.index (views parts) first.places.items now.places.items first.lists.items now.lists.items left in
    let same : views parts ≡ views (out-TypedNode node).parts.items = ap views c.deref-part-items.ensures.value in
    done.places
    ∙ ap (λ ps. ps ++ part_places n 0 (suc n) (views parts)) c.in_ok-push_own.ensures.places
    ∙ ap (λ qs. c.args.self.now.places.items ++ part_places n 0 (suc n) qs) same
    ∙ ap (λ ps. c.args.self.now.places.items ++ ps) (sym (inner_opened n node))

pub returns-clause-lists : goal.returns-clause-lists
returns-clause-lists t c =
    let parts = c.deref-part-items.result.now in
    let n = c.args.number in
    let node = c.args.node.now in
    let first = c.push_own.new.self in
    let now = c.loop-part.self in
    let P : Typeds ℕ → Type 0 = λ r. NodesLeft n c.loop-part.next c.loop-part.index (views parts) r first.places.items now.places.items first.lists.items now.lists.items in
    let ended : length parts ≤ c.loop-part.part-index = omega (arith, c.loop-part-test.false) in
    let left : P none = subst P (ap views (drop_all c.loop-part.part-index parts ended)) c.loop-part.invariant.0 in
    let done : NodesDone n c.loop-part.next (views parts) first.places.items now.places.items first.lists.items now.lists.items = nodes-end n c.loop-part.next c.loop-part.index (views parts) first.places.items now.places.items first.lists.items now.lists.items left in
    let same : views parts ≡ views (out-TypedNode node).parts.items = ap views c.deref-part-items.ensures.value in
    done.lists
    ∙ ap (λ ns. ns ++ numbers_among (suc n) (views parts)) c.in_ok-push_own.ensures.lists
    ∙ append_assoc c.args.self.now.lists.items (own_number n (view node)) (numbers_among (suc n) (views parts))
    ∙ ap (λ qs. c.args.self.now.lists.items ++ (own_number n (view node) ++ numbers_among (suc n) qs)) same
    ∙ ap (λ ns. c.args.self.now.lists.items ++ ns) (sym (numbers_opened n node))
