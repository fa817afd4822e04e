use Rattle.std.proofs.Common.{◌≡◌, ◌≢◌, ◌≤◌, ◌+◌, ℕ, Option, Some, true, [], ◌∷◌, map, take, length, get_or, set, slice_get, subst, sym, ap, ◌∙◌, refl, arith}
use Rattle.std.proofs.lemmas.List.{take_all, length-set, get_or-set_other}
use Rattle.std.proofs.lemmas.Option.{slice_get-get_or}
use Rattle.std.specs.Option.{option_map}
use Rattle.go_typed.specs.declared.node.TypedNode.{TypedNode}
use Rattle.go_typed.specs.Views.{seen, AllKnown}
use Rattle.go_types.specs.Tables.{type_of}
use Rattle.go_exprs_rules.specs.Settling.{settled}
use Rattle.go_exprs_rules.specs.Sorts.{takes_type}
use Rattle.go_typed.specs.Trees.{sort_of}
use Rattle.go_exprs_engine.proofs.Nodes.{known_at, known_set, changed_more, part_smaller, settled_then, known_then}
use Rattle.go_exprs_engine.proofs.settle.+settle.Goals as goal
use Rattle.go_exprs_engine.proofs.settle.+settle.Goals.{in-Some, in_default}

pub settle-requires : goal.settle-requires
settle-requires t c =
    let k = (length c.args.types.now.shapes) in
    let i = c.loop-part.part-index in
    let ms = c.deref_mut-part-items.result.now in
    let known = known_at k c.loop-part.part-items i c.part-item.result (omega arith) c.loop-part.invariant.known in
    let old : get_or ms i c.part-item.result ≡ Some c.in-Some.part = sym (c.loop-part.invariant.unvisited.1 i c.part-item.result (omega arith)) ∙ c.in-Some.is in
    let there : slice_get ms i ≡ Some (Some c.in-Some.part) = slice_get-get_or ms i c.part-item.result c.loop-part-test.true ∙ ap Some old in
    let low = part_smaller c.args.node.now _ ms i c.in-Some.part c.deref_mut-part-items.ensures.value refl there in
    (omega (arith, low, c.decreases), (c.requires.of, (subst (λ o. AllKnown k (o ∷ [])) c.in-Some.is known).0))

pub loop-part-preserved : goal.loop-part-preserved
loop-part-preserved t c =
    let k = (length c.args.types.now.shapes) in
    let g = option_map (seen c.args.types.now) in
    let f = option_map (settled (type_of c.args.types.now.shapes c.args.of)) in
    let i = c.loop-part.part-index in
    let ns = c.loop-part.part-items in
    let ms = c.deref_mut-part-items.result.now in
    let r = c.part-item.result in
    let old = c.loop-part.invariant.unvisited.1 i r (omega arith) in
    let same : r ≡ get_or ms i r = c.part-item.is ∙ old in
    let others : (p : Option TypedNode) → (length (set ns i p) ≡ length ms) × ((k : ℕ) (d : Option TypedNode) → i + 1 ≤ k → get_or (set ns i p) k d ≡ get_or ms k d) =
    λ p. (length-set ns i p ∙ c.loop-part.invariant.unvisited.0, λ k d le. let ne : k ≢ i = omega arith in get_or-set_other ns i k p d ne ∙ c.loop-part.invariant.unvisited.1 k d (omega arith)) in
    elim c.match-part.branch [
      | in-Some w ↦ record {
        unvisited = subst (λ items. (length items ≡ length ms) × ((k : ℕ) (d : Option TypedNode) → i + 1 ≤ k → get_or items k d ≡ get_or ms k d)) (sym w.part-items-is) (others (Some w.settle.new.node));
        known = subst (AllKnown k) (sym w.part-items-is) (known_set k ns i (Some w.settle.new.node) c.loop-part.invariant.known (w.settle.ensures.known, tt));
        parts = ap (λ items. map g (take (i + 1) items)) w.part-items-is ∙ changed_more g f ns ms i (Some w.settle.new.node) r (omega arith) (omega arith) same
            (ap Some w.settle.ensures.tree ∙ ap (λ o. f (g o)) (sym (c.part-item.is ∙ w.in-Some.is))) c.loop-part.invariant.parts;
      }
      | in_default w ↦ record {
        unvisited = subst (λ items. (length items ≡ length ms) × ((k : ℕ) (d : Option TypedNode) → i + 1 ≤ k → get_or items k d ≡ get_or ms k d)) (sym w.part-items-is) (others (get_or ns i r));
        known = subst (AllKnown k) (sym w.part-items-is) (known_set k ns i (get_or ns i r) c.loop-part.invariant.known (known_at k ns i r (omega arith) c.loop-part.invariant.known));
        parts = ap (λ items. map g (take (i + 1) items)) w.part-items-is ∙ changed_more g f ns ms i (get_or ns i r) r (omega arith) (omega arith) same
            (ap g w.in_default.is ∙ ap (λ o. f (g o)) (sym (c.part-item.is ∙ w.in_default.is))) c.loop-part.invariant.parts;
      }
    ]

pub returns-after-loop-part-clause-tree : goal.returns-after-loop-part-clause-tree
returns-after-loop-part-clause-tree t c =
    let ns = c.loop-part.part-items in
    let ms = c.deref_mut-part-items.result.now in
    let g = option_map (seen c.args.types.now) in
    let f = option_map (settled (type_of c.args.types.now.shapes c.args.of)) in
    let takes_node : takes_type (sort_of (seen c.args.types.now c.args.node.now)) ≡ true = ap takes_type (sym c.sort_of.ensures.tree) ∙ sym c.takes_type.ensures ∙ c.if-takes_type.true in
    settled_then c.args.types.now (type_of c.args.types.now.shapes c.args.of) c.args.node.now _ _ ns ms takes_node refl refl refl c.retype.ensures.tree refl refl refl refl refl refl refl refl refl refl c.deref_mut-part-items.ensures.value c.loop-part.auto.part-items
    (sym (ap (map g) (take_all c.loop-part.part-index ns (omega arith))) ∙ c.loop-part.invariant.parts ∙ ap (λ zs. map f (map g zs)) (take_all c.loop-part.part-index ms (omega arith)))

pub returns-after-loop-part-clause-known : goal.returns-after-loop-part-clause-known
returns-after-loop-part-clause-known t c =
    known_then c.args.types.now (type_of c.args.types.now.shapes c.args.of) c.args.node.now _ _ c.loop-part.part-items c.deref_mut-part-items.result.now (length c.args.types.now.shapes) c.retype.ensures.known refl refl c.deref_mut-part-items.ensures.value c.loop-part.auto.part-items c.loop-part.invariant.known
