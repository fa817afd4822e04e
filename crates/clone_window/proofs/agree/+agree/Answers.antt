use Rattle.std.proofs.Common.{false, true, refl, sym, ap, ◌∙◌, ◌+◌}
use Rattle.go_typed.specs.declared.node.TypedNode.TheViews.{out-TypedNode}
use Rattle.go_typed.specs.Views.{sort_view}
use Rattle.clone_window.specs.Fields.{field_text}
use Rattle.clone_window.proofs.FieldNames.{within}
use Rattle.clone_window.proofs.SameNames.{lengths-named, named-apart, named-parts, rest-named, skip-named}
use Rattle.clone_window.proofs.agree.+agree.Goals as goal
use Rattle.clone_window.proofs.agree.+agree.Goals.{agree_named-then-agree_alone, agree_named-else-agree_alone, all_named-in-Some-Some+else-not-agree_named, all_named-in-None-None}

pub all_named-returns-then-parts-others : goal.all_named-returns-then-parts-others
all_named-returns-then-parts-others t c =
    sym (lengths-named (field_text c.args.types.now) c.args.inside c.args.other_inside (sort_view c.args.owner.now) (sort_view c.args.other_owner.now) c.args.parts.now c.args.others.now c.if-parts-others.true)

pub all_named-returns-then-not-agree_named : goal.all_named-returns-then-not-agree_named
all_named-returns-then-not-agree_named t c =
    sym (c.loop-part.invariant.0
    ∙ rest-named (field_text c.args.types.now) c.args.inside c.args.other_inside false (sort_view c.args.owner.now) (sort_view c.args.other_owner.now) c.args.parts.now c.args.others.now
    c.loop-part.part-index c.loop-part.index c.part-item.result c.index-others-index.result c.in-Some-Some.node c.in-Some-Some.other
    c.loop-part-test.true c.if-parts-others.false c.loop-part.invariant.1 c.part-item.is c.index-others-index.is c.in-Some-Some.is-0 c.in-Some-Some.is-1
    (sym c.agree_named.ensures ∙ c.if-not-agree_named.true))

pub all_named-loop-part-preserved : goal.all_named-loop-part-preserved
all_named-loop-part-preserved t c =
    let names = field_text c.args.types.now in
    let s = sort_view c.args.owner.now in
    let o = sort_view c.args.other_owner.now in
    let xs = c.args.parts.now in
    let ys = c.args.others.now in (
      c.loop-part.invariant.0 ∙ elim c.match-part.branch [
        | all_named-in-Some-Some+else-not-agree_named w ↦
            rest-named names c.args.inside c.args.other_inside true s o xs ys c.loop-part.part-index c.loop-part.index c.part-item.result c.index-others-index.result w.in-Some-Some.node w.in-Some-Some.other
            c.loop-part-test.true c.if-parts-others.false c.loop-part.invariant.1 c.part-item.is c.index-others-index.is w.in-Some-Some.is-0 w.in-Some-Some.is-1
            (sym w.agree_named.ensures ∙ w.if-not-agree_named.false)
        | all_named-in-None-None w ↦
            skip-named names c.args.inside c.args.other_inside s o xs ys c.loop-part.part-index c.loop-part.index c.part-item.result c.index-others-index.result
            c.loop-part-test.true c.if-parts-others.false c.loop-part.invariant.1 c.part-item.is c.index-others-index.is w.in-None-None.is-0 w.in-None-None.is-1
      ],
      ap (λ n. n + 1) c.loop-part.invariant.1,
    )

pub agree_named-returns-then-same_field : goal.agree_named-returns-then-same_field
agree_named-returns-then-same_field t c =
    elim c.if-agree_alone.branch [
      | agree_named-then-agree_alone w ↦
          c.all_named.ensures
          ∙ sym (named-parts (field_text c.args.types.now) c.args.inside c.args.other_inside true c.is_inside-within.result c.is_inside-other_within.result
          (sort_view c.args.owner.now) (sort_view c.args.other_owner.now) c.args.node.now c.args.other.now
          w.deref.result.now w.deref-then-agree_alone.result.now c.deref-then-same_field.result.now c.deref-then-same_field-2.result.now
          (sym c.is_hole.ensures ∙ c.if-is_hole.false) (sym c.is_hole-2.ensures ∙ c.if-is_hole-3.false) (sym c.agree_alone.ensures ∙ w.if-agree_alone.true)
          w.deref.ensures.value w.deref-then-agree_alone.ensures.value c.deref-then-same_field.ensures.value c.deref-then-same_field-2.ensures.value
          c.is_inside-within.ensures c.is_inside-other_within.ensures (sym w.same_field.ensures ∙ sym w.value-is ∙ c.if-same_field.true))
      | agree_named-else-agree_alone w ↦ cc
    ]

pub agree_named-returns-else-same_field : goal.agree_named-returns-else-same_field
agree_named-returns-else-same_field t c =
    elim c.if-agree_alone.branch [
      | agree_named-then-agree_alone w ↦
          c.if-same_field.false
          ∙ sym (named-parts (field_text c.args.types.now) c.args.inside c.args.other_inside false (within c.args.inside c.args.node.now) (within c.args.other_inside c.args.other.now)
          (sort_view c.args.owner.now) (sort_view c.args.other_owner.now) c.args.node.now c.args.other.now
          w.deref.result.now w.deref-then-agree_alone.result.now (out-TypedNode c.args.node.now).parts.items (out-TypedNode c.args.other.now).parts.items
          (sym c.is_hole.ensures ∙ c.if-is_hole.false) (sym c.is_hole-2.ensures ∙ c.if-is_hole-3.false) (sym c.agree_alone.ensures ∙ w.if-agree_alone.true)
          w.deref.ensures.value w.deref-then-agree_alone.ensures.value refl refl refl refl (sym w.same_field.ensures ∙ sym w.value-is ∙ c.if-same_field.false))
      | agree_named-else-agree_alone w ↦
          c.if-same_field.false
          ∙ sym (named-apart (field_text c.args.types.now) c.args.inside c.args.other_inside (sort_view c.args.owner.now) (sort_view c.args.other_owner.now) c.args.node.now c.args.other.now
          (sym c.is_hole.ensures ∙ c.if-is_hole.false) (sym c.is_hole-2.ensures ∙ c.if-is_hole-3.false) (sym c.agree_alone.ensures ∙ w.if-agree_alone.false))
    ]
