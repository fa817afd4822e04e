use Rattle.std.proofs.Common.{◌≡◌, ◌∙◌, ◌++◌, ◌+◌, ◌-◌, List, Option, length, true, refl, ap, sym, subst, arith}
use Rattle.go_typed.specs.declared.node.TypedNode.{TypedNode, out-TypedNode}
use Rattle.go_typed.specs.Forms.{local_of}
use Rattle.go_typed.specs.Funcs.{size, sizes}
use Rattle.go_typed.specs.Views.{label_at, sort_view, view, views}
use Rattle.clone_window.specs.Kinds.{outline}
use Rattle.clone_window.specs.Masses.{is_inside}
use Rattle.clone_window.specs.Sameness.{compared}
use Rattle.alpha_hash_defs.specs.Words.{Word, compared_words, constants_words, defined_words, field_words, kind_words, local_words, object_words, operator_words, own_words, row_words}
use Rattle.alpha_hash.specs.Shown.{knows_part, knows_parts, naming, part_words, shown}
use Rattle.alpha_hash.proofs.Rows.{opened-known, opened-size, opened-words, own-joined, part-size, part-small, row-known, row-more, weaker-ok}
use Rattle.alpha_hash.proofs.words.+words.Goals as goal

pub push_words-push_open-requires : goal.push_words-push_open-requires
push_words-push_open-requires t c =
    let k = opened-known c.args.names c.args.node.now c.requires.node in
    let small : sizes (views c.deref.result.now) ≡ sizes (views (out-TypedNode c.args.node.now).parts.items) = ap (λ ps. sizes (views ps)) c.deref.ensures.value in (
      omega (arith, opened-size c.args.node.now, small, c.decreases),
      (c.requires.locals, (k.sort, subst (λ (ps : List (Option TypedNode)). knows_parts c.args.names (views ps) ≡ true) (sym c.deref.ensures.value) k.parts)),
    )

pub push_open-push_row-requires : goal.push_open-push_row-requires
push_open-push_row-requires t c = (omega (arith, c.decreases), (c.requires.locals, c.requires.parts))

pub push_row-push_part-requires : goal.push_row-push_part-requires
push_row-push_part-requires t c =
    let k = (row-known c.args.names c.args.parts.now c.loop-part.part-index c.part-item.result c.loop-part-test.true c.part-item.is c.loop-part.invariant.known).0 in
    let small = part-small c.args.parts.now c.loop-part.part-index c.part-item.result c.loop-part-test.true c.part-item.is in
    (omega (arith, small, c.decreases), (c.requires.locals, k))

pub push_part-push_words-requires : goal.push_part-push_words-requires
push_part-push_words-requires t c =
    let small : part-size c.args.part.now ≡ size (view c.in-Some.node) = ap part-size c.in-Some.is in
    (omega (arith, small, c.decreases), (c.requires.locals, subst (λ (o : Option TypedNode). knows_part c.args.names o ≡ true) c.in-Some.is c.requires.part))

pub push_row-loop-part-preserved : goal.push_row-loop-part-preserved
push_row-loop-part-preserved t c =
    row-more c.args.names c.args.inside c.args.outline (sort_view c.args.owner.now) c.args.parts.now c.loop-part.part-index c.loop-part.index (c.loop-part.index + 1) (length c.args.parts.now - c.loop-part.index)
    (shown c.args.out.now.items) (shown c.loop-part.out.items) (shown c.push_lengths.new.out.items) (shown c.push_part.new.out.items) c.part-item.result
    c.loop-part-test.true c.part-item.is c.loop-part.invariant refl refl c.in_ok-push_lengths.ensures
    (c.in_ok-push_part.ensures ∙ ap (λ b. shown c.push_lengths.new.out.items ++ part_words c.args.names c.args.inside b (sort_view c.args.owner.now) c.part-item.result) c.is_defined.ensures)

pub push_open-returns : goal.push_open-returns
push_open-returns t c =
    let n = naming c.args.names in
    let o = outline c.args.form in
    let ps = views c.args.parts.now in
    let rest : List Word = row_words n c.args.inside o (sort_view c.args.sort.now) 0 ps in
    let f : List Word = field_words n (sort_view c.args.owner.now) o ps in
    let m : List Word = compared_words n (compared c.args.form) o (sort_view c.args.sort.now) in
    let d : List Word = defined_words c.args.defined o in
    let s : List Word = constants_words n c.args.inside o ps in
    weaker-ok c.push_row.result (λ e.
    e
    ∙ ap (λ q. shown c.push_back.new.out.items ++ row_words n c.args.inside q (sort_view c.args.sort.now) 0 ps) c.outline_of.ensures
    ∙ ap (λ ws. ws ++ rest) (c.in_ok-push_back.ensures ∙ ap (λ ws. ws ++ f ++ m ++ d ++ s) c.in_ok-push_front.ensures)
    ∙ own-joined (shown c.args.out.now.items) (kind_words o) (operator_words o) (local_words (local_of c.args.form)) (object_words n o) f m d s rest)
    c.push_row.ensures

pub push_words-returns : goal.push_words-returns
push_words-returns t c =
    let n = naming c.args.names in
    let y = out-TypedNode c.args.node.now in
    let old = shown c.args.out.now.items in
    let within = is_inside c.args.inside y.form (label_at y) in
    weaker-ok c.push_open.result (λ e.
    e
    ∙ ap (λ b. old ++ (own_words n b c.args.defined (sort_view c.args.owner.now) (outline y.form) (local_of y.form) (compared y.form) (sort_view y.sort) (views c.deref.result.now)
    ++ row_words n b (outline y.form) (sort_view y.sort) 0 (views c.deref.result.now))) c.is_inside-within.ensures
    ∙ ap (λ l. old ++ (own_words n within c.args.defined (sort_view c.args.owner.now) (outline y.form) (local_of y.form) (compared y.form) (sort_view y.sort) (views l)
    ++ row_words n within (outline y.form) (sort_view y.sort) 0 (views l))) c.deref.ensures.value
    ∙ ap (λ ws. old ++ ws) (sym (opened-words c.args.names c.args.inside c.args.defined (sort_view c.args.owner.now) c.args.node.now (sym c.is_hole.ensures ∙ c.if-is_hole.false))))
    c.push_open.ensures
