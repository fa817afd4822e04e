use Rattle.std.proofs.Common.{◌∙◌, arith}
use Rattle.go_typed.specs.Packages.{referents}
use Rattle.go_typed_parts.specs.Shown.{counts_view}
use Rattle.go_typed_parts.proofs.Rows.{numbered-end, numbered-more}
use Rattle.go_typed_parts.proofs.objects.are_numbered.Goals as goal

pub loop-object-preserved : goal.loop-object-preserved
loop-object-preserved c =
    let ds = c.args.objects.now in
    let n = c.loop-object.number in
    let same = c.loop-object.invariant.2 in (
      numbered-more c.args.env.now.referents (referents ds) ds c.loop-object.object-index n (counts_view c.loop-object.counts) (counts_view c.with-counts.result) _ c.loop-object-test.true same
          c.with-counts.ensures.counts (c.referent.ensures ∙ c.is_next.ensures c.if-not-is_next.false) c.loop-object.invariant.0,
      c.with-counts.ensures.most n c.loop-object.invariant.1,
      omega (arith, same),
    )

pub returns-in-None : goal.returns-in-None
returns-in-None c = λ _.
    numbered-end c.args.env.now.referents (referents c.args.objects.now) c.args.objects.now c.loop-object.number (counts_view c.loop-object.counts)
    (omega (arith, c.loop-object.invariant.2, c.loop-object-test.false)) (c.referent-2.ensures ∙ c.in-None.is) c.loop-object.invariant.0
