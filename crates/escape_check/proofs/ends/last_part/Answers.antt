use Rattle.std.proofs.Common.{◌∙◌, ◌+◌, ◌≤◌, Option, drop, sym, ap, subst}
use Rattle.std.specs.Prelude.{IfSome}
use Rattle.std.specs.Borrow.{Bor}
use Rattle.std.specs.Option.{option_map}
use Rattle.go_types.specs.Trees.{TypeTree}
use Rattle.go_typed.specs.declared.node.TypedNode.{TypedNode}
use Rattle.go_typed.specs.Funcs.{size, sizes}
use Rattle.go_typed.specs.Trees.{Typed}
use Rattle.go_typed.specs.Views.{seen, view, views}
use Rattle.escape_check.specs.Called.{last_or, staying}
use Rattle.escape_check.proofs.Parts.{part_within}
use Rattle.escape_check.proofs.Staying.{row_call, row_kept, rows}
use Rattle.escape_check.proofs.ends.last_part.Goals as goal
use Rattle.escape_check.proofs.ends.last_part.Goals.{then-node-gap, else-node-gap}

pub loop-part-preserved : goal.loop-part-preserved
loop-part-preserved c =
    let g = c.args.gap in
    let table = c.args.types.now in
    let ns = c.args.parts.now in
    let i = c.loop-part.part-index in
    let u = c.loop-part.next in
    let x = c.part-item.result in
    let n = c.in-Some.node in
    let last : Option (Typed TypeTree) = option_map (λ (m : Bor TypedNode). seen table m.now) c.loop-part.last in
    let left = rows table g (drop (i + 1) ns) in
    let small : Option (Bor TypedNode) → Type 0 = λ o. IfSome o (λ m. size (view m.now) ≤ sizes (views ns)) in
    record {
      part =
          c.loop-part.invariant.part
          ∙ elim c.if-node-gap.branch [
            | then-node-gap w ↦
                ap (last_or last) (row_call table g ns i x n u c.loop-part-test.true c.part-item.is c.in-Some.is c.if-node-next.false w.if-node-gap.true)
                ∙ ap (λ (o : Option (Bor TypedNode)). last_or (option_map (λ (m : Bor TypedNode). seen table m.now) o) (staying g g.upto left)) (sym w.last-is)
                ∙ ap (λ v. last_or (option_map (λ (m : Bor TypedNode). seen table m.now) c.if-node-gap.last) (staying g v left)) (sym w.next-is)
            | else-node-gap w ↦
                ap (last_or last) (row_kept table g ns i x n u c.loop-part-test.true c.part-item.is c.in-Some.is c.if-node-next.false w.if-node-gap.false)
                ∙ ap (λ (o : Option (Bor TypedNode)). last_or (option_map (λ (m : Bor TypedNode). seen table m.now) o) (staying g u left)) (sym w.last-is)
                ∙ ap (λ v. last_or (option_map (λ (m : Bor TypedNode). seen table m.now) c.if-node-gap.last) (staying g v left)) (sym w.next-is)
          ];
      smaller =
          elim c.if-node-gap.branch [
            | then-node-gap w ↦ subst small (sym w.last-is) tt
            | else-node-gap w ↦ subst small (sym w.last-is) (part_within ns i n x c.loop-part-test.true (sym c.in-Some.is ∙ c.part-item.is))
          ];
    }
