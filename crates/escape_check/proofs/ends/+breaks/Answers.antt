use Rattle.std.proofs.Common.{◌≡◌, ◌∙◌, ◌+◌, Bool, List, Option, Some, drop, get_or, sym, ap, arith}
use Rattle.std.specs.Prelude.{◌||◌}
use Rattle.std.specs.List.{list_any}
use Rattle.go_types.specs.Trees.{TypeTree}
use Rattle.go_typed.specs.Trees.{Typed}
use Rattle.go_stmts_defs.specs.Ending.{part_breaks}
use Rattle.escape_check.specs.Called.{all_called, staying}
use Rattle.escape_check.proofs.Parts.{part_within}
use Rattle.escape_check.proofs.Staying.{row_call, row_kept, row_none, rows}
use Rattle.escape_check.proofs.ends.+breaks.Goals as goal
use Rattle.escape_check.proofs.ends.+breaks.Goals.{list_breaks-in-Some+else-node-next+then-node-gap, list_breaks-in-Some+else-node-next+else-node-gap+else-breaks, list_breaks-in_default}

pub any_breaks-breaks-requires : goal.any_breaks-breaks-requires
any_breaks-breaks-requires t c =
    let ns = c.args.parts.now in
    let i = c.loop-part.part-index in
    let is : Some c.in-Some.node ≡ get_or ns i c.part-item.result = sym c.in-Some.is ∙ c.part-item.is in
    let low = part_within ns i c.in-Some.node c.part-item.result c.loop-part-test.true is in
    (omega (arith, low, c.decreases), tt)

pub list_breaks-breaks-requires : goal.list_breaks-breaks-requires
list_breaks-breaks-requires t c =
    let ns = c.args.parts.now in
    let i = c.loop-part.part-index in
    let is : Some c.in-Some.node ≡ get_or ns i c.part-item.result = sym c.in-Some.is ∙ c.part-item.is in
    let low = part_within ns i c.in-Some.node c.part-item.result c.loop-part-test.true is in
    (omega (arith, low, c.decreases), tt)

pub list_breaks-returns-then-breaks : goal.list_breaks-returns-then-breaks
list_breaks-returns-then-breaks t c =
    let g = c.args.gap in
    let table = c.args.types.now in
    let ns = c.args.parts.now in
    let i = c.loop-part.part-index in
    let told : List (Option (Typed TypeTree)) → Bool = λ xs. list_any part_breaks (all_called g xs) in
    let rest = staying g c.loop-part.next (rows table g (drop (i + 1) ns)) in
    sym (c.loop-part.invariant
    ∙ ap told (row_kept table g ns i c.part-item.result c.in-Some.node c.loop-part.next c.loop-part-test.true c.part-item.is c.in-Some.is c.if-node-next.false c.if-node-gap.false)
    ∙ ap (λ b. b || told rest) (sym c.breaks.ensures ∙ c.if-breaks.true))

pub list_breaks-loop-part-preserved : goal.list_breaks-loop-part-preserved
list_breaks-loop-part-preserved t c =
    let g = c.args.gap in
    let table = c.args.types.now in
    let ns = c.args.parts.now in
    let i = c.loop-part.part-index in
    let u = c.loop-part.next in
    let x = c.part-item.result in
    let told : List (Option (Typed TypeTree)) → Bool = λ xs. list_any part_breaks (all_called g xs) in
    let left = rows table g (drop (i + 1) ns) in
    c.loop-part.invariant
    ∙ elim c.match-part.branch [
      | list_breaks-in-Some+else-node-next+then-node-gap w ↦
          ap told (row_call table g ns i x w.in-Some.node u c.loop-part-test.true c.part-item.is w.in-Some.is w.if-node-next.false w.if-node-gap.true)
          ∙ ap (λ v. told (staying g v left)) (sym w.next-is)
      | list_breaks-in-Some+else-node-next+else-node-gap+else-breaks w ↦
          ap told (row_kept table g ns i x w.in-Some.node u c.loop-part-test.true c.part-item.is w.in-Some.is w.if-node-next.false w.if-node-gap.false)
          ∙ ap (λ b. b || told (staying g u left)) (sym w.breaks.ensures ∙ w.if-breaks.false)
          ∙ ap (λ v. told (staying g v left)) (sym w.next-is)
      | list_breaks-in_default w ↦
          ap told (row_none table g ns i x u c.loop-part-test.true c.part-item.is w.in_default.is) ∙ ap (λ v. told (staying g v left)) (sym w.next-is)
    ]
