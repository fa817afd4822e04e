use Rattle.std.proofs.Common.{pos, ap, ◌∙◌, arith}
use Rattle.std.specs.Int.{w128}
use Rattle.std.proofs.lemmas.Int.{to_z-of_z, to_z_pos}
use Rattle.go_meaning.specs.Values.{whole_of}
use Rattle.go_meaning.specs.Operations.{length_of}
use Rattle.go_eval_operations.proofs.Plain.{cut_same}
use Rattle.go_eval_operations.proofs.cuts.slice_expression.Goals as goal

pub returns-in-true-true : goal.returns-in-true-true
returns-in-true-true c w =
    let i = to_z-of_z w128 c.whole-first.result (record { sfits = c.whole-first.type_inv }) ∙ c.whole-first.ensures ∙ ap whole_of c.at.ensures in
    let j = to_z-of_z w128 c.whole-second.result (record { sfits = c.whole-second.type_inv }) ∙ c.whole-second.ensures ∙ ap whole_of c.at-2.ensures in
    rw c.in-true-true.is-0 (rw c.in-true-true.is-1 (cut_same c.cut.result w _ _ _ _ _ _ c.at-operand.ensures i j (c.cut.ensures w)))

pub returns-in-true-false : goal.returns-in-true-false
returns-in-true-false c w =
    let i = to_z-of_z w128 c.whole-first.result (record { sfits = c.whole-first.type_inv }) ∙ c.whole-first.ensures ∙ ap whole_of c.at.ensures in
    let j = to_z_pos w128 c.length-length.result (omega (arith, c.length-length.type_inv)) ∙ ap pos (c.length-length.ensures ∙ ap length_of c.at-operand.ensures) in
    rw c.in-true-false.is-0 (rw c.in-true-false.is-1 (cut_same c.cut-in-true-false.result w _ _ _ _ _ _ c.at-operand.ensures i j (c.cut-in-true-false.ensures w)))
