use Rattle.std.proofs.Common.{◌≤◌, ◌+◌, length, List, sym, ap, ◌∙◌, arith}
use Rattle.std.proofs.Math.ListN.{drop_of_length-le}
use Rattle.go_tree.specs.declared.object.Declared.{Declared}
use Rattle.go_eval.proofs.Counting.{variables_in, counted_variables}
use Rattle.go_eval.proofs.program.variable_count.Goals as goal

pub returns : goal.returns
returns c =
    let ds = c.args.objects.now in
    let i = c.loop-object.object-index in
    let behind : length ds ≤ i = omega (arith, c.loop-object-test.false) in
    sym (counted_variables ds ∙ c.loop-object.invariant.0 ∙ ap (λ (xs : List Declared). c.loop-object.count + variables_in xs) (drop_of_length-le ds behind) ∙ omega arith)
