use Rattle.std.proofs.Common.{[], ◌∷◌, sym, ap, ◌∙◌}
use Rattle.go_meaning.specs.Values.{nth}
use Rattle.go_meaning.specs.Operations.{Compare, Compute, Gives, perform}
use Rattle.go_values.specs.Views.{view}
use Rattle.go_eval_machine.proofs.Values.{view_truth}
use Rattle.go_eval_machine.proofs.computing.computed.Goals as goal

pub returns-in-Compute : goal.returns-in-Compute
returns-in-Compute c = λ rights f ps us first second w.
    let o = Compute c.in-Compute.kind c.in-Compute.op in
    rw c.in-Compute.is (ap (λ a. perform o (a ∷ nth us 1 ∷ []) w) first ∙ (ap (λ b. perform o (view c.args.left.now ∷ b ∷ []) w) second ∙ c.compute.ensures w))

pub returns-in-Compare : goal.returns-in-Compare
returns-in-Compare c = λ rights f ps us first second w.
    let o = Compare c.in-Compare.comparison in
    rw c.in-Compare.is (ap (λ a. perform o (a ∷ nth us 1 ∷ []) w) first ∙ (ap (λ b. perform o (view c.args.left.now ∷ b ∷ []) w) second
    ∙ (c.compare.ensures w ∙ ap (λ u. Gives (u ∷ []) w) (sym (view_truth c.compare.result)))))
