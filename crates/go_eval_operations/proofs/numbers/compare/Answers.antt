use Rattle.std.proofs.Common.{sym, ap, ◌∙◌, [], ◌∷◌}
use Rattle.go_meaning.specs.Operations.{Compare, Gives, perform}
use Rattle.go_meaning.specs.Values.{nth}
use Rattle.go_values.specs.Views.{view, views}
use Rattle.go_eval_operations.proofs.Plain.{view_truth}
use Rattle.go_eval_operations.proofs.numbers.compare.Goals as goal

pub returns : goal.returns
returns c w =
    ap (λ u. perform (Compare c.args.comparison) (u ∷ nth (views c.args.operands.now) 1 ∷ []) w) (sym c.at-left.ensures)
    ∙ ap (λ u. perform (Compare c.args.comparison) (view c.at-left.result.now ∷ u ∷ []) w) (sym c.at-right.ensures)
    ∙ c.compare.ensures w ∙ ap (λ u. Gives (u ∷ []) w) (sym (view_truth c.compare.result))
