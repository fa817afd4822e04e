use Rattle.std.proofs.Common.{sym, ap, ◌∙◌, [], ◌∷◌}
use Rattle.go_meaning.specs.Operations.{Join, perform}
use Rattle.go_meaning.specs.Values.{nth}
use Rattle.go_values.specs.Views.{view, views}
use Rattle.go_values.proofs.Public.{if_weaker}
use Rattle.go_eval_operations.proofs.texts.join.Goals as goal

pub returns : goal.returns
returns c =
    if_weaker c.join.result _ _ (λ v h w. ap (λ u. perform Join (u ∷ nth (views c.args.operands.now) 1 ∷ []) w) (sym c.at-left.ensures)
    ∙ ap (λ u. perform Join (view c.at-left.result.now ∷ u ∷ []) w) (sym c.at-right.ensures) ∙ h w) c.join.ensures
