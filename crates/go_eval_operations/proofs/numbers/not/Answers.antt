use Rattle.std.proofs.Common.{sym, ap, ◌∙◌, [], ◌∷◌}
use Rattle.go_meaning.specs.Operations.{Not, perform}
use Rattle.go_eval_operations.proofs.numbers.not.Goals as goal

pub returns : goal.returns
returns c w = ap (λ u. perform Not (u ∷ []) w) (sym c.at.ensures) ∙ c.not.ensures w
