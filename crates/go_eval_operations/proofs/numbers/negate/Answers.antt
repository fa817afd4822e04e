use Rattle.std.proofs.Common.{sym, ap, ◌∙◌, [], ◌∷◌}
use Rattle.go_meaning.specs.Operations.{Negate, perform}
use Rattle.go_eval_operations.proofs.numbers.negate.Goals as goal

pub returns : goal.returns
returns c w = ap (λ u. perform (Negate c.args.kind) (u ∷ []) w) (sym c.at.ensures) ∙ c.negate.ensures w
