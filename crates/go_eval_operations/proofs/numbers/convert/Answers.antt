use Rattle.std.proofs.Common.{sym, ap, ◌∙◌, [], ◌∷◌}
use Rattle.go_meaning.specs.Operations.{Wrap, perform}
use Rattle.go_eval_operations.proofs.numbers.convert.Goals as goal

pub returns : goal.returns
returns c w = ap (λ u. perform (Wrap c.args.kind) (u ∷ []) w) (sym c.at.ensures) ∙ c.convert.ensures w
