use Rattle.std.proofs.Common.{sym, ap, ◌∙◌, [], ◌∷◌}
use Rattle.go_meaning.specs.Operations.{Complement, perform}
use Rattle.go_eval_operations.proofs.numbers.complement.Goals as goal

pub returns : goal.returns
returns c w = ap (λ u. perform (Complement c.args.kind) (u ∷ []) w) (sym c.at.ensures) ∙ c.complement.ensures w
