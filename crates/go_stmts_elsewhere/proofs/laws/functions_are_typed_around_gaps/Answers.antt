use Rattle.go_stmts_elsewhere.proofs.ReplacedFunctions.{functions_changed}
use Rattle.go_stmts_elsewhere.proofs.laws.functions_are_typed_around_gaps.Goals as goal

pub returns : goal.returns
returns c p q m l gaps s t count other types others old number a b i j n k gs ts us d each r ls keep olds ends =
    functions_changed c.statements_follow_from_their_tokens.ensures c.expressions_follow_from_their_tokens.ensures p q m l s t gaps each count other types others r ls old number a b gs keep i j n k ts us d olds ends
