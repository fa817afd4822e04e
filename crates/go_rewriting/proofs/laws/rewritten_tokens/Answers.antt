use Rattle.go_rewriting.proofs.Tokens.{found}
use Rattle.go_rewriting.proofs.laws.rewritten_tokens.Goals as goal

pub returns : goal.returns
returns c = λ w l h t. (found w.file w.tokens w.comments w.ranges w.rest w.tail w.tail_tokens l h t).new
