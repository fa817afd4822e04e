use Rattle.go_rewriting.proofs.Rewritten.{new_tokens}
use Rattle.go_rewriting.proofs.laws.rewritten_text.Goals as goal

pub returns : goal.returns
returns c = λ d w h t. new_tokens w.file d w.tokens w.comments w.tree w.ranges w.rest w.tail w.tail_tokens h t
