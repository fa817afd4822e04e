use Rattle.go_rewriting.proofs.Rewritten.{new_file}
use Rattle.go_rewriting.proofs.laws.rewritten_file.Goals as goal

pub returns : goal.returns
returns c = λ f h. let w = f.text in new_file w.file f.old f.new w.tokens w.comments w.tree w.ranges w.rest w.tail w.tail_tokens f.added h
