use Rattle.go_rewriting.proofs.Rewritten.{new_declaration}
use Rattle.go_rewriting.proofs.laws.rewritten_declaration.Goals as goal

pub returns : goal.returns
returns c = λ w h. new_declaration w.file w.tokens w.comments w.tree w.ranges w.rest h.well_formed h.declaration h.shallow
