use Rattle.go_rewriting.proofs.Mild.{text_elsewhere}
use Rattle.go_rewriting.proofs.laws.text_stands_elsewhere.Goals as goal

pub returns : goal.returns
returns c = text_elsewhere
