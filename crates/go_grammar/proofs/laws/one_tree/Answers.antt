use Rattle.go_grammar.proofs.Unique.{unique}
use Rattle.go_grammar.proofs.laws.one_tree.Goals as goal

pub returns : goal.returns
returns c = unique
