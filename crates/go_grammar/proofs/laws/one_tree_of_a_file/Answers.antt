use Rattle.go_grammar.proofs.Unique.{one_file}
use Rattle.go_grammar.proofs.laws.one_tree_of_a_file.Goals as goal

pub returns : goal.returns
returns c = one_file
