use Rattle.go_grammar.proofs.Unique.{file_found}
use Rattle.go_grammar.proofs.laws.reader_is_complete.Goals as goal

pub returns : goal.returns
returns c = file_found
