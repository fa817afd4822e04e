use Rattle.go_tokens.proofs.Files.{one_file_lexing}
use Rattle.go_tokens.proofs.laws.one_lexing.Goals as goal

pub returns : goal.returns
returns c = one_file_lexing
