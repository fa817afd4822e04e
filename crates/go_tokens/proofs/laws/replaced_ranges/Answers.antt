use Rattle.go_tokens.proofs.Texts.{new_lexing}
use Rattle.go_tokens.proofs.laws.replaced_ranges.Goals as goal

pub returns : goal.returns
returns c = new_lexing
