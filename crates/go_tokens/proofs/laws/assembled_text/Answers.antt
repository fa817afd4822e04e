use Rattle.go_tokens.proofs.Texts.{assembled_lexing}
use Rattle.go_tokens.proofs.laws.assembled_text.Goals as goal

pub returns : goal.returns
returns c = assembled_lexing
