use Rattle.go_tokens.specs.Tokens.{kinds}
use Rattle.go_heads.proofs.Outlines.{file_outlined}
use Rattle.go_heads.proofs.laws.files_have_outlines.Goals as goal

pub returns : goal.returns
returns c f h = record { is = file_outlined (kinds f.tokens.tokens) f.tree h.tree }
