use Rattle.go_tokens.proofs.Places.{edited}
use Rattle.go_tokens.proofs.laws.edited_text.Goals as goal

pub returns : goal.returns
returns c = edited
