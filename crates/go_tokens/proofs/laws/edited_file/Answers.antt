use Rattle.go_tokens.proofs.Places.{edited_file}
use Rattle.go_tokens.proofs.laws.edited_file.Goals as goal

pub returns : goal.returns
returns c = λ file edits tail old new ts cs h. edited_file file edits tail old new ts cs h.old_bytes h.new_bytes h.lexing h.allowed
