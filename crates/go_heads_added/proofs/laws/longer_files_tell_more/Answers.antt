use Rattle.go_heads_added.proofs.Appended.{file_added}
use Rattle.go_heads_added.proofs.laws.longer_files_tell_more.Goals as goal

pub returns : goal.returns
returns c i j end ps d = file_added i j end ps d
