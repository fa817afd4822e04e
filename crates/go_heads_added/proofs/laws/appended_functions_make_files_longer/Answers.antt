use Rattle.go_heads_added.proofs.Longer.{tells_more}
use Rattle.go_heads_added.proofs.laws.appended_functions_make_files_longer.Goals as goal

pub returns : goal.returns
returns c k n i j end x y u v a b ts ps s f h l = tells_more k n i j end x y u v a b ts ps s f h l
