use Rattle.go_rewriting.proofs.Endings.{tree_ends, run_ends}
use Rattle.go_rewriting.proofs.laws.texts_end_well.Goals as goal

pub returns : goal.returns
returns c = record { text = λ ts d t e h. tree_ends ts t d e h; run = run_ends }
