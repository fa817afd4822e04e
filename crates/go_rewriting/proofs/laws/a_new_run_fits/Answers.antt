use Rattle.go_rewriting.proofs.Words.{node_fits}
use Rattle.go_rewriting.proofs.laws.a_new_run_fits.Goals as goal

pub returns : goal.returns
returns c = λ ts xs n x ws h d t f m new z. node_fits ts xs n x h.ascend h.among h.edge h.some ws h.behind d t f m new z
