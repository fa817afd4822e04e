use Rattle.go_rewriting.proofs.Words.{text_fits}
use Rattle.go_rewriting.proofs.laws.a_new_text_fits.Goals as goal

pub returns : goal.returns
returns c = λ ts xs n x ws h d t u z. text_fits ts xs n x h.ascend h.among h.edge h.some ws h.behind d t u z.from z.upto z.derives z.begins z.ends
