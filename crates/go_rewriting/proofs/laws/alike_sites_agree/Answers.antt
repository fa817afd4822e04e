use Rattle.go_rewriting.proofs.Agreeing.{derives_agree}
use Rattle.go_rewriting.proofs.Alike.{alike_agreed}
use Rattle.go_rewriting.proofs.laws.alike_sites_agree.Goals as goal

pub returns : goal.returns
returns c = λ ts m d t ss h e. alike_agreed m t ss (derives_agree ts t d h) e
