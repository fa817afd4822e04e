use Rattle.go_rewriting.proofs.Agreeing.{derives_agree, sites_agreed}
use Rattle.go_rewriting.proofs.laws.clear_sites_agree.Goals as goal

pub returns : goal.returns
returns c = λ ts m d t ss h e. sites_agreed m t ss (derives_agree ts t d h) e
