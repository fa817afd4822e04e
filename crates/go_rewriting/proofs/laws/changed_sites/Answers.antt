use Rattle.go_rewriting.proofs.Texts.{sites_changed}
use Rattle.go_rewriting.proofs.laws.changed_sites.Goals as goal

pub returns : goal.returns
returns c = λ ts xs d t ss h s. sites_changed ts xs d t ss h s.places s.ascend s.sit s.agrees
