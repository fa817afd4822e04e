use Rattle.go_rewriting.proofs.Texts.{file_sites_changed}
use Rattle.go_rewriting.proofs.laws.changed_sites_of_a_file.Goals as goal

pub returns : goal.returns
returns c = λ ts xs t ss h s low. file_sites_changed ts xs t ss h s.places s.ascend s.sit s.agrees low
