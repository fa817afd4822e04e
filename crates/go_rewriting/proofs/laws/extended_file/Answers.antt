use Rattle.go_rewriting.proofs.Texts.{with_one_more}
use Rattle.go_rewriting.proofs.laws.extended_file.Goals as goal

pub returns : goal.returns
returns c = λ ts ws t d h s. with_one_more ts ws t d h s.derives s.begins s.closed s.all s.shallow
