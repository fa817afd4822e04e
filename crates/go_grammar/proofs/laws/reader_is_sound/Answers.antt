use Rattle.go_grammar.proofs.Sound.{read_stands}
use Rattle.go_grammar.proofs.laws.reader_is_sound.Goals as goal

pub returns : goal.returns
returns c = read_stands
