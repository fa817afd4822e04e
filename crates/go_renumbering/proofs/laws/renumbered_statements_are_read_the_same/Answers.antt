use Rattle.go_renumbering.proofs.Reading.{reading_kept}
use Rattle.go_renumbering.proofs.laws.renumbered_statements_are_read_the_same.Goals as goal

pub returns : goal.returns
returns c name f g h x r = reading_kept name f g r h x
