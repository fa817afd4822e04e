use Rattle.go_renumbering.proofs.Shifted.{behind_more}
use Rattle.go_renumbering.proofs.laws.functions_stand_behind_more_right_sides.Goals as goal

pub returns : goal.returns
returns c = behind_more
