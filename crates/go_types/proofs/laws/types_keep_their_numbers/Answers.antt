use Rattle.go_types.proofs.NumberedTypes.{type_of_longer}
use Rattle.go_types.proofs.laws.types_keep_their_numbers.Goals as goal

pub returns : goal.returns
returns c t i more ok h = type_of_longer t.shapes more ok.parts_below i h
