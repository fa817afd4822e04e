use Rattle.go_types.proofs.NumberedTypes.{type_of_shape}
use Rattle.go_types.proofs.laws.types_have_their_shapes.Goals as goal

pub returns : goal.returns
returns c t i s ok h = type_of_shape t.shapes ok.parts_below i s h
