use Rattle.std.proofs.Common.{sym, ◌∙◌}
use Rattle.go_types.specs.Tables.{type_of, tree_of}
use Rattle.go_types.proofs.Places.{get_within}
use Rattle.go_types.proofs.NumberedTypes.{type_of_shape}
use Rattle.go_types.proofs.TreeIdentity.{equal_trees}
use Rattle.go_types.proofs.TypeNumbers.{same_number}
use Rattle.go_types.proofs.laws.identical_parts_have_one_number.Goals as goal

pub returns : goal.returns
returns c t i j r s ok a b h =
    same_number t ok i j (get_within t.shapes i r a) (get_within t.shapes j s b)
    ((type_of_shape t.shapes ok.parts_below i r a ∙ equal_trees (tree_of (type_of t.shapes) r) (tree_of (type_of t.shapes) s) h) ∙ sym (type_of_shape t.shapes ok.parts_below j s b))
