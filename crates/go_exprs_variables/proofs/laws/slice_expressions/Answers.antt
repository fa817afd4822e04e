use Rattle.std.proofs.Common.{refl}
use Rattle.std.specs.Option.{option_map}
use Rattle.go_exprs_rules.specs.Sorts.{open_kind, default_type}
use Rattle.go_exprs_variables.proofs.Slices.{slice_row, sliced_sort}
use Rattle.go_exprs_variables.proofs.laws.slice_expressions.Goals as goal

pub returns : goal.returns
returns c rights i j a b x y z v h p q f = (slice_row rights i j (option_map default_type (open_kind a)) a b x y z v h p q f, sliced_sort rights (option_map default_type (open_kind a)) a b h refl)
