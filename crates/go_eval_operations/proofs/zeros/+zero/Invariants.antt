use Rattle.std.proofs.Common.{◌≡◌, take}
use Rattle.go_types.specs.Tables.{type_of, rights_of}
use Rattle.go_types_relations.specs.Zeros.{zero_of, zeros_of}
use Rattle.go_values.specs.Views.{views}
use Rattle.go_eval_operations.specs.Settled.{row_of, zeros_in, told_size, told_row_size}
use Rattle.go_eval_operations.proofs.zeros.+zero.Given as goal

abbrev pub decreases-of_settled : goal.decreases-of_settled
decreases-of_settled l = told_size (zero_of (rights_of l.types.now) (type_of l.types.now.shapes l.a))

abbrev pub decreases-of_fields : goal.decreases-of_fields
decreases-of_fields l = told_row_size (zeros_of (rights_of l.types.now) (row_of (type_of l.types.now.shapes) l.fields.now))

abbrev pub invariant-of_fields-loop-field : goal.invariant-of_fields-loop-field
invariant-of_fields-loop-field l = views l.values.items ≡ zeros_in (rights_of l.types) (type_of l.types.shapes) (take l.field-index l.fields)
