use Rattle.std.proofs.Common.{◌∙◌}
use Rattle.go_types.specs.Tables.{type_of, rights_of}
use Rattle.go_values.proofs.Public.{view_nil}
use Rattle.go_eval_operations.proofs.ZeroSizes.{told_counted, untold}
use Rattle.go_eval_operations.proofs.zeros.of_type.Goals as goal

pub of_settled-requires-clause-told : goal.of_settled-requires-clause-told
of_settled-requires-clause-told c = told_counted (rights_of c.args.types.now) (type_of c.args.types.now.shapes c.args.a) _ c.in-Some.ensures

pub returns-in-None : goal.returns-in-None
returns-in-None c = view_nil ∙ untold (rights_of c.args.types.now) (type_of c.args.types.now.shapes c.args.a) c.in-None.ensures
