use Rattle.go_stmts_own_types.proofs.Functions.{function_same, statement_same}
use Rattle.go_stmts_own_types.proofs.laws.types_of_other_locals_count_for_nothing.Goals as goal

pub returns : goal.returns
returns c = record { statements = statement_same; functions = function_same }
