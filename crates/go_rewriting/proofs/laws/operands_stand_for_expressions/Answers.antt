use Rattle.go_rewriting.proofs.Operands.{operand_stands}
use Rattle.go_rewriting.proofs.laws.operands_stand_for_expressions.Goals as goal

pub returns : goal.returns
returns c = operand_stands
