use Rattle.go_function_holes.proofs.Found.{expression-holes}
use Rattle.go_function_holes.proofs.laws.holes_of_expressions_stand.Goals as goal

pub returns : goal.returns
returns l operand c s h t e w f known calls untyped k n inside hole there = expression-holes operand c s h t e w f known calls untyped k n inside hole there
