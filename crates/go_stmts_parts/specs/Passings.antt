-- What makes a part of an operand a variable, as a function of whether the operand is one.
use Rattle.std.specs.Prelude.{Bool, true, false}
use Rattle.go_stmts_parts.specs.declared.targets.Passing.{Passing}
use Rattle.go_stmts_parts.specs.declared.targets.Passing.TheVariants as passing

abbrev pub passed : Passing → Bool → Bool
passed passing.AsOperand b = b
passed passing.Always b = true
passed passing.Never b = false
