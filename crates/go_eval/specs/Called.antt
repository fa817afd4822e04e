-- Calls of functions of a package.
use Rattle.std.specs.Prelude.{ℕ, List, Option, Some, None, length}
use Rattle.std.specs.Option.{option_map}
use Rattle.go_typed.specs.Funcs.{FuncView}
use Rattle.go_typed.specs.Packages.{PackageView}
use Rattle.go_typed.specs.Views.{Known, seen}
use Rattle.go_meaning.specs.Values.{Value, Function}
use Rattle.go_meaning.specs.Computations.{enter}
use Rattle.go_meaning.specs.Meaning.{frame_of, called, bounded}
use Rattle.go_eval_plans.specs.Programs.{code_of, program_of}
use Rattle.go_eval_machine.specs.Rests.{then_rest}
use Rattle.go_eval_machine.specs.Engines.{Work}

-- its types are those of the package
abbrev pub IsKnownBody : PackageView → Option FuncView → Type 0
IsKnownBody p None = Unit {0}
IsKnownBody p (Some f) = Known (length p.types.shapes) f.root

-- the number of the function that a value is; a nil function has none
abbrev pub function_in : Value → Option ℕ
function_in (Function g) = Some g
function_in v = None

-- the call with these arguments
abbrev pub calls_it : PackageView → Option FuncView → List Value → Work
calls_it p f us n r vs = then_rest (called (bounded (program_of p 0) n) us (option_map (code_of p.types) f)) r vs

-- its body with these arguments
abbrev pub enters : PackageView → FuncView → List Value → Work
enters p f us n r vs = then_rest (enter (frame_of (code_of p.types f) us) (bounded (program_of p 0) n (seen p.types f.root))) r vs
