-- The earlier of two faults that there may be.
use Rattle.std.specs.Prelude.{Option, Some, None}
use Rattle.go_tokens.specs.Tokens.{TokenList}
use Rattle.go_tree.specs.Failures.{Failure, earlier}
use Rattle.go_tree.specs.Units.{bytes_of}
use Rattle.go_exprs_rules.specs.declared.fault.TypeFault.{TypeFault}

abbrev pub merged : Option Failure → Option Failure → Option Failure
merged f None = f
merged f (Some g) = earlier f g

-- a fault at tokens of the file that these are
abbrev pub failure_in : TokenList → TypeFault → Failure
failure_in ts f = record { code = f.code; place = bytes_of ts.file ts f.first f.last }
