-- The least fault of some, with the places where a rule fails.
use Rattle.std.specs.Prelude.{List, Option}
use Rattle.go_base.specs.declared.fault.FaultCode.{FaultCode}
use Rattle.go_tree.specs.Units.{Place}
use Rattle.go_tree.specs.Failures.{Failure, failing, least_from}

abbrev pub noted : Option Failure → FaultCode → List Place → Option Failure
noted f c ss = least_from f (failing c ss)
