-- What an error of the check says.
use Rattle.std.specs.Prelude.{Option, Some, None}
use Rattle.go_base.specs.declared.fault.Fault.{Fault}
use Rattle.go_package_defs.specs.declared.error.CheckError.{CheckError}
use Rattle.go_package_defs.specs.declared.error.CheckError.TheVariants as errors

-- the fault that an error names
abbrev pub check_refusal : CheckError → Option Fault
check_refusal (errors.Fault fault) = Some fault
check_refusal errors.Memory = None
