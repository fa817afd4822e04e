-- When a fault need not be looked at.
use Rattle.std.specs.Prelude.{Bool, false, not, Option, Some, None}
use Rattle.go_tree.specs.Failures.{Failure, is_earlier}

-- whether the fault that was found is reported before the other one
abbrev pub is_decided : Option Failure → Failure → Bool
is_decided None g = false
is_decided (Some f) g = not (is_earlier g f)
