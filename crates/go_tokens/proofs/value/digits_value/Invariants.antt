use Rattle.std.proofs.Common.{◌≡◌, ◌<◌, ◌^◌, drop}
use Rattle.go_tokens.specs.Literals.{digits_value}
use Rattle.go_tokens.proofs.value.digits_value.Given as goal

abbrev pub invariant-loop-digit : goal.invariant-loop-digit
invariant-loop-digit l = record { so_far : digits_value l.base l.value (drop l.digit-index l.digits) ≡ digits_value l.base 0 l.digits; small : l.value < 2 ^ 128 }
