use Rattle.std.proofs.Common.{◌≡◌, ◌<◌, ◌^◌, drop}
use Rattle.go_tokens.specs.Literals.{digits_number}
use Rattle.go_tokens.proofs.literal.digits_number.Given as goal

abbrev pub invariant-loop-digit : goal.invariant-loop-digit
invariant-loop-digit l = record { so_far : digits_number l.base l.value (drop l.digit-index l.digits) ≡ digits_number l.base 0 l.digits; small : l.value < l.base ^ l.digit-index }
