use Rattle.std.proofs.Common.{◌∙◌, sym, ◌^◌}
use Rattle.go_tokens.proofs.Numbers.{too_great}
use Rattle.go_tokens.proofs.value.digits_value.Goals as goal

pub returns-in_err-value : goal.returns-in_err-value
returns-in_err-value c = c.from_residual.ensures ∙ too_great (2 ^ 128) c.args.base c.loop-digit.value c.loop-digit.digit-index c.args.digits.now c.requires c.loop-digit-test.true (sym c.with_digit.ensures ∙ c.in_err-value.was) c.loop-digit.invariant.so_far
