use Rattle.std.proofs.Common.{◌≡◌, ◌+◌, ◌*◌, drop, length, sym, ◌∙◌, ap, arith}
use Rattle.std.proofs.lemmas.List.{get_or_read}
use Rattle.std.specs.Char.{digit_value}
use Rattle.go_tokens.specs.Literals.{digits_number}
use Rattle.go_tokens.proofs.Numbers.{number_fits, number_small, digits_step, digits_stop}
use Rattle.go_tokens.proofs.literal.digits_number.Goals as goal

pub overflow_mul-value : goal.overflow_mul-value
overflow_mul-value c = omega (arith, c.requires.low, number_fits c.args.base (length c.args.digits.now) c.loop-digit.value c.loop-digit.digit-index c.requires.low c.loop-digit.invariant.small (omega arith) c.requires.short)

pub overflow_add-value : goal.overflow_add-value
overflow_add-value c = omega (arith, c.in_ok-value.ensures.value.0, c.in_ok-value.ensures.value.1, number_fits c.args.base (length c.args.digits.now) c.loop-digit.value c.loop-digit.digit-index c.requires.low c.loop-digit.invariant.small (omega arith) c.requires.short)

pub returns-in_err-value : goal.returns-in_err-value
returns-in_err-value c =
    c.from_residual.ensures
    ∙ sym (digits_stop c.args.base c.loop-digit.value c.loop-digit.digit-index c.digit-item.result c.args.digits.now (omega arith) (get_or_read c.args.digits.now c.loop-digit.digit-index c.digit-item.result (omega arith) c.digit-item.is 0) c.in_err-value.ensures.value)
    ∙ c.loop-digit.invariant.so_far

pub loop-digit-preserved : goal.loop-digit-preserved
loop-digit-preserved c =
    let digit : c.in_ok-value.field-0 ≡ digit_value c.digit-item.result = c.in_ok-value.ensures.value.1 in
    record {
      so_far = ap (λ d. digits_number c.args.base (c.loop-digit.value * c.args.base + d) (drop (c.loop-digit.digit-index + 1) c.args.digits.now)) digit ∙ sym (digits_step c.args.base c.loop-digit.value c.loop-digit.digit-index c.digit-item.result c.args.digits.now (omega arith) (get_or_read c.args.digits.now c.loop-digit.digit-index c.digit-item.result (omega arith) c.digit-item.is 0) c.in_ok-value.ensures.value.0) ∙ c.loop-digit.invariant.so_far;
      small = number_small c.args.base c.loop-digit.value c.loop-digit.digit-index c.in_ok-value.field-0 c.loop-digit.invariant.small (omega (arith, digit, c.in_ok-value.ensures.value.0));
    }
