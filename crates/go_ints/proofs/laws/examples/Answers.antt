use Rattle.std.proofs.Common.{refl}
use Rattle.go_ints.specs.Wrapping.{wrapped}
use Rattle.go_ints.proofs.laws.examples.Goals as goal

pub returns : goal.returns
unfolding wrapped
returns c = record {
  wrapped_by_one_round = refl;
  wrapped_below_zero = refl;
  least_fits = refl;
  one_more_does_not = refl;
  sum = refl;
  difference = refl;
  product = refl;
  least_quotient = refl;
  least_remainder = refl;
  quotient = refl;
  remainder = refl;
  remainder_by_negative = refl;
  both = refl;
  either = refl;
  differing = refl;
  lacking = refl;
  right_of_negative = refl;
  left_out = refl;
  left_to_sign = refl;
  least = refl;
  greatest = refl;
  divide_zero = refl;
  negative_shift = refl;
}
