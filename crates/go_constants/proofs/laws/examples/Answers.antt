use Rattle.std.proofs.Common.{refl}
use Rattle.go_constants.proofs.laws.examples.Goals as goal

pub returns : goal.returns
returns c = record {
  power = refl;
  power_too_wide = refl;
  least = refl;
  opposite_of_least = refl;
  zero_shifted = refl;
  shifted_away = refl;
  divide_zero = refl;
  other_sorts = refl;
  negative_count = refl;
  ordered_booleans = refl;
  rune = refl;
  count_is_rune = refl;
  negated = refl;
  complemented = refl;
  not_true = refl;
  joined = refl;
  by_bytes = refl;
  front_first = refl;
  least_by_bytes = refl;
  greatest_by_bytes = refl;
  greatest_rune = refl;
  byte_has_255 = refl;
  byte_lacks_300 = refl;
  booleans_have_true = refl;
  texts_lack_numbers = refl;
}
