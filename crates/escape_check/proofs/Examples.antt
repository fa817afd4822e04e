-- The worked examples, by computing.
use Rattle.std.proofs.Common.{refl}
use Rattle.escape_check.specs.Examples.{Examples}

pub examples : Examples
examples = record {
  returned = refl;
  not_returned = refl;
  overlap = refl;
  repeated = refl;
  apart = refl;
  beside = refl;
  break_outside = refl;
  break_inside = refl;
  in_switch = refl;
  falls_outside = refl;
  falls_inside = refl;
  end_lost = refl;
  end_kept = refl;
  none_escapes = refl;
  all_writable = refl;
}
