-- The worked examples hold.
use Rattle.std.proofs.Common.{refl}
use Rattle.clone_report.specs.Examples.{Examples}

pub all : Examples
all = record {
  behind = refl;
  in_front = refl;
  overlapping = refl;
  two_sides = refl;
  two_of_three = refl;
  two_classes = refl;
  outer = refl;
  inner = refl;
  nowhere = refl;
  values = refl;
}
