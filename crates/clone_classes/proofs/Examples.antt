-- The worked examples hold.
use Rattle.std.proofs.Common.{refl}
use Rattle.clone_classes.specs.Examples.{Examples}

pub all : Examples
all = record {
  two_groups = refl;
  none_alike = refl;
  no_windows = refl;
  overlapping = refl;
  not_one_to_one = refl;
  other_names = refl;
  one_name = refl;
}
