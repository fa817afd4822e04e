-- The worked examples hold.
use Rattle.std.proofs.Common.{refl}
use Rattle.clone_window.specs.Examples.{Examples}

pub all : Examples
all = record {
  plain_mass = refl;
  plain_windows = refl;
  heavier = refl;
  plain_same = refl;
  shorter = refl;
  two_to_one = refl;
  one_to_two = refl;
  swapped = refl;
  other_types = refl;
  at_most_32 = refl;
  too_light = refl;
  nested_windows = refl;
  clause_windows = refl;
  nested_mass = refl;
  no_hole_inside = refl;
  equal_values = refl;
  other_literals = refl;
  hole_inside = refl;
  hole_mass = refl;
  inside_mass = refl;
  parentheses_same = refl;
  other_hole_types = refl;
  new_against_used = refl;
  new_against_new = refl;
  used_against_used = refl;
  blank_against_new = refl;
  constants_differ = refl;
  constants_equal = refl;
  constants_of_kinds = refl;
  blank_constants = refl;
  variable_mass = refl;
  declared_types_differ = refl;
  declared_types_correspond = refl;
  fields_differ = refl;
  other_variables = refl;
  part_left_out = refl;
}
