-- The examples compute.
use Rattle.std.proofs.Common.{refl}
use Rattle.go_typed.specs.Examples.{Examples}

pub examples_hold : Examples
examples_hold = record {
  tiled = refl;
  overlapping = refl;
  outside = refl;
  whole = refl;
  other_local = refl;
  from_the_start_of_the_file = refl;
  holder = refl;
  statement_left_out = refl;
  locals = refl;
  local_out_of_range = refl;
  nodes = refl;
  at_func = refl;
  at_semicolon = refl;
  at_define = refl;
  at_plus = refl;
  at_a = refl;
  at_one = refl;
  at_last = refl;
  lists = refl;
  behind_values = refl;
  first_two = refl;
  last_two = refl;
  no_list = refl;
  by_sort = refl;
}
