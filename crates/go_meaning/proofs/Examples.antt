-- The examples, computed.
use Rattle.std.proofs.Common.{refl}
use Rattle.std.specs.Char.{encode_utf8}
use Rattle.std.specs.Fmt.{digits}
use Rattle.std.specs.Str.{chars, is_utf8}
use Rattle.go_types_relations.specs.Questions.{answers}
use Rattle.go_ints.specs.Wrapping.{wrapped}
use Rattle.go_meaning.specs.Computations.{undecided, end_by, then_do, looped, clause, read, write, spend, enter, each, in_order, falling, over}
use Rattle.go_meaning.specs.Operations.{operate}
use Rattle.go_meaning.specs.Doings.{stores, matches, selected, act}
use Rattle.go_meaning.specs.Examples.{Examples}

pub worked : Examples
unfolding encode_utf8 digits chars is_utf8 answers wrapped undecided end_by then_do looped clause read write spend enter each in_order falling over operate stores matches selected act
worked = record {
  aliasing = refl;
  wrapping = refl;
  divided = refl;
  negative_count = refl;
  beyond_end = refl;
  beyond_length = refl;
  called_nil = refl;
  made_negative = refl;
  panicked = refl;
  turns = refl;
  no_turn = refl;
  runes = refl;
  outer_late = refl;
  inner_early = refl;
  field_late = refl;
  field_early = refl;
  read_before = refl;
  read_first = refl;
  range_cut = refl;
  range_done = refl;
  old_element = refl;
  new_cell = refl;
  not_evaluated = refl;
  evaluated = refl;
  fell = refl;
  old_function = refl;
  read_deep = refl;
  too_deep = refl;
  first_variable = refl;
  surrogate = refl;
  greatest = refl;
  reads = refl;
  grown = refl;
  moved = refl;
  counted = refl;
  counted_cut = refl;
  below_zero = refl;
  below_one = refl;
  repeated = refl;
  ordered = refl;
  picked = refl;
}
