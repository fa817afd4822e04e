-- The examples compute.
use Rattle.std.proofs.Common.{◌≡◌, zero, suc, Some, None, refl}
use Rattle.go_types.specs.Trees.{slice, declared}
use Rattle.go_types_relations.specs.Renaming.{AreRenamed}
use Rattle.go_types_relations.specs.Questions.{answers}
use Rattle.go_types_relations.specs.Tests.{is_assignable}
use Rattle.go_types_relations.specs.Examples.{own_slice, moved_slice, Examples}

one_later : AreRenamed (λ n. suc n) own_slice moved_slice
one_later zero = refl
one_later (suc n) = refl

another : AreRenamed (λ n. suc n) own_slice own_slice → ⊥
another same = let wrong : None ≡ Some (slice (declared 1)) = same 0 in cc

pub examples_hold : Examples
unfolding answers is_assignable
examples_hold = record {
  same_arrays = refl;
  other_lengths = refl;
  other_kinds = refl;
  declared_right = refl;
  by_another = refl;
  no_right = refl;
  of_itself = refl;
  by_slice = refl;
  to_twin = refl;
  to_itself = refl;
  to_literal = refl;
  from_literal = refl;
  to_right_side = refl;
  open_to_itself = refl;
  open_to_literal = refl;
  array_of_structs = refl;
  slices = refl;
  all_fields = refl;
  second_field = refl;
  by_slice_comparable = refl;
  open_comparable = refl;
  both_dimensions = refl;
  three_structs = refl;
  empty_arrays = refl;
  no_fields = refl;
  by_slice_scalars = refl;
  open_scalars = refl;
  integer_zero = refl;
  function_zero = refl;
  slice_zero = refl;
  structs_zero = refl;
  by_slice_zero = refl;
  open_zero = refl;
  one_later = one_later;
  each_its_own = λ n m e. cc;
  another = another;
}
