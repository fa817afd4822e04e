-- The worked examples.
use Rattle.std.proofs.Common.{◌≡◌, ℕ, List, [], ◌∷◌, refl, inl, inr, ap, arith}
use Rattle.go_ints.specs.declared.kinds.Kind.TheVariants as kind
use Rattle.go_types.specs.Trees.{TypeTree, text, integer, array, slice, structure, function, declared, none, row}
use Rattle.go_types.specs.Relations.{Underlying, itself, through, Assignable, Comparable, texts, integers, arrays, structures, by_right, no_part, a_part, Scalars, of_text, of_integer, of_array, of_structure, of_right, of_none, of_more}
use Rattle.go_types.specs.Tables.{type_of, type_below}
use Rattle.go_types.specs.Examples.{Examples, int, named, rights, shapes}
use Rattle.go_types.proofs.Underlyings.{slices_not, functions_not, first_field_comparable, comparable_right}

slice_of_ints : Underlying rights (slice int) (slice int)
slice_of_ints = itself (slice int) refl

first : Underlying rights (declared 0) (slice int)
first = through 0 (slice int) (slice int) refl slice_of_ints

second : Underlying rights (declared 1) (slice int)
second = through 1 (declared 0) (slice int) refl first

abbrev two_fields : TypeTree
two_fields = structure (named 97 ∷ named 98 ∷ []) (row (int ∷ text ∷ []))

not_both : Assignable rights (declared 0) (declared 1) → ⊥
not_both (inl h) = cc
not_both (inr s) = let named_both = s.unnamed in cc

not_predeclared : Assignable rights int (integer kind.Int64) → ⊥
not_predeclared (inl h) = cc
not_predeclared (inr s) = let named_both = s.unnamed in cc

comparable_fields : Comparable rights two_fields
comparable_fields = structures (named 97 ∷ named 98 ∷ []) (row (int ∷ text ∷ [])) (a_part int (row (text ∷ [])) (integers kind.Int) (a_part text none texts no_part))

not_a_slice : (t : TypeTree) → Comparable rights (slice t) → ⊥
not_a_slice t c = slices_not rights (slice t) t refl c

next_in_slice : Comparable rights (declared 4) → ⊥
next_in_slice c =
    let r = comparable_right rights 4 (declared 4) refl c in
    let same : r.0 ≡ structure (named 97 ∷ []) (row (slice (declared 4) ∷ [])) = cc in
    not_a_slice (declared 4) (first_field_comparable rights (named 97 ∷ []) (slice (declared 4)) none r.0 same r.2)

two_scalars : Scalars rights two_fields 2
two_scalars = of_structure (named 97 ∷ named 98 ∷ []) (row (int ∷ text ∷ [])) 2 (of_more int (row (text ∷ [])) 1 1 (of_integer kind.Int) (of_more text none 1 0 of_text of_none))

struct_number : type_of shapes 2 ≡ structure (named 97 ∷ named 98 ∷ []) (row (int ∷ slice int ∷ []))
unfolding type_of type_below
struct_number = refl

declared_number : type_of shapes 3 ≡ declared 0
unfolding type_of type_below
declared_number = refl

abbrev first_letter : List (List ℕ) → ℕ
first_letter ((x ∷ xs) ∷ names) = x
first_letter _ = 0

pub all : Examples
all = record {
  same_arrays = (refl, refl);
  other_lengths = λ h. let e = h.0 in omega (arith, e);
  other_names = λ h. let letters = ap first_letter h.0 in omega (arith, letters);
  other_order = λ h. h.0.0;
  other_kinds = λ h. cc;
  declared_itself = refl;
  declared_other = λ h. omega (arith, h);
  declared_right = λ h. h;
  at_once = first;
  by_another = second;
  its_own = itself (slice (declared 0)) refl;
  from_literal = inr (record { from_underlying = slice int; to_underlying = slice int; from_is = slice_of_ints; to_is = first; identical = refl; unnamed = refl });
  to_literal = inr (record { from_underlying = slice int; to_underlying = slice int; from_is = second; to_is = slice_of_ints; identical = refl; unnamed = refl });
  both_named = not_both;
  predeclared = not_predeclared;
  array_of_structs = by_right 2 (array 3 (declared 3)) refl (arrays 3 (declared 3) (by_right 3 two_fields refl comparable_fields));
  slices = not_a_slice int;
  function_field = λ c. functions_not rights (function none none) none none refl (first_field_comparable rights (named 102 ∷ []) (function none none) none (structure (named 102 ∷ []) (row (function none none ∷ []))) refl c);
  slice_of_itself = next_in_slice;
  three_structs = of_right 2 (array 3 (declared 3)) 6 refl (of_array 3 (declared 3) 2 (of_right 3 two_fields 2 refl two_scalars));
  empty_arrays = of_array 5 (array 0 int) 0 (of_array 0 int 1 (of_integer kind.Int));
  no_fields = of_structure [] none 0 of_none;
  hollow_structs = of_array 4 (structure (named 97 ∷ named 98 ∷ []) (row (array 0 text ∷ array 0 text ∷ []))) 1 (of_structure (named 97 ∷ named 98 ∷ []) (row (array 0 text ∷ array 0 text ∷ [])) 0 (of_more (array 0 text) (row (array 0 text ∷ [])) 0 0 (of_array 0 text 1 of_text) (of_more (array 0 text) none 0 0 (of_array 0 text 1 of_text) of_none)));
  struct_type = struct_number;
  declared_type = declared_number;
}
