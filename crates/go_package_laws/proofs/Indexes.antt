-- Selectors, index expressions and slice expressions.
use Rattle.std.proofs.Common.{◌≡◌, ℕ, zero, suc, Bool, List, Option, Some, None, refl, ap, ◌∙◌}
use Rattle.std.specs.Prelude.{◌+◌}
use Rattle.std.specs.Option.{option_map}
use Rattle.go_ints.specs.declared.kinds.Kind.TheVariants as integer_kind
use Rattle.go_types.specs.Trees.{TypeTree, integer, structure, TypeRow, none, more}
use Rattle.go_types.specs.Relations.{Rights}
use Rattle.go_typed.specs.Trees.{sort_of}
use Rattle.go_typed.specs.Trees as sort
use Rattle.go_exprs_rules.specs.Indexes.{field_number, type_at, field_type, numbered_type, named_field, selector_failing, value_or_unknown, selector_sort, bound_failing, optional_bound, text_length, index_failing_in, index_failing, index_sort, whole_or_absent, bounds_failing, slice_failing, slice_sort}
use Rattle.go_exprs_rules.specs.Settling.{Part}
use Rattle.go_exprs_rules.specs.Sorts.{Stands, constant_of, form_of_value, is_text, element_of, array_length, byte, value_type}
use Rattle.go_package_laws.specs.Reach.{Within, RowWithin, MaybeWithin, AgreeOn, StandsWithin, PartWithin, MaybePart}
use Rattle.go_package_laws.proofs.Values.{branch, sort_within, element_within, value_within, form_same, form_within, whole_same, text_same, unrepresented_same}

module _ (p : ℕ → Bool) where
  pub row_type_within : (ts : TypeRow) (n : ℕ) → RowWithin p ts → MaybeWithin p (type_at ts n)
  row_type_within none n w = tt
  row_type_within (more t ts) zero w = w.0
  row_type_within (more t ts) (suc n) w = row_type_within ts n w.1

  field_type_within : (o : Option TypeTree) (n : ℕ) → MaybeWithin p o → MaybeWithin p (field_type o n)
  field_type_within (Some (structure ns ts)) n w = row_type_within ts n w
  field_type_within o n w = tt

  numbered_within : (o : Option TypeTree) (n : Option ℕ) → MaybeWithin p o → MaybeWithin p (numbered_type o n)
  numbered_within o None w = tt
  numbered_within o (Some n) w = field_type_within o n w

  named_field_within : (o : Option TypeTree) (name : List ℕ) → MaybeWithin p o → MaybeWithin p (named_field o name)
  named_field_within o name w = numbered_within o (field_number o name) w

  pub value_or_within : (o : Option TypeTree) → MaybeWithin p o → StandsWithin p (value_or_unknown o)
  value_or_within None w = tt
  value_or_within (Some t) w = w

  pub slice_sort_within : (x : Stands) → StandsWithin p x → StandsWithin p (slice_sort x)
  slice_sort_within x w = value_or_within (value_type x) (value_within p x w)

module _ (p : ℕ → Bool) (old new : Rights) (a : AgreeOn p old new) where
  int_within : Within p (integer integer_kind.Int)
  int_within = tt

  -- ---- fields

  pub selector_failing_same : (i j : ℕ) (name : List ℕ) (x : Stands) → StandsWithin p x → selector_failing new i j name x ≡ selector_failing old i j name x
  selector_failing_same i j name sort.Package w = refl
  selector_failing_same i j name x w = let e = form_same p old new a x w in cc

  pub selector_sort_same : (name : List ℕ) (x : Stands) → StandsWithin p x → selector_sort new name x ≡ selector_sort old name x
  selector_sort_same name sort.Package w = refl
  selector_sort_same name x w = let e = form_same p old new a x w in cc

  pub selector_sort_within : (name : List ℕ) (x : Stands) → StandsWithin p x → StandsWithin p (selector_sort old name x)
  selector_sort_within name sort.Package w = tt
  selector_sort_within name x w = value_or_within p (named_field (form_of_value old x) name) (named_field_within p (form_of_value old x) name (form_within p old new a x w))

  -- ---- indexes

  pub bound_same : (n : Option ℕ) (x : Part) → bound_failing new n x ≡ bound_failing old n x
  bound_same n x = let e = unrepresented_same p old new a (integer integer_kind.Int) int_within x in cc

  optional_bound_same : (n : Option ℕ) (o : Option Part) → optional_bound new n o ≡ optional_bound old n o
  optional_bound_same n None = refl
  optional_bound_same n (Some x) = bound_same n x

  index_failing_in_same : (i j : ℕ) (u : Option TypeTree) (n : Part) → index_failing_in new i j u n ≡ index_failing_in old i j u n
  index_failing_in_same i j u n = let e = bound_same (array_length u) n in cc

  pub index_failing_same : (i j : ℕ) (x : Stands) (n : Part) → StandsWithin p x → PartWithin p n → index_failing new i j x n ≡ index_failing old i j x n
  index_failing_same i j x n w h =
      let e = whole_same p old new a (sort_of n) (sort_within p n h) in
      let f = text_same p old new a x w in
      let b = bound_same (text_length (constant_of x)) n in
      let g : index_failing_in new i j (form_of_value new x) n ≡ index_failing_in old i j (form_of_value old x) n =
      ap (λ u. index_failing_in new i j u n) (form_same p old new a x w) ∙ index_failing_in_same i j (form_of_value old x) n in
      cc

  pub index_sort_same : (x : Stands) → StandsWithin p x → index_sort new x ≡ index_sort old x
  index_sort_same x w = let e = text_same p old new a x w in let f = form_same p old new a x w in cc

  byte_within : StandsWithin p (sort.Value byte)
  byte_within = tt

  pub index_sort_within : (x : Stands) → StandsWithin p x → StandsWithin p (index_sort old x)
  index_sort_within x w =
      branch (StandsWithin p) (is_text old x) (sort.Value byte) (value_or_unknown (element_of (form_of_value old x))) byte_within
      (value_or_within p (element_of (form_of_value old x)) (element_within p (form_of_value old x) (form_within p old new a x w)))

  whole_or_absent_same : (o : Option Part) → MaybePart p o → whole_or_absent new o ≡ whole_or_absent old o
  whole_or_absent_same None w = refl
  whole_or_absent_same (Some x) w = whole_same p old new a (sort_of x) (sort_within p x w)

  bounds_same : (n : Option ℕ) (low high : Option Part) → bounds_failing new n low high ≡ bounds_failing old n low high
  bounds_same n low high = let e = optional_bound_same n low in let f = optional_bound_same n high in cc

  pub slice_failing_same : (i j : ℕ) (x : Stands) (low high : Option Part) → StandsWithin p x → MaybePart p low → MaybePart p high → slice_failing new i j x low high ≡ slice_failing old i j x low high
  slice_failing_same i j x low high w l h =
      let e = text_same p old new a x w in
      let f = form_same p old new a x w in
      let g = whole_or_absent_same low l in
      let k = whole_or_absent_same high h in
      let b = bounds_same (option_map (λ n. n + 1) (text_length (constant_of x))) low high in
      cc
