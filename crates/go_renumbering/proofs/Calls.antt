-- The rules on calls with other numbers of declared types.
use Rattle.std.proofs.Common.{◌≡◌, ◌∙◌, ℕ, Bool, true, false, List, [], ◌∷◌, map, Option, Some, None, refl, ap}
use Rattle.std.specs.List.{list_all}
use Rattle.std.specs.Prelude.{is_some}
use Rattle.go_ints.specs.declared.operators.Op.TheVariants as op
use Rattle.go_tree.specs.declared.object.Predeclared.{Predeclared}
use Rattle.go_tree.specs.declared.object.Predeclared.TheVariants as predeclared
use Rattle.go_types.specs.Trees.{TypeTree, TypeRow, none, more}
use Rattle.go_types.specs.Relations.{Rights}
use Rattle.go_types_relations.specs.Renaming.{renamed, renamed_row, IsOneToOne, AreRenamed}
use Rattle.go_types_relations.specs.Tests.{underlying_of}
use Rattle.go_typed.specs.Trees.{typed, sort_of, label_of}
use Rattle.go_typed.specs.Trees as sort
use Rattle.go_exprs_rules.specs.Calls.{parameters_of, results_of, all_unassignable, function_call_failing, called, function_call_sort, all_as, printed, all_printed, length_failing, sizes_failing, make_failing, each_unassignable, append_failing_in, append_failing, copies, copy_failing, panic_failing, builtin_failing, constant_length, length_value, length_sort, made_sort, appended_sort, builtin_sort, appended_takes, builtin_takes, one_conversion, call_failing, converted_sort, call_sort, function_takes, call_takes, conversion_take, extreme_take}
use Rattle.go_exprs_rules.specs.Indexes.{value_or_unknown}
use Rattle.go_exprs_rules.specs.Settling.{Part, Take, stay, default, as_type}
use Rattle.go_exprs_rules.specs.Sorts.{Stands, own_type, named_type, is_whole, element_of, underlying_in, form_of_value, slice_element, int}
use Rattle.go_renumbering.specs.Renumbered.{stands_renamed, part_renamed}
use Rattle.go_renumbering.proofs.Conversions.{conversion_kept, conversion_sort_kept, conversion_take_kept}
use Rattle.go_renumbering.proofs.Extremes.{extreme_kept, extreme_sort_kept, extreme_take_kept}
use Rattle.go_renumbering.proofs.Indexes.{some_same, value_or_same, disordered_kept, bound_kept}
use Rattle.go_renumbering.proofs.Operators.{takes_renamed}
use Rattle.go_renumbering.proofs.Parts.{every, count_kept, map_kept, all_kept}
use Rattle.go_renumbering.proofs.Settling.{take_renamed, sort_kept, undefaulted_kept, unassignable_kept}
use Rattle.go_renumbering.proofs.Sorts.{maybe, maybe_row, constant_same, own_same, named_same, element_same, slice_element_same, array_length_same, parameters_same, results_same, row_length_same, und, both_identical_same, underlying_in_same, form_same, family_same, whole_same, text_same, byte_same}

module _ (name : ℕ → ℕ) where
  called_same : (t : TypeTree) (rs : TypeRow) → called (renamed name t) (renamed_row name rs) ≡ stands_renamed name (called t rs)
  called_same t none = refl
  called_same t (more r none) = refl
  called_same t (more r (more q rs)) = refl

  pub all_as_same : (ts : TypeRow) → all_as (renamed_row name ts) ≡ takes_renamed name (all_as ts)
  all_as_same none = refl
  all_as_same (more t ts) = ap (λ ks. as_type (renamed name t) ∷ ks) (all_as_same ts)

  length_value_same : (n : Option ℕ) → length_value n ≡ stands_renamed name (length_value n)
  length_value_same None = refl
  length_value_same (Some n) = refl

  made_sort_kept : (xs : List Part) → made_sort (every name xs) ≡ stands_renamed name (made_sort xs)
  made_sort_kept [] = refl
  made_sort_kept (typed f i j l ps ∷ xs) = ap value_or_unknown (named_same name l.sort) ∙ value_or_same name (named_type l.sort)

  appended_sort_kept : (xs : List Part) → appended_sort (every name xs) ≡ stands_renamed name (appended_sort xs)
  appended_sort_kept [] = refl
  appended_sort_kept (typed f i j l ps ∷ xs) = ap value_or_unknown (own_same name l.sort) ∙ value_or_same name (own_type l.sort)

  pub each_take : (k q : Take) → q ≡ take_renamed name k → (xs : List Part) → map (λ (x : Part). q) (every name xs) ≡ takes_renamed name (map (λ (x : Part). k) xs)
  each_take k q e xs = map_kept name (take_renamed name) (λ x. q) (λ x. k) (λ x. e) xs

  appended_takes_kept : (o : Option TypeTree) (xs : List Part) → appended_takes (maybe name o) (every name xs) ≡ takes_renamed name (appended_takes o xs)
  appended_takes_kept (Some t) xs = ap (λ ks. stay ∷ ks) (each_take (as_type t) (as_type (renamed name t)) refl xs)
  appended_takes_kept None xs = ap (λ ks. stay ∷ ks) (each_take default default refl xs)

  function_takes_kept : (o : Option TypeRow) (xs : List Part) → function_takes (maybe_row name o) (every name xs) ≡ takes_renamed name (function_takes o xs)
  function_takes_kept (Some ps) xs = all_as_same ps
  function_takes_kept None xs = each_take default default refl xs

module _ (name : ℕ → ℕ) (one : IsOneToOne name) (old new : Rights) (same : AreRenamed name old new) where
  abbrev now : Stands → Stands
  now x = stands_renamed name x

  -- ---- calls of functions

  pub all_unassignable_kept : (ts : TypeRow) (xs : List Part) → all_unassignable new (renamed_row name ts) (every name xs) ≡ all_unassignable old ts xs
  all_unassignable_kept none xs = refl
  all_unassignable_kept (more t ts) [] = refl
  all_unassignable_kept (more t ts) (x ∷ xs) = let e = unassignable_kept name one old new same t x in let f = all_unassignable_kept ts xs in cc

  function_kept : (i j : ℕ) (o : Option TypeRow) (xs : List Part) → function_call_failing new i j (maybe_row name o) (every name xs) ≡ function_call_failing old i j o xs
  function_kept i j None xs = refl
  function_kept i j (Some ps) xs =
      let e = row_length_same name ps in
      let f = count_kept name xs in
      let g = all_unassignable_kept ps xs in
      cc

  form_parameters : (x : Stands) → parameters_of (form_of_value new (now x)) ≡ maybe_row name (parameters_of (form_of_value old x))
  form_parameters x = ap parameters_of (form_same name one old new same x) ∙ parameters_same name (form_of_value old x)

  function_sort_kept : (o : Option TypeTree) → function_call_sort new (maybe name o) ≡ now (function_call_sort old o)
  function_sort_kept None = refl
  function_sort_kept (Some t) =
      ap (λ o. called (renamed name t) (results_of o)) (und name one old new same t) ∙ ap (called (renamed name t)) (results_same name (underlying_of old t)) ∙ called_same name t (results_of (underlying_of old t))

  -- ---- predeclared functions

  printed_kept : (i j : ℕ) (x : Part) → printed new i j (part_renamed name x) ≡ printed old i j x
  printed_kept i j (typed f a b l ps) = let e = family_same name one old new same l.sort in let h = undefaulted_kept name one old new same (typed f a b l ps) in cc

  all_printed_kept : (i j : ℕ) (xs : List Part) → all_printed new i j (every name xs) ≡ all_printed old i j xs
  all_printed_kept i j [] = refl
  all_printed_kept i j (x ∷ xs) = let e = printed_kept i j x in let f = all_printed_kept i j xs in cc

  form_element : (x : Stands) → is_some (element_of (form_of_value new (now x))) ≡ is_some (element_of (form_of_value old x))
  form_element x = ap (λ o. is_some (element_of o)) (form_same name one old new same x) ∙ ap is_some (element_same name (form_of_value old x)) ∙ some_same name (element_of (form_of_value old x))

  length_kept : (i j : ℕ) (b : Bool) (xs : List Part) → length_failing new i j b (every name xs) ≡ length_failing old i j b xs
  length_kept i j b [] = refl
  length_kept i j b (typed f x y l ps ∷ []) = let e = text_same name one old new same l.sort in let h = form_element l.sort in cc
  length_kept i j b (x ∷ y ∷ xs) = refl

  sizes_kept : (xs : List Part) → sizes_failing new (every name xs) ≡ sizes_failing old xs
  sizes_kept [] = refl
  sizes_kept (x ∷ []) = bound_kept name one old new same None x
  sizes_kept (x ∷ y ∷ []) =
      let e = bound_kept name one old new same None x in
      let f = bound_kept name one old new same None y in
      let g = disordered_kept name (Some x) (Some y) in
      cc
  sizes_kept (x ∷ y ∷ z ∷ xs) = let e = bound_kept name one old new same None x in let f = bound_kept name one old new same None y in cc

  all_whole : (xs : List Part) → list_all (λ n. is_whole new (sort_of n)) (every name xs) ≡ list_all (λ n. is_whole old (sort_of n)) xs
  all_whole xs = all_kept name (λ n. is_whole new (sort_of n)) (λ n. is_whole old (sort_of n)) (λ x. ap (is_whole new) (sort_kept name x) ∙ whole_same name one old new same (sort_of x)) xs

  made_element : (x : Stands) → is_some (slice_element (underlying_in new (named_type (now x)))) ≡ is_some (slice_element (underlying_in old (named_type x)))
  made_element x =
      ap (λ o. is_some (slice_element (underlying_in new o))) (named_same name x) ∙ ap (λ o. is_some (slice_element o)) (underlying_in_same name one old new same (named_type x))
      ∙ ap is_some (slice_element_same name (underlying_in old (named_type x))) ∙ some_same name (slice_element (underlying_in old (named_type x)))

  make_kept : (i j : ℕ) (xs : List Part) → make_failing new i j (every name xs) ≡ make_failing old i j xs
  make_kept i j [] = refl
  make_kept i j (typed f a b l ps ∷ xs) =
      let n = count_kept name xs in
      let e = made_element l.sort in
      let w = all_whole xs in
      let s = sizes_kept xs in
      cc

  pub each_unassignable_kept : (t : TypeTree) (xs : List Part) → each_unassignable new (renamed name t) (every name xs) ≡ each_unassignable old t xs
  each_unassignable_kept t [] = refl
  each_unassignable_kept t (x ∷ xs) = let e = unassignable_kept name one old new same t x in let f = each_unassignable_kept t xs in cc

  append_in_kept : (i j : ℕ) (o : Option TypeTree) (xs : List Part) → append_failing_in new i j (maybe name o) (every name xs) ≡ append_failing_in old i j o xs
  append_in_kept i j None xs = refl
  append_in_kept i j (Some t) xs = each_unassignable_kept t xs

  form_slice : (x : Stands) → slice_element (form_of_value new (now x)) ≡ maybe name (slice_element (form_of_value old x))
  form_slice x = ap slice_element (form_same name one old new same x) ∙ slice_element_same name (form_of_value old x)

  append_kept : (i j : ℕ) (xs : List Part) → append_failing new i j (every name xs) ≡ append_failing old i j xs
  append_kept i j [] = refl
  append_kept i j (typed f a b l ps ∷ xs) = ap (λ o. append_failing_in new i j o (every name xs)) (form_slice l.sort) ∙ append_in_kept i j (slice_element (form_of_value old l.sort)) xs

  copies_same : (o : Option TypeTree) (y : Stands) → copies new (maybe name o) (now y) ≡ copies old o y
  copies_same None y = refl
  copies_same (Some t) y =
      let e = form_slice y in
      let f = both_identical_same name one old new same (Some t) (slice_element (form_of_value old y)) in
      let g = text_same name one old new same y in
      let h = byte_same name one old new same (Some t) in
      cc

  copy_kept : (i j : ℕ) (xs : List Part) → copy_failing new i j (every name xs) ≡ copy_failing old i j xs
  copy_kept i j [] = refl
  copy_kept i j (x ∷ []) = refl
  copy_kept i j (typed f a b k ps ∷ typed g c d l qs ∷ []) = let e = form_slice k.sort in let h = copies_same (slice_element (form_of_value old k.sort)) l.sort in cc
  copy_kept i j (x ∷ y ∷ z ∷ xs) = refl

  panic_kept : (i j : ℕ) (xs : List Part) → panic_failing new i j (every name xs) ≡ panic_failing old i j xs
  panic_kept i j [] = refl
  panic_kept i j (x ∷ []) = printed_kept i j x
  panic_kept i j (x ∷ y ∷ xs) = refl

  builtin_kept : (i j : ℕ) (p : Predeclared) (xs : List Part) → builtin_failing new i j p (every name xs) ≡ builtin_failing old i j p xs
  builtin_kept i j predeclared.Len xs = length_kept i j true xs
  builtin_kept i j predeclared.Cap xs = length_kept i j false xs
  builtin_kept i j predeclared.Make xs = make_kept i j xs
  builtin_kept i j predeclared.Append xs = append_kept i j xs
  builtin_kept i j predeclared.Copy xs = copy_kept i j xs
  builtin_kept i j predeclared.Panic xs = panic_kept i j xs
  builtin_kept i j predeclared.Min xs = extreme_kept name one old new same i j xs
  builtin_kept i j predeclared.Max xs = extreme_kept name one old new same i j xs
  builtin_kept i j p xs = refl

  one_kept : (i j : ℕ) (t : TypeTree) (xs : List Part) → one_conversion new i j (renamed name t) (every name xs) ≡ one_conversion old i j t xs
  one_kept i j t [] = refl
  one_kept i j t (x ∷ []) = conversion_kept name one old new same i j t x
  one_kept i j t (x ∷ y ∷ xs) = refl

  other_call : (i j : ℕ) (f : Stands) (xs : List Part) → function_call_failing new i j (parameters_of (form_of_value new (now f))) (every name xs) ≡ function_call_failing old i j (parameters_of (form_of_value old f)) xs
  other_call i j f xs = ap (λ o. function_call_failing new i j o (every name xs)) (form_parameters f) ∙ function_kept i j (parameters_of (form_of_value old f)) xs

  pub call_kept : (i j : ℕ) (f : Stands) (xs : List Part) → call_failing new i j (now f) (every name xs) ≡ call_failing old i j f xs
  call_kept i j (sort.IsType t) xs = one_kept i j t xs
  call_kept i j (sort.Builtin p) xs = builtin_kept i j p xs
  call_kept i j sort.Println xs = all_printed_kept i j xs
  call_kept i j f xs = other_call i j f xs

  -- ---- what they stand for

  constant_length_same : (x : Part) → constant_length new (part_renamed name x) ≡ constant_length old x
  constant_length_same (typed f i j l ps) =
      let e = constant_same name l.sort in
      let g = form_same name one old new same l.sort in
      let h = array_length_same name (form_of_value old l.sort) in
      cc

  length_sort_kept : (xs : List Part) → length_sort new (every name xs) ≡ now (length_sort old xs)
  length_sort_kept [] = refl
  length_sort_kept (x ∷ xs) = ap length_value (constant_length_same x) ∙ length_value_same name (constant_length old x)

  builtin_sort_kept : (p : Predeclared) (xs : List Part) → builtin_sort new p (every name xs) ≡ now (builtin_sort old p xs)
  builtin_sort_kept predeclared.Len xs = length_sort_kept xs
  builtin_sort_kept predeclared.Cap xs = length_sort_kept xs
  builtin_sort_kept predeclared.Make xs = made_sort_kept name xs
  builtin_sort_kept predeclared.Append xs = appended_sort_kept name xs
  builtin_sort_kept predeclared.Copy xs = refl
  builtin_sort_kept predeclared.Panic xs = refl
  builtin_sort_kept predeclared.Min xs = extreme_sort_kept name one old new same op.Min xs
  builtin_sort_kept predeclared.Max xs = extreme_sort_kept name one old new same op.Max xs
  builtin_sort_kept p xs = refl

  converted_kept : (t : TypeTree) (xs : List Part) → converted_sort new (renamed name t) (every name xs) ≡ now (converted_sort old t xs)
  converted_kept t [] = refl
  converted_kept t (typed f i j l ps ∷ xs) = conversion_sort_kept name one old new same t l.sort

  other_sort : (f : Stands) → function_call_sort new (own_type (now f)) ≡ now (function_call_sort old (own_type f))
  other_sort f = ap (function_call_sort new) (own_same name f) ∙ function_sort_kept (own_type f)

  pub call_sort_kept : (f : Stands) (xs : List Part) → call_sort new (now f) (every name xs) ≡ now (call_sort old f xs)
  call_sort_kept (sort.IsType t) xs = converted_kept t xs
  call_sort_kept (sort.Builtin p) xs = builtin_sort_kept p xs
  call_sort_kept sort.Println xs = refl
  call_sort_kept f xs = other_sort f

  -- ---- what their arguments take

  extreme_takes_kept : (xs : List Part) → map (λ (y : Part). extreme_take new (every name xs)) (every name xs) ≡ takes_renamed name (map (λ (y : Part). extreme_take old xs) xs)
  extreme_takes_kept xs = each_take name (extreme_take old xs) (extreme_take new (every name xs)) (extreme_take_kept name one old new same xs) xs

  builtin_takes_kept : (p : Predeclared) (xs : List Part) → builtin_takes new p (every name xs) ≡ takes_renamed name (builtin_takes old p xs)
  builtin_takes_kept p [] = refl
  builtin_takes_kept predeclared.Make (x ∷ xs) = ap (λ ks. stay ∷ ks) (each_take name (as_type int) (as_type int) refl xs)
  builtin_takes_kept predeclared.Append (typed f i j l ps ∷ xs) = ap (λ o. appended_takes o (every name xs)) (form_slice l.sort) ∙ appended_takes_kept name (slice_element (form_of_value old l.sort)) xs
  builtin_takes_kept predeclared.Min (x ∷ xs) = extreme_takes_kept (x ∷ xs)
  builtin_takes_kept predeclared.Max (x ∷ xs) = extreme_takes_kept (x ∷ xs)
  builtin_takes_kept p (x ∷ xs) = each_take name default default refl (x ∷ xs)

  other_takes : (f : Stands) (xs : List Part) → function_takes (parameters_of (form_of_value new (now f))) (every name xs) ≡ takes_renamed name (function_takes (parameters_of (form_of_value old f)) xs)
  other_takes f xs = ap (λ o. function_takes o (every name xs)) (form_parameters f) ∙ function_takes_kept name (parameters_of (form_of_value old f)) xs

  pub call_takes_kept : (f : Stands) (xs : List Part) → call_takes new (now f) (every name xs) ≡ takes_renamed name (call_takes old f xs)
  call_takes_kept (sort.IsType t) xs =
      map_kept name (take_renamed name) (λ x. conversion_take new (renamed name t) (sort_of x)) (λ x. conversion_take old t (sort_of x))
      (λ x. ap (conversion_take new (renamed name t)) (sort_kept name x) ∙ conversion_take_kept name one old new same t (sort_of x)) xs
  call_takes_kept (sort.Builtin p) xs = builtin_takes_kept p xs
  call_takes_kept f xs = other_takes f xs
