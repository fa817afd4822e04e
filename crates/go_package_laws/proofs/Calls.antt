-- Calls, conversions, predeclared functions and composite literals.
use Rattle.std.proofs.Common.{◌≡◌, ℕ, Bool, true, false, List, [], ◌∷◌, map, Option, Some, None, refl, ap, ◌∙◌}
use Rattle.std.specs.List.{list_all}
use Rattle.go_ints.specs.declared.kinds.Kind.TheVariants as integer_kind
use Rattle.go_ints.specs.declared.operators.Op.TheVariants as op
use Rattle.go_constants.specs.declared.values.Const.{Const}
use Rattle.go_constants.specs.declared.values.Const.TheVariants as const
use Rattle.go_tree.specs.declared.object.Predeclared.{Predeclared}
use Rattle.go_tree.specs.declared.object.Predeclared.TheVariants as predeclared
use Rattle.go_types.specs.Trees.{TypeTree, integer, array, slice, structure, function, TypeRow, none, more}
use Rattle.go_types.specs.Relations.{Rights}
use Rattle.go_types_relations.specs.Tests.{underlying_of}
use Rattle.go_typed.specs.Trees.{typed, Typeds, sort_of, parts_of, EveryPart}
use Rattle.go_typed.specs.Trees as sort
use Rattle.go_exprs_rules.specs.declared.family.OpenKind.{OpenKind}
use Rattle.go_exprs_rules.specs.Calls.{keeps_value, becomes_text, is_integer_type, is_text_type, converts, converts_value, open_conversion, value_conversion, kept_conversion, conversion_failing, constant_or_value, conversion_sort, conversion_take, parameters_of, results_of, all_unassignable, function_call_failing, called, function_call_sort, all_as, printed, all_printed, length_failing, sizes_failing, make_failing, each_unassignable, append_failing_in, append_failing, copies, copy_failing, panic_failing, builtin_failing, constant_length, length_value, length_sort, made_sort, appended_sort, builtin_sort, appended_takes, builtin_takes, one_conversion, call_failing, converted_sort, call_sort, function_takes, call_takes, extreme_take}
use Rattle.go_exprs_rules.specs.Literals.{key_of, has_keys, first_part, elements_failing, keyed_type, given_to_field, keyed_unassignable, keyed_failing, ordered_failing, fields_failing, literal_failing_in, literal_failing, as_optional, fields_take, literal_takes_in, literal_takes, literal_sort}
use Rattle.go_exprs_rules.specs.Settling.{Part, Take, stay, default, as_type}
use Rattle.go_exprs_rules.specs.Sorts.{Stands, open_kind, own_type, constant_of, is_constant, named_type, underlying_in, form_of_value, is_whole, slice_element, value_type}
use Rattle.go_package_laws.specs.Reach.{Within, RowWithin, MaybeWithin, AgreeOn, StandsWithin, PartWithin, MaybePart, ListWithin}
use Rattle.go_package_laws.proofs.Agreeing.{underlying_same, underlying_within, assignable_same}
use Rattle.go_package_laws.proofs.Values.{branch, sort_within, own_within, named_within, slice_within, value_within, TakeWithin, underlying_in_same, underlying_in_within, form_same, form_within, family_same, whole_same, text_same, suits_same, bytes_same, represents_same, unrepresented_same, undefaulted_same, unassignable_same}
use Rattle.go_package_laws.proofs.Operators.{TakesWithin}
use Rattle.go_package_laws.proofs.Extremes.{extreme_failing_same, extreme_sort_same, extreme_sort_within, extreme_take_same, extreme_take_within}
use Rattle.go_package_laws.proofs.Indexes.{row_type_within, value_or_within, bound_same}

module _ (p : ℕ → Bool) where
  constant_or_within : (t : TypeTree) (o : Option Const) → Within p t → StandsWithin p (constant_or_value t o)
  constant_or_within t None w = w
  constant_or_within t (Some c) w = w

  abbrev MaybeRow : Option TypeRow → Type 0
  MaybeRow None = Unit {0}
  MaybeRow (Some ts) = RowWithin p ts

  parameters_within : (o : Option TypeTree) → MaybeWithin p o → MaybeRow (parameters_of o)
  parameters_within (Some (function ps rs)) w = w.0
  parameters_within o w = tt

  results_within : (o : Option TypeTree) → MaybeWithin p o → RowWithin p (results_of o)
  results_within (Some (function ps rs)) w = w.1
  results_within o w = tt

  called_within : (t : TypeTree) (rs : TypeRow) → Within p t → RowWithin p rs → StandsWithin p (called t rs)
  called_within t none w h = w
  called_within t (more r none) w h = h.0
  called_within t (more r (more q rs)) w h = w

  length_within : (n : Option ℕ) → StandsWithin p (length_value n)
  length_within None = tt
  length_within (Some n) = tt

  made_within : (xs : List Part) → ListWithin p xs → StandsWithin p (made_sort xs)
  made_within [] w = tt
  made_within (x ∷ xs) w = value_or_within p (named_type (sort_of x)) (named_within p (sort_of x) (sort_within p x w.0))

  appended_within : (xs : List Part) → ListWithin p xs → StandsWithin p (appended_sort xs)
  appended_within [] w = tt
  appended_within (x ∷ xs) w = value_or_within p (own_type (sort_of x)) (own_within p (sort_of x) (sort_within p x w.0))

  all_as_within : (ts : TypeRow) → RowWithin p ts → TakesWithin p (all_as ts)
  all_as_within none w = tt
  all_as_within (more t ts) w = (w.0, all_as_within ts w.1)

  each_take : (f : Part → Take) → ((x : Part) → TakeWithin p (f x)) → (xs : List Part) → TakesWithin p (map f xs)
  each_take f h [] = tt
  each_take f h (x ∷ xs) = (h x, each_take f h xs)

  appended_takes_within : (o : Option TypeTree) (xs : List Part) → MaybeWithin p o → TakesWithin p (appended_takes o xs)
  appended_takes_within (Some t) xs w = (tt, each_take (λ x. as_type t) (λ x. w) xs)
  appended_takes_within None xs w = (tt, each_take (λ x. default) (λ x. tt) xs)

  function_takes_within : (o : Option TypeRow) (xs : List Part) → MaybeRow o → TakesWithin p (function_takes o xs)
  function_takes_within (Some ps) xs w = all_as_within ps w
  function_takes_within None xs w = each_take (λ x. default) (λ x. tt) xs

  optional_within : (o : Option TypeTree) → MaybeWithin p o → TakeWithin p (as_optional o)
  optional_within None w = tt
  optional_within (Some t) w = w

  keyed_within : (ts : TypeRow) (n : Option ℕ) → RowWithin p ts → MaybeWithin p (keyed_type ts n)
  keyed_within ts None w = tt
  keyed_within ts (Some n) w = row_type_within p ts n w

  fields_take_within : (ts : TypeRow) (xs : List Part) → RowWithin p ts → TakesWithin p (fields_take ts xs)
  fields_take_within ts xs w =
      branch (TakesWithin p) (has_keys xs) (map (λ x. as_optional (keyed_type ts (key_of x))) xs) (all_as ts)
      (each_take (λ x. as_optional (keyed_type ts (key_of x))) (λ x. optional_within (keyed_type ts (key_of x)) (keyed_within ts (key_of x) w)) xs) (all_as_within ts w)

  literal_takes_in_within : (o : Option TypeTree) (xs : List Part) → MaybeWithin p o → TakesWithin p (literal_takes_in o xs)
  literal_takes_in_within (Some (array n t)) xs w = each_take (λ x. as_type t) (λ x. w) xs
  literal_takes_in_within (Some (slice t)) xs w = each_take (λ x. as_type t) (λ x. w) xs
  literal_takes_in_within (Some (structure ns ts)) xs w = fields_take_within ts xs w
  literal_takes_in_within o xs w = each_take (λ x. stay) (λ x. tt) xs

  pub literal_sort_within : (o : Option TypeTree) → MaybeWithin p o → StandsWithin p (literal_sort o)
  literal_sort_within o w = value_or_within p o w

  first_inner : (ps : Typeds TypeTree) → EveryPart (Within p) ps → MaybePart p (first_part ps)
  first_inner sort.none w = tt
  first_inner (sort.more x ps) w = w.0
  first_inner (sort.skip ps) w = tt

  first_part_within : (x : Part) → PartWithin p x → MaybePart p (first_part (parts_of x))
  first_part_within (typed f i j l ps) w = first_inner ps w.1

module _ (p : ℕ → Bool) (old new : Rights) (a : AgreeOn p old new) where
  und : (t : TypeTree) → Within p t → underlying_of new t ≡ underlying_of old t
  und = underlying_same p old new a

  -- ---- conversions

  keeps_same : (t : TypeTree) (o : Option Const) → Within p t → keeps_value new t o ≡ keeps_value old t o
  keeps_same t None w = refl
  keeps_same t (Some c) w = let e = und t w in cc

  becomes_same : (t : TypeTree) (o : Option Const) → Within p t → becomes_text new t o ≡ becomes_text old t o
  becomes_same t (Some (const.Int z r)) w = let e = und t w in cc
  becomes_same t o w = refl

  integer_type_same : (t : TypeTree) → Within p t → is_integer_type new t ≡ is_integer_type old t
  integer_type_same t w = let e = und t w in cc

  text_type_same : (t : TypeTree) → Within p t → is_text_type new t ≡ is_text_type old t
  text_type_same t w = let e = und t w in cc

  converts_same : (t u : TypeTree) (b : Bool) → Within p t → Within p u → converts new t u b ≡ converts old t u b
  converts_same t u b w h =
      let e = und t w in
      let f = und u h in
      let g = bytes_same p old new a t w in
      let k = bytes_same p old new a u h in
      let l = assignable_same p old new a u t h w in
      cc

  converts_value_same : (t : TypeTree) (o : Option TypeTree) (b : Bool) → Within p t → MaybeWithin p o → converts_value new t o b ≡ converts_value old t o b
  converts_value_same t None b w h = refl
  converts_value_same t (Some u) b w h = converts_same t u b w h

  open_conversion_same : (i j : ℕ) (t : TypeTree) (x : Part) (o : Option OpenKind) → Within p t → open_conversion new i j t x o ≡ open_conversion old i j t x o
  open_conversion_same i j t x None w = refl
  open_conversion_same i j t x (Some k) w = let e = suits_same p old new a k t w in let f = unrepresented_same p old new a t w x in cc

  value_conversion_same : (i j : ℕ) (t : TypeTree) (x : Part) (s : Stands) → Within p t → StandsWithin p s → value_conversion new i j t x s ≡ value_conversion old i j t x s
  value_conversion_same i j t x sort.Nil w h = let e = und t w in cc
  value_conversion_same i j t x (sort.Open u) w h = open_conversion_same i j t x (open_kind (sort.Open u)) w
  value_conversion_same i j t x s w h = let e = converts_value_same t (value_type s) (is_constant s) w (value_within p s h) in cc

  kept_same : (t : TypeTree) (x : Part) (o : Option Const) → Within p t → kept_conversion new t x o ≡ kept_conversion old t x o
  kept_same t x None w = refl
  kept_same t x (Some c) w = let e = represents_same p old new a t c w in cc

  conversion_failing_same : (i j : ℕ) (t : TypeTree) (x : Part) → Within p t → PartWithin p x → conversion_failing new i j t x ≡ conversion_failing old i j t x
  conversion_failing_same i j t x w h =
      let e = keeps_same t (constant_of (sort_of x)) w in
      let f = kept_same t x (constant_of (sort_of x)) w in
      let g = becomes_same t (constant_of (sort_of x)) w in
      let k = undefaulted_same p old new a x in
      let l = value_conversion_same i j t x (sort_of x) w (sort_within p x h) in
      cc

  conversion_sort_same : (t : TypeTree) (x : Stands) → Within p t → conversion_sort new t x ≡ conversion_sort old t x
  conversion_sort_same t x w = let e = keeps_same t (constant_of x) w in let f = becomes_same t (constant_of x) w in cc

  conversion_sort_within : (t : TypeTree) (x : Stands) → Within p t → StandsWithin p (conversion_sort old t x)
  conversion_sort_within t x w =
      branch (StandsWithin p) (keeps_value old t (constant_of x)) _ _ (constant_or_within p t (constant_of x) w)
      (branch (StandsWithin p) (becomes_text old t (constant_of x)) _ (sort.Value t) w w)

  conversion_take_same : (t : TypeTree) (x : Stands) → Within p t → StandsWithin p x → conversion_take new t x ≡ conversion_take old t x
  conversion_take_same t x w h = let e = und t w in let f = whole_same p old new a x h in cc

  conversion_take_within : (t : TypeTree) (x : Stands) → Within p t → TakeWithin p (conversion_take old t x)
  conversion_take_within t x w = branch (TakeWithin p) _ (as_type t) default w tt

  -- ---- calls of functions

  all_unassignable_same : (ts : TypeRow) (xs : List Part) → RowWithin p ts → ListWithin p xs → all_unassignable new ts xs ≡ all_unassignable old ts xs
  all_unassignable_same (more t ts) (x ∷ xs) w h = let e = unassignable_same p old new a t w.0 x h.0 in let f = all_unassignable_same ts xs w.1 h.1 in cc
  all_unassignable_same none xs w h = refl
  all_unassignable_same (more t ts) [] w h = refl

  function_failing_same : (i j : ℕ) (o : Option TypeRow) (xs : List Part) → MaybeRow p o → ListWithin p xs → function_call_failing new i j o xs ≡ function_call_failing old i j o xs
  function_failing_same i j None xs w h = refl
  function_failing_same i j (Some ps) xs w h = let e = all_unassignable_same ps xs w h in cc

  function_sort_same : (o : Option TypeTree) → MaybeWithin p o → function_call_sort new o ≡ function_call_sort old o
  function_sort_same None w = refl
  function_sort_same (Some t) w = let e = und t w in cc

  function_sort_within : (o : Option TypeTree) → MaybeWithin p o → StandsWithin p (function_call_sort old o)
  function_sort_within None w = tt
  function_sort_within (Some t) w = called_within p t (results_of (underlying_of old t)) w (results_within p (underlying_of old t) (underlying_within p old new a t w))

  -- ---- predeclared functions

  printed_same : (i j : ℕ) (x : Part) → PartWithin p x → printed new i j x ≡ printed old i j x
  printed_same i j x w = let e = family_same p old new a (sort_of x) (sort_within p x w) in let f = undefaulted_same p old new a x in cc

  all_printed_same : (i j : ℕ) (xs : List Part) → ListWithin p xs → all_printed new i j xs ≡ all_printed old i j xs
  all_printed_same i j [] w = refl
  all_printed_same i j (x ∷ xs) w = let e = printed_same i j x w.0 in let f = all_printed_same i j xs w.1 in cc

  length_same : (i j : ℕ) (b : Bool) (xs : List Part) → ListWithin p xs → length_failing new i j b xs ≡ length_failing old i j b xs
  length_same i j b (x ∷ []) w = let e = text_same p old new a (sort_of x) (sort_within p x w.0) in let f = form_same p old new a (sort_of x) (sort_within p x w.0) in cc
  length_same i j b [] w = refl
  length_same i j b (x ∷ y ∷ xs) w = refl

  sizes_same : (xs : List Part) → sizes_failing new xs ≡ sizes_failing old xs
  sizes_same [] = refl
  sizes_same (n ∷ []) = bound_same p old new a None n
  sizes_same (n ∷ m ∷ []) = let e = bound_same p old new a None n in let f = bound_same p old new a None m in cc
  sizes_same (n ∷ m ∷ x ∷ xs) = let e = bound_same p old new a None n in let f = bound_same p old new a None m in cc

  all_whole_same : (xs : List Part) → ListWithin p xs → list_all (λ n. is_whole new (sort_of n)) xs ≡ list_all (λ n. is_whole old (sort_of n)) xs
  all_whole_same [] w = refl
  all_whole_same (x ∷ xs) w = let e = whole_same p old new a (sort_of x) (sort_within p x w.0) in let f = all_whole_same xs w.1 in cc

  make_same : (i j : ℕ) (xs : List Part) → ListWithin p xs → make_failing new i j xs ≡ make_failing old i j xs
  make_same i j [] w = refl
  make_same i j (x ∷ xs) w =
      let e = underlying_in_same p old new a (named_type (sort_of x)) (named_within p (sort_of x) (sort_within p x w.0)) in
      let f = all_whole_same xs w.1 in
      let g = sizes_same xs in
      cc

  each_same : (t : TypeTree) (xs : List Part) → Within p t → ListWithin p xs → each_unassignable new t xs ≡ each_unassignable old t xs
  each_same t [] w h = refl
  each_same t (x ∷ xs) w h = let e = unassignable_same p old new a t w x h.0 in let f = each_same t xs w h.1 in cc

  append_in_same : (i j : ℕ) (o : Option TypeTree) (xs : List Part) → MaybeWithin p o → ListWithin p xs → append_failing_in new i j o xs ≡ append_failing_in old i j o xs
  append_in_same i j None xs w h = refl
  append_in_same i j (Some t) xs w h = each_same t xs w h

  slice_of_same : (x : Stands) → StandsWithin p x → slice_element (form_of_value new x) ≡ slice_element (form_of_value old x)
  slice_of_same x w = ap slice_element (form_same p old new a x w)

  slice_of_within : (x : Stands) → StandsWithin p x → MaybeWithin p (slice_element (form_of_value old x))
  slice_of_within x w = slice_within p (form_of_value old x) (form_within p old new a x w)

  append_same : (i j : ℕ) (xs : List Part) → ListWithin p xs → append_failing new i j xs ≡ append_failing old i j xs
  append_same i j [] w = refl
  append_same i j (x ∷ xs) w =
      let s = sort_within p x w.0 in
      ap (λ o. append_failing_in new i j o xs) (slice_of_same (sort_of x) s) ∙ append_in_same i j (slice_element (form_of_value old (sort_of x))) xs (slice_of_within (sort_of x) s) w.1

  copies_same : (o : Option TypeTree) (y : Stands) → StandsWithin p y → copies new o y ≡ copies old o y
  copies_same None y w = refl
  copies_same (Some t) y w = let e = form_same p old new a y w in let f = text_same p old new a y w in cc

  copy_same : (i j : ℕ) (xs : List Part) → ListWithin p xs → copy_failing new i j xs ≡ copy_failing old i j xs
  copy_same i j (x ∷ y ∷ []) w =
      let e = slice_of_same (sort_of x) (sort_within p x w.0) in
      let f = copies_same (slice_element (form_of_value old (sort_of x))) (sort_of y) (sort_within p y w.1.0) in
      cc
  copy_same i j [] w = refl
  copy_same i j (x ∷ []) w = refl
  copy_same i j (x ∷ y ∷ z ∷ xs) w = refl

  panic_same : (i j : ℕ) (xs : List Part) → ListWithin p xs → panic_failing new i j xs ≡ panic_failing old i j xs
  panic_same i j (x ∷ []) w = printed_same i j x w.0
  panic_same i j [] w = refl
  panic_same i j (x ∷ y ∷ xs) w = refl

  builtin_failing_same : (i j : ℕ) (b : Predeclared) (xs : List Part) → ListWithin p xs → builtin_failing new i j b xs ≡ builtin_failing old i j b xs
  builtin_failing_same i j predeclared.Len xs w = length_same i j true xs w
  builtin_failing_same i j predeclared.Cap xs w = length_same i j false xs w
  builtin_failing_same i j predeclared.Make xs w = make_same i j xs w
  builtin_failing_same i j predeclared.Append xs w = append_same i j xs w
  builtin_failing_same i j predeclared.Copy xs w = copy_same i j xs w
  builtin_failing_same i j predeclared.Panic xs w = panic_same i j xs w
  builtin_failing_same i j predeclared.Min xs w = extreme_failing_same p old new a i j xs w
  builtin_failing_same i j predeclared.Max xs w = extreme_failing_same p old new a i j xs w
  builtin_failing_same i j b xs w = refl

  length_sort_same : (xs : List Part) → ListWithin p xs → length_sort new xs ≡ length_sort old xs
  length_sort_same [] w = refl
  length_sort_same (x ∷ xs) w = let e = form_same p old new a (sort_of x) (sort_within p x w.0) in cc

  length_sort_within : (xs : List Part) → StandsWithin p (length_sort old xs)
  length_sort_within [] = tt
  length_sort_within (x ∷ xs) = length_within p (constant_length old x)

  builtin_sort_same : (b : Predeclared) (xs : List Part) → ListWithin p xs → builtin_sort new b xs ≡ builtin_sort old b xs
  builtin_sort_same predeclared.Len xs w = length_sort_same xs w
  builtin_sort_same predeclared.Cap xs w = length_sort_same xs w
  builtin_sort_same predeclared.Min xs w = extreme_sort_same p old new a op.Min xs w
  builtin_sort_same predeclared.Max xs w = extreme_sort_same p old new a op.Max xs w
  builtin_sort_same b xs w = refl

  builtin_sort_within : (b : Predeclared) (xs : List Part) → ListWithin p xs → StandsWithin p (builtin_sort old b xs)
  builtin_sort_within predeclared.Len xs w = length_sort_within xs
  builtin_sort_within predeclared.Cap xs w = length_sort_within xs
  builtin_sort_within predeclared.Make xs w = made_within p xs w
  builtin_sort_within predeclared.Append xs w = appended_within p xs w
  builtin_sort_within predeclared.Panic xs w = (tt, tt)
  builtin_sort_within predeclared.Min xs w = extreme_sort_within p old new a op.Min xs w
  builtin_sort_within predeclared.Max xs w = extreme_sort_within p old new a op.Max xs w
  builtin_sort_within b xs w = tt

  builtin_takes_same : (b : Predeclared) (xs : List Part) → ListWithin p xs → builtin_takes new b xs ≡ builtin_takes old b xs
  builtin_takes_same b [] w = refl
  builtin_takes_same predeclared.Append (x ∷ xs) w = ap (λ o. appended_takes o xs) (slice_of_same (sort_of x) (sort_within p x w.0))
  builtin_takes_same predeclared.Min (x ∷ xs) w = ap (λ k. map (λ (y : Part). k) (x ∷ xs)) (extreme_take_same p old new a (x ∷ xs) w)
  builtin_takes_same predeclared.Max (x ∷ xs) w = ap (λ k. map (λ (y : Part). k) (x ∷ xs)) (extreme_take_same p old new a (x ∷ xs) w)
  builtin_takes_same b (x ∷ xs) w = refl

  builtin_takes_within : (b : Predeclared) (xs : List Part) → ListWithin p xs → TakesWithin p (builtin_takes old b xs)
  builtin_takes_within b [] w = tt
  builtin_takes_within predeclared.Make (x ∷ xs) w = (tt, each_take p (λ n. as_type (integer integer_kind.Int)) (λ n. tt) xs)
  builtin_takes_within predeclared.Append (x ∷ xs) w = appended_takes_within p (slice_element (form_of_value old (sort_of x))) xs (slice_of_within (sort_of x) (sort_within p x w.0))
  builtin_takes_within predeclared.Min (x ∷ xs) w = each_take p (λ y. extreme_take old (x ∷ xs)) (λ y. extreme_take_within p old new a (x ∷ xs) w) (x ∷ xs)
  builtin_takes_within predeclared.Max (x ∷ xs) w = each_take p (λ y. extreme_take old (x ∷ xs)) (λ y. extreme_take_within p old new a (x ∷ xs) w) (x ∷ xs)
  builtin_takes_within b (x ∷ xs) w = each_take p (λ y. default) (λ y. tt) (x ∷ xs)

  -- ---- calls

  one_conversion_same : (i j : ℕ) (t : TypeTree) (xs : List Part) → Within p t → ListWithin p xs → one_conversion new i j t xs ≡ one_conversion old i j t xs
  one_conversion_same i j t (x ∷ []) w h = conversion_failing_same i j t x w h.0
  one_conversion_same i j t [] w h = refl
  one_conversion_same i j t (x ∷ y ∷ xs) w h = refl

  function_same : (i j : ℕ) (f : Stands) (xs : List Part) → StandsWithin p f → ListWithin p xs → function_call_failing new i j (parameters_of (form_of_value new f)) xs ≡ function_call_failing old i j (parameters_of (form_of_value old f)) xs
  function_same i j f xs w h =
      ap (λ u. function_call_failing new i j (parameters_of u) xs) (form_same p old new a f w)
      ∙ function_failing_same i j (parameters_of (form_of_value old f)) xs (parameters_within p (form_of_value old f) (form_within p old new a f w)) h

  pub call_failing_same : (i j : ℕ) (f : Stands) (xs : List Part) → StandsWithin p f → ListWithin p xs → call_failing new i j f xs ≡ call_failing old i j f xs
  call_failing_same i j (sort.IsType t) xs w h = one_conversion_same i j t xs w h
  call_failing_same i j (sort.Builtin b) xs w h = builtin_failing_same i j b xs h
  call_failing_same i j sort.Println xs w h = all_printed_same i j xs h
  call_failing_same i j f xs w h = function_same i j f xs w h

  converted_sort_same : (t : TypeTree) (xs : List Part) → Within p t → converted_sort new t xs ≡ converted_sort old t xs
  converted_sort_same t [] w = refl
  converted_sort_same t (x ∷ xs) w = conversion_sort_same t (sort_of x) w

  converted_within : (t : TypeTree) (xs : List Part) → Within p t → StandsWithin p (converted_sort old t xs)
  converted_within t [] w = tt
  converted_within t (x ∷ xs) w = conversion_sort_within t (sort_of x) w

  pub call_sort_same : (f : Stands) (xs : List Part) → StandsWithin p f → ListWithin p xs → call_sort new f xs ≡ call_sort old f xs
  call_sort_same (sort.IsType t) xs w h = converted_sort_same t xs w
  call_sort_same (sort.Builtin b) xs w h = builtin_sort_same b xs h
  call_sort_same sort.Println xs w h = refl
  call_sort_same f xs w h = function_sort_same (own_type f) (own_within p f w)

  pub call_sort_within : (f : Stands) (xs : List Part) → StandsWithin p f → ListWithin p xs → StandsWithin p (call_sort old f xs)
  call_sort_within (sort.IsType t) xs w h = converted_within t xs w
  call_sort_within (sort.Builtin b) xs w h = builtin_sort_within b xs h
  call_sort_within sort.Println xs w h = (tt, tt)
  call_sort_within f xs w h = function_sort_within (own_type f) (own_within p f w)

  conversion_takes_same : (t : TypeTree) (xs : List Part) → Within p t → ListWithin p xs → map (λ x. conversion_take new t (sort_of x)) xs ≡ map (λ x. conversion_take old t (sort_of x)) xs
  conversion_takes_same t [] w h = refl
  conversion_takes_same t (x ∷ xs) w h = let e = conversion_take_same t (sort_of x) w (sort_within p x h.0) in let f = conversion_takes_same t xs w h.1 in cc

  function_takes_same : (f : Stands) (xs : List Part) → StandsWithin p f → function_takes (parameters_of (form_of_value new f)) xs ≡ function_takes (parameters_of (form_of_value old f)) xs
  function_takes_same f xs w = ap (λ u. function_takes (parameters_of u) xs) (form_same p old new a f w)

  function_takes_are : (f : Stands) (xs : List Part) → StandsWithin p f → TakesWithin p (function_takes (parameters_of (form_of_value old f)) xs)
  function_takes_are f xs w = function_takes_within p (parameters_of (form_of_value old f)) xs (parameters_within p (form_of_value old f) (form_within p old new a f w))

  pub call_takes_same : (f : Stands) (xs : List Part) → StandsWithin p f → ListWithin p xs → call_takes new f xs ≡ call_takes old f xs
  call_takes_same (sort.IsType t) xs w h = conversion_takes_same t xs w h
  call_takes_same (sort.Builtin b) xs w h = builtin_takes_same b xs h
  call_takes_same f xs w h = function_takes_same f xs w

  pub call_takes_within : (f : Stands) (xs : List Part) → StandsWithin p f → ListWithin p xs → TakesWithin p (call_takes old f xs)
  call_takes_within (sort.IsType t) xs w h = each_take p (λ x. conversion_take old t (sort_of x)) (λ x. conversion_take_within t (sort_of x) w) xs
  call_takes_within (sort.Builtin b) xs w h = builtin_takes_within b xs h
  call_takes_within f xs w h = function_takes_are f xs w

  -- ---- composite literals

  elements_same : (i j : ℕ) (t : TypeTree) (n : Option ℕ) (xs : List Part) → Within p t → ListWithin p xs → elements_failing new i j t n xs ≡ elements_failing old i j t n xs
  elements_same i j t n xs w h = let e = each_same t xs w h in cc

  given_field_same : (o : Option TypeTree) (q : Option Part) → MaybeWithin p o → MaybePart p q → given_to_field new o q ≡ given_to_field old o q
  given_field_same (Some t) (Some x) w h = unassignable_same p old new a t w x h
  given_field_same None q w h = refl
  given_field_same (Some t) None w h = refl

  keyed_same : (ts : TypeRow) (xs : List Part) → RowWithin p ts → ListWithin p xs → keyed_unassignable new ts xs ≡ keyed_unassignable old ts xs
  keyed_same ts [] w h = refl
  keyed_same ts (x ∷ xs) w h =
      let e = given_field_same (keyed_type ts (key_of x)) (first_part (parts_of x)) (keyed_within p ts (key_of x) w) (first_part_within p x h.0) in
      let f = keyed_same ts xs w h.1 in
      cc

  keyed_failing_same : (i j : ℕ) (ts : TypeRow) (xs : List Part) → RowWithin p ts → ListWithin p xs → keyed_failing new i j ts xs ≡ keyed_failing old i j ts xs
  keyed_failing_same i j ts xs w h = let e = keyed_same ts xs w h in cc

  ordered_same : (i j : ℕ) (ts : TypeRow) (xs : List Part) → RowWithin p ts → ListWithin p xs → ordered_failing new i j ts xs ≡ ordered_failing old i j ts xs
  ordered_same i j ts xs w h = let e = all_unassignable_same ts xs w h in cc

  fields_same : (i j : ℕ) (ts : TypeRow) (xs : List Part) → RowWithin p ts → ListWithin p xs → fields_failing new i j ts xs ≡ fields_failing old i j ts xs
  fields_same i j ts [] w h = refl
  fields_same i j ts (x ∷ xs) w h = let e = keyed_failing_same i j ts (x ∷ xs) w h in let f = ordered_same i j ts (x ∷ xs) w h in cc

  literal_in_same : (i j : ℕ) (o : Option TypeTree) (xs : List Part) → MaybeWithin p o → ListWithin p xs → literal_failing_in new i j o xs ≡ literal_failing_in old i j o xs
  literal_in_same i j (Some (array n t)) xs w h = elements_same i j t (Some n) xs w h
  literal_in_same i j (Some (slice t)) xs w h = elements_same i j t None xs w h
  literal_in_same i j (Some (structure ns ts)) xs w h = fields_same i j ts xs w h
  literal_in_same i j o xs w h = refl

  pub literal_failing_same : (i j : ℕ) (o : Option TypeTree) (xs : List Part) → MaybeWithin p o → ListWithin p xs → literal_failing new i j o xs ≡ literal_failing old i j o xs
  literal_failing_same i j o xs w h =
      ap (λ u. literal_failing_in new i j u xs) (underlying_in_same p old new a o w) ∙ literal_in_same i j (underlying_in old o) xs (underlying_in_within p old new a o w) h

  pub literal_takes_same : (o : Option TypeTree) (xs : List Part) → MaybeWithin p o → literal_takes new o xs ≡ literal_takes old o xs
  literal_takes_same o xs w = ap (λ u. literal_takes_in u xs) (underlying_in_same p old new a o w)

  pub literal_takes_within : (o : Option TypeTree) (xs : List Part) → MaybeWithin p o → TakesWithin p (literal_takes old o xs)
  literal_takes_within o xs w = literal_takes_in_within p (underlying_in old o) xs (underlying_in_within p old new a o w)
