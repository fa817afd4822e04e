-- Calls, conversions and composite literals.
use Rattle.std.proofs.Common.{◌≡◌, ℕ, zero, suc, Bool, true, false, List, [], ◌∷◌, ◌++◌, length, Option, Some, None}
use Rattle.std.specs.Prelude.{◌&&◌, ◌==◌, is_some, nat_le}
use Rattle.std.specs.List.{list_all}
use Rattle.go_constants.specs.declared.values.Const.{Const}
use Rattle.go_tree.specs.declared.object.Predeclared.{Predeclared}
use Rattle.go_tree.specs.declared.object.Predeclared.TheVariants as predeclared
use Rattle.go_types.specs.Trees.{TypeTree, TypeRow, array, slice, structure}
use Rattle.go_types.specs.Trees as types
use Rattle.go_types.specs.Relations.{Rights}
use Rattle.go_types_relations.specs.Tests.{underlying_of}
use Rattle.go_typed.specs.Trees.{Typed, typed, Typeds, sort_of, parts_of}
use Rattle.go_typed.specs.Trees as sort
use Rattle.go_exprs_rules.specs.declared.family.OpenKind.{OpenKind}
use Rattle.go_exprs_rules.specs.Operators.{Common, in_type, in_kind, unordered}
use Rattle.go_exprs_rules.specs.Settling.{Part, unrepresented, unassignable}
use Rattle.go_exprs_rules.specs.Sorts.{Stands, is_constant, constant_of, open_kind, represents, suits, has_nil, value_type, family_of, form_of_value, is_whole, underlying_in, named_type, slice_element, default_type}
use Rattle.go_exprs_rules.specs.Indexes.{bound_failing, disordered}
use Rattle.go_exprs_rules.specs.Calls.{operands_unless, open_conversion, value_conversion, converts_value, kept_conversion, keeps_value, becomes_text, conversion_failing, all_unassignable, function_call_failing, parameters_of, row_length, printed, all_printed, length_failing, sizes_failing, count_unless, make_failing, each_unassignable, append_failing_in, append_failing, copy_failing, panic_failing, are_constants, meeting, each_unrepresented, extreme_refuse, extreme_failing_in, extreme_failing, builtin_failing, one_conversion, call_failing}
use Rattle.go_exprs_rules.specs.Literals.{key_of, has_keys, is_below, first_part, nth_part, at_optional, too_many, elements_failing, keyed_type, given_to_field, keyed_unassignable, keyed_failing, ordered_failing, fields_failing, literal_failing_in, literal_failing}
use Rattle.go_package_laws.specs.Places.{EachFault}
use Rattle.go_package_laws.proofs.Parts.{Placed, AllPlaced, PlacedThere, ListPlaced, both, either, else_those, at_it, unrepresented_at, undefaulted_at, unassignable_at, parts_placed}
use Rattle.go_package_laws.proofs.Rules.{bound_at, disordered_at, unordered_at}

module _ (q : ℕ → ℕ → Bool) (rights : Rights) (i j : ℕ) (here : q i j ≡ true) where
  -- ---- conversions

  operands_at : (b : Bool) → EachFault q (operands_unless b i j)
  operands_at true = tt
  operands_at false = (here, tt)

  open_at : (t : TypeTree) (x : Part) (k : Option OpenKind) → Placed q x → EachFault q (open_conversion rights i j t x k)
  open_at t x (Some k) h = either q (suits rights k t) _ _ (unrepresented_at q rights t x h) (here, tt)
  open_at t x None h = (here, tt)

  value_at : (t : TypeTree) (x : Part) (s : Stands) → Placed q x → EachFault q (value_conversion rights i j t x s)
  value_at t x sort.Nil h = operands_at (has_nil (underlying_of rights t))
  value_at t x (sort.Open u) h = open_at t x (open_kind (sort.Open u)) h
  value_at t x s h = operands_at (converts_value rights t (value_type s) (is_constant s))

  kept_at : (t : TypeTree) (x : Part) (c : Option Const) → Placed q x → EachFault q (kept_conversion rights t x c)
  kept_at t x (Some c) h = either q (represents rights t c) [] _ tt (at_it q _ x h)
  kept_at t x None h = tt

  conversion_at : (t : TypeTree) (x : Part) → Placed q x → EachFault q (conversion_failing rights i j t x)
  conversion_at t x h =
      either q (keeps_value rights t (constant_of (sort_of x))) _ _ (kept_at t x (constant_of (sort_of x)) h)
      (either q (becomes_text rights t (constant_of (sort_of x))) _ _ (undefaulted_at q rights x h) (value_at t x (sort_of x) h))

  one_conversion_at : (t : TypeTree) (xs : List Part) → ListPlaced q xs → EachFault q (one_conversion rights i j t xs)
  one_conversion_at t [] h = (here, tt)
  one_conversion_at t (x ∷ []) h = conversion_at t x h.0
  one_conversion_at t (x ∷ y ∷ xs) h = (here, tt)

  -- ---- functions

  all_at : (ts : TypeRow) (xs : List Part) → ListPlaced q xs → EachFault q (all_unassignable rights ts xs)
  all_at types.none xs h = tt
  all_at (types.more t ts) [] h = tt
  all_at (types.more t ts) (x ∷ xs) h = both q (unassignable rights t x) (all_unassignable rights ts xs) (unassignable_at q rights t x h.0) (all_at ts xs h.1)

  function_at : (ps : Option TypeRow) (xs : List Part) → ListPlaced q xs → EachFault q (function_call_failing rights i j ps xs)
  function_at None xs h = (here, tt)
  function_at (Some ps) xs h = either q (row_length ps == length xs) _ _ (all_at ps xs h) (here, tt)

  -- ---- predeclared functions

  printed_at : (x : Part) → Placed q x → EachFault q (printed rights i j x)
  printed_at x h = either q (is_some (family_of rights (sort_of x))) _ _ (undefaulted_at q rights x h) (here, tt)

  all_printed_at : (xs : List Part) → ListPlaced q xs → EachFault q (all_printed rights i j xs)
  all_printed_at [] h = tt
  all_printed_at (x ∷ xs) h = both q (printed rights i j x) (all_printed rights i j xs) (printed_at x h.0) (all_printed_at xs h.1)

  length_at : (texts : Bool) (xs : List Part) → EachFault q (length_failing rights i j texts xs)
  length_at texts [] = (here, tt)
  length_at texts (x ∷ []) = operands_at _
  length_at texts (x ∷ y ∷ xs) = (here, tt)

  two_at : (n m : Part) → Placed q n → Placed q m → EachFault q (bound_failing rights None n ++ bound_failing rights None m)
  two_at n m h g = both q (bound_failing rights None n) (bound_failing rights None m) (bound_at q rights i j here None n h) (bound_at q rights i j here None m g)

  sizes_at : (xs : List Part) → ListPlaced q xs → EachFault q (sizes_failing rights xs)
  sizes_at [] h = tt
  sizes_at (n ∷ []) h = bound_at q rights i j here None n h.0
  sizes_at (n ∷ m ∷ []) h =
      both q (bound_failing rights None n ++ bound_failing rights None m) (disordered (Some n) (Some m)) (two_at n m h.0 h.1.0) (disordered_at q rights i j here (Some n) (Some m) h.0)
  sizes_at (n ∷ m ∷ x ∷ xs) h = two_at n m h.0 h.1.0

  count_at : (b : Bool) → EachFault q (count_unless b i j)
  count_at true = tt
  count_at false = (here, tt)

  make_at : (xs : List Part) → ListPlaced q xs → EachFault q (make_failing rights i j xs)
  make_at [] h = (here, tt)
  make_at (x ∷ xs) h = both q (count_unless (nat_le 1 (length xs) && nat_le (length xs) 2) i j) _ (count_at (nat_le 1 (length xs) && nat_le (length xs) 2)) (either q (is_some (slice_element (underlying_in rights (named_type (sort_of x)))) && list_all (λ n. is_whole rights (sort_of n)) xs) _ _ (sizes_at xs h.1) (here, tt))

  pub each_at : (t : TypeTree) (xs : List Part) → ListPlaced q xs → EachFault q (each_unassignable rights t xs)
  each_at t [] h = tt
  each_at t (x ∷ xs) h = both q (unassignable rights t x) (each_unassignable rights t xs) (unassignable_at q rights t x h.0) (each_at t xs h.1)

  append_in : (t : Option TypeTree) (xs : List Part) → ListPlaced q xs → EachFault q (append_failing_in rights i j t xs)
  append_in (Some t) xs h = each_at t xs h
  append_in None xs h = (here, tt)

  append_at : (xs : List Part) → ListPlaced q xs → EachFault q (append_failing rights i j xs)
  append_at [] h = (here, tt)
  append_at (x ∷ xs) h = append_in (slice_element (form_of_value rights (sort_of x))) xs h.1

  copy_at : (xs : List Part) → EachFault q (copy_failing rights i j xs)
  copy_at [] = (here, tt)
  copy_at (x ∷ []) = (here, tt)
  copy_at (x ∷ y ∷ []) = operands_at _
  copy_at (x ∷ y ∷ z ∷ xs) = (here, tt)

  panic_at : (xs : List Part) → ListPlaced q xs → EachFault q (panic_failing rights i j xs)
  panic_at [] h = (here, tt)
  panic_at (x ∷ []) h = printed_at x h.0
  panic_at (x ∷ y ∷ xs) h = (here, tt)

  unrepresented_each : (t : TypeTree) (xs : List Part) → ListPlaced q xs → EachFault q (each_unrepresented rights t xs)
  unrepresented_each t [] h = tt
  unrepresented_each t (x ∷ xs) h = both q (unrepresented rights t x) (each_unrepresented rights t xs) (unrepresented_at q rights t x h.0) (unrepresented_each t xs h.1)

  refuse_at : (b : Bool) (c : Common) (xs : List Part) → ListPlaced q xs → EachFault q (extreme_refuse rights b c xs)
  refuse_at b (in_type t) xs h = unrepresented_each t xs h
  refuse_at b (in_kind k) xs h = either q b [] _ tt (unrepresented_each (default_type k) xs h)

  extreme_in_at : (xs : List Part) (c : Option Common) → ListPlaced q xs → EachFault q (extreme_failing_in rights i j xs c)
  extreme_in_at xs None h = (here, tt)
  extreme_in_at xs (Some c) h = else_those q (unordered rights i j c) (extreme_refuse rights (are_constants xs) c xs) (unordered_at q rights i j here c) (refuse_at (are_constants xs) c xs h)

  extreme_at : (xs : List Part) → ListPlaced q xs → EachFault q (extreme_failing rights i j xs)
  extreme_at [] h = (here, tt)
  extreme_at (x ∷ xs) h = extreme_in_at (x ∷ xs) (meeting rights (x ∷ xs)) h

  builtin_at : (p : Predeclared) (xs : List Part) → ListPlaced q xs → EachFault q (builtin_failing rights i j p xs)
  builtin_at predeclared.Len xs h = length_at true xs
  builtin_at predeclared.Cap xs h = length_at false xs
  builtin_at predeclared.Make xs h = make_at xs h
  builtin_at predeclared.Append xs h = append_at xs h
  builtin_at predeclared.Copy xs h = copy_at xs
  builtin_at predeclared.Panic xs h = panic_at xs h
  builtin_at predeclared.Min xs h = extreme_at xs h
  builtin_at predeclared.Max xs h = extreme_at xs h
  builtin_at p xs h = (here, tt)

  pub call_at : (f : Stands) (xs : List Part) → ListPlaced q xs → EachFault q (call_failing rights i j f xs)
  call_at (sort.IsType t) xs h = one_conversion_at t xs h
  call_at (sort.Builtin p) xs h = builtin_at p xs h
  call_at sort.Println xs h = all_printed_at xs h
  call_at f xs h = function_at (parameters_of (form_of_value rights f)) xs h

  -- ---- composite literals

  nth_placed : (xs : List Part) (n : ℕ) → ListPlaced q xs → PlacedThere q (nth_part xs n)
  nth_placed [] n h = tt
  nth_placed (x ∷ xs) zero h = h.0
  nth_placed (x ∷ xs) (suc n) h = nth_placed xs n h.1

  optional_at : (o : Option Part) → PlacedThere q o → EachFault q (at_optional o)
  optional_at (Some x) h = at_it q _ x h
  optional_at None h = tt

  too_many_at : (n : Option ℕ) (xs : List Part) → ListPlaced q xs → EachFault q (too_many n xs)
  too_many_at None xs h = tt
  too_many_at (Some n) xs h = optional_at (nth_part xs n) (nth_placed xs n h)

  elements_at : (t : TypeTree) (limit : Option ℕ) (xs : List Part) → ListPlaced q xs → EachFault q (elements_failing rights i j t limit xs)
  elements_at t limit xs h = either q (has_keys xs) _ _ (here, tt) (both q (each_unassignable rights t xs) (too_many limit xs) (each_at t xs h) (too_many_at limit xs h))

  first_placed : (ps : Typeds TypeTree) → AllPlaced q ps → PlacedThere q (first_part ps)
  first_placed sort.none h = tt
  first_placed (sort.more p ps) h = h.0
  first_placed (sort.skip ps) h = tt

  field_at : (t : Option TypeTree) (o : Option Part) → PlacedThere q o → EachFault q (given_to_field rights t o)
  field_at None o h = tt
  field_at (Some t) None h = tt
  field_at (Some t) (Some x) h = unassignable_at q rights t x h

  keyed_each : (ts : TypeRow) (xs : List Part) → ListPlaced q xs → EachFault q (keyed_unassignable rights ts xs)
  keyed_each ts [] h = tt
  keyed_each ts (x ∷ xs) h =
      both q (given_to_field rights (keyed_type ts (key_of x)) (first_part (parts_of x))) (keyed_unassignable rights ts xs)
      (field_at (keyed_type ts (key_of x)) (first_part (parts_of x)) (first_placed (parts_of x) (parts_placed q x h.0))) (keyed_each ts xs h.1)

  keyed_at : (ts : TypeRow) (xs : List Part) → ListPlaced q xs → EachFault q (keyed_failing rights i j ts xs)
  keyed_at ts xs h = either q (list_all (λ x. is_below (row_length ts) (key_of x)) xs) _ _ (keyed_each ts xs h) (here, tt)

  ordered_at : (ts : TypeRow) (xs : List Part) → ListPlaced q xs → EachFault q (ordered_failing rights i j ts xs)
  ordered_at ts xs h = either q (row_length ts == length xs) _ _ (all_at ts xs h) (here, tt)

  fields_at : (ts : TypeRow) (xs : List Part) → ListPlaced q xs → EachFault q (fields_failing rights i j ts xs)
  fields_at ts [] h = tt
  fields_at ts (x ∷ xs) h = either q (has_keys (x ∷ xs)) _ _ (keyed_at ts (x ∷ xs) h) (ordered_at ts (x ∷ xs) h)

  literal_in : (u : Option TypeTree) (xs : List Part) → ListPlaced q xs → EachFault q (literal_failing_in rights i j u xs)
  literal_in (Some (array n t)) xs h = elements_at t (Some n) xs h
  literal_in (Some (slice t)) xs h = elements_at t None xs h
  literal_in (Some (structure ns ts)) xs h = fields_at ts xs h
  literal_in u xs h = (here, tt)

  pub literal_at : (t : Option TypeTree) (xs : List Part) → ListPlaced q xs → EachFault q (literal_failing rights i j t xs)
  literal_at t xs h = literal_in (underlying_in rights t) xs h
