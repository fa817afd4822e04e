-- Calls, conversions, predeclared functions and composite literals.
use Rattle.std.proofs.Common.{ℕ, List, [], ◌∷◌, map, Option, Some, None}
use Rattle.go_ints.specs.declared.operators.Op.TheVariants as op
use Rattle.go_constants.specs.declared.values.Const.{Const}
use Rattle.go_tree.specs.declared.object.Predeclared.{Predeclared}
use Rattle.go_tree.specs.declared.object.Predeclared.TheVariants as predeclared
use Rattle.go_types.specs.Trees.{TypeTree, array, slice, structure, function, TypeRow, none, more}
use Rattle.go_types.specs.Relations.{Rights}
use Rattle.go_types_relations.specs.Tests.{underlying_of}
use Rattle.go_typed.specs.Trees.{sort_of}
use Rattle.go_typed.specs.Trees as sort
use Rattle.go_exprs_rules.specs.Calls.{keeps_value, becomes_text, constant_or_value, conversion_sort, conversion_take, parameters_of, results_of, called, function_call_sort, all_as, constant_length, length_value, length_sort, made_sort, appended_sort, builtin_sort, appended_takes, builtin_takes, converted_sort, call_sort, function_takes, call_takes, extreme_take}
use Rattle.go_exprs_rules.specs.Literals.{key_of, has_keys, keyed_type, as_optional, fields_take, literal_takes_in, literal_takes, literal_sort}
use Rattle.go_exprs_rules.specs.Scopes.{Scope}
use Rattle.go_exprs_rules.specs.Settling.{Part, Take, stay, default, as_type}
use Rattle.go_exprs_rules.specs.Sorts.{Stands, own_type, constant_of, named_type, underlying_in, form_of_value, slice_element, int}
use Rattle.go_print_laws.specs.Reading.{IsWithin, RowIsWithin}
use Rattle.go_stmts_limits.specs.Limits.{StandsIsWithin, RightsAreWithin}
use Rattle.go_stmts_limits.proofs.Within.{MaybeWithin, ListWithin}
use Rattle.go_stmts_limits.proofs.Values.{branch, sort_within, own_within, named_within, slice_within, TakeWithin, underlying_within, underlying_in_within, form_within}
use Rattle.go_stmts_limits.proofs.Operators.{TakesWithin, extreme_sort_within, extreme_take_within}
use Rattle.go_stmts_limits.proofs.Indexes.{row_type_within, value_or_within}

module _ (limit : Scope) where
  constant_or_within : (t : TypeTree) (o : Option Const) → IsWithin limit t → StandsIsWithin limit (constant_or_value t o)
  constant_or_within t None w = w
  constant_or_within t (Some c) w = w

  abbrev MaybeRow : Option TypeRow → Type 0
  MaybeRow None = Unit {0}
  MaybeRow (Some ts) = RowIsWithin limit ts

  parameters_within : (o : Option TypeTree) → MaybeWithin limit o → MaybeRow (parameters_of o)
  parameters_within (Some (function ps rs)) w = w.0
  parameters_within o w = tt

  pub results_within : (o : Option TypeTree) → MaybeWithin limit o → RowIsWithin limit (results_of o)
  results_within (Some (function ps rs)) w = w.1
  results_within o w = tt

  called_within : (t : TypeTree) (rs : TypeRow) → IsWithin limit t → RowIsWithin limit rs → StandsIsWithin limit (called t rs)
  called_within t none w h = w
  called_within t (more r none) w h = h.0
  called_within t (more r (more q rs)) w h = w

  length_within : (n : Option ℕ) → StandsIsWithin limit (length_value n)
  length_within None = tt
  length_within (Some n) = tt

  made_within : (xs : List Part) → ListWithin limit xs → StandsIsWithin limit (made_sort xs)
  made_within [] w = tt
  made_within (x ∷ xs) w = value_or_within limit (named_type (sort_of x)) (named_within limit (sort_of x) (sort_within limit x w.0))

  appended_within : (xs : List Part) → ListWithin limit xs → StandsIsWithin limit (appended_sort xs)
  appended_within [] w = tt
  appended_within (x ∷ xs) w = value_or_within limit (own_type (sort_of x)) (own_within limit (sort_of x) (sort_within limit x w.0))

  all_as_within : (ts : TypeRow) → RowIsWithin limit ts → TakesWithin limit (all_as ts)
  all_as_within none w = tt
  all_as_within (more t ts) w = (w.0, all_as_within ts w.1)

  each_take : (f : Part → Take) → ((x : Part) → TakeWithin limit (f x)) → (xs : List Part) → TakesWithin limit (map f xs)
  each_take f h [] = tt
  each_take f h (x ∷ xs) = (h x, each_take f h xs)

  appended_takes_within : (o : Option TypeTree) (xs : List Part) → MaybeWithin limit o → TakesWithin limit (appended_takes o xs)
  appended_takes_within (Some t) xs w = (tt, each_take (λ x. as_type t) (λ x. w) xs)
  appended_takes_within None xs w = (tt, each_take (λ x. default) (λ x. tt) xs)

  function_takes_within : (o : Option TypeRow) (xs : List Part) → MaybeRow o → TakesWithin limit (function_takes o xs)
  function_takes_within (Some ps) xs w = all_as_within ps w
  function_takes_within None xs w = each_take (λ x. default) (λ x. tt) xs

  optional_within : (o : Option TypeTree) → MaybeWithin limit o → TakeWithin limit (as_optional o)
  optional_within None w = tt
  optional_within (Some t) w = w

  keyed_within : (ts : TypeRow) (n : Option ℕ) → RowIsWithin limit ts → MaybeWithin limit (keyed_type ts n)
  keyed_within ts None w = tt
  keyed_within ts (Some n) w = row_type_within limit ts n w

  fields_take_within : (ts : TypeRow) (xs : List Part) → RowIsWithin limit ts → TakesWithin limit (fields_take ts xs)
  fields_take_within ts xs w =
      branch (TakesWithin limit) (has_keys xs) (map (λ x. as_optional (keyed_type ts (key_of x))) xs) (all_as ts)
      (each_take (λ x. as_optional (keyed_type ts (key_of x))) (λ x. optional_within (keyed_type ts (key_of x)) (keyed_within ts (key_of x) w)) xs) (all_as_within ts w)

  literal_takes_in_within : (o : Option TypeTree) (xs : List Part) → MaybeWithin limit o → TakesWithin limit (literal_takes_in o xs)
  literal_takes_in_within (Some (array n t)) xs w = each_take (λ x. as_type t) (λ x. w.2) xs
  literal_takes_in_within (Some (slice t)) xs w = each_take (λ x. as_type t) (λ x. w) xs
  literal_takes_in_within (Some (structure ns ts)) xs w = fields_take_within ts xs w
  literal_takes_in_within o xs w = each_take (λ x. stay) (λ x. tt) xs

  pub literal_sort_within : (o : Option TypeTree) → MaybeWithin limit o → StandsIsWithin limit (literal_sort o)
  literal_sort_within o w = value_or_within limit o w

module _ (limit : Scope) (rights : Rights) (a : RightsAreWithin limit rights) where
  conversion_sort_within : (t : TypeTree) (x : Stands) → IsWithin limit t → StandsIsWithin limit (conversion_sort rights t x)
  conversion_sort_within t x w =
      branch (StandsIsWithin limit) (keeps_value rights t (constant_of x)) _ _ (constant_or_within limit t (constant_of x) w)
      (branch (StandsIsWithin limit) (becomes_text rights t (constant_of x)) _ (sort.Value t) w w)

  conversion_take_within : (t : TypeTree) (x : Stands) → IsWithin limit t → TakeWithin limit (conversion_take rights t x)
  conversion_take_within t x w = branch (TakeWithin limit) _ (as_type t) default w tt

  function_sort_within : (o : Option TypeTree) → MaybeWithin limit o → StandsIsWithin limit (function_call_sort rights o)
  function_sort_within None w = tt
  function_sort_within (Some t) w = called_within limit t (results_of (underlying_of rights t)) w (results_within limit (underlying_of rights t) (underlying_within limit rights a t w))

  slice_of_within : (x : Stands) → StandsIsWithin limit x → MaybeWithin limit (slice_element (form_of_value rights x))
  slice_of_within x w = slice_within limit (form_of_value rights x) (form_within limit rights a x w)

  length_sort_within : (xs : List Part) → StandsIsWithin limit (length_sort rights xs)
  length_sort_within [] = tt
  length_sort_within (x ∷ xs) = length_within limit (constant_length rights x)

  builtin_sort_within : (b : Predeclared) (xs : List Part) → ListWithin limit xs → StandsIsWithin limit (builtin_sort rights b xs)
  builtin_sort_within predeclared.Len xs w = length_sort_within xs
  builtin_sort_within predeclared.Cap xs w = length_sort_within xs
  builtin_sort_within predeclared.Make xs w = made_within limit xs w
  builtin_sort_within predeclared.Append xs w = appended_within limit xs w
  builtin_sort_within predeclared.Panic xs w = (tt, tt)
  builtin_sort_within predeclared.Min xs w = extreme_sort_within limit rights a op.Min xs w
  builtin_sort_within predeclared.Max xs w = extreme_sort_within limit rights a op.Max xs w
  builtin_sort_within b xs w = tt

  builtin_takes_within : (b : Predeclared) (xs : List Part) → ListWithin limit xs → TakesWithin limit (builtin_takes rights b xs)
  builtin_takes_within b [] w = tt
  builtin_takes_within predeclared.Make (x ∷ xs) w = (tt, each_take limit (λ n. as_type int) (λ n. tt) xs)
  builtin_takes_within predeclared.Append (x ∷ xs) w = appended_takes_within limit (slice_element (form_of_value rights (sort_of x))) xs (slice_of_within (sort_of x) (sort_within limit x w.0))
  builtin_takes_within predeclared.Min (x ∷ xs) w = each_take limit (λ y. extreme_take rights (x ∷ xs)) (λ y. extreme_take_within limit rights a (x ∷ xs) w) (x ∷ xs)
  builtin_takes_within predeclared.Max (x ∷ xs) w = each_take limit (λ y. extreme_take rights (x ∷ xs)) (λ y. extreme_take_within limit rights a (x ∷ xs) w) (x ∷ xs)
  builtin_takes_within b (x ∷ xs) w = each_take limit (λ y. default) (λ y. tt) (x ∷ xs)

  converted_within : (t : TypeTree) (xs : List Part) → IsWithin limit t → StandsIsWithin limit (converted_sort rights t xs)
  converted_within t [] w = tt
  converted_within t (x ∷ xs) w = conversion_sort_within t (sort_of x) w

  pub call_sort_within : (f : Stands) (xs : List Part) → StandsIsWithin limit f → ListWithin limit xs → StandsIsWithin limit (call_sort rights f xs)
  call_sort_within (sort.IsType t) xs w h = converted_within t xs w
  call_sort_within (sort.Builtin b) xs w h = builtin_sort_within b xs h
  call_sort_within sort.Println xs w h = (tt, tt)
  call_sort_within f xs w h = function_sort_within (own_type f) (own_within limit f w)

  function_takes_are : (f : Stands) (xs : List Part) → StandsIsWithin limit f → TakesWithin limit (function_takes (parameters_of (form_of_value rights f)) xs)
  function_takes_are f xs w = function_takes_within limit (parameters_of (form_of_value rights f)) xs (parameters_within limit (form_of_value rights f) (form_within limit rights a f w))

  pub call_takes_within : (f : Stands) (xs : List Part) → StandsIsWithin limit f → ListWithin limit xs → TakesWithin limit (call_takes rights f xs)
  call_takes_within (sort.IsType t) xs w h = each_take limit (λ x. conversion_take rights t (sort_of x)) (λ x. conversion_take_within t (sort_of x) w) xs
  call_takes_within (sort.Builtin b) xs w h = builtin_takes_within b xs h
  call_takes_within f xs w h = function_takes_are f xs w

  pub literal_takes_within : (o : Option TypeTree) (xs : List Part) → MaybeWithin limit o → TakesWithin limit (literal_takes rights o xs)
  literal_takes_within o xs w = literal_takes_in_within limit (underlying_in rights o) xs (underlying_in_within limit rights a o w)
