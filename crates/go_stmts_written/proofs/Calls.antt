-- Calls, conversions, predeclared functions and composite literals.
use Rattle.std.proofs.Common.{ℕ, List, [], ◌∷◌, map, Option, Some, None}
use Rattle.go_ints.specs.declared.operators.Op.TheVariants as op
use Rattle.go_constants.specs.declared.values.Const.{Const}
use Rattle.go_tree.specs.declared.object.Predeclared.{Predeclared}
use Rattle.go_tree.specs.declared.object.Predeclared.TheVariants as predeclared
use Rattle.go_types.specs.Trees.{TypeTree, array, slice, structure, function, TypeRow, none, more}
use Rattle.go_types.specs.Relations.{Rights}
use Rattle.go_types_relations.specs.Tests.{underlying_of}
use Rattle.go_typed.specs.Trees.{sort_of}
use Rattle.go_typed.specs.Trees as sort
use Rattle.go_exprs_rules.specs.Calls.{keeps_value, becomes_text, constant_or_value, conversion_sort, conversion_take, parameters_of, results_of, called, function_call_sort, all_as, constant_length, length_value, length_sort, made_sort, appended_sort, builtin_sort, appended_takes, builtin_takes, converted_sort, call_sort, function_takes, call_takes, extreme_take}
use Rattle.go_exprs_rules.specs.Literals.{key_of, has_keys, keyed_type, as_optional, fields_take, literal_takes_in, literal_takes, literal_sort}
use Rattle.go_exprs_rules.specs.Settling.{Part, Take, stay, default, as_type}
use Rattle.go_exprs_rules.specs.Sorts.{Stands, own_type, constant_of, named_type, underlying_in, form_of_value, slice_element, int}
use Rattle.go_stmts_written.specs.Named.{IsNamed, RowIsNamed}
use Rattle.go_stmts_written.specs.Named.{StandsIsNamed, RightsAreNamed}
use Rattle.go_stmts_written.proofs.Said.{MaybeNamed, ListNamed, TakeNamed, TakesNamed}
use Rattle.go_stmts_written.proofs.Values.{branch, sort_named, own_named, named_named, slice_named, underlying_named, underlying_in_named, form_named}
use Rattle.go_stmts_written.proofs.Operators.{extreme_sort_named, extreme_take_named}
use Rattle.go_stmts_written.proofs.Indexes.{row_type_named, value_or_named}

module _ (texts : ℕ → List ℕ) where
  constant_or_named : (t : TypeTree) (o : Option Const) → IsNamed t → StandsIsNamed (constant_or_value t o)
  constant_or_named t None w = w
  constant_or_named t (Some c) w = w

  abbrev MaybeRow : Option TypeRow → Type 0
  MaybeRow None = Unit {0}
  MaybeRow (Some ts) = RowIsNamed ts

  parameters_named : (o : Option TypeTree) → MaybeNamed o → MaybeRow (parameters_of o)
  parameters_named (Some (function ps rs)) w = w.0
  parameters_named o w = tt

  pub results_named : (o : Option TypeTree) → MaybeNamed o → RowIsNamed (results_of o)
  results_named (Some (function ps rs)) w = w.1
  results_named o w = tt

  called_named : (t : TypeTree) (rs : TypeRow) → IsNamed t → RowIsNamed rs → StandsIsNamed (called t rs)
  called_named t none w h = w
  called_named t (more r none) w h = h.0
  called_named t (more r (more q rs)) w h = w

  length_named : (n : Option ℕ) → StandsIsNamed (length_value n)
  length_named None = tt
  length_named (Some n) = tt

  made_named : (xs : List Part) → ListNamed texts xs → StandsIsNamed (made_sort xs)
  made_named [] w = tt
  made_named (x ∷ xs) w = value_or_named texts (named_type (sort_of x)) (named_named texts (sort_of x) (sort_named texts x w.0))

  appended_named : (xs : List Part) → ListNamed texts xs → StandsIsNamed (appended_sort xs)
  appended_named [] w = tt
  appended_named (x ∷ xs) w = value_or_named texts (own_type (sort_of x)) (own_named texts (sort_of x) (sort_named texts x w.0))

  all_as_named : (ts : TypeRow) → RowIsNamed ts → TakesNamed (all_as ts)
  all_as_named none w = tt
  all_as_named (more t ts) w = (w.0, all_as_named ts w.1)

  each_take : (f : Part → Take) → ((x : Part) → TakeNamed (f x)) → (xs : List Part) → TakesNamed (map f xs)
  each_take f h [] = tt
  each_take f h (x ∷ xs) = (h x, each_take f h xs)

  appended_takes_named : (o : Option TypeTree) (xs : List Part) → MaybeNamed o → TakesNamed (appended_takes o xs)
  appended_takes_named (Some t) xs w = (tt, each_take (λ x. as_type t) (λ x. w) xs)
  appended_takes_named None xs w = (tt, each_take (λ x. default) (λ x. tt) xs)

  function_takes_named : (o : Option TypeRow) (xs : List Part) → MaybeRow o → TakesNamed (function_takes o xs)
  function_takes_named (Some ps) xs w = all_as_named ps w
  function_takes_named None xs w = each_take (λ x. default) (λ x. tt) xs

  optional_named : (o : Option TypeTree) → MaybeNamed o → TakeNamed (as_optional o)
  optional_named None w = tt
  optional_named (Some t) w = w

  keyed_named : (ts : TypeRow) (n : Option ℕ) → RowIsNamed ts → MaybeNamed (keyed_type ts n)
  keyed_named ts None w = tt
  keyed_named ts (Some n) w = row_type_named texts ts n w

  fields_take_named : (ts : TypeRow) (xs : List Part) → RowIsNamed ts → TakesNamed (fields_take ts xs)
  fields_take_named ts xs w =
      branch (TakesNamed) (has_keys xs) (map (λ x. as_optional (keyed_type ts (key_of x))) xs) (all_as ts)
      (each_take (λ x. as_optional (keyed_type ts (key_of x))) (λ x. optional_named (keyed_type ts (key_of x)) (keyed_named ts (key_of x) w)) xs) (all_as_named ts w)

  literal_takes_in_named : (o : Option TypeTree) (xs : List Part) → MaybeNamed o → TakesNamed (literal_takes_in o xs)
  literal_takes_in_named (Some (array n t)) xs w = each_take (λ x. as_type t) (λ x. w) xs
  literal_takes_in_named (Some (slice t)) xs w = each_take (λ x. as_type t) (λ x. w) xs
  literal_takes_in_named (Some (structure ns ts)) xs w = fields_take_named ts xs w.1
  literal_takes_in_named o xs w = each_take (λ x. stay) (λ x. tt) xs

  pub literal_sort_named : (o : Option TypeTree) → MaybeNamed o → StandsIsNamed (literal_sort o)
  literal_sort_named o w = value_or_named texts o w

module _ (texts : ℕ → List ℕ) (rights : Rights) (a : RightsAreNamed rights) where
  conversion_sort_named : (t : TypeTree) (x : Stands) → IsNamed t → StandsIsNamed (conversion_sort rights t x)
  conversion_sort_named t x w =
      branch (StandsIsNamed) (keeps_value rights t (constant_of x)) _ _ (constant_or_named texts t (constant_of x) w)
      (branch (StandsIsNamed) (becomes_text rights t (constant_of x)) _ (sort.Value t) w w)

  conversion_take_named : (t : TypeTree) (x : Stands) → IsNamed t → TakeNamed (conversion_take rights t x)
  conversion_take_named t x w = branch (TakeNamed) _ (as_type t) default w tt

  function_sort_named : (o : Option TypeTree) → MaybeNamed o → StandsIsNamed (function_call_sort rights o)
  function_sort_named None w = tt
  function_sort_named (Some t) w = called_named texts t (results_of (underlying_of rights t)) w (results_named texts (underlying_of rights t) (underlying_named texts rights a t w))

  slice_of_named : (x : Stands) → StandsIsNamed x → MaybeNamed (slice_element (form_of_value rights x))
  slice_of_named x w = slice_named texts (form_of_value rights x) (form_named texts rights a x w)

  length_sort_named : (xs : List Part) → StandsIsNamed (length_sort rights xs)
  length_sort_named [] = tt
  length_sort_named (x ∷ xs) = length_named texts (constant_length rights x)

  builtin_sort_named : (b : Predeclared) (xs : List Part) → ListNamed texts xs → StandsIsNamed (builtin_sort rights b xs)
  builtin_sort_named predeclared.Len xs w = length_sort_named xs
  builtin_sort_named predeclared.Cap xs w = length_sort_named xs
  builtin_sort_named predeclared.Make xs w = made_named texts xs w
  builtin_sort_named predeclared.Append xs w = appended_named texts xs w
  builtin_sort_named predeclared.Panic xs w = (tt, tt)
  builtin_sort_named predeclared.Min xs w = extreme_sort_named texts rights a op.Min xs w
  builtin_sort_named predeclared.Max xs w = extreme_sort_named texts rights a op.Max xs w
  builtin_sort_named b xs w = tt

  builtin_takes_named : (b : Predeclared) (xs : List Part) → ListNamed texts xs → TakesNamed (builtin_takes rights b xs)
  builtin_takes_named b [] w = tt
  builtin_takes_named predeclared.Make (x ∷ xs) w = (tt, each_take texts (λ n. as_type int) (λ n. tt) xs)
  builtin_takes_named predeclared.Append (x ∷ xs) w = appended_takes_named texts (slice_element (form_of_value rights (sort_of x))) xs (slice_of_named (sort_of x) (sort_named texts x w.0))
  builtin_takes_named predeclared.Min (x ∷ xs) w = each_take texts (λ y. extreme_take rights (x ∷ xs)) (λ y. extreme_take_named texts rights a (x ∷ xs) w) (x ∷ xs)
  builtin_takes_named predeclared.Max (x ∷ xs) w = each_take texts (λ y. extreme_take rights (x ∷ xs)) (λ y. extreme_take_named texts rights a (x ∷ xs) w) (x ∷ xs)
  builtin_takes_named b (x ∷ xs) w = each_take texts (λ y. default) (λ y. tt) (x ∷ xs)

  converted_named : (t : TypeTree) (xs : List Part) → IsNamed t → StandsIsNamed (converted_sort rights t xs)
  converted_named t [] w = tt
  converted_named t (x ∷ xs) w = conversion_sort_named t (sort_of x) w

  pub call_sort_named : (f : Stands) (xs : List Part) → StandsIsNamed f → ListNamed texts xs → StandsIsNamed (call_sort rights f xs)
  call_sort_named (sort.IsType t) xs w h = converted_named t xs w
  call_sort_named (sort.Builtin b) xs w h = builtin_sort_named b xs h
  call_sort_named sort.Println xs w h = (tt, tt)
  call_sort_named f xs w h = function_sort_named (own_type f) (own_named texts f w)

  function_takes_are : (f : Stands) (xs : List Part) → StandsIsNamed f → TakesNamed (function_takes (parameters_of (form_of_value rights f)) xs)
  function_takes_are f xs w = function_takes_named texts (parameters_of (form_of_value rights f)) xs (parameters_named texts (form_of_value rights f) (form_named texts rights a f w))

  pub call_takes_named : (f : Stands) (xs : List Part) → StandsIsNamed f → ListNamed texts xs → TakesNamed (call_takes rights f xs)
  call_takes_named (sort.IsType t) xs w h = each_take texts (λ x. conversion_take rights t (sort_of x)) (λ x. conversion_take_named t (sort_of x) w) xs
  call_takes_named (sort.Builtin b) xs w h = builtin_takes_named b xs h
  call_takes_named f xs w h = function_takes_are f xs w

  pub literal_takes_named : (o : Option TypeTree) (xs : List Part) → MaybeNamed o → TakesNamed (literal_takes rights o xs)
  literal_takes_named o xs w = literal_takes_in_named texts (underlying_in rights o) xs (underlying_in_named texts rights a o w)
