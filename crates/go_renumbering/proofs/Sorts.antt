-- What is asked of types and of what nodes stand for, with other numbers of declared types.
use Rattle.std.proofs.Common.{◌≡◌, ◌∙◌, ℕ, Option, Some, None, refl, sym, ap}
use Rattle.std.specs.Option.{option_map}
use Rattle.go_constants.specs.declared.values.Const.{Const}
use Rattle.go_types.specs.Trees.{TypeTree, boolean, array, slice, function, TypeRow, none, more}
use Rattle.go_types.specs.Relations.{Rights}
use Rattle.go_types_relations.specs.Identity.{is_identical}
use Rattle.go_types_relations.specs.Renaming.{renamed, renamed_row, IsOneToOne, AreRenamed}
use Rattle.go_types_relations.specs.Tests.{underlying_of, is_comparable, both_identical, is_assignable}
use Rattle.go_types_relations.proofs.Public.{identical_renamed, underlying_renamed, comparability_renamed, assignable_renamed}
use Rattle.go_typed.specs.Trees as sort
use Rattle.go_exprs_rules.specs.declared.family.OpenKind.{OpenKind}
use Rattle.go_exprs_rules.specs.declared.family.OpenKind.TheVariants as untyped_kind
use Rattle.go_exprs_rules.specs.Calls.{parameters_of, results_of, row_length}
use Rattle.go_exprs_rules.specs.Names.{is_row_empty}
use Rattle.go_exprs_rules.specs.Sorts.{Stands, open_kind, own_type, constant_of, is_unknown, is_nil, takes_type, named_type, underlying_in, form_of_value, family_of_type, family_of, is_whole, is_text, suits, has_nil, element_of, slice_element, array_length, byte, is_byte, is_bytes, default_type, value_type, kind_of_untyped, kind_of_const, basic_of, represents, retyped}
use Rattle.go_exprs_rules.specs.Tables.{is_make, is_type, is_package}
use Rattle.go_renumbering.specs.Renumbered.{stands_renamed}

module _ (name : ℕ → ℕ) where
  abbrev pub maybe : Option TypeTree → Option TypeTree
  maybe o = option_map (renamed name) o

  abbrev pub maybe_row : Option TypeRow → Option TypeRow
  maybe_row o = option_map (renamed_row name) o

  abbrev pub new_sort : Stands → Stands
  new_sort x = stands_renamed name x

  -- ---- what nodes stand for

  pub open_same : (x : Stands) → open_kind (new_sort x) ≡ open_kind x
  open_same (sort.Open u) = refl
  open_same (sort.OpenConstant c) = refl
  open_same x = refl

  pub constant_same : (x : Stands) → constant_of (new_sort x) ≡ constant_of x
  constant_same (sort.Constant t c) = refl
  constant_same x = refl

  pub own_same : (x : Stands) → own_type (new_sort x) ≡ maybe (own_type x)
  own_same (sort.Value t) = refl
  own_same x = refl

  pub named_same : (x : Stands) → named_type (new_sort x) ≡ maybe (named_type x)
  named_same (sort.IsType t) = refl
  named_same x = refl

  pub unknown_same : (x : Stands) → is_unknown (new_sort x) ≡ is_unknown x
  unknown_same sort.Unknown = refl
  unknown_same x = refl

  pub nil_same : (x : Stands) → is_nil (new_sort x) ≡ is_nil x
  nil_same sort.Nil = refl
  nil_same x = refl

  pub takes_same : (x : Stands) → takes_type (new_sort x) ≡ takes_type x
  takes_same x = let e = open_same x in let f = nil_same x in cc

  pub type_same : (x : Stands) → is_type (new_sort x) ≡ is_type x
  type_same (sort.IsType t) = refl
  type_same x = refl

  pub package_same : (x : Stands) → is_package (new_sort x) ≡ is_package x
  package_same sort.Package = refl
  package_same x = refl

  pub make_same : (x : Stands) → is_make (new_sort x) ≡ is_make x
  make_same (sort.Builtin p) = refl
  make_same x = refl

  pub default_same : (k : OpenKind) → renamed name (default_type k) ≡ default_type k
  default_same untyped_kind.Boolean = refl
  default_same k = refl

  pub value_same : (x : Stands) → value_type (new_sort x) ≡ maybe (value_type x)
  value_same (sort.Open u) = ap Some (sym (default_same (kind_of_untyped u)))
  value_same (sort.OpenConstant c) = ap Some (sym (default_same (kind_of_const c)))
  value_same x = refl

  pub retyped_same : (t : TypeTree) (x : Stands) → retyped (renamed name t) (new_sort x) ≡ new_sort (retyped t x)
  retyped_same t sort.Nil = refl
  retyped_same t x = refl

  -- ---- underlying types

  pub family_type_same : (o : Option TypeTree) → family_of_type (maybe o) ≡ family_of_type o
  family_type_same None = refl
  family_type_same (Some boolean) = refl
  family_type_same (Some t) = refl

  pub has_nil_same : (o : Option TypeTree) → has_nil (maybe o) ≡ has_nil o
  has_nil_same None = refl
  has_nil_same (Some (slice t)) = refl
  has_nil_same (Some t) = refl

  pub element_same : (o : Option TypeTree) → element_of (maybe o) ≡ maybe (element_of o)
  element_same None = refl
  element_same (Some (slice t)) = refl
  element_same (Some t) = refl

  pub slice_element_same : (o : Option TypeTree) → slice_element (maybe o) ≡ maybe (slice_element o)
  slice_element_same None = refl
  slice_element_same (Some (slice t)) = refl
  slice_element_same (Some t) = refl

  pub array_length_same : (o : Option TypeTree) → array_length (maybe o) ≡ array_length o
  array_length_same None = refl
  array_length_same (Some (array n t)) = refl
  array_length_same (Some t) = refl

  pub basic_same : (o : Option TypeTree) → basic_of (maybe o) ≡ basic_of o
  basic_same None = refl
  basic_same (Some boolean) = refl
  basic_same (Some t) = refl

  pub parameters_same : (o : Option TypeTree) → parameters_of (maybe o) ≡ maybe_row (parameters_of o)
  parameters_same None = refl
  parameters_same (Some (function ps rs)) = refl
  parameters_same (Some t) = refl

  pub results_same : (o : Option TypeTree) → results_of (maybe o) ≡ renamed_row name (results_of o)
  results_same None = refl
  results_same (Some (function ps rs)) = refl
  results_same (Some t) = refl

  pub empty_same : (ts : TypeRow) → is_row_empty (renamed_row name ts) ≡ is_row_empty ts
  empty_same none = refl
  empty_same (more t ts) = refl

  pub row_length_same : (ts : TypeRow) → row_length (renamed_row name ts) ≡ row_length ts
  row_length_same none = refl
  row_length_same (more t ts) = let e = row_length_same ts in cc

-- ---- under right sides

module _ (name : ℕ → ℕ) (one : IsOneToOne name) (old new : Rights) (same : AreRenamed name old new) where
  pub und : (t : TypeTree) → underlying_of new (renamed name t) ≡ maybe name (underlying_of old t)
  und t = underlying_renamed name old new same t

  pub identical_same : (t u : TypeTree) → is_identical (renamed name t) (renamed name u) ≡ is_identical t u
  identical_same t u = identical_renamed name one t u

  pub both_identical_same : (o q : Option TypeTree) → both_identical (maybe name o) (maybe name q) ≡ both_identical o q
  both_identical_same None q = refl
  both_identical_same (Some t) None = refl
  both_identical_same (Some t) (Some u) = identical_same t u

  pub assignable_same : (t u : TypeTree) → is_assignable new (renamed name t) (renamed name u) ≡ is_assignable old t u
  assignable_same t u = assignable_renamed name one old new same t u

  pub comparable_same : (t : TypeTree) → is_comparable new (renamed name t) ≡ is_comparable old t
  comparable_same t = let e = comparability_renamed name old new same t in cc

  pub underlying_in_same : (o : Option TypeTree) → underlying_in new (maybe name o) ≡ maybe name (underlying_in old o)
  underlying_in_same None = refl
  underlying_in_same (Some t) = und t

  pub form_same : (x : Stands) → form_of_value new (new_sort name x) ≡ maybe name (form_of_value old x)
  form_same x = ap (underlying_in new) (own_same name x) ∙ underlying_in_same (own_type x)

  pub family_same : (x : Stands) → family_of new (new_sort name x) ≡ family_of old x
  family_same x = let e = open_same name x in let f = form_same x in let g = family_type_same name (form_of_value old x) in cc

  pub whole_same : (x : Stands) → is_whole new (new_sort name x) ≡ is_whole old x
  whole_same x = let e = family_same x in cc

  pub text_same : (x : Stands) → is_text new (new_sort name x) ≡ is_text old x
  text_same x = let e = family_same x in cc

  pub type_family_same : (t : TypeTree) → family_of_type (underlying_of new (renamed name t)) ≡ family_of_type (underlying_of old t)
  type_family_same t = ap family_of_type (und t) ∙ family_type_same name (underlying_of old t)

  pub type_nil_same : (t : TypeTree) → has_nil (underlying_of new (renamed name t)) ≡ has_nil (underlying_of old t)
  type_nil_same t = ap has_nil (und t) ∙ has_nil_same name (underlying_of old t)

  pub suits_same : (k : OpenKind) (t : TypeTree) → suits new k (renamed name t) ≡ suits old k t
  suits_same k t = let e = type_family_same t in cc

  pub byte_same : (o : Option TypeTree) → is_byte (maybe name o) ≡ is_byte o
  byte_same None = refl
  byte_same (Some t) = identical_same t byte

  pub bytes_same : (t : TypeTree) → is_bytes new (renamed name t) ≡ is_bytes old t
  bytes_same t =
      let u = slice_element (underlying_of old t) in
      ap (λ o. is_byte (underlying_in new (slice_element o))) (und t) ∙ ap (λ o. is_byte (underlying_in new o)) (slice_element_same name (underlying_of old t))
      ∙ ap is_byte (underlying_in_same u) ∙ byte_same (underlying_in old u)

  pub represents_same : (t : TypeTree) (c : Const) → represents new (renamed name t) c ≡ represents old t c
  represents_same t c = let e = und t in let f = basic_same name (underlying_of old t) in cc
