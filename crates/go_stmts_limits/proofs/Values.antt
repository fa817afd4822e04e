-- What is asked of values and of types.
use Rattle.std.proofs.Common.{◌≡◌, ℕ, Bool, true, false, List, [], ◌∷◌, ◌++◌, Option, Some, None, refl, cond, subst}
use Rattle.std.proofs.lemmas.Option.{same_Some}
use Rattle.go_tree.specs.declared.object.Predeclared.{Predeclared}
use Rattle.go_tree.specs.declared.object.Predeclared.TheVariants as predeclared
use Rattle.go_types.specs.Trees.{TypeTree, array, slice, declared, row}
use Rattle.go_types.specs.Relations.{Rights, HasRight}
use Rattle.go_types_relations.specs.Tests.{underlying_by, underlying_of}
use Rattle.go_types_relations.proofs.Public.{asked_holds}
use Rattle.go_typed.specs.Trees.{typed, Typeds, list_of, sort_of, form_of, parts_of, first_of, EveryPart}
use Rattle.go_typed.specs.Trees as sort
use Rattle.go_exprs_rules.specs.declared.family.OpenKind.{OpenKind}
use Rattle.go_exprs_rules.specs.declared.family.OpenKind.TheVariants as untyped_kind
use Rattle.go_exprs_rules.specs.Names.{predeclared_sort}
use Rattle.go_exprs_rules.specs.Scopes.{Scope}
use Rattle.go_exprs_rules.specs.Settling.{Part, settled, all_settled, Take, stay, default, as_type, defaulted, given}
use Rattle.go_exprs_rules.specs.Sorts.{Stands, open_kind, own_type, takes_type, named_type, underlying_in, form_of_value, element_of, slice_element, default_type, value_type, retyped, kind_of_untyped, kind_of_const}
use Rattle.go_exprs_rules.specs.Tables.{Parts}
use Rattle.go_exprs_rules.specs.TypeNodes.{part_type, type_sort, is_parameter, second, entry_type, entry_of, first_entry, entry_types, with_front, all_types, is_result_list, result_types, parts_in, function_of, signature_type, is_field_name, Fields, fields_of, fields_from, types_of, structure_of}
use Rattle.go_print_laws.specs.Reading.{IsWithin, RowIsWithin}
use Rattle.go_stmts_limits.specs.Limits.{StandsIsWithin, PartIsWithin, RightsAreWithin}
use Rattle.go_stmts_limits.proofs.Within.{MaybeWithin, MaybePart, PartsWithin}

pub branch : {A : Type 0} (P : A → Type 0) (b : Bool) (x y : A) → P x → P y → P (cond b x y)
branch P true x y p q = p
branch P false x y p q = q

module _ (limit : Scope) where
  pub own_within : (x : Stands) → StandsIsWithin limit x → MaybeWithin limit (own_type x)
  own_within (sort.Value t) w = w
  own_within (sort.Constant t c) w = w
  own_within x w = tt

  pub named_within : (x : Stands) → StandsIsWithin limit x → MaybeWithin limit (named_type x)
  named_within (sort.IsType t) w = w
  named_within x w = tt

  pub element_within : (o : Option TypeTree) → MaybeWithin limit o → MaybeWithin limit (element_of o)
  element_within (Some (array n t)) w = w.2
  element_within (Some (slice t)) w = w
  element_within o w = tt

  pub slice_within : (o : Option TypeTree) → MaybeWithin limit o → MaybeWithin limit (slice_element o)
  slice_within (Some (slice t)) w = w
  slice_within o w = tt

  pub default_within : (k : OpenKind) → IsWithin limit (default_type k)
  default_within untyped_kind.Boolean = tt
  default_within k = tt

  pub value_within : (x : Stands) → StandsIsWithin limit x → MaybeWithin limit (value_type x)
  value_within (sort.Value t) w = w
  value_within (sort.Constant t c) w = w
  value_within (sort.Open u) w = default_within (kind_of_untyped u)
  value_within (sort.OpenConstant c) w = default_within (kind_of_const c)
  value_within x w = tt

  pub predeclared_within : (n : ℕ) (b : Predeclared) → StandsIsWithin limit (predeclared_sort n b)
  predeclared_within n predeclared.Bool = tt
  predeclared_within n b = tt

  -- ---- parts

  pub sort_within : (x : Part) → PartIsWithin limit x → StandsIsWithin limit (sort_of x)
  sort_within (typed f i j l ps) w = w.0

  pub inner_within : (x : Part) → PartIsWithin limit x → EveryPart (IsWithin limit) (parts_of x)
  inner_within (typed f i j l ps) w = w.1

  pub list_within : (ps : Typeds TypeTree) → EveryPart (IsWithin limit) ps → PartsWithin limit (list_of ps)
  list_within sort.none w = tt
  list_within (sort.more x ps) w = (w.0, list_within ps w.1)
  list_within (sort.skip ps) w = (tt, list_within ps w)

  pub row_within : (xs : Parts) → PartsWithin limit xs → EveryPart (IsWithin limit) (sort.row xs)
  row_within [] w = tt
  row_within (None ∷ xs) w = row_within xs w.1
  row_within (Some x ∷ xs) w = (w.0, row_within xs w.1)

  pub part_type_within : (o : Option Part) → MaybePart limit o → MaybeWithin limit (part_type o)
  part_type_within None w = tt
  part_type_within (Some x) w = named_within (sort_of x) (sort_within x w)

  -- ---- what takes a type

  abbrev pub TakeWithin : Take → Type 0
  TakeWithin (as_type t) = IsWithin limit t
  TakeWithin k = Unit {0}

  pub retyped_within : (t : TypeTree) → IsWithin limit t → (x : Stands) → StandsIsWithin limit x → StandsIsWithin limit (retyped t x)
  retyped_within t h (sort.Open u) w = h
  retyped_within t h (sort.OpenConstant c) w = h
  retyped_within t h sort.Nil w = h
  retyped_within t h x w = w

  mutual
    pub settled_within : (t : TypeTree) → IsWithin limit t → (x : Part) → PartIsWithin limit x → PartIsWithin limit (settled t x)
    settled_within t h (typed f i j l ps) w =
        branch (PartIsWithin limit) (takes_type l.sort) (typed f i j (record l { sort = retyped t l.sort }) (all_settled t ps)) (typed f i j l ps)
        (retyped_within t h l.sort w.0, all_settled_within t h ps w.1) w

    all_settled_within : (t : TypeTree) → IsWithin limit t → (ps : Typeds TypeTree) → EveryPart (IsWithin limit) ps → EveryPart (IsWithin limit) (all_settled t ps)
    all_settled_within t h sort.none w = tt
    all_settled_within t h (sort.more x ps) w = (settled_within t h x w.0, all_settled_within t h ps w.1)
    all_settled_within t h (sort.skip ps) w = all_settled_within t h ps w

  defaulted_within : (o : Option OpenKind) (x : Part) → PartIsWithin limit x → PartIsWithin limit (defaulted o x)
  defaulted_within None x w = w
  defaulted_within (Some k) x w = settled_within (default_type k) (default_within k) x w

  pub given_within : (k : Take) → TakeWithin k → (x : Part) → PartIsWithin limit x → PartIsWithin limit (given k x)
  given_within stay h x w = w
  given_within default h x w = defaulted_within (open_kind (sort_of x)) x w
  given_within (as_type t) h x w = settled_within t h x w

  -- ---- types

  pub type_sort_within : (o : Option TypeTree) → MaybeWithin limit o → StandsIsWithin limit (type_sort o)
  type_sort_within None w = tt
  type_sort_within (Some t) w = w

  abbrev pub EntriesWithin : List (Option TypeTree) → Type 0
  EntriesWithin [] = Unit {0}
  EntriesWithin (o ∷ os) = MaybeWithin limit o × EntriesWithin os

  second_within : (xs : Parts) → PartsWithin limit xs → MaybePart limit (second xs)
  second_within [] w = tt
  second_within (x ∷ []) w = tt
  second_within (x ∷ y ∷ ys) w = w.1.0

  entry_type_within : (x : Stands) (o : Option TypeTree) → StandsIsWithin limit x → MaybeWithin limit o → MaybeWithin limit (entry_type x o)
  entry_type_within sort.Nothing o w h = h
  entry_type_within x o w h = named_within x w

  entry_within : (x : Part) (o : Option TypeTree) → PartIsWithin limit x → MaybeWithin limit o → MaybeWithin limit (entry_of x o)
  entry_within x o w h =
      branch (MaybeWithin limit) (is_parameter (form_of x)) (part_type (second (list_of (parts_of x)))) (entry_type (sort_of x) o)
      (part_type_within (second (list_of (parts_of x))) (second_within (list_of (parts_of x)) (list_within (parts_of x) (inner_within x w))))
      (entry_type_within (sort_of x) o (sort_within x w) h)

  pub first_within : (os : List (Option TypeTree)) → EntriesWithin os → MaybeWithin limit (first_entry os)
  first_within [] w = tt
  first_within (o ∷ os) w = w.0

  pub entries_within : (xs : Parts) → PartsWithin limit xs → EntriesWithin (entry_types xs)
  entries_within [] w = tt
  entries_within (None ∷ xs) w = entries_within xs w.1
  entries_within (Some x ∷ xs) w = (entry_within x (first_entry (entry_types xs)) w.0 (first_within (entry_types xs) (entries_within xs w.1)), entries_within xs w.1)

  abbrev pub RowOf : Option (List TypeTree) → Type 0
  RowOf None = Unit {0}
  RowOf (Some ts) = RowIsWithin limit (row ts)

  front_within : (o : Option TypeTree) (ts : Option (List TypeTree)) → MaybeWithin limit o → RowOf ts → RowOf (with_front o ts)
  front_within (Some t) (Some ts) w h = (w, h)
  front_within o ts w h = tt

  pub all_within : (os : List (Option TypeTree)) → EntriesWithin os → RowOf (all_types os)
  all_within [] w = tt
  all_within (o ∷ os) w = front_within o (all_types os) w.0 (all_within os w.1)

  results_within : (o : Option Part) → MaybePart limit o → EntriesWithin (result_types o)
  results_within None w = tt
  results_within (Some x) w =
      branch EntriesWithin (is_result_list (form_of x)) (entry_types (list_of (parts_of x))) (named_type (sort_of x) ∷ [])
      (entries_within (list_of (parts_of x)) (list_within (parts_of x) (inner_within x w))) (named_within (sort_of x) (sort_within x w), tt)

  pub parts_in_within : (o : Option Part) → MaybePart limit o → PartsWithin limit (parts_in o)
  parts_in_within None w = tt
  parts_in_within (Some x) w = list_within (parts_of x) (inner_within x w)

  pub function_within : (ps rs : Option (List TypeTree)) → RowOf ps → RowOf rs → MaybeWithin limit (function_of ps rs)
  function_within (Some ps) (Some rs) w h = (w, h)
  function_within ps rs w h = tt

  pub signature_within : (ps rs : Option Part) → MaybePart limit ps → MaybePart limit rs → MaybeWithin limit (signature_type ps rs)
  signature_within ps rs w h =
      function_within (all_types (entry_types (parts_in ps))) (all_types (result_types rs))
      (all_within (entry_types (parts_in ps)) (entries_within (parts_in ps) (parts_in_within ps w))) (all_within (result_types rs) (results_within rs h))

  abbrev pub FieldsWithin : Fields → Type 0
  FieldsWithin [] = Unit {0}
  FieldsWithin (f ∷ fs) = IsWithin limit f.1 × FieldsWithin fs

  pub line_within : (ns : List (List ℕ)) (o : Option TypeTree) (fs : Fields) → MaybeWithin limit o → FieldsWithin fs → FieldsWithin (fields_of ns o fs)
  line_within [] o fs w h = h
  line_within (n ∷ ns) None fs w h = h
  line_within (n ∷ ns) (Some t) fs w h = (w, line_within ns (Some t) fs w h)

  fields_within : (texts : ℕ → List ℕ) (ns : List (List ℕ)) (xs : Parts) → PartsWithin limit xs → FieldsWithin (fields_from texts ns xs)
  fields_within texts ns [] w = tt
  fields_within texts ns (None ∷ xs) w = fields_within texts ns xs w.1
  fields_within texts ns (Some x ∷ xs) w =
      branch FieldsWithin (is_field_name (form_of x)) (fields_from texts (ns ++ texts (first_of x) ∷ []) xs) (fields_of ns (named_type (sort_of x)) (fields_from texts [] xs))
      (fields_within texts (ns ++ texts (first_of x) ∷ []) xs w.1)
      (line_within ns (named_type (sort_of x)) (fields_from texts [] xs) (named_within (sort_of x) (sort_within x w.0)) (fields_within texts [] xs w.1))

  pub types_within : (fs : Fields) → FieldsWithin fs → RowIsWithin limit (row (types_of fs))
  types_within [] w = tt
  types_within (f ∷ fs) w = (w.0, types_within fs w.1)

  pub structure_within : (texts : ℕ → List ℕ) (xs : Parts) → PartsWithin limit xs → StandsIsWithin limit (sort.IsType (structure_of (fields_from texts [] xs)))
  structure_within texts xs w = types_within (fields_from texts [] xs) (fields_within texts [] xs w)

-- ---- what is asked of right sides

module _ (limit : Scope) (rights : Rights) (a : RightsAreWithin limit rights) where
  abbrev Reaches : TypeTree → TypeTree → Type 0
  Reaches t u = IsWithin limit t → IsWithin limit u

  right_reaches : (n : ℕ) (r x : TypeTree) → HasRight rights n r → Reaches r x → Reaches (declared n) x
  right_reaches n r x h i e = i (a n r h)

  reaches_itself : (t x : TypeTree) → Some t ≡ Some x → Reaches t x
  reaches_itself t x e = subst (IsWithin limit) (same_Some t x e)

  underlying_reaches : (known : ℕ → Option TypeTree) → ((n : ℕ) (x : TypeTree) → known n ≡ Some x → Reaches (declared n) x) → (t x : TypeTree) → underlying_by known t ≡ Some x → Reaches t x
  underlying_reaches known f (declared n) x e = f n x e
  underlying_reaches known f t x e = reaches_itself t x e

  maybe_reached : (t : TypeTree) (o : Option TypeTree) → underlying_of rights t ≡ o → IsWithin limit t → MaybeWithin limit o
  maybe_reached t None e w = tt
  maybe_reached t (Some u) e w = asked_holds underlying_by rights Reaches right_reaches underlying_reaches t u e w

  pub underlying_within : (t : TypeTree) → IsWithin limit t → MaybeWithin limit (underlying_of rights t)
  underlying_within t w = maybe_reached t (underlying_of rights t) refl w

  pub underlying_in_within : (o : Option TypeTree) → MaybeWithin limit o → MaybeWithin limit (underlying_in rights o)
  underlying_in_within None w = tt
  underlying_in_within (Some t) w = underlying_within t w

  pub form_within : (x : Stands) → StandsIsWithin limit x → MaybeWithin limit (form_of_value rights x)
  form_within x w = underlying_in_within (own_type x) (own_within limit x w)
