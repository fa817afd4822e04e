-- What is asked of values and of types.
use Rattle.std.proofs.Common.{◌≡◌, ℕ, Bool, true, false, List, [], ◌∷◌, ◌++◌, Option, Some, None, refl, cond, subst}
use Rattle.std.proofs.lemmas.Option.{same_Some}
use Rattle.go_tree.specs.declared.object.Predeclared.{Predeclared}
use Rattle.go_tree.specs.declared.object.Predeclared.TheVariants as predeclared
use Rattle.go_types.specs.Trees.{TypeTree, array, slice, declared, row}
use Rattle.go_types.specs.Relations.{Rights, HasRight}
use Rattle.go_types_relations.specs.Tests.{underlying_by, underlying_of}
use Rattle.go_types_relations.proofs.Public.{asked_holds}
use Rattle.go_typed.specs.Trees.{typed, Typeds, list_of, sort_of, form_of, parts_of, first_of}
use Rattle.go_typed.specs.Trees as sort
use Rattle.go_exprs_rules.specs.declared.family.OpenKind.{OpenKind}
use Rattle.go_exprs_rules.specs.declared.family.OpenKind.TheVariants as untyped_kind
use Rattle.go_exprs_rules.specs.Names.{predeclared_sort}
use Rattle.go_exprs_rules.specs.Settling.{Part, settled, all_settled, Take, stay, default, as_type, defaulted, given}
use Rattle.go_exprs_rules.specs.Sorts.{Stands, open_kind, own_type, takes_type, named_type, underlying_in, form_of_value, element_of, slice_element, default_type, value_type, constant_of, retyped, kind_of_untyped, kind_of_const}
use Rattle.go_exprs_rules.specs.Tables.{Parts}
use Rattle.std.specs.Option.{option_map}
use Rattle.go_print_laws.specs.Lexemes.{IsName, AreNames}
use Rattle.go_exprs_rules.specs.TypeNodes.{names_of, array_of, length_in, sequence_type, part_type, type_sort, is_parameter, second, entry_type, entry_of, first_entry, entry_types, with_front, all_types, is_result_list, result_types, parts_in, function_of, signature_type, is_field_name, Fields, fields_of, fields_from, types_of, structure_of}
use Rattle.go_stmts_written.specs.Named.{IsNamed, RowIsNamed}
use Rattle.go_stmts_written.specs.Named.{StandsIsNamed, RightsAreNamed}
use Rattle.go_stmts_written.proofs.Said.{MaybeNamed, MaybePart, PartsNamed, AllNamed, PartIsNamed, IsNameWhere, TakeNamed, EntriesNamed}

pub branch : {A : Type 0} (P : A → Type 0) (b : Bool) (x y : A) → P x → P y → P (cond b x y)
branch P true x y p q = p
branch P false x y p q = q

module _ (texts : ℕ → List ℕ) where
  pub own_named : (x : Stands) → StandsIsNamed x → MaybeNamed (own_type x)
  own_named (sort.Value t) w = w
  own_named (sort.Constant t c) w = w
  own_named x w = tt

  pub named_named : (x : Stands) → StandsIsNamed x → MaybeNamed (named_type x)
  named_named (sort.IsType t) w = w
  named_named x w = tt

  pub element_named : (o : Option TypeTree) → MaybeNamed o → MaybeNamed (element_of o)
  element_named (Some (array n t)) w = w
  element_named (Some (slice t)) w = w
  element_named o w = tt

  pub slice_named : (o : Option TypeTree) → MaybeNamed o → MaybeNamed (slice_element o)
  slice_named (Some (slice t)) w = w
  slice_named o w = tt

  pub default_named : (k : OpenKind) → IsNamed (default_type k)
  default_named untyped_kind.Boolean = tt
  default_named k = tt

  pub value_named : (x : Stands) → StandsIsNamed x → MaybeNamed (value_type x)
  value_named (sort.Value t) w = w
  value_named (sort.Constant t c) w = w
  value_named (sort.Open u) w = default_named (kind_of_untyped u)
  value_named (sort.OpenConstant c) w = default_named (kind_of_const c)
  value_named x w = tt

  pub predeclared_named : (n : ℕ) (b : Predeclared) → StandsIsNamed (predeclared_sort n b)
  predeclared_named n predeclared.Bool = tt
  predeclared_named n b = tt

  -- ---- parts

  pub sort_named : (x : Part) → PartIsNamed texts x → StandsIsNamed (sort_of x)
  sort_named (typed f i j l ps) w = w.0

  pub inner_named : (x : Part) → PartIsNamed texts x → AllNamed texts (parts_of x)
  inner_named (typed f i j l ps) w = w.1

  pub list_named : (ps : Typeds TypeTree) → AllNamed texts ps → PartsNamed texts (list_of ps)
  list_named sort.none w = tt
  list_named (sort.more x ps) w = (w.0, list_named ps w.1)
  list_named (sort.skip ps) w = (tt, list_named ps w)

  pub row_named : (xs : Parts) → PartsNamed texts xs → AllNamed texts (sort.row xs)
  row_named [] w = tt
  row_named (None ∷ xs) w = row_named xs w.1
  row_named (Some x ∷ xs) w = (w.0, row_named xs w.1)

  pub part_type_named : (o : Option Part) → MaybePart texts o → MaybeNamed (part_type o)
  part_type_named None w = tt
  part_type_named (Some x) w = named_named (sort_of x) (sort_named x w)

  -- ---- what takes a type

  pub retyped_named : (t : TypeTree) → IsNamed t → (x : Stands) → StandsIsNamed x → StandsIsNamed (retyped t x)
  retyped_named t h (sort.Open u) w = h
  retyped_named t h (sort.OpenConstant c) w = h
  retyped_named t h sort.Nil w = h
  retyped_named t h x w = w

  mutual
    pub settled_named : (t : TypeTree) → IsNamed t → (x : Part) → PartIsNamed texts x → PartIsNamed texts (settled t x)
    settled_named t h (typed f i j l ps) w =
        branch (PartIsNamed texts) (takes_type l.sort) (typed f i j (record l { sort = retyped t l.sort }) (all_settled t ps)) (typed f i j l ps)
        (retyped_named t h l.sort w.0, all_settled_named t h ps w.1, w.2) w

    all_settled_named : (t : TypeTree) → IsNamed t → (ps : Typeds TypeTree) → AllNamed texts ps → AllNamed texts (all_settled t ps)
    all_settled_named t h sort.none w = tt
    all_settled_named t h (sort.more x ps) w = (settled_named t h x w.0, all_settled_named t h ps w.1)
    all_settled_named t h (sort.skip ps) w = all_settled_named t h ps w

  defaulted_named : (o : Option OpenKind) (x : Part) → PartIsNamed texts x → PartIsNamed texts (defaulted o x)
  defaulted_named None x w = w
  defaulted_named (Some k) x w = settled_named (default_type k) (default_named k) x w

  pub given_named : (k : Take) → TakeNamed k → (x : Part) → PartIsNamed texts x → PartIsNamed texts (given k x)
  given_named stay h x w = w
  given_named default h x w = defaulted_named (open_kind (sort_of x)) x w
  given_named (as_type t) h x w = settled_named t h x w

  -- ---- types

  pub type_sort_named : (o : Option TypeTree) → MaybeNamed o → StandsIsNamed (type_sort o)
  type_sort_named None w = tt
  type_sort_named (Some t) w = w

  second_named : (xs : Parts) → PartsNamed texts xs → MaybePart texts (second xs)
  second_named [] w = tt
  second_named (x ∷ []) w = tt
  second_named (x ∷ y ∷ ys) w = w.1.0

  entry_type_named : (x : Stands) (o : Option TypeTree) → StandsIsNamed x → MaybeNamed o → MaybeNamed (entry_type x o)
  entry_type_named sort.Nothing o w h = h
  entry_type_named x o w h = named_named x w

  entry_named : (x : Part) (o : Option TypeTree) → PartIsNamed texts x → MaybeNamed o → MaybeNamed (entry_of x o)
  entry_named x o w h =
      branch (MaybeNamed) (is_parameter (form_of x)) (part_type (second (list_of (parts_of x)))) (entry_type (sort_of x) o)
      (part_type_named (second (list_of (parts_of x))) (second_named (list_of (parts_of x)) (list_named (parts_of x) (inner_named x w))))
      (entry_type_named (sort_of x) o (sort_named x w) h)

  pub first_named : (os : List (Option TypeTree)) → EntriesNamed os → MaybeNamed (first_entry os)
  first_named [] w = tt
  first_named (o ∷ os) w = w.0

  pub entries_named : (xs : Parts) → PartsNamed texts xs → EntriesNamed (entry_types xs)
  entries_named [] w = tt
  entries_named (None ∷ xs) w = entries_named xs w.1
  entries_named (Some x ∷ xs) w = (entry_named x (first_entry (entry_types xs)) w.0 (first_named (entry_types xs) (entries_named xs w.1)), entries_named xs w.1)

  abbrev pub RowOf : Option (List TypeTree) → Type 0
  RowOf None = Unit {0}
  RowOf (Some ts) = RowIsNamed (row ts)

  front_named : (o : Option TypeTree) (ts : Option (List TypeTree)) → MaybeNamed o → RowOf ts → RowOf (with_front o ts)
  front_named (Some t) (Some ts) w h = (w, h)
  front_named o ts w h = tt

  pub all_named : (os : List (Option TypeTree)) → EntriesNamed os → RowOf (all_types os)
  all_named [] w = tt
  all_named (o ∷ os) w = front_named o (all_types os) w.0 (all_named os w.1)

  results_named : (o : Option Part) → MaybePart texts o → EntriesNamed (result_types o)
  results_named None w = tt
  results_named (Some x) w =
      branch EntriesNamed (is_result_list (form_of x)) (entry_types (list_of (parts_of x))) (named_type (sort_of x) ∷ [])
      (entries_named (list_of (parts_of x)) (list_named (parts_of x) (inner_named x w))) (named_named (sort_of x) (sort_named x w), tt)

  pub parts_in_named : (o : Option Part) → MaybePart texts o → PartsNamed texts (parts_in o)
  parts_in_named None w = tt
  parts_in_named (Some x) w = list_named (parts_of x) (inner_named x w)

  pub function_named : (ps rs : Option (List TypeTree)) → RowOf ps → RowOf rs → MaybeNamed (function_of ps rs)
  function_named (Some ps) (Some rs) w h = (w, h)
  function_named ps rs w h = tt

  pub signature_named : (ps rs : Option Part) → MaybePart texts ps → MaybePart texts rs → MaybeNamed (signature_type ps rs)
  signature_named ps rs w h =
      function_named (all_types (entry_types (parts_in ps))) (all_types (result_types rs))
      (all_named (entry_types (parts_in ps)) (entries_named (parts_in ps) (parts_in_named ps w))) (all_named (result_types rs) (results_named rs h))

  abbrev FieldsNamed : Fields → Type 0
  FieldsNamed [] = Unit {0}
  FieldsNamed (f ∷ fs) = IsName f.0 × IsNamed f.1 × FieldsNamed fs

  line_named : (ns : List (List ℕ)) (o : Option TypeTree) (fs : Fields) → AreNames ns → MaybeNamed o → FieldsNamed fs → FieldsNamed (fields_of ns o fs)
  line_named [] o fs n w h = h
  line_named (n ∷ ns) None fs g w h = h
  line_named (n ∷ ns) (Some t) fs g w h = (g.0, w, line_named ns (Some t) fs g.1 w h)

  one_more : (ns : List (List ℕ)) (n : List ℕ) → AreNames ns → IsName n → AreNames (ns ++ n ∷ [])
  one_more [] n h w = (w, tt)
  one_more (m ∷ ns) n h w = (h.0, one_more ns n h.1 w)

  field_is : (x : Part) → PartIsNamed texts x → is_field_name (form_of x) ≡ true → IsName (texts (first_of x))
  field_is (typed f i j l ps) w e = subst (λ b. IsNameWhere b (texts i)) e w.2

  fields_named : (ns : List (List ℕ)) (xs : Parts) → AreNames ns → PartsNamed texts xs → FieldsNamed (fields_from texts ns xs)
  fields_named ns [] g w = tt
  fields_named ns (None ∷ xs) g w = fields_named ns xs g w.1
  fields_named ns (Some x ∷ xs) g w =
      by (is_field_name (form_of x)) refl (λ n. fields_named (ns ++ texts (first_of x) ∷ []) xs (one_more ns (texts (first_of x)) g n) w.1) (fields_named [] xs tt w.1)
    where
      by : (b : Bool) → is_field_name (form_of x) ≡ b → (IsName (texts (first_of x)) → FieldsNamed (fields_from texts (ns ++ texts (first_of x) ∷ []) xs)) → FieldsNamed (fields_from texts [] xs)
          → FieldsNamed (cond b (fields_from texts (ns ++ texts (first_of x) ∷ []) xs) (fields_of ns (named_type (sort_of x)) (fields_from texts [] xs)))
      by true e more rest = more (field_is x w.0 e)
      by false e more rest = line_named ns (named_type (sort_of x)) (fields_from texts [] xs) g (named_named (sort_of x) (sort_named x w.0)) rest

  names_named : (fs : Fields) → FieldsNamed fs → AreNames (names_of fs)
  names_named [] w = tt
  names_named (f ∷ fs) w = (w.0, names_named fs w.2)

  types_named : (fs : Fields) → FieldsNamed fs → RowIsNamed (row (types_of fs))
  types_named [] w = tt
  types_named (f ∷ fs) w = (w.1, types_named fs w.2)

  pub structure_named : (xs : Parts) → PartsNamed texts xs → StandsIsNamed (sort.IsType (structure_of (fields_from texts [] xs)))
  structure_named xs w = (names_named (fields_from texts [] xs) (fields_named [] xs tt w), types_named (fields_from texts [] xs) (fields_named [] xs tt w))

  -- ---- array and slice types

  slice_type_named : (o : Option TypeTree) → MaybeNamed o → MaybeNamed (option_map slice o)
  slice_type_named None w = tt
  slice_type_named (Some t) w = w

  array_named : (n : Option ℕ) (o : Option TypeTree) → MaybeNamed o → MaybeNamed (array_of n o)
  array_named (Some n) (Some t) w = w
  array_named (Some n) None w = tt
  array_named None o w = tt

  pub sequence_named : (n e : Option Part) → MaybeNamed (part_type e) → MaybeNamed (sequence_type n (part_type e))
  sequence_named None e w = slice_type_named (part_type e) w
  sequence_named (Some n) e w = array_named (length_in (constant_of (sort_of n))) (part_type e) w

-- ---- what is asked of right sides

module _ (texts : ℕ → List ℕ) (rights : Rights) (a : RightsAreNamed rights) where
  abbrev Reaches : TypeTree → TypeTree → Type 0
  Reaches t u = IsNamed t → IsNamed u

  right_reaches : (n : ℕ) (r x : TypeTree) → HasRight rights n r → Reaches r x → Reaches (declared n) x
  right_reaches n r x h i e = i (a n r h)

  reaches_itself : (t x : TypeTree) → Some t ≡ Some x → Reaches t x
  reaches_itself t x e = subst (IsNamed) (same_Some t x e)

  underlying_reaches : (known : ℕ → Option TypeTree) → ((n : ℕ) (x : TypeTree) → known n ≡ Some x → Reaches (declared n) x) → (t x : TypeTree) → underlying_by known t ≡ Some x → Reaches t x
  underlying_reaches known f (declared n) x e = f n x e
  underlying_reaches known f t x e = reaches_itself t x e

  maybe_reached : (t : TypeTree) (o : Option TypeTree) → underlying_of rights t ≡ o → IsNamed t → MaybeNamed o
  maybe_reached t None e w = tt
  maybe_reached t (Some u) e w = asked_holds underlying_by rights Reaches right_reaches underlying_reaches t u e w

  pub underlying_named : (t : TypeTree) → IsNamed t → MaybeNamed (underlying_of rights t)
  underlying_named t w = maybe_reached t (underlying_of rights t) refl w

  pub underlying_in_named : (o : Option TypeTree) → MaybeNamed o → MaybeNamed (underlying_in rights o)
  underlying_in_named None w = tt
  underlying_in_named (Some t) w = underlying_named t w

  pub form_named : (x : Stands) → StandsIsNamed x → MaybeNamed (form_of_value rights x)
  form_named x w = underlying_in_named (own_type x) (own_named texts x w)
