-- What is asked of values, of places and of types.
use Rattle.std.proofs.Common.{◌≡◌, ℕ, Bool, true, false, List, [], ◌∷◌, ◌++◌, Option, Some, None, refl, cond}
use Rattle.go_ints.specs.declared.kinds.Kind.TheVariants as integer_kind
use Rattle.go_constants.specs.declared.values.Const.{Const}
use Rattle.go_tree.specs.declared.object.Predeclared.{Predeclared}
use Rattle.go_tree.specs.declared.object.Predeclared.TheVariants as predeclared
use Rattle.go_types.specs.Trees.{TypeTree, integer, array, slice, row}
use Rattle.go_types.specs.Relations.{Rights}
use Rattle.go_types_relations.specs.Tests.{underlying_of}
use Rattle.go_typed.specs.Trees.{typed, Typeds, list_of, sort_of, form_of, parts_of, first_of, EveryPart}
use Rattle.go_typed.specs.Trees as sort
use Rattle.go_exprs_rules.specs.declared.family.OpenKind.{OpenKind}
use Rattle.go_exprs_rules.specs.declared.family.OpenKind.TheVariants as untyped_kind
use Rattle.go_exprs_rules.specs.Names.{predeclared_sort, is_no_value, is_no_callee, is_no_target, place_failing}
use Rattle.go_exprs_rules.specs.Scopes.{Hint, type_place, loose, callee, statement, target}
use Rattle.go_exprs_rules.specs.Settling.{Part, settled, all_settled, unrepresented_constant, unrepresented, all_unrepresented, Take, stay, default, as_type, defaulted, given, undefaulted_by, undefaulted, untyped_unassignable, unassignable_by, unassignable}
use Rattle.go_exprs_rules.specs.Sorts.{Stands, open_kind, own_type, constant_of, takes_type, named_type, underlying_in, form_of_value, family_of, is_whole, is_text, suits, element_of, slice_element, is_bytes, default_type, value_type, represents, retyped, kind_of_untyped, kind_of_const}
use Rattle.go_exprs_rules.specs.Tables.{Parts}
use Rattle.go_exprs_rules.specs.TypeNodes.{part_type, type_sort, over_limit, limit_failing, length_in, sequence_failing, array_of, sequence_type, is_parameter, second, entry_type, entry_of, first_entry, entry_types, with_front, all_types, is_result_list, result_types, parts_in, function_of, signature_type, is_field_name, Fields, fields_of, fields_from, types_of, structure_of}
use Rattle.go_package_laws.specs.Reach.{Within, RowWithin, MaybeWithin, AgreeOn, StandsWithin, PartWithin, MaybePart, PartsWithin}
use Rattle.go_package_laws.proofs.Agreeing.{underlying_same, underlying_within, assignable_same, scalars_same}

pub branch : {A : Type 0} (P : A → Type 0) (b : Bool) (x y : A) → P x → P y → P (cond b x y)
branch P true x y p q = p
branch P false x y p q = q

-- ---- what holds of types that pass, whatever the right sides

module _ (p : ℕ → Bool) where
  pub own_within : (x : Stands) → StandsWithin p x → MaybeWithin p (own_type x)
  own_within (sort.Value t) w = w
  own_within (sort.Constant t c) w = w
  own_within x w = tt

  pub named_within : (x : Stands) → StandsWithin p x → MaybeWithin p (named_type x)
  named_within (sort.IsType t) w = w
  named_within x w = tt

  pub element_within : (o : Option TypeTree) → MaybeWithin p o → MaybeWithin p (element_of o)
  element_within (Some (array n t)) w = w
  element_within (Some (slice t)) w = w
  element_within o w = tt

  pub slice_within : (o : Option TypeTree) → MaybeWithin p o → MaybeWithin p (slice_element o)
  slice_within (Some (slice t)) w = w
  slice_within o w = tt

  pub default_within : (k : OpenKind) → Within p (default_type k)
  default_within untyped_kind.Boolean = tt
  default_within k = tt

  pub value_within : (x : Stands) → StandsWithin p x → MaybeWithin p (value_type x)
  value_within (sort.Value t) w = w
  value_within (sort.Constant t c) w = w
  value_within (sort.Open u) w = default_within (kind_of_untyped u)
  value_within (sort.OpenConstant c) w = default_within (kind_of_const c)
  value_within x w = tt

  pub predeclared_within : (n : ℕ) (b : Predeclared) → StandsWithin p (predeclared_sort n b)
  predeclared_within n predeclared.Bool = tt
  predeclared_within n b = tt

  -- ---- parts

  pub sort_within : (x : Part) → PartWithin p x → StandsWithin p (sort_of x)
  sort_within (typed f i j l ps) w = w.0

  pub inner_within : (x : Part) → PartWithin p x → EveryPart (Within p) (parts_of x)
  inner_within (typed f i j l ps) w = w.1

  pub list_within : (ps : Typeds TypeTree) → EveryPart (Within p) ps → PartsWithin p (list_of ps)
  list_within sort.none w = tt
  list_within (sort.more x ps) w = (w.0, list_within ps w.1)
  list_within (sort.skip ps) w = (tt, list_within ps w)

  pub row_within : (xs : Parts) → PartsWithin p xs → EveryPart (Within p) (sort.row xs)
  row_within [] w = tt
  row_within (None ∷ xs) w = row_within xs w.1
  row_within (Some x ∷ xs) w = (w.0, row_within xs w.1)

  pub part_type_within : (o : Option Part) → MaybePart p o → MaybeWithin p (part_type o)
  part_type_within None w = tt
  part_type_within (Some x) w = named_within (sort_of x) (sort_within x w)

  -- ---- what takes a type

  abbrev pub TakeWithin : Take → Type 0
  TakeWithin (as_type t) = Within p t
  TakeWithin k = Unit {0}

  retyped_within : (t : TypeTree) → Within p t → (x : Stands) → StandsWithin p x → StandsWithin p (retyped t x)
  retyped_within t h (sort.Open u) w = h
  retyped_within t h (sort.OpenConstant c) w = h
  retyped_within t h sort.Nil w = h
  retyped_within t h x w = w

  mutual
    pub settled_within : (t : TypeTree) → Within p t → (x : Part) → PartWithin p x → PartWithin p (settled t x)
    settled_within t h (typed f i j l ps) w =
        branch (PartWithin p) (takes_type l.sort) (typed f i j (record l { sort = retyped t l.sort }) (all_settled t ps)) (typed f i j l ps)
        (retyped_within t h l.sort w.0, all_settled_within t h ps w.1) w

    all_settled_within : (t : TypeTree) → Within p t → (ps : Typeds TypeTree) → EveryPart (Within p) ps → EveryPart (Within p) (all_settled t ps)
    all_settled_within t h sort.none w = tt
    all_settled_within t h (sort.more x ps) w = (settled_within t h x w.0, all_settled_within t h ps w.1)
    all_settled_within t h (sort.skip ps) w = all_settled_within t h ps w

  defaulted_within : (o : Option OpenKind) (x : Part) → PartWithin p x → PartWithin p (defaulted o x)
  defaulted_within None x w = w
  defaulted_within (Some k) x w = settled_within (default_type k) (default_within k) x w

  pub given_within : (k : Take) → TakeWithin k → (x : Part) → PartWithin p x → PartWithin p (given k x)
  given_within stay h x w = w
  given_within default h x w = defaulted_within (open_kind (sort_of x)) x w
  given_within (as_type t) h x w = settled_within t h x w

  -- ---- types

  pub type_sort_within : (o : Option TypeTree) → MaybeWithin p o → StandsWithin p (type_sort o)
  type_sort_within None w = tt
  type_sort_within (Some t) w = w

  array_within : (n : Option ℕ) (o : Option TypeTree) → MaybeWithin p o → MaybeWithin p (array_of n o)
  array_within (Some n) (Some t) w = w
  array_within n o w = tt

  pub sequence_within : (n : Option Part) (o : Option TypeTree) → MaybeWithin p o → MaybeWithin p (sequence_type n o)
  sequence_within None None w = tt
  sequence_within None (Some t) w = w
  sequence_within (Some n) o w = array_within (length_in (constant_of (sort_of n))) o w

  abbrev EntriesWithin : List (Option TypeTree) → Type 0
  EntriesWithin [] = Unit {0}
  EntriesWithin (o ∷ os) = MaybeWithin p o × EntriesWithin os

  second_within : (xs : Parts) → PartsWithin p xs → MaybePart p (second xs)
  second_within [] w = tt
  second_within (x ∷ []) w = tt
  second_within (x ∷ y ∷ ys) w = w.1.0

  entry_type_within : (x : Stands) (o : Option TypeTree) → StandsWithin p x → MaybeWithin p o → MaybeWithin p (entry_type x o)
  entry_type_within sort.Nothing o w h = h
  entry_type_within x o w h = named_within x w

  entry_within : (x : Part) (o : Option TypeTree) → PartWithin p x → MaybeWithin p o → MaybeWithin p (entry_of x o)
  entry_within x o w h =
      branch (MaybeWithin p) (is_parameter (form_of x)) (part_type (second (list_of (parts_of x)))) (entry_type (sort_of x) o)
      (part_type_within (second (list_of (parts_of x))) (second_within (list_of (parts_of x)) (list_within (parts_of x) (inner_within x w))))
      (entry_type_within (sort_of x) o (sort_within x w) h)

  first_within : (os : List (Option TypeTree)) → EntriesWithin os → MaybeWithin p (first_entry os)
  first_within [] w = tt
  first_within (o ∷ os) w = w.0

  entries_within : (xs : Parts) → PartsWithin p xs → EntriesWithin (entry_types xs)
  entries_within [] w = tt
  entries_within (None ∷ xs) w = entries_within xs w.1
  entries_within (Some x ∷ xs) w = (entry_within x (first_entry (entry_types xs)) w.0 (first_within (entry_types xs) (entries_within xs w.1)), entries_within xs w.1)

  abbrev RowOf : Option (List TypeTree) → Type 0
  RowOf None = Unit {0}
  RowOf (Some ts) = RowWithin p (row ts)

  front_within : (o : Option TypeTree) (ts : Option (List TypeTree)) → MaybeWithin p o → RowOf ts → RowOf (with_front o ts)
  front_within (Some t) (Some ts) w h = (w, h)
  front_within o ts w h = tt

  all_within : (os : List (Option TypeTree)) → EntriesWithin os → RowOf (all_types os)
  all_within [] w = tt
  all_within (o ∷ os) w = front_within o (all_types os) w.0 (all_within os w.1)

  results_within : (o : Option Part) → MaybePart p o → EntriesWithin (result_types o)
  results_within None w = tt
  results_within (Some x) w =
      branch EntriesWithin (is_result_list (form_of x)) (entry_types (list_of (parts_of x))) (named_type (sort_of x) ∷ [])
      (entries_within (list_of (parts_of x)) (list_within (parts_of x) (inner_within x w))) (named_within (sort_of x) (sort_within x w), tt)

  parts_in_within : (o : Option Part) → MaybePart p o → PartsWithin p (parts_in o)
  parts_in_within None w = tt
  parts_in_within (Some x) w = list_within (parts_of x) (inner_within x w)

  function_within : (ps rs : Option (List TypeTree)) → RowOf ps → RowOf rs → MaybeWithin p (function_of ps rs)
  function_within (Some ps) (Some rs) w h = (w, h)
  function_within ps rs w h = tt

  pub signature_within : (ps rs : Option Part) → MaybePart p ps → MaybePart p rs → MaybeWithin p (signature_type ps rs)
  signature_within ps rs w h =
      function_within (all_types (entry_types (parts_in ps))) (all_types (result_types rs))
      (all_within (entry_types (parts_in ps)) (entries_within (parts_in ps) (parts_in_within ps w))) (all_within (result_types rs) (results_within rs h))

  abbrev FieldsWithin : Fields → Type 0
  FieldsWithin [] = Unit {0}
  FieldsWithin (f ∷ fs) = Within p f.1 × FieldsWithin fs

  line_within : (ns : List (List ℕ)) (o : Option TypeTree) (fs : Fields) → MaybeWithin p o → FieldsWithin fs → FieldsWithin (fields_of ns o fs)
  line_within [] o fs w h = h
  line_within (n ∷ ns) None fs w h = h
  line_within (n ∷ ns) (Some t) fs w h = (w, line_within ns (Some t) fs w h)

  fields_within : (texts : ℕ → List ℕ) (ns : List (List ℕ)) (xs : Parts) → PartsWithin p xs → FieldsWithin (fields_from texts ns xs)
  fields_within texts ns [] w = tt
  fields_within texts ns (None ∷ xs) w = fields_within texts ns xs w.1
  fields_within texts ns (Some x ∷ xs) w =
      branch FieldsWithin (is_field_name (form_of x)) (fields_from texts (ns ++ texts (first_of x) ∷ []) xs) (fields_of ns (named_type (sort_of x)) (fields_from texts [] xs))
      (fields_within texts (ns ++ texts (first_of x) ∷ []) xs w.1)
      (line_within ns (named_type (sort_of x)) (fields_from texts [] xs) (named_within (sort_of x) (sort_within x w.0)) (fields_within texts [] xs w.1))

  types_within : (fs : Fields) → FieldsWithin fs → RowWithin p (row (types_of fs))
  types_within [] w = tt
  types_within (f ∷ fs) w = (w.0, types_within fs w.1)

  pub structure_within : (texts : ℕ → List ℕ) (xs : Parts) → PartsWithin p xs → StandsWithin p (sort.IsType (structure_of (fields_from texts [] xs)))
  structure_within texts xs w = types_within (fields_from texts [] xs) (fields_within texts [] xs w)

-- ---- what is asked of right sides

module _ (p : ℕ → Bool) (old new : Rights) (a : AgreeOn p old new) where
  und : (t : TypeTree) → Within p t → underlying_of new t ≡ underlying_of old t
  und = underlying_same p old new a

  pub underlying_in_same : (o : Option TypeTree) → MaybeWithin p o → underlying_in new o ≡ underlying_in old o
  underlying_in_same None w = refl
  underlying_in_same (Some t) w = und t w

  pub underlying_in_within : (o : Option TypeTree) → MaybeWithin p o → MaybeWithin p (underlying_in old o)
  underlying_in_within None w = tt
  underlying_in_within (Some t) w = underlying_within p old new a t w

  pub form_same : (x : Stands) → StandsWithin p x → form_of_value new x ≡ form_of_value old x
  form_same x w = underlying_in_same (own_type x) (own_within p x w)

  pub form_within : (x : Stands) → StandsWithin p x → MaybeWithin p (form_of_value old x)
  form_within x w = underlying_in_within (own_type x) (own_within p x w)

  pub family_same : (x : Stands) → StandsWithin p x → family_of new x ≡ family_of old x
  family_same x w = let e = form_same x w in cc

  pub whole_same : (x : Stands) → StandsWithin p x → is_whole new x ≡ is_whole old x
  whole_same x w = let e = family_same x w in cc

  pub text_same : (x : Stands) → StandsWithin p x → is_text new x ≡ is_text old x
  text_same x w = let e = family_same x w in cc

  pub suits_same : (k : OpenKind) (t : TypeTree) → Within p t → suits new k t ≡ suits old k t
  suits_same k t w = let e = und t w in cc

  pub bytes_same : (t : TypeTree) → Within p t → is_bytes new t ≡ is_bytes old t
  bytes_same t w =
      let e = und t w in
      let f = underlying_in_same (slice_element (underlying_of old t)) (slice_within p (underlying_of old t) (underlying_within p old new a t w)) in
      cc

  pub represents_same : (t : TypeTree) (c : Const) → Within p t → represents new t c ≡ represents old t c
  represents_same t c w = let e = und t w in cc

  -- ---- what an expression takes

  constant_same : (t : TypeTree) (i j : ℕ) (o : Option Const) → Within p t → unrepresented_constant new t i j o ≡ unrepresented_constant old t i j o
  constant_same t i j None w = refl
  constant_same t i j (Some c) w = let e = represents_same t c w in cc

  mutual
    pub unrepresented_same : (t : TypeTree) → Within p t → (x : Part) → unrepresented new t x ≡ unrepresented old t x
    unrepresented_same t w (typed f i j l ps) =
        let e = constant_same t i j (constant_of l.sort) w in
        let h = all_unrepresented_same t w ps in
        cc

    all_unrepresented_same : (t : TypeTree) → Within p t → (ps : Typeds TypeTree) → all_unrepresented new t ps ≡ all_unrepresented old t ps
    all_unrepresented_same t w sort.none = refl
    all_unrepresented_same t w (sort.more x ps) = let e = unrepresented_same t w x in let h = all_unrepresented_same t w ps in cc
    all_unrepresented_same t w (sort.skip ps) = all_unrepresented_same t w ps

  undefaulted_by_same : (o : Option OpenKind) (x : Part) → undefaulted_by new o x ≡ undefaulted_by old o x
  undefaulted_by_same None x = refl
  undefaulted_by_same (Some k) x = unrepresented_same (default_type k) (default_within p k) x

  pub undefaulted_same : (x : Part) → undefaulted new x ≡ undefaulted old x
  undefaulted_same x = undefaulted_by_same (open_kind (sort_of x)) x

  untyped_same : (t : TypeTree) → Within p t → (o : Option OpenKind) (x : Part) → untyped_unassignable new t o x ≡ untyped_unassignable old t o x
  untyped_same t w None x = refl
  untyped_same t w (Some k) x = let e = suits_same k t w in let f = unrepresented_same t w x in cc

  unassignable_by_same : (t : TypeTree) → Within p t → (s : Stands) (x : Part) → StandsWithin p s → unassignable_by new t s x ≡ unassignable_by old t s x
  unassignable_by_same t w sort.Unknown x h = refl
  unassignable_by_same t w (sort.Value u) x h = let e = assignable_same p old new a u t h w in cc
  unassignable_by_same t w (sort.Constant u c) x h = let e = assignable_same p old new a u t h w in cc
  unassignable_by_same t w sort.Nil x h = let e = und t w in cc
  unassignable_by_same t w s x h = untyped_same t w (open_kind s) x

  pub unassignable_same : (t : TypeTree) → Within p t → (x : Part) → PartWithin p x → unassignable new t x ≡ unassignable old t x
  unassignable_same t w x h = unassignable_by_same t w (sort_of x) x (sort_within p x h)

  -- ---- places

  no_value_same : (x : Stands) → StandsWithin p x → is_no_value new x ≡ is_no_value old x
  no_value_same (sort.Results t) w = let e = und t w in cc
  no_value_same x w = refl

  no_callee_same : (x : Stands) → StandsWithin p x → is_no_callee new x ≡ is_no_callee old x
  no_callee_same (sort.Results t) w = let e = und t w in cc
  no_callee_same x w = refl

  no_target_same : (x : Stands) → StandsWithin p x → is_no_target new x ≡ is_no_target old x
  no_target_same sort.Blank w = refl
  no_target_same x w = no_value_same x w

  pub place_same : (h : Hint) (i j : ℕ) (x : Stands) → StandsWithin p x → place_failing new h i j x ≡ place_failing old h i j x
  place_same type_place i j x w = refl
  place_same loose i j x w = refl
  place_same statement i j x w = refl
  place_same callee i j x w = let e = no_callee_same x w in cc
  place_same target i j x w = let e = no_target_same x w in cc
  place_same h i j x w = let e = no_value_same x w in cc

  -- ---- array types

  over_limit_same : (i j : ℕ) (n : Option ℕ) (o : Option TypeTree) → MaybeWithin p o → over_limit new i j n o ≡ over_limit old i j n o
  over_limit_same i j (Some n) (Some t) w = let e = scalars_same p old new a (array n t) w in cc
  over_limit_same i j n o w = refl

  limit_same : (limits : Bool) (i j : ℕ) (n : Option ℕ) (o : Option TypeTree) → MaybeWithin p o → limit_failing new limits i j n o ≡ limit_failing old limits i j n o
  limit_same true i j n o w = over_limit_same i j n o w
  limit_same false i j n o w = refl

  int_within : Within p (integer integer_kind.Int)
  int_within = tt

  pub sequence_same : (limits : Bool) (i j : ℕ) (n e : Option Part) → MaybePart p n → MaybePart p e → sequence_failing new limits i j n e ≡ sequence_failing old limits i j n e
  sequence_same limits i j None e w h = refl
  sequence_same limits i j (Some n) e w h =
      let f = whole_same (sort_of n) (sort_within p n w) in
      let g = unrepresented_same (integer integer_kind.Int) int_within n in
      let l = limit_same limits i j (length_in (constant_of (sort_of n))) (part_type e) (part_type_within p e h) in
      cc
