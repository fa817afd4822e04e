-- A type that is written where the limit is judged is within it, whatever the right sides are that its names don't stand for.
use Rattle.std.proofs.Common.{◌≡◌, ℕ, Bool, true, false, cond, List, [], ◌∷◌, ◌++◌, Option, Some, None, refl, sym, ap, subst, ◌∙◌, append_assoc, append-nil, IsTrue}
use Rattle.go_tokens.specs.declared.token.TokenKind.{TokenKind}
use Rattle.go_tokens.specs.declared.token.TokenKind.TheVariants as token
use Rattle.go_grammar.specs.declared.kind.Category.{Category}
use Rattle.go_grammar.specs.declared.kind.Category.TheVariants as category
use Rattle.go_grammar.specs.declared.kind.Kind.{Kind}
use Rattle.go_grammar.specs.declared.kind.Kind.TheVariants as kind
use Rattle.go_grammar.specs.declared.kind.Place.{Place}
use Rattle.go_grammar.specs.Categories.{is_type, is_result, within, place_of}
use Rattle.go_grammar.specs.Grammar.{rule}
use Rattle.go_grammar.specs.Rules.{Rule, End, Then, Maybe, Unless, Many, Lines, Again, item}
use Rattle.go_grammar.specs.Trees.{Tree, node, Trees, none, more, skip, kind_of}
use Rattle.go_tree.specs.declared.object.Object.{Object}
use Rattle.go_tree.specs.declared.object.Object.TheVariants as object
use Rattle.go_tree.specs.declared.object.Predeclared.{Predeclared}
use Rattle.go_tree.specs.declared.object.Predeclared.TheVariants as predeclared
use Rattle.go_types.specs.Trees.{TypeTree}
use Rattle.go_types_relations.specs.Sizes.{scalars_of}
use Rattle.go_typed.specs.declared.form.Form.{Form}
use Rattle.go_typed.specs.declared.form.Form.TheVariants as form
use Rattle.go_typed.specs.Trees.{sort_of, form_of, parts_of, list_of, first_of, row}
use Rattle.go_typed.specs.Trees as sort
use Rattle.go_exprs_rules.specs.Names.{predeclared_sort, object_sort, need_of, name_sort, object_form, declared_form, form_or_type, name_form}
use Rattle.go_exprs_rules.specs.Scopes.{Needed, Scope, Hint, declares, free}
use Rattle.go_exprs_rules.specs.Settling.{Part}
use Rattle.go_exprs_rules.specs.Sorts.{Stands, named_type}
use Rattle.go_exprs_rules.specs.Tables.{Parts, hint, part_scope, is_held, held, all_held, layout, on_one, on_optional, form_by, failing, sort_by, is_judged, placing, own_faults, is_sound, built_by, built_on, built}
use Rattle.go_exprs_rules.specs.TypeNodes.{part_type, type_sort, sequence_failing, sequence_type, is_parameter, second, entry_type, entry_of, first_entry, entry_types, is_result_list, result_types, parts_in, signature_type, all_types, is_field_name, fields_of, fields_from}
use Rattle.go_exprs_rules.specs.Typing.{typing, typings}
use Rattle.go_stmts_final_types.specs.Shapes.{IsShaped, AreShaped}
use Rattle.go_stmts_limits.specs.Written.{TypeIsWithin}
use Rattle.go_stmts_limits.proofs.Within.{MaybeWithin}
use Rattle.go_stmts_limits.proofs.Arrays.{sequence_within, none_failing}
use Rattle.go_stmts_limits.proofs.Values.{branch, EntriesWithin, first_within, all_within, function_within, FieldsWithin, line_within, types_within}

-- ---- lists of parts

list_row : (xs : Parts) → list_of (row xs) ≡ xs
list_row [] = refl
list_row (None ∷ xs) = ap (λ ys. None ∷ ys) (list_row xs)
list_row (Some x ∷ xs) = ap (λ ys. Some x ∷ ys) (list_row xs)

-- ---- forms

object_plain : (s : Scope) (o : Option Object) → is_held (object_form s o) ≡ false
object_plain s None = refl
object_plain s (Some object.Import) = refl
object_plain s (Some (object.Predeclared p)) = refl
object_plain s (Some (object.Package n)) = refl
object_plain s (Some (object.Local f n)) = refl

declared_plain : (s : Scope) (o : Option Object) → is_held (declared_form s o) ≡ false
declared_plain s None = refl
declared_plain s (Some object.Import) = refl
declared_plain s (Some (object.Predeclared p)) = refl
declared_plain s (Some (object.Package n)) = refl
declared_plain s (Some (object.Local f n)) = refl

type_plain : (x : Stands) (f : Form) → is_held f ≡ false → is_held (form_or_type x f) ≡ false
type_plain (sort.IsType t) f e = refl
type_plain x f e = e

name_plain : (s : Scope) (h : Hint) (i : ℕ) → is_held (name_form s h i) ≡ false
name_plain s declares i = declared_plain s (s.objects i)
name_plain s free i = declared_plain s (s.objects i)
name_plain s h i = type_plain (name_sort s h i) (object_form s (s.objects i)) (object_plain s (s.objects i))

form_plain : (s : Scope) (k : Kind) (h : Hint) (i j : ℕ) (ys : Parts) → is_type k ≡ true → is_held (form_by s k h i j ys) ≡ false
form_plain s kind.Name h i j ys e = name_plain s h i
form_plain s kind.ParenthesizedType h i j ys e = refl
form_plain s kind.SequenceType h i j ys e = refl
form_plain s kind.FunctionType h i j ys e = refl
form_plain s kind.StructType h i j ys e = refl
form_plain s k h i j ys e = cc

form_built : (s : Scope) (k : Kind) (h : Hint) (i j : ℕ) (ys : Parts) (b : Bool) → form_of (built_by s k h i j ys b) ≡ form_by s k h i j ys
form_built s k h i j ys true = refl
form_built s k h i j ys false = refl

no_parameter : (f : Form) → is_held f ≡ false → is_parameter f ≡ false
no_parameter (form.Held k) e = cc
no_parameter f e = refl

no_results : (f : Form) → is_held f ≡ false → is_result_list f ≡ false
no_results (form.Held k) e = cc
no_results f e = refl

module _ (limit : Scope) where
  abbrev Typed : Part → Type 0
  Typed x = MaybeWithin limit (named_type (sort_of x))

  abbrev MaybeTyped : Option Part → Type 0
  MaybeTyped None = Unit {0}
  MaybeTyped (Some x) = Typed x

  abbrev AllTyped : Parts → Type 0
  AllTyped [] = Unit {0}
  AllTyped (x ∷ xs) = MaybeTyped x × AllTyped xs

  -- by the kind of its tree
  abbrev KindFact : Kind → Part → Type 0
  KindFact kind.Name x = Typed x
  KindFact kind.ParenthesizedType x = Typed x
  KindFact kind.SequenceType x = Typed x
  KindFact kind.FunctionType x = Typed x
  KindFact kind.StructType x = Typed x
  KindFact kind.Signature x = Typed x
  KindFact kind.Fields x = AllTyped (held (Some x))
  KindFact kind.NameList x = AllTyped (held (Some x))
  KindFact kind.DeclaredName x = Typed x
  KindFact kind.Parameters x = EntriesWithin limit (entry_types (parts_in (Some x)))
  KindFact kind.Results x = EntriesWithin limit (result_types (Some x))
  KindFact kind.Parameter x = (next : Option TypeTree) → MaybeWithin limit next → MaybeWithin limit (entry_of x next)
  KindFact k x = Unit {0}

  -- by its category
  abbrev Fact : Category → Part → Type 0
  Fact category.Type x = Typed x × (is_held (form_of x) ≡ false)
  Fact category.Signature x = Typed x
  Fact category.Fields x = AllTyped (held (Some x))
  Fact category.NameList x = AllTyped (held (Some x))
  Fact category.DeclaredName x = Typed x
  Fact category.Parameters x = EntriesWithin limit (entry_types (parts_in (Some x)))
  Fact category.Result x = EntriesWithin limit (result_types (Some x))
  Fact category.Entry x = (next : Option TypeTree) → MaybeWithin limit next → MaybeWithin limit (entry_of x next)
  Fact c x = Unit {0}

  abbrev RowFact : Rule → Parts → Type 0
  RowFact (End ws) [] = Unit {0}
  RowFact (End ws) (x ∷ xs) = ⊥
  RowFact (Then ws c r) [] = Unit {0}
  RowFact (Then ws c r) (None ∷ xs) = RowFact r xs
  RowFact (Then ws c r) (Some x ∷ xs) = Fact c x × RowFact r xs
  RowFact (Maybe ws c r) [] = Unit {0}
  RowFact (Maybe ws c r) (None ∷ xs) = RowFact r xs
  RowFact (Maybe ws c r) (Some x ∷ xs) = Fact c x × RowFact r xs
  RowFact (Unless ws c us r) [] = Unit {0}
  RowFact (Unless ws c us r) (None ∷ xs) = RowFact r xs
  RowFact (Unless ws c us r) (Some x ∷ xs) = Fact c x × RowFact r xs
  RowFact (Many ws l) [] = Unit {0}
  RowFact (Many ws l) (None ∷ xs) = RowFact (Many ws l) xs
  RowFact (Many ws l) (Some x ∷ xs) = Fact (item l) x × RowFact (Many ws l) xs

  to_maybe : (o : Option TypeTree) → TypeIsWithin limit o → MaybeWithin limit o
  to_maybe None w = tt
  to_maybe (Some t) w = w

  pub from_maybe : (o : Option TypeTree) → MaybeWithin limit o → TypeIsWithin limit o
  from_maybe None w = tt
  from_maybe (Some t) w = w

  -- ---- entries

  entry_typed : (x : Stands) (next : Option TypeTree) → MaybeWithin limit (named_type x) → MaybeWithin limit next → MaybeWithin limit (entry_type x next)
  entry_typed sort.Nothing next w v = v
  entry_typed x next w v = w

  plain_entry : (x : Part) → is_held (form_of x) ≡ false → Typed x → (next : Option TypeTree) → MaybeWithin limit next → MaybeWithin limit (entry_of x next)
  plain_entry x e w next v =
      subst (λ b. MaybeWithin limit (cond b (part_type (second (list_of (parts_of x)))) (entry_type (sort_of x) next))) (sym (no_parameter (form_of x) e)) (entry_typed (sort_of x) next w v)

  plain_result : (x : Part) → is_held (form_of x) ≡ false → Typed x → EntriesWithin limit (result_types (Some x))
  plain_result x e w = subst (λ b. EntriesWithin limit (cond b (entry_types (list_of (parts_of x))) (named_type (sort_of x) ∷ []))) (sym (no_results (form_of x) e)) (w, tt)

  -- ---- by categories

  type_fact : (k : Kind) (x : Part) → is_type k ≡ true → KindFact k x → Typed x
  type_fact kind.Name x e h = h
  type_fact kind.ParenthesizedType x e h = h
  type_fact kind.SequenceType x e h = h
  type_fact kind.FunctionType x e h = h
  type_fact kind.StructType x e h = h
  type_fact k x e h = cc

  signature_fact : (k : Kind) (x : Part) → IsTrue (within category.Signature k) → KindFact k x → Typed x
  signature_fact kind.Signature x e h = h
  signature_fact k x e h = cc

  fields_fact : (k : Kind) (x : Part) → IsTrue (within category.Fields k) → KindFact k x → AllTyped (held (Some x))
  fields_fact kind.Fields x e h = h
  fields_fact k x e h = cc

  names_fact : (k : Kind) (x : Part) → IsTrue (within category.NameList k) → KindFact k x → AllTyped (held (Some x))
  names_fact kind.NameList x e h = h
  names_fact k x e h = cc

  declared_fact : (k : Kind) (x : Part) → IsTrue (within category.DeclaredName k) → KindFact k x → Typed x
  declared_fact kind.DeclaredName x e h = h
  declared_fact k x e h = cc

  parameters_fact : (k : Kind) (x : Part) → IsTrue (within category.Parameters k) → KindFact k x → EntriesWithin limit (entry_types (parts_in (Some x)))
  parameters_fact kind.Parameters x e h = h
  parameters_fact k x e h = cc

  entry_fact : (k : Kind) (x : Part) → IsTrue (within category.Entry k) → (is_type k ≡ true → is_held (form_of x) ≡ false) → KindFact k x → (next : Option TypeTree) → MaybeWithin limit next → MaybeWithin limit (entry_of x next)
  entry_fact kind.Parameter x e p h = h
  entry_fact k x e p h = plain_entry x (p e) (type_fact k x e h)

  result_fact : (k : Kind) (x : Part) → is_result k ≡ true → (is_type k ≡ true → is_held (form_of x) ≡ false) → KindFact k x → EntriesWithin limit (result_types (Some x))
  result_fact kind.Results x e p h = h
  result_fact kind.Name x e p h = plain_result x (p refl) h
  result_fact kind.SequenceType x e p h = plain_result x (p refl) h
  result_fact kind.FunctionType x e p h = plain_result x (p refl) h
  result_fact kind.StructType x e p h = plain_result x (p refl) h
  result_fact k x e p h = cc

  fact_as : (c : Category) (k : Kind) (x : Part) → IsTrue (within c k) → (is_type k ≡ true → is_held (form_of x) ≡ false) → KindFact k x → Fact c x
  fact_as category.Type k x e p h = (type_fact k x e h, p e)
  fact_as category.Signature k x e p h = signature_fact k x e h
  fact_as category.Fields k x e p h = fields_fact k x e h
  fact_as category.NameList k x e p h = names_fact k x e h
  fact_as category.DeclaredName k x e p h = declared_fact k x e h
  fact_as category.Parameters k x e p h = parameters_fact k x e h
  fact_as category.Entry k x e p h = entry_fact k x e p h
  fact_as category.Result k x e p h = result_fact k x e p h
  fact_as c k x e p h = tt

  -- ---- rows

  typed_both : (xs ys : Parts) → AllTyped xs → AllTyped ys → AllTyped (xs ++ ys)
  typed_both [] ys w v = v
  typed_both (x ∷ xs) ys w v = (w.0, typed_both xs ys w.1 v)

  plain_held : (x : Part) → is_held (form_of x) ≡ false → Typed x → AllTyped (held (Some x))
  plain_held x e w = subst (λ b. AllTyped (cond b (list_of (parts_of x)) (Some x ∷ []))) (sym e) (w, tt)

  many_fields : (ws : List TokenKind) (b : Bool) (s e : TokenKind) (xs : Parts) → RowFact (Many ws (Lines b category.Fields s e)) xs → AllTyped (all_held xs)
  many_fields ws b s e [] w = tt
  many_fields ws b s e (None ∷ xs) w = (tt, many_fields ws b s e xs w)
  many_fields ws b s e (Some x ∷ xs) w = typed_both (held (Some x)) (all_held xs) w.0 (many_fields ws b s e xs w.1)

  many_names : (ws : List TokenKind) (s : TokenKind) (xs : Parts) → RowFact (Many ws (Again category.DeclaredName s)) xs → AllTyped xs
  many_names ws s [] w = tt
  many_names ws s (None ∷ xs) w = (tt, many_names ws s xs w)
  many_names ws s (Some x ∷ xs) w = (w.0, many_names ws s xs w.1)

  many_entries : (ws : List TokenKind) (b : Bool) (s e : TokenKind) (xs : Parts) → RowFact (Many ws (Lines b category.Entry s e)) xs → EntriesWithin limit (entry_types xs)
  many_entries ws b s e [] w = tt
  many_entries ws b s e (None ∷ xs) w = many_entries ws b s e xs w
  many_entries ws b s e (Some x ∷ xs) w = let r = many_entries ws b s e xs w.1 in (w.0 (first_entry (entry_types xs)) (first_within limit (entry_types xs) r), r)

  many_results : (ws : List TokenKind) (b : Bool) (s e : TokenKind) (xs : Parts) → RowFact (Many ws (Lines b category.Type s e)) xs → EntriesWithin limit (entry_types xs)
  many_results ws b s e [] w = tt
  many_results ws b s e (None ∷ xs) w = many_results ws b s e xs w
  many_results ws b s e (Some x ∷ xs) w = let r = many_results ws b s e xs w.1 in (plain_entry x w.0.1 w.0.0 (first_entry (entry_types xs)) (first_within limit (entry_types xs) r), r)

  typed_fields : (texts : ℕ → List ℕ) (ns : List (List ℕ)) (xs : Parts) → AllTyped xs → FieldsWithin limit (fields_from texts ns xs)
  typed_fields texts ns [] w = tt
  typed_fields texts ns (None ∷ xs) w = typed_fields texts ns xs w.1
  typed_fields texts ns (Some x ∷ xs) w =
      branch (FieldsWithin limit) (is_field_name (form_of x)) (fields_from texts (ns ++ texts (first_of x) ∷ []) xs) (fields_of ns (named_type (sort_of x)) (fields_from texts [] xs))
      (typed_fields texts (ns ++ texts (first_of x) ∷ []) xs w.1) (line_within limit ns (named_type (sort_of x)) (fields_from texts [] xs) w.0 (typed_fields texts [] xs w.1))

  typed_sort : (o : Option TypeTree) → MaybeWithin limit o → MaybeWithin limit (named_type (type_sort o))
  typed_sort None w = tt
  typed_sort (Some t) w = w

  predeclared_typed : (n : ℕ) (b : Predeclared) → MaybeWithin limit (named_type (predeclared_sort n b))
  predeclared_typed n predeclared.Bool = tt
  predeclared_typed n b = tt

  module _ (s : Scope) (judged : s.limits ≡ true) (counted : (t : TypeTree) (n : ℕ) → scalars_of limit.rights t ≡ Some n → scalars_of s.rights t ≡ Some n)
      (objects : (need : Needed) (o : Object) → MaybeWithin limit (named_type (s.sorts need o))) where
    object_typed : (need : Needed) (o : Option Object) → MaybeWithin limit (named_type (object_sort s need o))
    object_typed need None = tt
    object_typed need (Some object.Import) = tt
    object_typed need (Some (object.Predeclared b)) = predeclared_typed s.iota b
    object_typed need (Some (object.Package m)) = objects need (object.Package m)
    object_typed need (Some (object.Local f m)) = objects need (object.Local f m)

    name_typed : (h : Hint) (i : ℕ) → MaybeWithin limit (named_type (name_sort s h i))
    name_typed declares i = tt
    name_typed free i = tt
    name_typed h i = object_typed (need_of s.needed h) (s.objects i)

    abbrev sound : Kind → Hint → ℕ → ℕ → Parts → Bool
    sound k h i j ys = is_sound k ys (own_faults s k h i j ys)

    node_typed : (k : Kind) (h : Hint) (i j : ℕ) (ys : Parts) → (sound k h i j ys ≡ true → MaybeWithin limit (named_type (sort_by s k h i j ys))) → Typed (built_on s k h i j ys)
    node_typed k h i j ys f = by (sound k h i j ys) refl
      where
        by : (b : Bool) → sound k h i j ys ≡ b → Typed (built_by s k h i j ys b)
        by true e = f e
        by false e = tt

    both_typed : (x y : Option Part) → EntriesWithin limit (entry_types (parts_in x)) → EntriesWithin limit (result_types y) → MaybeWithin limit (named_type (type_sort (signature_type x y)))
    both_typed x y w v =
        typed_sort (signature_type x y)
        (function_within limit (all_types (entry_types (parts_in x))) (all_types (result_types y)) (all_within limit (entry_types (parts_in x)) w) (all_within limit (result_types y) v))

    one_typed : (r : Rule) (f : (x : Part) → RowFact r (Some x ∷ []) → Typed x) (xs : Parts) → RowFact r xs → MaybeWithin limit (named_type (on_one sort.Unknown sort_of xs))
    one_typed r f [] w = tt
    one_typed r f (None ∷ xs) w = tt
    one_typed r f (Some x ∷ []) w = f x w
    one_typed r f (Some x ∷ y ∷ ys) w = tt

    sequence_typed : (h : Hint) (i j : ℕ) (p : Place) (xs : Parts) → RowFact (rule p kind.SequenceType) xs → on_optional [] (sequence_failing s.rights s.limits i j) xs ≡ []
        → MaybeWithin limit (named_type (on_optional sort.Unknown (λ n e. type_sort (sequence_type n (part_type e))) xs))
    sequence_typed h i j p [] w e = tt
    sequence_typed h i j p (x ∷ []) w e = tt
    sequence_typed h i j p (None ∷ None ∷ []) w e = typed_sort (sequence_type None (part_type None)) (sequence_within limit s judged counted i j None None tt e)
    sequence_typed h i j p (None ∷ Some y ∷ []) w e = typed_sort (sequence_type None (part_type (Some y))) (sequence_within limit s judged counted i j None (Some y) w.0.0 e)
    sequence_typed h i j p (Some x ∷ None ∷ []) w e = typed_sort (sequence_type (Some x) (part_type None)) (sequence_within limit s judged counted i j (Some x) None tt e)
    sequence_typed h i j p (Some x ∷ Some y ∷ []) w e = typed_sort (sequence_type (Some x) (part_type (Some y))) (sequence_within limit s judged counted i j (Some x) (Some y) w.1.0.0 e)
    sequence_typed h i j p (x ∷ y ∷ z ∷ zs) w e = tt

    signature_typed : (p : Place) (xs : Parts) → RowFact (rule p kind.Signature) xs → MaybeWithin limit (named_type (on_optional sort.Unknown (λ ps rs. type_sort (signature_type ps rs)) xs))
    signature_typed p [] w = tt
    signature_typed p (x ∷ []) w = tt
    signature_typed p (None ∷ None ∷ []) w = both_typed None None tt tt
    signature_typed p (None ∷ Some y ∷ []) w = both_typed None (Some y) tt w.0
    signature_typed p (Some x ∷ None ∷ []) w = both_typed (Some x) None w.0 tt
    signature_typed p (Some x ∷ Some y ∷ []) w = both_typed (Some x) (Some y) w.0 w.1.0
    signature_typed p (x ∷ y ∷ z ∷ zs) w = tt

    fields_typed : (p : Place) (xs : Parts) → RowFact (rule p kind.Fields) xs → AllTyped (all_held xs)
    fields_typed p [] w = tt
    fields_typed p (None ∷ []) w = (tt, tt)
    fields_typed p (None ∷ None ∷ []) w = (tt, (tt, tt))
    fields_typed p (None ∷ None ∷ z ∷ zs) w = absurd w
    fields_typed p (None ∷ Some y ∷ []) w = (tt, typed_both (held (Some y)) [] (plain_held y w.0.1 w.0.0) tt)
    fields_typed p (None ∷ Some y ∷ z ∷ zs) w = absurd w.1
    fields_typed p (Some x ∷ []) w = typed_both (held (Some x)) [] w.0 tt
    fields_typed p (Some x ∷ None ∷ []) w = typed_both (held (Some x)) (None ∷ []) w.0 (tt, tt)
    fields_typed p (Some x ∷ None ∷ z ∷ zs) w = absurd w.1
    fields_typed p (Some x ∷ Some y ∷ []) w = typed_both (held (Some x)) (held (Some y) ++ []) w.0 (typed_both (held (Some y)) [] (plain_held y w.1.0.1 w.1.0.0) tt)
    fields_typed p (Some x ∷ Some y ∷ z ∷ zs) w = absurd w.1.1

    names_typed : (p : Place) (xs : Parts) → RowFact (rule p kind.NameList) xs → AllTyped xs
    names_typed p [] w = tt
    names_typed p (None ∷ xs) w = (tt, many_names [] token.Comma xs w)
    names_typed p (Some x ∷ xs) w = (w.0, many_names [] token.Comma xs w.1)

    second_typed : (p : Place) (xs : Parts) → RowFact (rule p kind.Parameter) xs → MaybeWithin limit (part_type (second xs))
    second_typed p [] w = tt
    second_typed p (x ∷ []) w = tt
    second_typed p (x ∷ None ∷ ys) w = tt
    second_typed p (None ∷ Some y ∷ ys) w = w.0.0
    second_typed p (Some x ∷ Some y ∷ ys) w = w.1.0.0

    node_fact : (k : Kind) (h : Hint) (i j : ℕ) (p : Place) (xs : Parts) → RowFact (rule p k) xs → KindFact k (built s k h i j xs)
    node_fact kind.Name h i j p xs w = node_typed kind.Name h i j xs (λ e. name_typed h i)
    node_fact kind.ParenthesizedType h i j p xs w = node_typed kind.ParenthesizedType h i j xs (λ e. one_typed (rule p kind.ParenthesizedType) (λ x q. q.0.0) xs w)
    node_fact kind.SequenceType h i j p xs w =
        node_typed kind.SequenceType h i j xs
        (λ e. sequence_typed h i j p xs w (none_failing (is_judged xs) (failing s kind.SequenceType h i j xs) (placing s kind.SequenceType h i j (sort_by s kind.SequenceType h i j xs)) e))
    node_fact kind.FunctionType h i j p xs w = node_typed kind.FunctionType h i j xs (λ e. one_typed (rule p kind.FunctionType) (λ x q. q.0) xs w)
    node_fact kind.StructType h i j p xs w =
        node_typed kind.StructType h i j (all_held xs)
        (λ e. types_within limit (fields_from s.texts [] (all_held xs)) (typed_fields s.texts [] (all_held xs) (many_fields (token.Struct ∷ token.LeftBrace ∷ []) false token.Semicolon token.RightBrace xs w)))
    node_fact kind.Signature h i j p xs w = signature_typed p xs w
    node_fact kind.Fields h i j p xs w = subst AllTyped (sym (list_row (all_held xs))) (fields_typed p xs w)
    node_fact kind.NameList h i j p xs w = subst AllTyped (sym (list_row xs)) (names_typed p xs w)
    node_fact kind.DeclaredName h i j p xs w = tt
    node_fact kind.Parameters h i j p xs w = subst (λ ys. EntriesWithin limit (entry_types ys)) (sym (list_row xs)) (many_entries (token.LeftParenthesis ∷ []) false token.Comma token.RightParenthesis xs w)
    node_fact kind.Results h i j p xs w = subst (λ ys. EntriesWithin limit (entry_types ys)) (sym (list_row xs)) (many_results (token.LeftParenthesis ∷ []) false token.Comma token.RightParenthesis xs w)
    node_fact kind.Parameter h i j p xs w = λ next v. subst (λ ys. MaybeWithin limit (part_type (second ys))) (sym (list_row xs)) (second_typed p xs w)
    node_fact k h i j p xs w = tt

    built_plain : (k : Kind) (h : Hint) (i j : ℕ) (xs : Parts) → is_type k ≡ true → is_held (form_of (built s k h i j xs)) ≡ false
    built_plain k h i j xs e =
        let ys = layout k xs in
        ap is_held (form_built s k h i j ys (is_sound k ys (own_faults s k h i j ys))) ∙ form_plain s k h i j ys e

  -- ---- whole trees

  abbrev Knows : Scope → Type 0
  Knows s = (s.limits ≡ true) × ((t : TypeTree) (n : ℕ) → scalars_of limit.rights t ≡ Some n → scalars_of s.rights t ≡ Some n) × ((need : Needed) (o : Object) → MaybeWithin limit (named_type (s.sorts need o)))

  knows_in : (s : Scope) (k : Kind) (xs : Parts) → Knows s → Knows (part_scope s k xs)
  knows_in s kind.SequenceType [] a = (a.0, a.1, a.2)
  knows_in s kind.SequenceType (x ∷ xs) a = a
  knows_in s k xs a = a

  -- the parts that are typed behind those in front
  abbrev behind : Scope → Kind → Hint → Trees → Parts → Trees → Parts
  behind s k h all xs none = []
  behind s k h all xs (more p ps) =
      Some (typing (part_scope s k xs) (hint s k h all xs (kind_of p)) p) ∷ behind s k h all (xs ++ Some (typing (part_scope s k xs) (hint s k h all xs (kind_of p)) p) ∷ []) ps
  behind s k h all xs (skip ps) = None ∷ behind s k h all (xs ++ None ∷ []) ps

  typings_are : (s : Scope) (k : Kind) (h : Hint) (all : Trees) (xs : Parts) (ps : Trees) → typings s k h all xs ps ≡ xs ++ behind s k h all xs ps
  typings_are s k h all xs none = sym (append-nil xs)
  typings_are s k h all xs (more p ps) =
      let x = Some (typing (part_scope s k xs) (hint s k h all xs (kind_of p)) p) in typings_are s k h all (xs ++ x ∷ []) ps ∙ append_assoc xs (x ∷ []) (behind s k h all (xs ++ x ∷ []) ps)
  typings_are s k h all xs (skip ps) = typings_are s k h all (xs ++ None ∷ []) ps ∙ append_assoc xs (None ∷ []) (behind s k h all (xs ++ None ∷ []) ps)

  mutual
    typing_fact : (s : Scope) → Knows s → (h : Hint) (c : Category) (t : Tree) → IsShaped c t → Fact c (typing s h t)
    typing_fact s a h c (node k i j ps) w =
        let xs = behind s k h ps [] ps in
        subst (λ z. Fact c (built s k h i j z)) (sym (typings_are s k h ps [] ps))
        (fact_as c k (built s k h i j xs) w.0 (built_plain s a.0 a.1 a.2 k h i j xs) (node_fact s a.0 a.1 a.2 k h i j (place_of c) xs (row_fact s a k h ps [] ps (rule (place_of c) k) w.1)))

    row_fact : (s : Scope) → Knows s → (k : Kind) (h : Hint) (all : Trees) (xs : Parts) (ps : Trees) (r : Rule) → AreShaped r ps → RowFact r (behind s k h all xs ps)
    row_fact s a k h all xs none (End ws) w = tt
    row_fact s a k h all xs none (Then ws c r) w = tt
    row_fact s a k h all xs none (Maybe ws c r) w = tt
    row_fact s a k h all xs none (Unless ws c us r) w = tt
    row_fact s a k h all xs none (Many ws l) w = tt
    row_fact s a k h all xs (more p ps) (End ws) w = elim w [ ]
    row_fact s a k h all xs (more p ps) (Then ws c r) w =
        (typing_fact (part_scope s k xs) (knows_in s k xs a) (hint s k h all xs (kind_of p)) c p w.0, row_fact s a k h all (xs ++ Some (typing (part_scope s k xs) (hint s k h all xs (kind_of p)) p) ∷ []) ps r w.1)
    row_fact s a k h all xs (more p ps) (Maybe ws c r) w =
        (typing_fact (part_scope s k xs) (knows_in s k xs a) (hint s k h all xs (kind_of p)) c p w.0, row_fact s a k h all (xs ++ Some (typing (part_scope s k xs) (hint s k h all xs (kind_of p)) p) ∷ []) ps r w.1)
    row_fact s a k h all xs (more p ps) (Unless ws c us r) w =
        (typing_fact (part_scope s k xs) (knows_in s k xs a) (hint s k h all xs (kind_of p)) c p w.0, row_fact s a k h all (xs ++ Some (typing (part_scope s k xs) (hint s k h all xs (kind_of p)) p) ∷ []) ps r w.1)
    row_fact s a k h all xs (more p ps) (Many ws l) w =
        (typing_fact (part_scope s k xs) (knows_in s k xs a) (hint s k h all xs (kind_of p)) (item l) p w.0, row_fact s a k h all (xs ++ Some (typing (part_scope s k xs) (hint s k h all xs (kind_of p)) p) ∷ []) ps (Many ws l) w.1)
    row_fact s a k h all xs (skip ps) (End ws) w = elim w [ ]
    row_fact s a k h all xs (skip ps) (Then ws c r) w = elim w [ ]
    row_fact s a k h all xs (skip ps) (Maybe ws c r) w = row_fact s a k h all (xs ++ None ∷ []) ps r w
    row_fact s a k h all xs (skip ps) (Unless ws c us r) w = row_fact s a k h all (xs ++ None ∷ []) ps r w
    row_fact s a k h all xs (skip ps) (Many ws l) w = elim w [ ]

  -- what a type that is written stands for
  pub written_within : (s : Scope) → s.limits ≡ true → ((t : TypeTree) (n : ℕ) → scalars_of limit.rights t ≡ Some n → scalars_of s.rights t ≡ Some n) → ((need : Needed) (o : Object) → TypeIsWithin limit (named_type (s.sorts need o)))
      → (h : Hint) (t : Tree) → IsShaped category.Type t → TypeIsWithin limit (named_type (sort_of (typing s h t)))
  written_within s e f g h t w =
      from_maybe (named_type (sort_of (typing s h t))) (typing_fact s (e, f, λ need o. to_maybe (named_type (s.sorts need o)) (g need o)) h category.Type t w).0
