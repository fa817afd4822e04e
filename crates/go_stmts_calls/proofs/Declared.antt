-- A variable that is declared in front of a call, read; and the whole run.
use Rattle.std.proofs.Common.{◌≡◌, ◌∙◌, ℕ, suc, Bool, true, false, List, [], ◌∷◌, ◌++◌, Option, Some, None, refl, sym, ap, subst}
use Rattle.std.specs.Prelude.{if◌then◌else◌}
use Rattle.go_grammar.specs.declared.kind.Kind.{Kind}
use Rattle.go_grammar.specs.declared.kind.Kind.TheVariants as kind
use Rattle.go_grammar.specs.declared.kind.Sort.TheVariants as declaring
use Rattle.go_grammar.specs.Trees.{Tree, Trees, node, last, kind_of}
use Rattle.go_grammar.specs.Trees as trees
use Rattle.go_tree.specs.declared.object.Object.{Object}
use Rattle.go_tree.specs.declared.object.Object.TheVariants as object
use Rattle.go_types.specs.Trees.{TypeTree, boolean, text, integer, array, slice, structure, function, declared, TypeRow, none, more}
use Rattle.go_types_relations.specs.Identity.{is_identical}
use Rattle.go_typed.specs.declared.form.Form.{Form}
use Rattle.go_typed.specs.declared.form.Form.TheVariants as form
use Rattle.go_typed.specs.Trees.{Label, typed, Typeds, form_of, sort_of}
use Rattle.go_typed.specs.Trees as sort
use Rattle.go_exprs_rules.specs.declared.fault.TypeFault.{TypeFault}
use Rattle.go_exprs_rules.specs.Names.{name_sort, object_form, declared_form, form_or_type}
use Rattle.go_exprs_rules.specs.Scopes.{Hint, Scope, value, type_place, several}
use Rattle.go_exprs_rules.specs.Settling.{Part}
use Rattle.go_exprs_rules.specs.Sorts.{Stands, named_type}
use Rattle.go_exprs_rules.specs.Tables.{Parts, is_held, is_type, leaf, first_cut, is_judged, made}
use Rattle.go_exprs_rules.specs.Tables as tables
use Rattle.go_exprs_rules.specs.Typing.{typing, typings, faults}
use Rattle.go_print_laws.specs.Calls.{Argument, declaration_at, statement_tree, statement_trees}
use Rattle.go_print_laws.specs.Reading.{IsTypedAs, at_place, LiteralsReadBack, TypesReadBack}
use Rattle.go_print_laws.specs.Trees.{name_at, names_at, type_tree}
use Rattle.go_stmts_defs.specs.Assigning.{variable}
use Rattle.go_stmts_defs.specs.Frames.{Frame, scope_of, with_local}
use Rattle.go_stmts_defs.specs.Laying.{behind_names, typed_or_not}
use Rattle.go_stmts_defs.specs.Reading.{Found, Reading, read, Readings, all_read, back, leaving, closed, after, reading, readings}
use Rattle.go_stmts_defs.specs.Rules.{own_faults, built_by}
use Rattle.go_stmts_elsewhere.specs.Gaps.{ListsAreReadAlone, run, parts_in, found_in, frame_in, fronted}
use Rattle.go_stmts_elsewhere.specs.Replaced.{AreFree}
use Rattle.go_stmts_calls.specs.Calls.{DeclarationReads, CallReads, declaration_part, statement_part, CallIsRead}
use Rattle.go_stmts_calls.proofs.Arguments.{free_both}
use Rattle.go_stmts_calls.proofs.Assigned.{statement_read}
use Rattle.go_stmts_calls.proofs.Named.{free_of_all, one_free}

abbrev parts_in_tree : Tree → Trees
parts_in_tree (node k i j ps) = ps

-- ---- a printed type is no node that only holds parts

pub object_unheld : (s : Scope) (o : Option Object) → is_held (object_form s o) ≡ false
object_unheld s None = refl
object_unheld s (Some object.Import) = refl
object_unheld s (Some (object.Predeclared p)) = refl
object_unheld s (Some (object.Package n)) = refl
object_unheld s (Some (object.Local f n)) = refl

pub either_unheld : (x : Stands) (f : Form) → is_held f ≡ false → is_held (form_or_type x f) ≡ false
either_unheld (sort.IsType t) f e = refl
either_unheld x f e = e

built_form : (s : Scope) (k : Kind) (h : Hint) (i j : ℕ) (ys : Parts) (b : Bool) → form_of (tables.built_by s k h i j ys b) ≡ tables.form_by s k h i j ys
built_form s k h i j ys true = refl
built_form s k h i j ys false = refl

typed_form : (s : Scope) (k : Kind) (i j : ℕ) (ps : Trees) → form_of (typing s type_place (node k i j ps)) ≡ tables.form_by s k type_place i j (tables.layout k (typings s k type_place ps [] ps))
typed_form s k i j ps =
    let ys = tables.layout k (typings s k type_place ps [] ps) in
    built_form s k type_place i j ys (tables.is_sound k ys (tables.own_faults s k type_place i j ys))

name_unheld : (s : Scope) (i : ℕ) → is_held (form_of (typing s type_place (name_at i))) ≡ false
name_unheld s i = ap is_held (typed_form s kind.Name i (suc i) trees.none) ∙ either_unheld (name_sort s type_place i) (object_form s (s.objects i)) (object_unheld s (s.objects i))

unheld : (s : Scope) (i : ℕ) (t : TypeTree) → is_held (form_of (typing s type_place (type_tree i t))) ≡ false
unheld s i boolean = name_unheld s i
unheld s i text = name_unheld s i
unheld s i (integer k) = name_unheld s i
unheld s i (declared n) = name_unheld s i
unheld s i (array n t) = ap is_held (typed_form s kind.SequenceType i (last (type_tree i (array n t))) (parts_in_tree (type_tree i (array n t))))
unheld s i (slice t) = ap is_held (typed_form s kind.SequenceType i (last (type_tree i (slice t))) (parts_in_tree (type_tree i (slice t))))
unheld s i (structure ns ts) = ap is_held (typed_form s kind.StructType i (last (type_tree i (structure ns ts))) (parts_in_tree (type_tree i (structure ns ts))))
unheld s i (function ps rs) = ap is_held (typed_form s kind.FunctionType i (last (type_tree i (function ps rs))) (parts_in_tree (type_tree i (function ps rs))))

-- it stands in a specification as one part
one_type : (f : Form) (i j : ℕ) (l : Label TypeTree) (ps : Typeds TypeTree) → is_held f ≡ false → typed_or_not (Some (typed f i j l ps)) ≡ Some (typed f i j l ps) ∷ []
one_type (form.Held k) i j l ps e = cc
one_type f i j l ps e = refl

-- it is an expression in a type's place
type_read : (g : Frame) (i : ℕ) (t : TypeTree) → reading g (behind_names (kind_of (type_tree i t)) several) (type_tree i t) ≡ read (typing (scope_of g) type_place (type_tree i t)) (faults (scope_of g) type_place (type_tree i t)) g
type_read g i boolean = refl
type_read g i text = refl
type_read g i (integer k) = refl
type_read g i (declared n) = refl
type_read g i (array n t) = refl
type_read g i (slice t) = refl
type_read g i (structure ns ts) = refl
type_read g i (function ps rs) = refl

-- ---- a declaration

either_way : (b : Bool) (fs : List TypeFault) → fs ≡ [] → (if b then fs else []) ≡ []
either_way true fs e = e
either_way false fs e = refl

module _ (g : Frame) (i n : ℕ) (t : TypeTree) where
  abbrev written : Tree
  written = type_tree (suc (suc i)) t

  abbrev j : ℕ
  j = last written

  abbrev specification : Tree
  specification = node (kind.Specification declaring.Variable) (suc i) j (trees.more (names_at (suc i)) (trees.more written trees.none))

  abbrev name : Stands → Part
  name x = made (form.Declared n) (suc i) (suc (suc i)) x [] []

  -- the list of the one name, of this form
  abbrev names : Form → Part
  names f = let x : Part = made f (suc i) (suc (suc i)) sort.Nothing [] [] in made (form.Held kind.NameList) (suc i) (suc (suc i)) sort.Nothing (Some x ∷ []) (Some x ∷ [])

  abbrev over : Parts → Found → Reading
  over xs fs = closed g (kind.Specification declaring.Variable) (suc i) j (trees.more (names_at (suc i)) (trees.more written trees.none)) (all_read xs fs g)

  abbrev of_specification : Part → Part
  of_specification x = made (form.Specified 1) (suc i) j sort.Nothing (Some (name sort.Nothing) ∷ Some x ∷ []) (Some (name (sort.Value t)) ∷ Some x ∷ [])

  abbrev of_names : Part
  of_names = names (declared_form g.around (g.around.objects (suc i)))

  -- a specification is read by its name and its type
  specification_parts_read : (h : Hint) → reading g h specification ≡ over (Some of_names ∷ Some (typing (scope_of g) type_place written) ∷ []) (faults (scope_of g) type_place written)
  specification_parts_read h =
      ap (λ r. closed g (kind.Specification declaring.Variable) (suc i) j (trees.more (names_at (suc i)) (trees.more written trees.none)) (after r (λ x gs u. all_read (Some of_names ∷ Some x ∷ []) gs u))) (type_read g (suc (suc i)) t)

  -- ---- the specification over its type

  abbrev own : Parts → List TypeFault
  own ys = own_faults g (kind.Specification declaring.Variable) (form.Specified 1) (suc i) j ys

  -- over these parts as they are laid out
  abbrev laid : Parts → Found → Reading
  laid ys fs =
      let x : Part = built_by g (kind.Specification declaring.Variable) (form.Specified 1) (suc i) j ys (own ys) in
      read x (fs ++ own ys ∷ []) (leaving (kind.Specification declaring.Variable) (suc i) (trees.more (names_at (suc i)) (trees.more written trees.none)) x (back g g))

  specified : (x : Part) → is_held (form_of x) ≡ false → sort_of x ≡ sort.IsType t → (fs : Found) → over (Some (names (form.Declared n)) ∷ Some x ∷ []) fs ≡ read (of_specification (leaf x)) (fs ++ [] ∷ []) (with_local n (sort.Value t) g)
  specified (typed f a b l ps) e d fs =
      let rest = typed form.Type a b l sort.none in
      let ys = Some (name sort.Nothing) ∷ Some rest ∷ [] in
      let none : own ys ≡ [] = either_way (is_judged ys) [] refl in
      ap (λ zs. laid (Some (name sort.Nothing) ∷ first_cut zs) fs) (one_type f a b l ps e)
      ∙ ap (λ z. laid (Some (name sort.Nothing) ∷ (if is_type z then Some rest else Some (typed f a b l ps)) ∷ []) fs) d
      ∙ ap (λ es. let x : Part = built_by g (kind.Specification declaring.Variable) (form.Specified 1) (suc i) j ys es in
      read x (fs ++ es ∷ []) (leaving (kind.Specification declaring.Variable) (suc i) (trees.more (names_at (suc i)) (trees.more written trees.none)) x (back g g))) none
      ∙ ap (λ o. let x : Part = made (form.Specified 1) (suc i) j sort.Nothing ys (Some (name (variable o)) ∷ Some rest ∷ []) in
      read x (fs ++ [] ∷ []) (leaving (kind.Specification declaring.Variable) (suc i) (trees.more (names_at (suc i)) (trees.more written trees.none)) x (back g g))) (ap named_type d)

  -- ---- the declaration

  module _ (types : TypesReadBack) (w : DeclarationReads g i n t) where
    as_typed : IsTypedAs (scope_of g) type_place written (sort.IsType t)
    as_typed = types (scope_of g) type_place (suc (suc i)) t at_place w.within w.reads

    abbrev fs : Found
    fs = faults (scope_of g) type_place written

    abbrev of_type : Part
    of_type = typing (scope_of g) type_place written

    specification_read : (h : Hint) → reading g h specification ≡ read (of_specification (leaf of_type)) (fs ++ [] ∷ []) (with_local n (sort.Value t) g)
    specification_read h =
        specification_parts_read h
        ∙ ap (λ o. over (Some (names (declared_form g.around o)) ∷ Some of_type ∷ []) fs) w.means.1
        ∙ specified of_type (unheld (scope_of g) (suc (suc i)) t) as_typed.stands fs

    abbrev declaration_own : List TypeFault
    declaration_own = own_faults g (kind.Declaration declaring.Variable) form.Variables i j (Some (of_specification (leaf of_type)) ∷ [])

    abbrev all_found : Found
    all_found = (fs ++ [] ∷ []) ++ declaration_own ∷ []

    pub declaration_read : (h : Hint) → reading g h (declaration_at i written) ≡ read (declaration_part g i n t) all_found (with_local n (sort.Value t) g)
    declaration_read h =
        ap (λ r. closed g (kind.Declaration declaring.Variable) i j (trees.more specification trees.none) (after r (λ x gs u. all_read (Some x ∷ []) gs u))) (specification_read value)
        ∙ ap (λ es. read (built_by (with_local n (sort.Value t) g) (kind.Declaration declaring.Variable) form.Variables i j (Some (of_specification (leaf of_type)) ∷ []) es) ((fs ++ [] ∷ []) ++ declaration_own ∷ []) (with_local n (sort.Value t) g))
        (either_way (is_judged (Some (of_specification (leaf of_type)) ∷ [])) [] refl)

    pub declaration_clear : AreFree all_found
    declaration_clear =
        free_both (fs ++ [] ∷ []) (declaration_own ∷ []) (free_both fs ([] ∷ []) (free_of_all fs as_typed.faultless) tt)
        (one_free declaration_own (either_way (is_judged (Some (of_specification (leaf of_type)) ∷ [])) [] refl))

-- ---- the whole run

parts_fronted : (xs : Parts) (hs : Found) (r : Readings) → parts_in (fronted xs hs r) ≡ xs ++ parts_in r
parts_fronted xs hs (all_read ys gs s) = refl

found_fronted : (xs : Parts) (hs : Found) (r : Readings) → found_in (fronted xs hs r) ≡ hs ++ found_in r
found_fronted xs hs (all_read ys gs s) = refl

frame_fronted : (xs : Parts) (hs : Found) (r : Readings) → frame_in (fronted xs hs r) ≡ frame_in r
frame_fronted xs hs (all_read ys gs s) = refl

module _ (lists : ListsAreReadAlone) (itself : (t : TypeTree) → is_identical t t ≡ true) (literals : LiteralsReadBack) (types : TypesReadBack) where
  -- one statement in front of others
  first_read : (g u : Frame) (t : Tree) (ts : Trees) (x : Part) (fs : Found) → reading g value t ≡ read x fs u → run g (trees.more t ts) ≡ fronted (Some x ∷ []) fs (run u ts)
  first_read g u t ts x fs e =
      ap (λ r. after r (λ y gs v. readings v kind.Block value trees.none (Some y ∷ []) gs ts)) e ∙ lists kind.Block tt u value trees.none (Some x ∷ []) fs ts

  pub call_read : (g : Frame) (i : ℕ) (ys : List (List ℕ)) (ts : TypeRow) (ns : List ℕ) (xs : List (List ℕ)) (number : ℕ) (gs : List Argument) (ps rs : TypeRow) (w : CallReads g i ys ts ns xs number gs ps rs)
      → CallIsRead g i ys ts ns xs number gs ps rs w
  call_read g i [] none [] xs number gs ps rs w =
      let st = statement_read itself literals g i number xs gs ps rs w in
      let e = first_read g g (statement_tree i xs gs) trees.none (statement_part g i xs number gs ps rs w) st.found st.read_so in
      record {
        parts = ap parts_in e;
        found = subst AreFree (sym (ap found_in e)) (free_both st.found [] st.clear tt);
        frame = ap frame_in e;
      }
  call_read g i (y ∷ ys) (more t ts) (n ∷ ns) xs number gs ps rs w =
      let u = with_local n (sort.Value t) g in
      let k = suc (last (type_tree (suc (suc i)) t)) in
      let left = statement_trees k ys ts xs gs in
      let x = declaration_part g i n t in
      let found = all_found g i n t types w.0 in
      let r = call_read u k ys ts ns xs number gs ps rs w.1 in
      let e = first_read g u (declaration_at i (type_tree (suc (suc i)) t)) left x found (declaration_read g i n t types w.0 value) in
      record {
        parts = ap parts_in e ∙ parts_fronted (Some x ∷ []) found (run u left) ∙ ap (λ zs. Some x ∷ zs) r.parts;
        found = subst AreFree (sym (ap found_in e ∙ found_fronted (Some x ∷ []) found (run u left))) (free_both found (found_in (run u left)) (declaration_clear g i n t types w.0) r.found);
        frame = ap frame_in e ∙ frame_fronted (Some x ∷ []) found (run u left) ∙ r.frame;
      }
  call_read g i [] none (n ∷ ns) xs number gs ps rs w = absurd w
  call_read g i [] (more t ts) ns xs number gs ps rs w = absurd w
  call_read g i (y ∷ ys) none ns xs number gs ps rs w = absurd w
  call_read g i (y ∷ ys) (more t ts) [] xs number gs ps rs w = absurd w
