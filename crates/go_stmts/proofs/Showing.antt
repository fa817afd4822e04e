-- Frames that show what the program knows, as it changes.
use Rattle.std.proofs.Common.{◌≡◌, ℕ, ◌<◌, List, [], ◌∷◌, length, Option, Some, None, refl, ap, sym, subst, ◌∙◌, arith}
use Rattle.std.specs.Prelude.{slice_get}
use Rattle.std.specs.List.{AllByRecursion}
use Rattle.go_tree.specs.declared.object.Object.{Object}
use Rattle.go_tree.specs.declared.object.Object.TheVariants as object
use Rattle.go_types.specs.Trees.{TypeTree, declared}
use Rattle.go_types.specs.Relations.{Rights}
use Rattle.go_types.specs.Tables.{Table, IsTable, type_of, rights_of}
use Rattle.go_types_relations.specs.Extends.{Extends}
use Rattle.go_types_relations.proofs.Public.{tree_stays}
use Rattle.go_typed.specs.declared.sort.Sort as program
use Rattle.go_typed.specs.Scopes.{LocalsView}
use Rattle.go_exprs_rules.specs.Scopes.{Scope, Needed}
use Rattle.go_exprs_rules.specs.Sorts.{Stands}
use Rattle.go_exprs_engine.proofs.Public.{sort_more, longer, sort_known, sort_stays, sorts_stay, locals_stay, basics_stay}
use Rattle.go_exprs_types.specs.declared.scope.Scope as scopes
use Rattle.go_exprs_types.specs.Naming.{names, known_local, sort_of_object, objects_seen, locals_seen}
use Rattle.go_typed.specs.Trees.{IsType}
use Rattle.go_stmts_defs.specs.Frames.{Frame, scope_of, looked_up, known, placed, with_local, with_iota}
use Rattle.go_stmts_rules.specs.Seen.{locals_in, types_seen}
use Rattle.go_stmts.specs.Held.{HasScope}
use Rattle.go_stmts.specs.declared.state.Surroundings.{Surroundings}
use Rattle.go_stmts.specs.declared.state.State.{State}
use Rattle.go_stmts.specs.State.{stands_in, names_in, Shows, KnownSurroundings, KnownState}
use Rattle.go_stmts.proofs.Names.{pointwise}

-- ---- a table with more types

pub types_stay : (old new : Table) → IsTable old → Extends old new → (is : List ℕ) → AllByRecursion (λ n. n < length old.shapes) is → types_seen new is ≡ types_seen old is
types_stay old new ok e [] h = refl
types_stay old new ok e (i ∷ is) h = ap (λ x. x ∷ types_seen new is) (tree_stays old new ok e i h.0) ∙ ap (λ xs. type_of old.shapes i ∷ xs) (types_stay old new ok e is h.1)

all_more : (n m : ℕ) → ((i : ℕ) → i < n → i < m) → (is : List ℕ) → AllByRecursion (λ i. i < n) is → AllByRecursion (λ i. i < m) is
all_more n m f [] h = tt
all_more n m f (i ∷ is) h = (f i h.0, all_more n m f is h.1)

module _ (old new : Table) (ok : IsTable old) (e : Extends old new) (o : Surroundings) where
  below : (i : ℕ) → i < length old.shapes → i < length new.shapes
  below i h = let more = longer old new ok e in omega (arith, more, h)

  pub surroundings_known : KnownSurroundings old o → KnownSurroundings new o
  surroundings_known h = record {
    basics = basics_stay old new ok e o.basics h.basics;
    objects = λ j y is. sort_more below y (h.objects j y is);
    types = λ n i is. below i (h.types n i is);
  }

  module _ (k : State) (x : program.Sort) (rs : List ℕ) where
    pub state_known : KnownState old o k x rs → KnownState new o k x rs
    state_known h = record {
      around = surroundings_known h.around;
      locals = λ j y is. sort_more below y (h.locals j y is);
      source = h.source;
      tag = sort_known old new ok e x h.tag;
      results = all_more (length old.shapes) (length new.shapes) below rs h.results;
    }

    abbrev names_with : Rights → List Stands → List (Option Stands) → Scope
    names_with rights objects locals = record (names_in old o k.locals) { rights = rights; sorts = λ need y. sort_of_object [] objects locals y }

    -- where the right sides stay, every frame shows the same
    pub shows_stays : rights_of new ≡ rights_of old → KnownState old o k x rs → (s : Frame) → Shows old o k x rs s → Shows new o k x rs s
    shows_stays r h s has = record {
      names =
          has.names
          ∙ sym (ap (λ z. names_with z (objects_seen new o.env.now.objects) (locals_seen new k.locals.sorts)) r
          ∙ ap (λ z. names_with (rights_of old) z (locals_seen new k.locals.sorts)) (sorts_stay old new ok e o.env.now.objects h.around.objects)
          ∙ ap (names_with (rights_of old) (objects_seen old o.env.now.objects)) (locals_stay old new ok e k.locals.sorts h.locals));
      locals = has.locals ∙ sym (locals_stay old new ok e k.locals.sorts h.locals);
      source = has.source;
      tag = has.tag ∙ sym (sort_stays old new ok e x h.tag);
      results = has.results ∙ sym (types_stay old new ok e rs h.results);
      types = λ n i is. tree_stays old new ok e i (h.around.types n i is) ∙ has.types n i is;
    }

-- ---- the locals, `iota` and the rest change

module _ (t : Table) (o : Surroundings) (k : State) (x : program.Sort) (rs : List ℕ) (s : Frame) (has : Shows t o k x rs s) where
  -- what other objects stand for stays where the locals change
  sorts_with : (ls : LocalsView) (need : Needed) (y : Object) → looked_up (locals_in t ls) s.around.sorts need y ≡ stands_in t o ls need y
  sorts_with ls need (object.Local f n) = local_is (slice_get (locals_in t ls) n)
    where
      local_is : (z : Option (Option Stands)) → known z ≡ known_local z
      local_is None = refl
      local_is (Some None) = refl
      local_is (Some (Some z)) = refl
  sorts_with ls need (object.Package n) = ap (λ (c : Scope). c.sorts need (object.Package n)) has.names
  sorts_with ls need object.Import = ap (λ (c : Scope). c.sorts need object.Import) has.names
  sorts_with ls need (object.Predeclared b) = ap (λ (c : Scope). c.sorts need (object.Predeclared b)) has.names

  names_with_locals : (ls : LocalsView) (s2 : Frame) → s2.locals ≡ locals_in t ls → s2.around ≡ record (s.around) { iota = ls.iota } → scope_of s2 ≡ names_in t o ls
  names_with_locals ls s2 e a =
      ap (λ l. scope_of (record s2 { locals = l })) e
      ∙ ap (λ (c : Scope). let z : Scope = record c { sorts = looked_up (locals_in t ls) c.sorts } in z) a
      ∙ ap (λ f. let z : Scope = record (s.around) { iota = ls.iota; sorts = f } in z) (pointwise (λ need. pointwise (λ y. sorts_with ls need y)))
      ∙ ap (λ (c : Scope). let z : Scope = record c { iota = ls.iota; sorts = stands_in t o ls } in z) has.names

  pub shows_locals : (ls : LocalsView) (s2 : Frame) → s2.locals ≡ locals_in t ls → s2.around ≡ record (s.around) { iota = ls.iota } → s2.types ≡ s.types → s2.source ≡ s.source → s2.tag ≡ s.tag → s2.results ≡ s.results
      → Shows t o (record k { locals = ls }) x rs s2
  shows_locals ls s2 e a ty so ta re = record {
    names = names_with_locals ls s2 e a;
    locals = e;
    source = so ∙ has.source;
    tag = ta ∙ has.tag;
    results = re ∙ has.results;
    types = λ n i is. has.types n i is ∙ ap (λ (f : ℕ → ℕ). declared (f n)) (sym ty);
  }

  iota_is : s.around.iota ≡ k.locals.iota
  iota_is = ap (λ (c : Scope). c.iota) has.names

  around_same : (n : ℕ) → n ≡ k.locals.iota → s.around ≡ record (s.around) { iota = n }
  around_same n e = ap (λ m. let z : Scope = record (s.around) { iota = m } in z) (iota_is ∙ sym e)

  -- a local is declared
  pub shows_declared : (ls : LocalsView) → ls.iota ≡ k.locals.iota → Shows t o (record k { locals = ls }) x rs (record s { locals = locals_in t ls })
  shows_declared ls e = shows_locals ls (record s { locals = locals_in t ls }) refl (around_same ls.iota e) refl refl refl refl

  pub shows_iota : (n : ℕ) → Shows t o (record k { locals = record (k.locals) { iota = n } }) x rs (with_iota n s)
  shows_iota n = shows_locals (record (k.locals) { iota = n }) (with_iota n s) has.locals refl refl refl refl refl

  -- a local is declared as a type
  pub shows_type : (ls : LocalsView) → ls.iota ≡ k.locals.iota → (n i : ℕ) → slice_get o.types.now n ≡ Some (Some i) → locals_in t ls ≡ placed n (Some (IsType (type_of t.shapes i))) (locals_in t k.locals)
      → Shows t o (record k { locals = ls }) x rs (with_local n (IsType (declared (s.types n))) s)
  shows_type ls e n i own is =
      let same : locals_in t ls ≡ placed n (Some (IsType (declared (s.types n)))) s.locals =
      is ∙ ap (λ (y : TypeTree). placed n (Some (IsType y)) (locals_in t k.locals)) (has.types n i own) ∙ ap (placed n (Some (IsType (declared (s.types n))))) (sym has.locals) in
      subst (λ l. Shows t o (record k { locals = ls }) x rs (record s { locals = l })) same (shows_declared ls e)

  pub scope_shown : (c : scopes.Scope) → names t c ≡ names_in t o k.locals → c.locals.now ≡ k.locals → HasScope t c s
  scope_shown c n l = record {
    names = has.names ∙ sym n;
    locals = has.locals ∙ ap (λ (z : LocalsView). locals_in t z) (sym l);
  }

-- ---- what encloses a node stays known behind its parts

pub outer_known : (old new : Table) → IsTable old → Extends old new → (o : Surroundings) (k k2 : State) (x x2 : program.Sort) (rs rs2 : List ℕ) → KnownState old o k x rs → KnownState new o k2 x2 rs2 → KnownState new o k2 x rs
outer_known old new ok e o k k2 x x2 rs rs2 outer inner =
    let there = state_known old new ok e o k x rs outer in
    record {
      around = inner.around;
      locals = inner.locals;
      source = inner.source;
      tag = there.tag;
      results = there.results;
    }

-- `iota` alone changes
module _ (t : Table) (o : Surroundings) (k : State) (x : program.Sort) (rs : List ℕ) (n : ℕ) (ls : LocalsView) (is : ls ≡ record (k.locals) { iota = n }) where
  pub known_iota : KnownState t o k x rs → KnownState t o (record k { locals = ls }) x rs
  known_iota h = subst (λ (l : LocalsView). KnownState t o (record k { locals = l }) x rs) (sym is) (record {
    around = h.around;
    locals = h.locals;
    source = h.source;
    tag = h.tag;
    results = h.results;
  })

  pub shows_with_iota : (s : Frame) → Shows t o (record k { locals = record (k.locals) { iota = n } }) x rs s → Shows t o (record k { locals = ls }) x rs s
  shows_with_iota s has = subst (λ (l : LocalsView). Shows t o (record k { locals = l }) x rs s) (sym is) has
