-- What names outside of bodies call for: declarations at one place of the heads.
use Rattle.std.proofs.Common.{◌≡◌, ◌∙◌, ℕ, suc, ◌+◌, ◌<◌, ◌≤◌, Bool, true, false, List, [], ◌∷◌, ◌++◌, length, Option, Some, None, refl, sym, ap, subst, append_assoc, arith}
use Rattle.std.specs.Prelude.{if◌then◌else◌, ◌&&◌, nat_eq, nat_le, nat_lt, slice_get}
use Rattle.std.proofs.lemmas.Bool.Decides.{nat_tests}
use Rattle.go_tokens.specs.Spellings.{same_text}
use Rattle.go_tokens.specs.Tokens.{kinds}
use Rattle.go_grammar.specs.Grammar.{IsFile}
use Rattle.go_grammar.specs.Trees.{Tree, last, parts}
use Rattle.go_tokens.specs.declared.token.TokenKind.{TokenKind}
use Rattle.go_tree.specs.declared.context.Block.{Block}
use Rattle.go_tree.specs.declared.context.Block.TheVariants as block
use Rattle.go_tree.specs.declared.context.Scope.{Scope}
use Rattle.go_tree.specs.declared.event.Event.{Event}
use Rattle.go_tree.specs.declared.event.Event.TheVariants as event
use Rattle.go_tree.specs.declared.object.Declared.{Declared}
use Rattle.go_tree.specs.declared.object.Extent.{Extent}
use Rattle.go_tree.specs.declared.object.Extent.TheVariants as extent
use Rattle.go_tree.specs.declared.object.Object.{Object}
use Rattle.go_tree.specs.declared.object.Object.TheVariants as object
use Rattle.go_tree.specs.declared.object.Predeclared.{Predeclared}
use Rattle.go_tree.specs.Contexts.{is_package, file_context}
use Rattle.go_tree.specs.Declarations.{Found, is_function, found_in, found_from, found, declarations}
use Rattle.go_tree.specs.Events.{events}
use Rattle.go_tree.specs.Extents.{covers, extent_by, extent_of}
use Rattle.go_tree.specs.Imports.{imports_fmt}
use Rattle.go_tree.specs.Meanings.{Meaning, Numbers, first_numbers, own_number, behind_shared, numbers_behind, numbered, imported_meaning, imported_from, meanings, covering, is_innermost, innermost_of, meaning_at}
use Rattle.go_tree.specs.Objects.{known_object, predeclared_object, object_by}
use Rattle.go_tree.specs.Predeclared.{known_names, known_in}
use Rattle.go_tree.specs.Units as names
use Rattle.go_tree.specs.Units.{is_blank}
use Rattle.go_tree.specs.Uses.{declared_by, declared_in_package}
use Rattle.go_scopes_lookup.specs.Tables.{AreCounted}
use Rattle.go_scopes_lookup.proofs.Public.{uses_own}
use Rattle.go_scopes_events.specs.Orders.{AreInOrder, EachDeclared}
use Rattle.go_scopes_events.specs.Scopes.{IsOrderly, AreOrderly}
use Rattle.go_scopes_events.proofs.Public.{true_false, and_both}
use Rattle.go_heads.specs.Functions.{AreRead}
use Rattle.go_heads.specs.Heads.{File, in_bodies, place_outside}
use Rattle.go_heads.proofs.Public.{same_some, StandFrom, stand_from, count_kinds, Every, every_append, every_new, IsAway, imported_away, IsBodily, locals_bodily}
use Rattle.go_package_defs.specs.Sources.{number_in}
use Rattle.go_heads.specs.Objects.{units_of, package_objects, file_in, text_at, head_place, SameObject, KeepsObjects}
use Rattle.go_heads.specs.Told.{NewName, place_of, file_events, told_outside}
use Rattle.go_heads.specs.Lookups.{AtOnePlace}
use Rattle.go_heads.specs.Meanings.{StandsOutside, KeepsMeanings}
use Rattle.go_heads_types.proofs.Sited.{SourceOut}
use Rattle.go_heads_types.proofs.Looked.{IsLooked, Looked, AreOrdered, all_looked, placed_new, find_new}
use Rattle.go_heads_types.proofs.Same.{number_by, SameSource, SameFound, SameSources, declaration_of}

-- ---- no local covers a token outside of bodies

numbered_away : (n t : ℕ) (k : Numbers) (ds : List Found) → Every (λ d. IsAway n t (extent_of d)) ds → Every (λ m. IsAway n t m.extent) (numbered k ds)
numbered_away n t k [] h = tt
numbered_away n t k (d ∷ ds) h = (h.0, numbered_away n t (numbers_behind k d.it.entity d.it.block) ds h.1)

scope_covers : (n t k : ℕ) (s : Scope) → nat_eq k n ≡ true → (nat_eq k n && nat_le s.from t && nat_lt t s.to) ≡ true → (k ≡ n) × (s.from ≤ t) × (t < s.to)
scope_covers n t k s l h = (grind (arith, nat_tests), grind (arith, nat_tests), grind (arith, nat_tests))

module _ (all : List File) (n t : ℕ) (out : StandsOutside all n t) where
  away_by : (k : ℕ) (f : File) (s : Scope) (b : Block) → file_in all k ≡ f → (is_package b ≡ false → (x : ℕ) → s.from ≤ x → x < s.to → in_bodies (parts f.tree) x ≡ true) → IsAway n t (extent_by k s b)
  away_by k f s block.Package here h e = absurd (true_false false e refl)
  away_by k f s (block.Local i) here h e = by (nat_eq k n && nat_le s.from t && nat_lt t s.to) refl
    where
      by : (c : Bool) → (nat_eq k n && nat_le s.from t && nat_lt t s.to) ≡ c → c ≡ false
      by false g = refl
      by true g =
          let q = scope_covers n t k s e g in
          let in_it : in_bodies (parts f.tree) t ≡ true = h refl t q.1 q.2 in
          let not_in : in_bodies (parts f.tree) t ≡ false = sym (ap (λ (x : File). in_bodies (parts x.tree) t) here) ∙ ap (λ z. in_bodies (parts (file_in all z).tree) t) q.0 ∙ out in
          absurd (true_false (in_bodies (parts f.tree) t) in_it not_in)

  file_away : (k : ℕ) (f : File) → file_in all k ≡ f → (es : List Event) → EachDeclared (IsBodily (in_bodies (parts f.tree))) es → Every (λ d. IsAway n t (extent_of d)) (found_in k f.tokens es)
  file_away k f here [] h = tt
  file_away k f here (event.Declaration d ∷ es) h = (away_by k f d.scope d.block here h.0, file_away k f here es h.1)
  file_away k f here (e ∷ es) h = file_away k f here es h

  all_away : (k : ℕ) (fs : List File) → AreRead fs → StandFrom all k fs → Every (λ d. IsAway n t (extent_of d)) (found_from k (units_of fs))
  all_away k [] h s = tt
  all_away k (f ∷ fs) h s =
      every_append (λ d. IsAway n t (extent_of d)) (found_in k f.tokens (file_events f)) (found_from (suc k) (units_of fs))
      (file_away k f s.0 (file_events f) (locals_bodily (kinds f.tokens.tokens) f.tree h.0.tree)) (all_away (suc k) fs h.1 s.1)

meanings_away : (fs : List File) → AreRead fs → (n t : ℕ) → StandsOutside fs n t → Every (λ m. IsAway n t m.extent) (meanings (units_of fs))
meanings_away fs h n t out =
    let us : List names.Unit = units_of fs in
    every_append (λ m. IsAway n t m.extent) (imported_from 0 us) (numbered first_numbers (declarations us)) (imported_away n t 0 us)
    (numbered_away n t first_numbers (declarations us) (every_new (λ d. IsAway n t (extent_of d)) (found_from 0 us) (found_from 0 us)
    (all_away fs n t out 0 fs h (stand_from fs 0 fs (λ k. let z : 0 + k ≡ k = omega arith in ap (file_in fs) z)))))

-- ---- what meanings are

module _ (fs : List File) where
  -- the object of the package of this number
  pub record IsShared (d : Found) (o : Object) : Type 0 where
    pub number : ℕ
    pub object : o ≡ object.Package number
    pub there : slice_get (package_objects fs) number ≡ Some (declared_by d)
    pub looked : IsLooked fs d

  abbrev ByBlock : Found → Object → Extent → Block → Type 0
  ByBlock d o e block.Package = IsShared d o
  ByBlock d o e (block.Local i) = e ≡ extent.Between d.file d.it.scope

  abbrev BySource : Object → Extent → Option Found → Type 0
  BySource o e None = o ≡ object.Import
  BySource o e (Some d) = ByBlock d o e d.it.block

  abbrev MeantAs : Meaning → Type 0
  MeantAs m = BySource m.object m.extent m.source

  imported_meant : (k : ℕ) (us : List names.Unit) → Every MeantAs (imported_from k us)
  imported_meant k [] = tt
  imported_meant k (u ∷ us) = by (imports_fmt u.tokens u.events) (imported_meant (suc k) us)
    where
      by : (b : Bool) → Every MeantAs (imported_from (suc k) us) → Every MeantAs (if b then imported_meaning k ∷ imported_from (suc k) us else imported_from (suc k) us)
      by true g = (refl, g)
      by false g = g

  at_length : (xs : List Declared) (x : Declared) (ys : List Declared) → slice_get (xs ++ (x ∷ ys)) (length xs) ≡ Some x
  at_length [] x ys = refl
  at_length (z ∷ xs) x ys = at_length xs x ys

  longer : (xs : List Declared) (x : Declared) → suc (length xs) ≡ length (xs ++ (x ∷ []))
  longer [] x = refl
  longer (z ∷ xs) x = ap suc (longer xs x)

  shared_next : (k : Numbers) (b : Bool) → (behind_shared k b).shared ≡ suc k.shared
  shared_next k true = refl
  shared_next k false = refl

  numbered_meant : (k : Numbers) (front : List Declared) (ds : List Found) → k.shared ≡ length front → package_objects fs ≡ front ++ declared_in_package ds → Every (Looked fs) ds → Every MeantAs (numbered k ds)
  numbered_meant k front [] e w h = tt
  numbered_meant k front (d ∷ ds) e w h = (own d.it.block refl, rest d.it.block refl (λ j xs f v. numbered_meant j xs ds f v h.1))
    where
      in_it : Block → List Declared
      in_it b = if is_package b then declared_by d ∷ declared_in_package ds else declared_in_package ds

      own : (b : Block) → d.it.block ≡ b → ByBlock d (own_number k b) (extent_by d.file d.it.scope b) b
      own block.Package g = record {
        number = k.shared;
        object = refl;
        there =
            ap (slice_get (package_objects fs)) e ∙ ap (λ xs. slice_get xs (length front)) (w ∙ ap (λ b. front ++ in_it b) g) ∙ at_length front (declared_by d) (declared_in_package ds);
        looked = h.0 (ap is_package g);
      }
      own (block.Local i) g = refl

      rest : (b : Block) → d.it.block ≡ b → ((j : Numbers) (xs : List Declared) → j.shared ≡ length xs → package_objects fs ≡ xs ++ declared_in_package ds → Every MeantAs (numbered j ds))
          → Every MeantAs (numbered (numbers_behind k d.it.entity b) ds)
      rest block.Package g go =
          go (behind_shared k (is_function d.it.entity)) (front ++ (declared_by d ∷ []))
          (shared_next k (is_function d.it.entity) ∙ ap suc e ∙ longer front (declared_by d))
          (w ∙ ap (λ b. front ++ in_it b) g ∙ sym (append_assoc front (declared_by d ∷ []) (declared_in_package ds)))
      rest (block.Local i) g go = go (numbers_behind k d.it.entity (block.Local i)) front e (w ∙ ap (λ b. front ++ in_it b) g)

  all_meant : AreOrdered fs → AreRead fs → Every MeantAs (meanings (units_of fs))
  all_meant order h =
      let us : List names.Unit = units_of fs in
      every_append MeantAs (imported_from 0 us) (numbered first_numbers (declarations us)) (imported_meant 0 us)
      (numbered_meant first_numbers [] (declarations us) refl refl (every_new (Looked fs) (found us) (found us) (all_looked fs order h)))

-- ---- the meaning at a place

module _ (Q : Meaning → Type 0) (n t : ℕ) (w : List ℕ) where
  abbrev Covers : Meaning → Type 0
  Covers m = Q m × (covers m.extent n t ≡ true)

  covering_all : (ms : List Meaning) → Every Q ms → Every Covers (covering n t w ms)
  covering_all [] h = tt
  covering_all (m ∷ ms) h = by (same_text m.name w && covers m.extent n t) refl (covering_all ms h.1)
    where
      by : (b : Bool) → (same_text m.name w && covers m.extent n t) ≡ b → Every Covers (covering n t w ms) → Every Covers (if b then m ∷ covering n t w ms else covering n t w ms)
      by true e g = ((h.0, (and_both (same_text m.name w) (covers m.extent n t) e).1), g)
      by false e g = g

  abbrev Maybe : Option Meaning → Type 0
  Maybe None = Unit {0}
  Maybe (Some m) = Covers m

  innermost_one : (all ms : List Meaning) → Every Covers ms → Maybe (innermost_of all ms)
  innermost_one all [] h = tt
  innermost_one all (m ∷ ms) h = by (is_innermost m.extent all) (innermost_one all ms h.1)
    where
      by : (b : Bool) → Maybe (innermost_of all ms) → Maybe (if b then Some m else innermost_of all ms)
      by true g = h.0
      by false g = g

  meaning_one : (ms : List Meaning) → Every Q ms → Maybe (meaning_at ms n t w)
  meaning_one ms h = innermost_one (covering n t w ms) (covering n t w ms) (covering_all ms h)

both_every : (Q R : Meaning → Type 0) (ms : List Meaning) → Every Q ms → Every R ms → Every (λ m. Q m × R m) ms
both_every Q R [] h g = tt
both_every Q R (m ∷ ms) h g = ((h.0, g.0), both_every Q R ms h.1 g.1)

no_cover : (n t k : ℕ) (s : Scope) → IsAway n t (extent.Between k s) → covers (extent.Between k s) n t ≡ true → ⊥
no_cover n t k s away c = true_false (covers (extent.Between k s) n t) c (away (and_both (nat_eq k n) (nat_le s.from t) (and_both (nat_eq k n && nat_le s.from t) (nat_lt t s.to) c).0).0)

never_package : (w : List ℕ) (k : ℕ) → predeclared_object w ≡ Some (object.Package k) → ⊥
never_package w k e = by (known_in known_names w) e
  where
    by : (o : Option Predeclared) → known_object o ≡ Some (object.Package k) → ⊥
    by None e = cc
    by (Some x) e = cc

import_package : (k : ℕ) → Some object.Import ≡ Some (object.Package k) → ⊥
import_package k e = cc

same_number : (j k : ℕ) → Some (object.Package j) ≡ Some (object.Package k) → j ≡ k
same_number j k e = cc

-- ---- two packages

pub placed_source : (old new : List File) (p : ℕ → Bool) (q : ℕ → Bool) (n : ℕ) (a b : Option ℕ) → ((s t : ℕ) → p s ≡ false → q t ≡ false → place_outside q t ≡ place_outside p s → AtOnePlace old new n s t)
    → SourceOut p a → SourceOut q b → place_of (place_outside q) b ≡ place_of (place_outside p) a → SameSource old new n a b
placed_source old new p q n None None f x y e = tt
placed_source old new p q n None (Some t) f x y e = cc
placed_source old new p q n (Some s) None f x y e = cc
placed_source old new p q n (Some s) (Some t) f x y e = f s t x y (same_some (place_outside q t) (place_outside p s) e)

abbrev pub AreOrderlyRead : Type 0
AreOrderlyRead = (ts : List TokenKind) (t : Tree) → IsFile ts t → IsOrderly (events (file_context (last t)) t)

abbrev pub OrderRead : Type 0
OrderRead = (ts : List TokenKind) (t : Tree) → IsFile ts t → AreInOrder 0 (last t) (events (file_context (last t)) t)

pub ordered : OrderRead → (fs : List File) → AreOrdered fs
ordered order fs f h = order (kinds f.tokens.tokens) f.tree h.tree

pub orderly : AreOrderlyRead → (fs : List File) → AreRead fs → AreOrderly (units_of fs)
orderly o [] h = tt
orderly o (f ∷ fs) h = (o (kinds f.tokens.tokens) f.tree h.0.tree, orderly o fs h.1)

pub counted : OrderRead → (fs : List File) → AreRead fs → AreCounted (units_of fs)
counted o [] h = tt
counted o (f ∷ fs) h =
    (subst (λ j. AreInOrder 0 j (file_events f)) (h.0.tree.ends ∙ count_kinds f.tokens.tokens) (o (kinds f.tokens.tokens) f.tree h.0.tree), counted o fs h.1)

module _ (read : AreOrderlyRead) (order : OrderRead) (old new : List File) (h : AreRead old) (k : AreRead new) (objects : KeepsObjects old new) (meant : KeepsMeanings old new)
    (tell : (n : ℕ) → told_outside (file_in new n) ≡ told_outside (file_in old n)) where
  number_of : (fs : List File) → AreRead fs → (d : Found) (o : Object) (s : IsShared fs d o) → number_by fs d ≡ Some s.number
  number_of fs g d o s = ap number_in (uses_own (units_of fs) (orderly read fs g) (counted order fs g) (object.Package s.number) (declared_by d) s.there)

  shared_same : (d e : Found) (o : Object) (x : IsShared old d o) (y : IsShared new e o) → SameFound old new d e
  shared_same d e o x y =
      let one : y.number ≡ x.number = same_number y.number x.number (ap (λ z. Some z) (sym y.object ∙ x.object)) in
      let same : SameObject old new (declared_by d) (declared_by e) = objects.objects x.number (declared_by d) (declared_by e) x.there (ap (slice_get (package_objects new)) (sym one) ∙ y.there) in
      let p : ℕ → Bool = in_bodies (parts (file_in old d.file).tree) in
      let q : ℕ → Bool = in_bodies (parts (file_in new d.file).tree) in
      let q_e : ℕ → Bool = in_bodies (parts (file_in new e.file).tree) in
      let told : placed_new q_e e.it ≡ placed_new p d.it =
      same_some (placed_new q_e e.it) (placed_new p d.it) (
      sym y.looked.found
      ∙ ap (λ i. find_new i (told_outside (file_in new e.file))) same.place
      ∙ ap (λ i. find_new (head_place old d.file d.it.name) (told_outside (file_in new i))) same.file
      ∙ ap (find_new (head_place old d.file d.it.name)) (tell d.file)
      ∙ x.looked.found) in
      record {
        file = same.file;
        name = record {
          before = x.looked.outside;
          after = subst (λ i. StandsOutside new i e.it.name) same.file y.looked.outside;
          place = sym (ap (λ i. head_place new i e.it.name) same.file) ∙ same.place;
        };
        source =
            placed_source old new p q d.file d.it.source e.it.source (λ s t a b c. record { before = a; after = b; place = c })
            x.looked.source (subst (λ i. SourceOut (in_bodies (parts (file_in new i).tree)) e.it.source) same.file y.looked.source)
            (sym (ap (λ i. place_of (place_outside (in_bodies (parts (file_in new i).tree))) e.it.source) same.file) ∙ ap (λ (z : NewName). z.source) told);
        column = ap (λ (z : NewName). z.column) told;
        number = number_of new k e o y ∙ ap (λ i. Some i) one ∙ sym (number_of old h d o x);
      }

  -- one in each package
  abbrev Meant : List File → ℕ → ℕ → Option Meaning → Type 0
  Meant fs n t None = Unit {0}
  Meant fs n t (Some m) = (MeantAs fs m × IsAway n t m.extent) × (covers m.extent n t ≡ true)

  blocks_same : (n t u : ℕ) (d e : Found) (o : Object) (x y : Extent) (a b : Block) → ByBlock old d o x a → ByBlock new e o y b → IsAway n t x → IsAway n u y → covers x n t ≡ true → covers y n u ≡ true
      → SameFound old new d e
  blocks_same n t u d e o x y block.Package block.Package g i away off c f = shared_same d e o g i
  blocks_same n t u d e o x y (block.Local a) b g i away off c f = absurd (no_cover n t d.file d.it.scope (subst (IsAway n t) g away) (sym (ap (λ z. covers z n t) g) ∙ c))
  blocks_same n t u d e o x y block.Package (block.Local b) g i away off c f = absurd (no_cover n u e.file e.it.scope (subst (IsAway n u) i off) (sym (ap (λ z. covers z n u) i) ∙ f))

  -- it is an object of the package
  shared_only : (fs : List File) (n t : ℕ) (d : Found) (o : Object) (x : Extent) (b : Block) → ByBlock fs d o x b → IsAway n t x → covers x n t ≡ true → IsShared fs d o
  shared_only fs n t d o x block.Package g away c = g
  shared_only fs n t d o x (block.Local i) g away c = absurd (no_cover n t d.file d.it.scope (subst (IsAway n t) g away) (sym (ap (λ z. covers z n t) g) ∙ c))

  sources_same : (n t u : ℕ) (o q : Object) (x y : Extent) (a b : Option Found) → BySource old o x a → BySource new q y b → IsAway n t x → IsAway n u y → covers x n t ≡ true → covers y n u ≡ true → q ≡ o
      → SameSources old new a b
  sources_same n t u o q x y None None g i away off c f e = tt
  sources_same n t u o q x y None (Some d) g i away off c f e =
      let s = shared_only new n u d q y d.it.block i off f in absurd (import_package s.number (ap (λ z. Some z) (sym g ∙ sym e ∙ s.object)))
  sources_same n t u o q x y (Some d) None g i away off c f e =
      let s = shared_only old n t d o x d.it.block g away c in absurd (import_package s.number (ap (λ z. Some z) (sym i ∙ e ∙ s.object)))
  sources_same n t u o q x y (Some d) (Some z) g i away off c f e =
      blocks_same n t u d z o x y d.it.block z.it.block g (subst (λ a. ByBlock new z a y z.it.block) e i) away off c f

  none_same : (fs : List File) (n t : ℕ) (w : List ℕ) (o : Object) (x : Extent) (a : Option Found) → BySource fs o x a → IsAway n t x → covers x n t ≡ true → predeclared_object w ≡ Some o → a ≡ None
  none_same fs n t w o x None g away c e = refl
  none_same fs n t w o x (Some d) g away c e =
      let s = shared_only fs n t d o x d.it.block g away c in absurd (never_package w s.number (e ∙ ap (λ z. Some z) s.object))

  meanings_same : (n t u : ℕ) (w : List ℕ) (a b : Option Meaning) → Meant old n t a → Meant new n u b → object_by w b ≡ object_by w a → SameSources old new (declaration_of a) (declaration_of b)
  meanings_same n t u w None None x y e = tt
  meanings_same n t u w None (Some m) x y e = subst (SameSources old new None) (sym (none_same new n u w m.object m.extent m.source y.0.0 y.0.1 y.1 (sym e))) tt
  meanings_same n t u w (Some m) None x y e = subst (λ o. SameSources old new o None) (sym (none_same old n t w m.object m.extent m.source x.0.0 x.0.1 x.1 e)) tt
  meanings_same n t u w (Some m) (Some l) x y e =
      sources_same n t u m.object l.object m.extent l.extent m.source l.source x.0.0 y.0.0 x.0.1 y.0.1 x.1 y.1 (same_some l.object m.object e)

  -- what a name calls for that isn't blank
  pub called_same : (n t u : ℕ) → AtOnePlace old new n t u → is_blank (text_at old n t) ≡ false
      → SameSources old new (declaration_of (meaning_at (meanings (units_of old)) n t (text_at old n t))) (declaration_of (meaning_at (meanings (units_of new)) n u (text_at new n u)))
  called_same n t u at e =
      let w : List ℕ = text_at old n t in
      let ms : List Meaning = meanings (units_of old) in
      let ls : List Meaning = meanings (units_of new) in
      let text : text_at new n u ≡ w = meant.text n t u at.before at.after at.place in
      let a : Option Meaning = meaning_at ms n t w in
      let b : Option Meaning = meaning_at ls n u w in
      let old_meant : Meant old n t a =
      meaning_one (λ m. MeantAs old m × IsAway n t m.extent) n t w ms (both_every (MeantAs old) (λ m. IsAway n t m.extent) ms (all_meant old (ordered order old) h) (meanings_away old h n t at.before)) in
      let new_meant : Meant new n u b =
      meaning_one (λ m. MeantAs new m × IsAway n u m.extent) n u w ls (both_every (MeantAs new) (λ m. IsAway n u m.extent) ls (all_meant new (ordered order new) k) (meanings_away new k n u at.after)) in
      let same : object_by w b ≡ object_by w a =
      sym (ap (λ c. if c then None else object_by w b) e)
      ∙ sym (ap (λ z. if is_blank z then None else object_by z (meaning_at ls n u z)) text)
      ∙ meant.meaning n t u at.before at.after at.place
      ∙ ap (λ c. if c then None else object_by w a) e in
      subst (λ z. SameSources old new (declaration_of a) (declaration_of (meaning_at ls n u z))) (sym text) (meanings_same n t u w a b old_meant new_meant same)
