-- What declarations of the package block need is declared in the package block.
use Rattle.std.proofs.Common.{◌≡◌, ◌∙◌, ℕ, suc, ◌+◌, ◌<◌, ◌≤◌, inl, inr, Bool, true, false, ◌&&◌, List, [], ◌∷◌, ◌++◌, map, Option, Some, None, refl, sym, ap, subst, arith}
use Rattle.std.specs.Prelude.{if◌then◌else◌, nat_eq, nat_le, nat_lt, slice_get}
use Rattle.std.specs.List.{AllByRecursion}
use Rattle.std.proofs.lemmas.Bool.Decides.{nat_tests}
use Rattle.go_tokens.specs.Spellings.{same_text}
use Rattle.go_tokens.specs.Tokens.{TokenList, kinds}
use Rattle.go_tokens.specs.declared.token.TokenKind.{TokenKind}
use Rattle.go_grammar.specs.Grammar.{IsFile}
use Rattle.go_grammar.specs.Trees.{parts}
use Rattle.go_tree.specs.declared.context.Block.{Block}
use Rattle.go_tree.specs.declared.context.Block.TheVariants as block
use Rattle.go_tree.specs.declared.context.Scope.{Scope}
use Rattle.go_tree.specs.declared.context.Site.{Site}
use Rattle.go_tree.specs.declared.context.Site.TheVariants as site
use Rattle.go_tree.specs.declared.event.Event.{Event}
use Rattle.go_tree.specs.declared.event.Event.TheVariants as event
use Rattle.go_tree.specs.Contexts.{is_package}
use Rattle.go_tree.specs.Declarations.{Found, declarations, found, found_in, found_from}
use Rattle.go_tree.specs.Extents.{covers, extent_by, extent_of}
use Rattle.go_tree.specs.Imports.{imports_fmt}
use Rattle.go_tree.specs.Lookups.{Asked, asked, asked_in, asked_from}
use Rattle.go_tree.specs.Meanings.{Meaning, Numbers, first_numbers, numbers_behind, numbered, imported_meaning, imported_from, meanings, covering, is_innermost, innermost_of, meaning_at}
use Rattle.go_tree.specs.Needs.{Needed, if_so, is_source, right_way, way, way_by, needed_source, needed_meaning, needs}
use Rattle.go_tree.specs.Units as names
use Rattle.go_tree.specs.Units.{is_blank, word}
use Rattle.go_scopes_events.specs.Orders.{EachDeclared}
use Rattle.go_heads.specs.Heads.{in_bodies}
use Rattle.go_heads.proofs.Public.{IsHeaded, file_headed, IsBodily, locals_bodily}
use Rattle.go_heads_types.proofs.Public.{Agreed, SiteSays, SourceOut, file_agreed}
use Rattle.go_heads_added.specs.Kept.{looked_up}
use Rattle.go_package_defs.specs.Sources.{Source, unit_of}
use Rattle.go_package_settled.specs.Read.{IsFaultless}
use Rattle.go_package_settled.specs.Resolved.{IsIn, package_declarations}
use Rattle.go_package_added.specs.Closed.{in_column, NeedsStayShared}
use Rattle.go_package_added.proofs.Shared.{found_at, new_in}

-- ---- lists

false_true : {A : Type 0} → false ≡ true → A
false_true e = cc

and_left : (a b : Bool) → (a && b) ≡ true → a ≡ true
and_left true b e = refl
and_left false b e = e

and_right : (a b : Bool) → (a && b) ≡ true → b ≡ true
and_right true b e = e
and_right false b e = false_true e

same_number : (x y : ℕ) → nat_eq x y ≡ true → x ≡ y
same_number x y e = grind (arith, e)

both_all : {A : Type 0} (Q : A → Type 0) (xs ys : List A) → AllByRecursion Q xs → AllByRecursion Q ys → AllByRecursion Q (xs ++ ys)
both_all Q [] ys h k = k
both_all Q (x ∷ xs) ys h k = (h.0, both_all Q xs ys h.1 k)

member : (Q : Found → Type 0) (xs : List Found) (d : Found) → AllByRecursion Q xs → IsIn d xs → Q d
member Q [] d h k = absurd k
member Q (x ∷ xs) d h (inl e) = subst Q (sym e) h.0
member Q (x ∷ xs) d h (inr k) = member Q xs d h.1 k

each_member : (Q : Found → Type 0) (xs : List Found) → ((d : Found) → IsIn d xs → Q d) → AllByRecursion Q xs
each_member Q [] f = tt
each_member Q (x ∷ xs) f = (f x (inl refl), each_member Q xs (λ d k. f d (inr k)))

in_shared : (d : Found) (ds : List Found) → IsIn d ds → is_package d.it.block ≡ true → IsIn d (package_declarations ds)
in_shared d [] h e = absurd h
in_shared d (x ∷ ds) (inl q) e =
    subst (λ b. IsIn d (if b then x ∷ package_declarations ds else package_declarations ds)) (sym (ap (λ (z : Found). is_package z.it.block) (sym q) ∙ e)) (inl q)
in_shared d (x ∷ ds) (inr h) e = by (is_package x.it.block) (in_shared d ds h e)
  where
    by : (b : Bool) → IsIn d (package_declarations ds) → IsIn d (if b then x ∷ package_declarations ds else package_declarations ds)
    by true k = inr k
    by false k = k

from_shared : (d : Found) (ds : List Found) → IsIn d (package_declarations ds) → IsIn d ds × (is_package d.it.block ≡ true)
from_shared d [] h = absurd h
from_shared d (x ∷ ds) h = by (is_package x.it.block) refl h (λ k. from_shared d ds k)
  where
    later : IsIn d ds × (is_package d.it.block ≡ true) → IsIn d (x ∷ ds) × (is_package d.it.block ≡ true)
    later k = (inr k.0, k.1)

    by : (b : Bool) → is_package x.it.block ≡ b → IsIn d (if b then x ∷ package_declarations ds else package_declarations ds)
        → (IsIn d (package_declarations ds) → IsIn d ds × (is_package d.it.block ≡ true)) → IsIn d (x ∷ ds) × (is_package d.it.block ≡ true)
    by true e (inl q) f = (inl q, ap (λ (z : Found). is_package z.it.block) q ∙ e)
    by true e (inr k) f = later (f k)
    by false e k f = later (f k)

-- ---- a name outside of bodies that a declaration outside of bodies needs

source_out : (p : ℕ → Bool) (s : ℕ) (o : Option ℕ) → is_source s o ≡ true → SourceOut p o → p s ≡ false
source_out p s None e h = false_true e
source_out p s (Some n) e h = ap p (same_number s n e) ∙ h

none_some : {A : Type 0} (g : Bool) → ◌≡◌ {A = Option Bool} None (Some g) → A
none_some g e = cc

so_true : (b g : Bool) (w : Option Bool) → if_so b w ≡ Some g → b ≡ true
so_true true g w e = refl
so_true false g w e = none_some g e

way_out : (p : ℕ → Bool) (b : Bool) (source : Option ℕ) (own : ℕ) (f g : Bool) (s : Site) → SourceOut p source → SiteSays p b s → way_by source own f s ≡ Some g → b ≡ false
way_out p b source own f g site.Elsewhere o h e = none_some g e
way_out p b source own f g (site.Type s) o h e = sym h ∙ source_out p s source (so_true (is_source s source) g (Some true) e) o
way_out p b source own f g (site.Value s column alone) o h e =
    sym h ∙ source_out p s source (and_left (is_source s source) _ (so_true _ g (Some true) e)) o
way_out p b source own f g (site.Right s r) o h e = sym h ∙ source_out p s source (so_true (is_source s source) g (right_way f r) e) o

-- ---- what a name means

module _ (P : Found → Type 0) where
  abbrev SourceIn : Option Found → Type 0
  SourceIn None = Unit {0}
  SourceIn (Some d) = P d

  abbrev MeaningIn : Option Meaning → Type 0
  MeaningIn None = Unit {0}
  MeaningIn (Some m) = SourceIn m.source

  module _ (n t : ℕ) where
    abbrev CoverIn : Meaning → Type 0
    CoverIn m = covers m.extent n t ≡ true → SourceIn m.source

    covering_in : (w : List ℕ) (ms : List Meaning) → AllByRecursion CoverIn ms → AllByRecursion (λ m. SourceIn m.source) (covering n t w ms)
    covering_in w [] h = tt
    covering_in w (m ∷ ms) h = by (same_text m.name w && covers m.extent n t) refl (covering_in w ms h.1)
      where
        by : (b : Bool) → (same_text m.name w && covers m.extent n t) ≡ b → AllByRecursion (λ m. SourceIn m.source) (covering n t w ms)
            → AllByRecursion (λ m. SourceIn m.source) (if b then m ∷ covering n t w ms else covering n t w ms)
        by true e r = (h.0 (and_right (same_text m.name w) (covers m.extent n t) e), r)
        by false e r = r

    innermost_in : (all ms : List Meaning) → AllByRecursion (λ m. SourceIn m.source) ms → MeaningIn (innermost_of all ms)
    innermost_in all [] h = tt
    innermost_in all (m ∷ ms) h = by (is_innermost m.extent all) (innermost_in all ms h.1)
      where
        by : (b : Bool) → MeaningIn (innermost_of all ms) → MeaningIn (if b then Some m else innermost_of all ms)
        by true r = h.0
        by false r = r

    imported_covers : (k : ℕ) (us : List names.Unit) → AllByRecursion CoverIn (imported_from k us)
    imported_covers k [] = tt
    imported_covers k (u ∷ us) = by (imports_fmt u.tokens u.events) (imported_covers (suc k) us)
      where
        by : (b : Bool) → AllByRecursion CoverIn (imported_from (suc k) us) → AllByRecursion CoverIn (if b then imported_meaning k ∷ imported_from (suc k) us else imported_from (suc k) us)
        by true r = (λ e. tt, r)
        by false r = r

    numbered_covers : (k : Numbers) (ds : List Found) → AllByRecursion (λ d. covers (extent_of d) n t ≡ true → P d) ds → AllByRecursion CoverIn (numbered k ds)
    numbered_covers k [] h = tt
    numbered_covers k (d ∷ ds) h = (h.0, numbered_covers (numbers_behind k d.it.entity d.it.block) ds h.1)

    meaning_in : (us : List names.Unit) → AllByRecursion (λ d. covers (extent_of d) n t ≡ true → P d) (declarations us) → (w : List ℕ) → MeaningIn (meaning_at (meanings us) n t w)
    meaning_in us h w =
        innermost_in (covering n t w (meanings us)) (covering n t w (meanings us))
        (covering_in w (meanings us) (both_all CoverIn (imported_from 0 us) (numbered first_numbers (declarations us)) (imported_covers 0 us) (numbered_covers first_numbers (declarations us) h)))

  -- ---- what is needed

  sourced : (f : Bool) (o : Option Found) (ns : List Needed) → SourceIn o → AllByRecursion (λ y. P y.it) ns → AllByRecursion (λ y. P y.it) (needed_source f o ns)
  sourced f None ns h k = k
  sourced f (Some d) ns h k = (h, k)

  meant : (f : Bool) (m : Option Meaning) (ns : List Needed) → MeaningIn m → AllByRecursion (λ y. P y.it) ns → AllByRecursion (λ y. P y.it) (needed_meaning (Some f) m ns)
  meant f None ns h k = k
  meant f (Some m) ns h k = sourced f m.source ns h k

  module _ (test : ℕ → ℕ → Bool) where
    -- A name that is looked up stands in a specification in a body exactly if it stands in a body itself; and outside of bodies it means such a declaration.
    record IsTold (a : Asked) : Type 0 where
      site : SiteSays (test a.file) (test a.file a.it.name) a.it.site
      meaning : test a.file a.it.name ≡ false → MeaningIn a.meaning

    needs_in : (asks : List Asked) (x : Needed) → AllByRecursion IsTold asks → SourceOut (test x.it.file) x.it.it.source → AllByRecursion (λ y. P y.it) (needs asks x)
    needs_in [] x h o = tt
    needs_in (a ∷ asks) x h o = by_file (nat_eq a.file x.it.file) refl (needs_in asks x h.1 o)
      where
        by_way : (w : Option Bool) → way x.it.it x.full a.it.site ≡ w → a.file ≡ x.it.file → AllByRecursion (λ y. P y.it) (needs asks x) → AllByRecursion (λ y. P y.it) (needed_meaning w a.meaning (needs asks x))
        by_way None e f r = r
        by_way (Some g) e f r =
            meant g a.meaning (needs asks x)
            (h.0.meaning (way_out (test a.file) (test a.file a.it.name) x.it.it.source x.it.it.column x.full g a.it.site (subst (λ n. SourceOut (test n) x.it.it.source) (sym f) o) h.0.site e)) r

        by_file : (b : Bool) → nat_eq a.file x.it.file ≡ b → AllByRecursion (λ y. P y.it) (needs asks x)
            → AllByRecursion (λ y. P y.it) (needed_meaning (if_so b (way x.it.it x.full a.it.site)) a.meaning (needs asks x))
        by_file true e r = by_way (way x.it.it x.full a.it.site) refl (same_number a.file x.it.file e) r
        by_file false e r = r

    asks_told : (ms : List Meaning) → ((n t : ℕ) (w : List ℕ) → test n t ≡ false → MeaningIn (meaning_at ms n t w)) → (n : ℕ) (l : TokenList) (es : List Event) → Agreed (test n) es → AllByRecursion IsTold (asked_in ms n l es)
    asks_told ms f n l [] h = tt
    asks_told ms f n l (event.Use u ∷ es) h = by (is_blank (word l u.name)) (asks_told ms f n l es h.1)
      where
        by : (b : Bool) → AllByRecursion IsTold (asked_in ms n l es) → AllByRecursion IsTold (if b then asked_in ms n l es else asked ms n l u ∷ asked_in ms n l es)
        by true r = r
        by false r = (record { site = h.0; meaning = f n u.name (word l u.name) }, r)
    asks_told ms f n l (event.Declaration d ∷ es) h = asks_told ms f n l es h.1
    asks_told ms f n l (event.Import i ∷ es) h = asks_told ms f n l es h
    asks_told ms f n l (event.Member m c i ∷ es) h = asks_told ms f n l es h
    asks_told ms f n l (event.Bodiless i j ∷ es) h = asks_told ms f n l es h
    asks_told ms f n l (event.Statement i j ∷ es) h = asks_told ms f n l es h
    asks_told ms f n l (event.Misplaced i j ∷ es) h = asks_told ms f n l es h
    asks_told ms f n l (event.SecondDefault i ∷ es) h = asks_told ms f n l es h

-- ---- files

-- what is known of the names of a file by whether tokens stand in bodies
record AreApart (ts : List TokenKind) (p : ℕ → Bool) (es : List Event) : Type 0 where
  headed : EachDeclared (IsHeaded ts p) es
  bodily : EachDeclared (IsBodily p) es
  agreed : Agreed p es

apart : (s : Source) (p : ℕ → Bool) → IsFile (kinds s.tokens.tokens) s.tree → p ≡ in_bodies (parts s.tree) → AreApart (kinds s.tokens.tokens) p (unit_of s).events
apart s p f e =
    let ts = kinds s.tokens.tokens in
    subst (λ q. AreApart ts q (unit_of s).events) (sym e) (record { headed = file_headed ts s.tree f; bodily = locals_bodily ts s.tree f; agreed = file_agreed ts s.tree f })

module _ (test : ℕ → ℕ → Bool) where
  -- A name of the package block has its specification outside of bodies, and the scope of a local lies in one.
  record IsPlaced (d : Found) : Type 0 where
    source : is_package d.it.block ≡ true → SourceOut (test d.file) d.it.source
    scope : IsBodily (test d.file) d.it

  names_placed : (ts : List TokenKind) (n : ℕ) (l : TokenList) (es : List Event) → EachDeclared (IsHeaded ts (test n)) es → EachDeclared (IsBodily (test n)) es → Agreed (test n) es → AllByRecursion IsPlaced (found_in n l es)
  names_placed ts n l [] h b a = tt
  names_placed ts n l (event.Declaration d ∷ es) h b a = (record { source = λ e. (a.0 (h.0 e).1).0; scope = b.0 }, names_placed ts n l es h.1 b.1 a.1)
  names_placed ts n l (event.Use u ∷ es) h b a = names_placed ts n l es h b a.1
  names_placed ts n l (event.Import i ∷ es) h b a = names_placed ts n l es h b a
  names_placed ts n l (event.Member m c i ∷ es) h b a = names_placed ts n l es h b a
  names_placed ts n l (event.Bodiless i j ∷ es) h b a = names_placed ts n l es h b a
  names_placed ts n l (event.Statement i j ∷ es) h b a = names_placed ts n l es h b a
  names_placed ts n l (event.Misplaced i j ∷ es) h b a = names_placed ts n l es h b a
  names_placed ts n l (event.SecondDefault i ∷ es) h b a = names_placed ts n l es h b a

  -- the files, numbered from n on, with their trees and their bodies
  abbrev StandFrom : ℕ → List Source → Type 0
  StandFrom n [] = Unit {0}
  StandFrom n (s ∷ ss) = AreApart (kinds s.tokens.tokens) (test n) (unit_of s).events × StandFrom (suc n) ss

  found_placed : (n : ℕ) (ss : List Source) → StandFrom n ss → AllByRecursion IsPlaced (found_from n (map unit_of ss))
  found_placed n [] h = tt
  found_placed n (s ∷ ss) h =
      both_all IsPlaced (found_in n s.tokens (unit_of s).events) (found_from (suc n) (map unit_of ss))
      (names_placed (kinds s.tokens.tokens) n s.tokens (unit_of s).events h.0.headed h.0.bodily h.0.agreed) (found_placed (suc n) ss h.1)

  files_told : (P : Found → Type 0) (ms : List Meaning) → ((n t : ℕ) (w : List ℕ) → test n t ≡ false → MeaningIn P (meaning_at ms n t w)) → (n : ℕ) (ss : List Source) → StandFrom n ss
      → AllByRecursion (IsTold P test) (asked_from ms n (map unit_of ss))
  files_told P ms f n [] h = tt
  files_told P ms f n (s ∷ ss) h =
      both_all (IsTold P test) (asked_in ms n s.tokens (unit_of s).events) (asked_from ms (suc n) (map unit_of ss))
      (asks_told P test ms f n s.tokens (unit_of s).events h.0.agreed) (files_told P ms f (suc n) ss h.1)

-- ---- a package

-- whether a token of a file stands in the body of a function
abbrev bodies_there : Option Source → ℕ → Bool
bodies_there None = λ t. false
bodies_there (Some s) = in_bodies (parts s.tree)

abbrev bodies_in : List Source → ℕ → ℕ → Bool
bodies_in ss n = bodies_there (slice_get ss n)

stand_from : (all : List Source) (n : ℕ) (ss : List Source) → ((i : ℕ) → slice_get all (n + i) ≡ slice_get ss i) → AllByRecursion (λ (s : Source). IsFile (kinds s.tokens.tokens) s.tree) ss → StandFrom (bodies_in all) n ss
stand_from all n [] f h = tt
stand_from all n (s ∷ ss) f h = (
  apart s (bodies_in all n) h.0 (ap bodies_there (ap (slice_get all) (let z : n ≡ n + 0 = omega arith in z) ∙ f 0)),
  stand_from all (suc n) ss (λ i. ap (slice_get all) (let z : suc n + i ≡ n + suc i = omega arith in z) ∙ f (suc i)) h.1,
)

scope_covers : (n t k : ℕ) (s : Scope) → (nat_eq k n && nat_le s.from t && nat_lt t s.to) ≡ true → (k ≡ n) × (s.from ≤ t) × (t < s.to)
scope_covers n t k s e = (grind (arith, nat_tests), grind (arith, nat_tests), grind (arith, nat_tests))

module _ (ss : List Source) (faultless : IsFaultless ss) where
  abbrev us : List names.Unit
  us = map unit_of ss

  abbrev test : ℕ → ℕ → Bool
  test = bodies_in ss

  abbrev Shared : Found → Type 0
  Shared d = IsIn d (package_declarations (declarations us))

  files : StandFrom test 0 ss
  files = stand_from ss 0 ss (λ i. ap (slice_get ss) (let z : 0 + i ≡ i = omega arith in z)) faultless.trees

  placed : (d : Found) → IsIn d (found us) → IsPlaced test d
  placed d h = member (IsPlaced test) (found us) d (found_placed test 0 ss files) h

  -- outside of bodies no local is in scope
  covers_shared : (n t : ℕ) → test n t ≡ false → (d : Found) → IsIn d (declarations us) → covers (extent_of d) n t ≡ true → Shared d
  covers_shared n t out d h = by d.it.block refl
    where
      by : (b : Block) → d.it.block ≡ b → covers (extent_by d.file d.it.scope b) n t ≡ true → Shared d
      by block.Package e c = in_shared d (declarations us) h (ap is_package e)
      by (block.Local i) e c =
          let q = scope_covers n t d.file d.it.scope c in
          let inside : test d.file t ≡ true = (placed d (new_in (found us) (found us) d h)).scope (ap is_package e) t q.1 q.2 in
          false_true (sym out ∙ ap (λ k. test k t) (sym q.0) ∙ inside)

  told : AllByRecursion (IsTold Shared test) (looked_up us)
  told =
      files_told test Shared (meanings us)
      (λ n t w out. meaning_in Shared n t us (each_member (λ d. covers (extent_of d) n t ≡ true → Shared d) (declarations us) (covers_shared n t out)) w) 0 ss files

  pub needs_stay_shared : NeedsStayShared (map unit_of ss)
  needs_stay_shared = record {
    next =
        λ x w.
        let from = from_shared x.it (declarations us) w in
        needs_in Shared test (looked_up us) x told ((placed x.it (new_in (found us) (found us) x.it from.0)).source from.1);
    at_first = λ m t d e b column full. needs_in Shared test (looked_up us) (in_column d column full) told ((placed d (found_at m t (found us) d e).among).source b);
  }
