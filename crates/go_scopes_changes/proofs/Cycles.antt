-- No declaration of the package needs itself, where none does in a package with an equal head.
use Rattle.std.proofs.Common.{◌≡◌, ◌∙◌, ℕ, zero, suc, ◌+◌, ◌≤◌, inl, inr, ◌⊎◌, Bool, true, false, List, [], ◌∷◌, ◌++◌, map, length, Option, Some, None, refl, sym, ap, subst, arith}
use Rattle.std.specs.Prelude.{if◌then◌else◌, ◌&&◌, ◌||◌, nat_eq, option_map}
use Rattle.std.proofs.lemmas.Bool.Decides.{nat_tests}
use Rattle.std.proofs.lemmas.List.{length-map}
use Rattle.go_tokens.specs.Spellings.{same_text}
use Rattle.go_tree.specs.declared.context.Block.{Block}
use Rattle.go_tree.specs.declared.context.Block.TheVariants as block
use Rattle.go_tree.specs.Contexts.{is_package}
use Rattle.go_tree.specs.Declarations.{Found, found_from, is_function, declarations}
use Rattle.go_tree.specs.Extents.{extent_by}
use Rattle.go_tree.specs.Imports.{imports_fmt}
use Rattle.go_tree.specs.Lookups.{Asked}
use Rattle.go_tree.specs.Meanings.{Meaning, Numbers, first_numbers, own_number, behind_shared, numbers_behind, numbered, imported_meaning, imported_from, meanings, meaning_at}
use Rattle.go_tree.specs.Needs.{Needed, needs, is_same, needs_of, is_among, is_known, with_one, with_all, all_needed, needs_itself, cycles}
use Rattle.go_tree.specs.Units as names
use Rattle.go_tree.specs.Units.{is_blank}
use Rattle.go_scopes_cycles.specs.Closure.{IsDeclared, AreDeclared}
use Rattle.go_scopes_cycles.specs.Columns.{IsSource}
use Rattle.go_scopes_cycles.specs.Needs.{source_of}
use Rattle.go_scopes_events.specs.Scopes.{first_by, otherwise}
use Rattle.go_scopes_events.specs.Scopes as scopes
use Rattle.go_heads.specs.Functions.{AreRead}
use Rattle.go_heads.specs.Heads.{File, Head, head_of, heads}
use Rattle.go_heads.specs.Objects.{units_of, file_in}
use Rattle.go_heads.specs.Told.{Told, declares, asks, told_outside}
use Rattle.go_heads.proofs.Public.{Every, StandFrom, first_same, imports_told, others_same, some_not_none, stand_from}
use Rattle.go_scopes_bodies.specs.Faults.{all_asked, shared}
use Rattle.go_scopes_bodies.proofs.Public.{BoundRounds, NoneItself, cycles_none, enough_rounds, none_cycles}
use Rattle.go_scopes_changes.proofs.Clauses.{TellTheSame}
use Rattle.go_scopes_changes.proofs.HeadNeeds.{HasOut, CallsSo, DeclaresSo, calls, source_calls, head_ask, head_asks, head_asked, head_declared, heads_declared, all_declare, all_needs}
use Rattle.go_scopes_changes.proofs.HeadPlaces.{bodies, at_head, IsOut, NeedsSo, itself_at_head}
use Rattle.go_scopes_changes.proofs.Meant.{first_append, imported_none, meaning_outer, never, nothing_else, numbered_none}
use Rattle.go_scopes_changes.proofs.Pairs.{text_in_head}

-- ---- what a name calls for

-- the first declaration of the name
abbrev first_of : List ℕ → List Found → Option Found
first_of w [] = None
first_of w (d ∷ ds) = if same_text d.name w then Some d else first_of w ds

-- that of the package, unless it is an import's
abbrev unless_imported : Option Meaning → Option Found → Option Found
unless_imported None o = o
unless_imported (Some m) o = None

source_otherwise : (i p : Option Meaning) → source_of i ≡ None → source_of (otherwise i p) ≡ unless_imported i (source_of p)
source_otherwise None p e = refl
source_otherwise (Some m) p e = e

no_import_source : (n k : ℕ) (w : List ℕ) (us : List names.Unit) → source_of (first_by (scopes.is_import n) w (imported_from k us)) ≡ None
no_import_source n k w [] = refl
no_import_source n k w (u ∷ us) = by (imports_fmt u.tokens u.events) (no_import_source n (suc k) w us)
  where
    one : (c : Bool) → source_of (first_by (scopes.is_import n) w (imported_from (suc k) us)) ≡ None → source_of (if c then Some (imported_meaning k) else first_by (scopes.is_import n) w (imported_from (suc k) us)) ≡ None
    one true e = refl
    one false e = e

    by : (b : Bool) → source_of (first_by (scopes.is_import n) w (imported_from (suc k) us)) ≡ None
        → source_of (first_by (scopes.is_import n) w (if b then imported_meaning k ∷ imported_from (suc k) us else imported_from (suc k) us)) ≡ None
    by true e = one (same_text (imported_meaning k).name w && scopes.is_import n (imported_meaning k).extent) e
    by false e = e

module _ (w : List ℕ) where
  abbrev meaning_by : Found → Numbers → Block → Meaning
  meaning_by d k b = record { name = d.name; extent = extent_by d.file d.it.scope b; object = own_number k b; source = Some d }

  -- the first meaning of the package comes from the first declaration in its block
  first_shared : (k : Numbers) (ds : List Found) → source_of (first_by scopes.is_package w (numbered k ds)) ≡ first_of w (shared ds)
  first_shared k [] = refl
  first_shared k (d ∷ ds) = by d.it.block (λ k. first_shared k ds)
    where
      in_package : (c : Bool) → ((k : Numbers) → source_of (first_by scopes.is_package w (numbered k ds)) ≡ first_of w (shared ds))
          → source_of (if c && true then Some (meaning_by d k block.Package) else first_by scopes.is_package w (numbered (behind_shared k (is_function d.it.entity)) ds)) ≡ (if c then Some d else first_of w (shared ds))
      in_package true g = refl
      in_package false g = g (behind_shared k (is_function d.it.entity))

      by : (b : Block) → ((k : Numbers) → source_of (first_by scopes.is_package w (numbered k ds)) ≡ first_of w (shared ds))
          → source_of (if same_text d.name w && scopes.is_package (extent_by d.file d.it.scope b) then Some (meaning_by d k b) else first_by scopes.is_package w (numbered (numbers_behind k d.it.entity b) ds))
          ≡ first_of w (if is_package b then d ∷ shared ds else shared ds)
      by block.Package g = in_package (same_text d.name w) g
      by (block.Local i) g =
          ap source_of (never (same_text d.name w) (Some (meaning_by d k (block.Local i))) (first_by scopes.is_package w (numbered (numbers_behind k d.it.entity (block.Local i)) ds)))
          ∙ g (numbers_behind k d.it.entity (block.Local i))

-- ---- a package

module _ (fs : List File) (h : AreRead fs) where
  abbrev us : List names.Unit
  us = units_of fs

  abbrev ds : List Found
  ds = declarations us

  -- the declarations of the package, and what names call for, by the heads
  abbrev by_heads : List Found
  by_heads = heads_declared 0 fs

  abbrev called_by_heads : ℕ → List ℕ → Option Found
  called_by_heads n w = unless_imported (first_by (scopes.is_import n) w (imported_from 0 us)) (first_of w by_heads)

  abbrev asked_by_heads : List Asked
  asked_by_heads = head_asked called_by_heads 0 fs

  stand : StandFrom fs 0 fs
  stand = stand_from fs 0 fs (λ k. let z : 0 + k ≡ k = omega arith in ap (file_in fs) z)

  declared_so : DeclaresSo fs (shared ds) by_heads
  declared_so = all_declare fs (found_from 0 us) 0 fs stand h

  first_at_head : (w : List ℕ) (xs : List Found) → option_map (at_head fs) (first_of w xs) ≡ first_of w (map (at_head fs) xs)
  first_at_head w [] = refl
  first_at_head w (d ∷ xs) = by (same_text d.name w) (first_at_head w xs)
    where
      by : (b : Bool) → option_map (at_head fs) (first_of w xs) ≡ first_of w (map (at_head fs) xs)
          → option_map (at_head fs) (if b then Some d else first_of w xs) ≡ (if b then Some (at_head fs d) else first_of w (map (at_head fs) xs))
      by true e = refl
      by false e = e

  first_out : (w : List ℕ) (xs : List Found) → Every (IsOut fs) xs → HasOut fs (first_of w xs)
  first_out w [] g = tt
  first_out w (d ∷ xs) g = by (same_text d.name w) (first_out w xs g.1)
    where
      by : (b : Bool) → HasOut fs (first_of w xs) → HasOut fs (if b then Some d else first_of w xs)
      by true k = g.0
      by false k = k

  either_at_head : (i : Option Meaning) (o : Option Found) → option_map (at_head fs) (unless_imported i o) ≡ unless_imported i (option_map (at_head fs) o)
  either_at_head None o = refl
  either_at_head (Some m) o = refl

  either_out : (i : Option Meaning) (o : Option Found) → HasOut fs o → HasOut fs (unless_imported i o)
  either_out None o g = g
  either_out (Some m) o g = tt

  called_so : (n t : ℕ) (w : List ℕ) → bodies fs n t ≡ false → CallsSo fs (called_by_heads n w) (source_of (meaning_at (meanings us) n t w))
  called_so n t w out =
      let ms : List Meaning = meanings us in
      let i : Option Meaning = first_by (scopes.is_import n) w (imported_from 0 us) in
      let imported : first_by (scopes.is_import n) w ms ≡ i =
      first_append (scopes.is_import n) w (imported_from 0 us) (numbered first_numbers ds) ∙ ap (otherwise i) (numbered_none n w first_numbers ds) ∙ nothing_else i in
      let package_one : source_of (first_by scopes.is_package w ms) ≡ first_of w (shared ds) =
      ap source_of (first_append scopes.is_package w (imported_from 0 us) (numbered first_numbers ds) ∙ ap (λ o. otherwise o (first_by scopes.is_package w (numbered first_numbers ds))) (imported_none w 0 us))
      ∙ first_shared w first_numbers ds in
      let source : source_of (meaning_at ms n t w) ≡ unless_imported i (first_of w (shared ds)) =
      ap source_of (meaning_outer fs h n t w out ∙ ap (λ o. otherwise o (first_by scopes.is_package w ms)) imported)
      ∙ source_otherwise i (first_by scopes.is_package w ms) (no_import_source n 0 w us)
      ∙ ap (unless_imported i) package_one in
      record {
        same =
            ap (option_map (at_head fs)) source ∙ either_at_head i (first_of w (shared ds)) ∙ ap (unless_imported i) (first_at_head w (shared ds))
            ∙ ap (λ xs. unless_imported i (first_of w xs)) declared_so.same;
        out = subst (HasOut fs) (sym source) (either_out i (first_of w (shared ds)) (first_out w (shared ds) declared_so.out));
      }

  each_so : (x : Needed) → IsOut fs x.it → NeedsSo fs (all_asked fs) asked_by_heads x
  each_so x o = all_needs fs (meanings us) called_by_heads called_so x o 0 fs stand h

  -- ---- which declarations need themselves

  to_heads : (k : ℕ) (xs : List Found) → Every (IsOut fs) xs → NoneItself (all_asked fs) k xs → NoneItself asked_by_heads k (map (at_head fs) xs)
  to_heads k [] g e = tt
  to_heads k (d ∷ xs) g e = (itself_at_head fs (all_asked fs) asked_by_heads each_so k d g.0 ∙ e.0, to_heads k xs g.1 e.1)

  from_heads : (k : ℕ) (xs : List Found) → Every (IsOut fs) xs → NoneItself asked_by_heads k (map (at_head fs) xs) → NoneItself (all_asked fs) k xs
  from_heads k [] g e = tt
  from_heads k (d ∷ xs) g e = (sym (itself_at_head fs (all_asked fs) asked_by_heads each_so k d g.0) ∙ e.0, from_heads k xs g.1 e.1)

  pub none_by_heads : (k : ℕ) → NoneItself (all_asked fs) k (shared ds) → NoneItself asked_by_heads k by_heads
  none_by_heads k e = subst (NoneItself asked_by_heads k) declared_so.same (to_heads k (shared ds) declared_so.out e)

  pub none_by_tokens : (k : ℕ) → NoneItself asked_by_heads k by_heads → NoneItself (all_asked fs) k (shared ds)
  none_by_tokens k e = from_heads k (shared ds) declared_so.out (subst (NoneItself asked_by_heads k) (sym declared_so.same) e)

  -- ---- all that names call for is declared

  same_itself : (d : Found) → is_same d d ≡ true
  same_itself d = by (nat_eq d.file d.file) (nat_eq d.it.name d.it.name) (one d.file) (one d.it.name)
    where
      one : (n : ℕ) → nat_eq n n ≡ true
      one n = grind (arith, nat_tests)

      by : (a b : Bool) → a ≡ true → b ≡ true → (a && b) ≡ true
      by true b e f = f
      by false b e f = e

  first_declared : (w : List ℕ) (e : Found) (xs : List Found) → first_of w xs ≡ Some e → IsDeclared e xs
  first_declared w e [] q = cc
  first_declared w e (d ∷ xs) q = by (same_text d.name w) q (first_declared w e xs)
    where
      by : (b : Bool) → (if b then Some d else first_of w xs) ≡ Some e → (first_of w xs ≡ Some e → IsDeclared e xs) → (is_same e d ≡ true) ⊎ IsDeclared e xs
      by true q go = inl (let one : d ≡ e = cc in ap (is_same e) one ∙ same_itself e)
      by false q go = inr (go q)

  call_declared : (i : Option Meaning) (w : List ℕ) (e : Found) → unless_imported i (first_of w by_heads) ≡ Some e → IsDeclared e by_heads
  call_declared None w e q = first_declared w e by_heads q
  call_declared (Some m) w e q = cc

  asks_declared : (n : ℕ) (w : ℕ → List ℕ) (e : Found) (ts : List Told) → IsSource e (head_asks n w (called_by_heads n) ts) → IsDeclared e by_heads
  asks_declared n w e [] s = absurd s
  asks_declared n w e (declares x ∷ ts) s = asks_declared n w e ts s
  asks_declared n w e (asks a ∷ ts) s = by (is_blank (w a.name)) s (asks_declared n w e ts)
    where
      one : (source_of (calls (called_by_heads n (w a.name))) ≡ Some e) ⊎ IsSource e (head_asks n w (called_by_heads n) ts) → (IsSource e (head_asks n w (called_by_heads n) ts) → IsDeclared e by_heads) → IsDeclared e by_heads
      one (inl q) go = call_declared (first_by (scopes.is_import n) (w a.name) (imported_from 0 us)) (w a.name) e (sym (source_calls (called_by_heads n (w a.name))) ∙ q)
      one (inr q) go = go q

      by : (b : Bool) → IsSource e (if b then head_asks n w (called_by_heads n) ts else head_ask n w (called_by_heads n) a ∷ head_asks n w (called_by_heads n) ts)
          → (IsSource e (head_asks n w (called_by_heads n) ts) → IsDeclared e by_heads) → IsDeclared e by_heads
      by true s go = go s
      by false s go = one s go

  source_left : (e : Found) (xs ys : List Asked) → IsSource e (xs ++ ys) → IsSource e xs ⊎ IsSource e ys
  source_left e [] ys s = inr s
  source_left e (a ∷ xs) ys (inl q) = inl (inl q)
  source_left e (a ∷ xs) ys (inr s) = by (source_left e xs ys s)
    where
      by : IsSource e xs ⊎ IsSource e ys → IsSource e (a ∷ xs) ⊎ IsSource e ys
      by (inl q) = inl (inr q)
      by (inr q) = inr q

  all_declared : (e : Found) (n : ℕ) (gs : List File) → IsSource e (head_asked called_by_heads n gs) → IsDeclared e by_heads
  all_declared e n [] s = absurd s
  all_declared e n (g ∷ gs) s = by (source_left e (head_asks n (text_in_head (head_of g)) (called_by_heads n) (told_outside g)) (head_asked called_by_heads (suc n) gs) s) (all_declared e (suc n) gs)
    where
      by : IsSource e (head_asks n (text_in_head (head_of g)) (called_by_heads n) (told_outside g)) ⊎ IsSource e (head_asked called_by_heads (suc n) gs) → (IsSource e (head_asked called_by_heads (suc n) gs) → IsDeclared e by_heads)
          → IsDeclared e by_heads
      by (inl q) go = asks_declared n (text_in_head (head_of g)) e (told_outside g) q
      by (inr q) go = go q

  pub heads_declare : AreDeclared asked_by_heads by_heads
  heads_declare e s = all_declared e 0 fs s

-- ---- fewer rounds

among_more : (x : Found) (xs ys : List Needed) → is_among x xs ≡ true → is_among x (xs ++ ys) ≡ true
among_more x [] ys h = cc
among_more x (z ∷ zs) ys h = by (is_same x z.it) h (among_more x zs ys)
  where
    by : (b : Bool) → (b || is_among x zs) ≡ true → (is_among x zs ≡ true → is_among x (zs ++ ys) ≡ true) → (b || is_among x (zs ++ ys)) ≡ true
    by true h go = refl
    by false h go = go h

among_one : (x : Found) (y : Needed) (xs : List Needed) → is_among x xs ≡ true → is_among x (with_one y xs) ≡ true
among_one x y xs h = by (is_known y xs)
  where
    by : (b : Bool) → is_among x (if b then xs else xs ++ y ∷ []) ≡ true
    by true = h
    by false = among_more x xs (y ∷ []) h

among_all : (x : Found) (ys xs : List Needed) → is_among x xs ≡ true → is_among x (with_all ys xs) ≡ true
among_all x [] xs h = h
among_all x (y ∷ ys) xs h = among_all x ys (with_one y xs) (among_one x y xs h)

later_rounds : (looked : List Asked) (j k : ℕ) (x : Found) (xs : List Needed) → j ≤ k → is_among x (all_needed looked j xs) ≡ true → is_among x (all_needed looked k xs) ≡ true
later_rounds looked zero zero x xs le h = h
later_rounds looked zero (suc k) x xs le h = later_rounds looked zero k x (with_all (needs_of looked xs) xs) (omega arith) (among_all x (needs_of looked xs) xs h)
later_rounds looked (suc j) zero x xs le h = absurd (omega (arith, le))
later_rounds looked (suc j) (suc k) x xs le h = later_rounds looked j k x (with_all (needs_of looked xs) xs) (omega (arith, le)) h

itself_later : (looked : List Asked) (j k : ℕ) (d : Found) → j ≤ k → needs_itself looked k d ≡ false → needs_itself looked j d ≡ false
itself_later looked j k d le e = by (needs_itself looked j d) refl
  where
    by : (b : Bool) → needs_itself looked j d ≡ b → b ≡ false
    by true h = let z : true ≡ false = sym (later_rounds looked j k d (with_all (needs looked (record { it = d; full = false })) []) le h) ∙ e in cc
    by false h = refl

fewer_rounds : (looked : List Asked) (j k : ℕ) (xs : List Found) → j ≤ k → NoneItself looked k xs → NoneItself looked j xs
fewer_rounds looked j k [] le h = tt
fewer_rounds looked j k (d ∷ xs) le h = (itself_later looked j k d le h.0, fewer_rounds looked j k xs le h.1)

-- ---- two packages

module _ (tell : TellTheSame) where
  declared_same : (n : ℕ) (old new : List File) → AreRead old → AreRead new → heads old ≡ heads new → heads_declared n new ≡ heads_declared n old
  declared_same n [] [] h k e = refl
  declared_same n [] (b ∷ bs) h k e = absurd (some_not_none (head_of b) (heads bs) (sym e))
  declared_same n (a ∷ xs) [] h k e = absurd (some_not_none (head_of a) (heads xs) e)
  declared_same n (a ∷ xs) (b ∷ bs) h k e =
      let same : head_of a ≡ head_of b = first_same (head_of a) (head_of b) (heads xs) (heads bs) e in
      ap (λ (x : Head). head_declared n (text_in_head x) (told_outside b) ++ heads_declared (suc n) bs) (sym same)
      ∙ ap (λ ts. head_declared n (text_in_head (head_of a)) ts ++ heads_declared (suc n) bs) (tell a b h.0 k.0 same)
      ∙ ap (λ zs. head_declared n (text_in_head (head_of a)) (told_outside a) ++ zs) (declared_same (suc n) xs bs h.1 k.1 (others_same (head_of a) (head_of b) (heads xs) (heads bs) e))

  asked_same : (call : ℕ → List ℕ → Option Found) (n : ℕ) (old new : List File) → AreRead old → AreRead new → heads old ≡ heads new → head_asked call n new ≡ head_asked call n old
  asked_same call n [] [] h k e = refl
  asked_same call n [] (b ∷ bs) h k e = absurd (some_not_none (head_of b) (heads bs) (sym e))
  asked_same call n (a ∷ xs) [] h k e = absurd (some_not_none (head_of a) (heads xs) e)
  asked_same call n (a ∷ xs) (b ∷ bs) h k e =
      let same : head_of a ≡ head_of b = first_same (head_of a) (head_of b) (heads xs) (heads bs) e in
      ap (λ (x : Head). head_asks n (text_in_head x) (call n) (told_outside b) ++ head_asked call (suc n) bs) (sym same)
      ∙ ap (λ ts. head_asks n (text_in_head (head_of a)) (call n) ts ++ head_asked call (suc n) bs) (tell a b h.0 k.0 same)
      ∙ ap (λ zs. head_asks n (text_in_head (head_of a)) (call n) (told_outside a) ++ zs) (asked_same call (suc n) xs bs h.1 k.1 (others_same (head_of a) (head_of b) (heads xs) (heads bs) e))

  module _ (old new : List File) (h : AreRead old) (k : AreRead new) (e : heads old ≡ heads new) where
    calls_same : (n : ℕ) (w : List ℕ) → called_by_heads new k n w ≡ called_by_heads old h n w
    calls_same n w =
        ap (λ ms. unless_imported (first_by (scopes.is_import n) w ms) (first_of w (heads_declared 0 new))) (imports_told 0 old new h k e)
        ∙ ap (λ xs. unless_imported (first_by (scopes.is_import n) w (imported_from 0 (units_of old))) (first_of w xs)) (declared_same 0 old new h k e)

    asked_alike : asked_by_heads new k ≡ asked_by_heads old h
    asked_alike = ap (λ call. head_asked call 0 new) (λ i n w. calls_same n w i) ∙ asked_same (called_by_heads old h) 0 old new h k e

    pub cycles_stay : BoundRounds → (r s : ℕ) → length (shared (declarations (units_of old))) + length (shared (declarations (units_of old))) ≤ r
        → cycles (all_asked old) r (shared (declarations (units_of old))) ≡ [] → cycles (all_asked new) s (shared (declarations (units_of new))) ≡ []
    cycles_stay law r s enough none =
        let xs : List Found = heads_declared 0 old in
        let asks : List Asked = asked_by_heads old h in
        let at : map (at_head old) (shared (declarations (units_of old))) ≡ xs = (declared_so old h).same in
        let many : length xs ≡ length (shared (declarations (units_of old))) = ap length (sym at) ∙ length-map (shared (declarations (units_of old))) (at_head old) in
        let before : NoneItself asks r xs = none_by_heads old h r (cycles_none (all_asked old) r (shared (declarations (units_of old))) none) in
        let twice : NoneItself asks (length xs + length xs) xs = fewer_rounds asks (length xs + length xs) r xs (omega (arith, enough, many)) before in
        let ever : NoneItself asks s xs = enough_rounds law asks xs (heads_declare old h) twice s in
        none_cycles (all_asked new) s (shared (declarations (units_of new)))
        (none_by_tokens new k s (subst (λ ys. NoneItself (asked_by_heads new k) s ys) (sym (declared_same 0 old new h k e)) (subst (λ zs. NoneItself zs s xs) (sym asked_alike) ever)))

-- ---- as many rounds as there are declarations

pub shared_fewer : (ds : List Found) → length (shared ds) ≤ length ds
shared_fewer [] = omega arith
shared_fewer (d ∷ ds) = by (is_package d.it.block) (shared_fewer ds)
  where
    by : (b : Bool) → length (shared ds) ≤ length ds → length (if b then d ∷ shared ds else shared ds) ≤ suc (length ds)
    by true h = omega (arith, h)
    by false h = omega (arith, h)
