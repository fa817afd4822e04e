-- What the names that are looked up outside of functions mean, by the objects of the heads and the imports.
use Rattle.std.proofs.Common.{◌≡◌, ◌∙◌, ℕ, suc, ◌+◌, ◌<◌, ◌≤◌, Bool, true, false, List, [], ◌∷◌, ◌++◌, map, Option, Some, None, refl, sym, ap, arith}
use Rattle.std.specs.Prelude.{if◌then◌else◌, ◌&&◌, nat_eq, nat_le, nat_lt}
use Rattle.std.proofs.lemmas.Bool.Decides.{nat_tests}
use Rattle.go_tokens.specs.Spellings.{same_text}
use Rattle.go_tokens.specs.Tokens.{kinds}
use Rattle.go_grammar.specs.Trees.{parts}
use Rattle.go_tree.specs.declared.context.Block.{Block}
use Rattle.go_tree.specs.declared.context.Block.TheVariants as block
use Rattle.go_tree.specs.declared.context.Scope.{Scope}
use Rattle.go_tree.specs.declared.event.Event.{Event}
use Rattle.go_tree.specs.declared.event.Event.TheVariants as event
use Rattle.go_tree.specs.declared.object.Extent.{Extent}
use Rattle.go_tree.specs.Contexts.{is_package}
use Rattle.go_tree.specs.Declarations.{Found, found_in, found_from, is_function, declarations}
use Rattle.go_tree.specs.Extents.{covers, extent_by, extent_of}
use Rattle.go_tree.specs.Imports.{imports_fmt}
use Rattle.go_tree.specs.Lookups.{is_entity_initial, is_initial}
use Rattle.go_tree.specs.Meanings.{Meaning, Numbers, first_numbers, own_number, behind_shared, numbers_behind, numbered, imported_meaning, imported_from, meanings, meaning_at}
use Rattle.go_tree.specs.Units as names
use Rattle.go_tree.specs.Uses.{declared_by, declared_in_package}
use Rattle.go_scopes_events.specs.Orders.{EachDeclared}
use Rattle.go_scopes_events.specs.Scopes.{is_local, locals_of, first_by, inner, over, inmost, otherwise, reached}
use Rattle.go_scopes_events.specs.Scopes as scopes
use Rattle.go_scopes_events.proofs.Public.{locals_good, meaning_reached, true_false}
use Rattle.go_heads.specs.Functions.{AreRead}
use Rattle.go_heads.specs.Heads.{File, heads, in_bodies}
use Rattle.go_heads.specs.Meanings.{StandsOutside}
use Rattle.go_heads.specs.Objects.{units_of, package_objects, file_in, text_at}
use Rattle.go_heads.specs.Told.{file_events}
use Rattle.go_heads.proofs.Public.{Entry, Every, IsAway, IsBodily, StandFrom, entries_same, entry, every_append, every_new, imported_away, imports_told, locals_bodily, orderly, stand_from}
use Rattle.go_scopes_changes.proofs.Entries.{declared_named}

-- ---- no local covers a token outside of bodies

uncovered : (b c : Bool) (x y : Option Meaning) → c ≡ false → (if b && c then x else y) ≡ y
uncovered true c x y e = ap (λ z. if z then x else y) e
uncovered false c x y e = refl

inmost_away : (n t : ℕ) (w : List ℕ) (ms : List Meaning) → Every (λ m. IsAway n t m.extent) ms → inmost n t w None (locals_of n ms) ≡ None
inmost_away n t w [] h = refl
inmost_away n t w (m ∷ ms) h = by (is_local n m.extent) refl (inmost_away n t w ms h.1)
  where
    by : (b : Bool) → is_local n m.extent ≡ b → inmost n t w None (locals_of n ms) ≡ None → inmost n t w None (if b then m ∷ locals_of n ms else locals_of n ms) ≡ None
    by true e g = ap (λ o. inmost n t w o (locals_of n ms)) (uncovered (same_text m.name w) (covers m.extent n t) (inner None m) None (h.0 e)) ∙ g
    by false e g = g

numbered_away : (n t : ℕ) (k : Numbers) (ds : List Found) → Every (λ d. IsAway n t (extent_of d)) ds → Every (λ m. IsAway n t m.extent) (numbered k ds)
numbered_away n t k [] h = tt
numbered_away n t k (d ∷ ds) h = (h.0, numbered_away n t (numbers_behind k d.it.entity d.it.block) ds h.1)

-- the place that a scope covers
scope_covers : (n t k : ℕ) (s : Scope) → nat_eq k n ≡ true → (nat_eq k n && nat_le s.from t && nat_lt t s.to) ≡ true → (k ≡ n) × (s.from ≤ t) × (t < s.to)
scope_covers n t k s l h = (grind (arith, nat_tests), grind (arith, nat_tests), grind (arith, nat_tests))

module _ (all : List File) (n t : ℕ) (out : StandsOutside all n t) where
  away_by : (k : ℕ) (f : File) (s : Scope) (b : Block) → file_in all k ≡ f → (is_package b ≡ false → (x : ℕ) → s.from ≤ x → x < s.to → in_bodies (parts f.tree) x ≡ true) → IsAway n t (extent_by k s b)
  away_by k f s block.Package here h e = absurd (true_false false e refl)
  away_by k f s (block.Local i) here h e = by (nat_eq k n && nat_le s.from t && nat_lt t s.to) refl
    where
      by : (c : Bool) → (nat_eq k n && nat_le s.from t && nat_lt t s.to) ≡ c → c ≡ false
      by false g = refl
      by true g =
          let q = scope_covers n t k s e g in
          let in_it : in_bodies (parts f.tree) t ≡ true = h refl t q.1 q.2 in
          let not_in : in_bodies (parts f.tree) t ≡ false = sym (ap (λ (x : File). in_bodies (parts x.tree) t) here) ∙ ap (λ z. in_bodies (parts (file_in all z).tree) t) q.0 ∙ out in
          absurd (true_false (in_bodies (parts f.tree) t) in_it not_in)

  file_away : (k : ℕ) (f : File) → file_in all k ≡ f → (es : List Event) → EachDeclared (IsBodily (in_bodies (parts f.tree))) es → Every (λ d. IsAway n t (extent_of d)) (found_in k f.tokens es)
  file_away k f here [] h = tt
  file_away k f here (event.Declaration d ∷ es) h = (away_by k f d.scope d.block here h.0, file_away k f here es h.1)
  file_away k f here (e ∷ es) h = file_away k f here es h

  all_away : (k : ℕ) (fs : List File) → AreRead fs → StandFrom all k fs → Every (λ d. IsAway n t (extent_of d)) (found_from k (units_of fs))
  all_away k [] h s = tt
  all_away k (f ∷ fs) h s =
      every_append (λ d. IsAway n t (extent_of d)) (found_in k f.tokens (file_events f)) (found_from (suc k) (units_of fs))
      (file_away k f s.0 (file_events f) (locals_bodily (kinds f.tokens.tokens) f.tree h.0.tree)) (all_away (suc k) fs h.1 s.1)

-- what a name outside of bodies means
pub meaning_outer : (fs : List File) → AreRead fs → (n t : ℕ) (w : List ℕ) → StandsOutside fs n t
    → meaning_at (meanings (units_of fs)) n t w ≡ otherwise (first_by (scopes.is_import n) w (meanings (units_of fs))) (first_by scopes.is_package w (meanings (units_of fs)))
meaning_outer fs h n t w out =
    let us : List names.Unit = units_of fs in
    let ds : List Found = declarations us in
    let ms : List Meaning = meanings us in
    let stand : StandFrom fs 0 fs = stand_from fs 0 fs (λ k. let z : 0 + k ≡ k = omega arith in ap (file_in fs) z) in
    let away : Every (λ m. IsAway n t m.extent) ms =
    every_append (λ m. IsAway n t m.extent) (imported_from 0 us) (numbered first_numbers ds) (imported_away n t 0 us)
    (numbered_away n t first_numbers ds (every_new (λ d. IsAway n t (extent_of d)) (found_from 0 us) (found_from 0 us) (all_away fs n t out 0 fs h stand))) in
    meaning_reached n t w ms (locals_good us (orderly fs h) n).1
    ∙ ap (λ o. reached o (first_by (scopes.is_import n) w ms) (first_by scopes.is_package w ms)) (inmost_away n t w ms away)

-- ---- the first meaning of a name

pub first_append : (f : Extent → Bool) (w : List ℕ) (xs ys : List Meaning) → first_by f w (xs ++ ys) ≡ otherwise (first_by f w xs) (first_by f w ys)
first_append f w [] ys = refl
first_append f w (x ∷ xs) ys = by (same_text x.name w && f x.extent) (first_append f w xs ys)
  where
    by : (b : Bool) → first_by f w (xs ++ ys) ≡ otherwise (first_by f w xs) (first_by f w ys)
        → (if b then Some x else first_by f w (xs ++ ys)) ≡ otherwise (if b then Some x else first_by f w xs) (first_by f w ys)
    by true e = refl
    by false e = e

pub never : (b : Bool) (x y : Option Meaning) → (if b && false then x else y) ≡ y
never true x y = refl
never false x y = refl

pub imported_none : (w : List ℕ) (k : ℕ) (us : List names.Unit) → first_by scopes.is_package w (imported_from k us) ≡ None
imported_none w k [] = refl
imported_none w k (u ∷ us) = by (imports_fmt u.tokens u.events) (imported_none w (suc k) us)
  where
    by : (b : Bool) → first_by scopes.is_package w (imported_from (suc k) us) ≡ None → first_by scopes.is_package w (if b then imported_meaning k ∷ imported_from (suc k) us else imported_from (suc k) us) ≡ None
    by true e = never (same_text (imported_meaning k).name w) (Some (imported_meaning k)) (first_by scopes.is_package w (imported_from (suc k) us)) ∙ e
    by false e = e

no_import : (n k : ℕ) (s : Scope) (b : Block) → scopes.is_import n (extent_by k s b) ≡ false
no_import n k s block.Package = refl
no_import n k s (block.Local i) = refl

pub numbered_none : (n : ℕ) (w : List ℕ) (k : Numbers) (ds : List Found) → first_by (scopes.is_import n) w (numbered k ds) ≡ None
numbered_none n w k [] = refl
numbered_none n w k (d ∷ ds) =
    uncovered (same_text d.name w) (scopes.is_import n (extent_of d)) (Some (record { name = d.name; extent = extent_of d; object = own_number k d.it.block; source = Some d }))
    (first_by (scopes.is_import n) w (numbered (numbers_behind k d.it.entity d.it.block) ds)) (no_import n d.file d.it.scope d.it.block)
    ∙ numbered_none n w (numbers_behind k d.it.entity d.it.block) ds

pub nothing_else : (o : Option Meaning) → otherwise o None ≡ o
nothing_else None = refl
nothing_else (Some m) = refl

-- whether the first of the objects with this name is a function or a variable
abbrev find_initial : List ℕ → List Entry → Bool
find_initial w [] = false
find_initial w (x ∷ xs) = if same_text x.text w then is_entity_initial x.entity else find_initial w xs

module _ (all : List File) (w : List ℕ) where
  abbrev IsNamed : Found → Type 0
  IsNamed d = d.name ≡ text_at all d.file d.it.name

  abbrev entries : List Found → List Entry
  entries ds = map (entry all) (declared_in_package ds)

  abbrev meaning_by : Found → Numbers → Block → Meaning
  meaning_by d k b = record { name = d.name; extent = extent_by d.file d.it.scope b; object = own_number k b; source = Some d }

  first_initial : (k : Numbers) (ds : List Found) → Every IsNamed ds → is_initial (first_by scopes.is_package w (numbered k ds)) ≡ find_initial w (entries ds)
  first_initial k [] h = refl
  first_initial k (d ∷ ds) h = by d.it.block (λ k. first_initial k ds h.1)
    where
      in_package : (c : Bool) → ((k : Numbers) → is_initial (first_by scopes.is_package w (numbered k ds)) ≡ find_initial w (entries ds))
          → is_initial (if c && true then Some (meaning_by d k block.Package) else first_by scopes.is_package w (numbered (behind_shared k (is_function d.it.entity)) ds))
          ≡ (if c then is_entity_initial d.it.entity else find_initial w (entries ds))
      in_package true g = refl
      in_package false g = g (behind_shared k (is_function d.it.entity))

      by : (b : Block) → ((k : Numbers) → is_initial (first_by scopes.is_package w (numbered k ds)) ≡ find_initial w (entries ds))
          → is_initial (if same_text d.name w && scopes.is_package (extent_by d.file d.it.scope b) then Some (meaning_by d k b) else first_by scopes.is_package w (numbered (numbers_behind k d.it.entity b) ds))
          ≡ find_initial w (map (entry all) (if is_package b then declared_by d ∷ declared_in_package ds else declared_in_package ds))
      by block.Package g = in_package (same_text d.name w) g ∙ ap (λ x. if same_text x w then is_entity_initial d.it.entity else find_initial w (entries ds)) h.0
      by (block.Local i) g =
          ap is_initial (never (same_text d.name w) (Some (meaning_by d k (block.Local i))) (first_by scopes.is_package w (numbered (numbers_behind k d.it.entity (block.Local i)) ds)))
          ∙ g (numbers_behind k d.it.entity (block.Local i))

-- that of the import, else that of the package
abbrev initial_by : Option Meaning → Bool → Bool
initial_by None b = b
initial_by (Some m) b = is_initial (Some m)

initial_either : (i p : Option Meaning) → is_initial (otherwise i p) ≡ initial_by i (is_initial p)
initial_either None p = refl
initial_either (Some m) p = refl

-- whether what a name means outside of functions is a function or a variable
abbrev pub initial_outer : List File → ℕ → List ℕ → Bool
initial_outer fs n w = is_initial (otherwise (first_by (scopes.is_import n) w (meanings (units_of fs))) (first_by scopes.is_package w (meanings (units_of fs))))

initial_reached : (fs : List File) (n : ℕ) (w : List ℕ) → initial_outer fs n w ≡ initial_by (first_by (scopes.is_import n) w (imported_from 0 (units_of fs))) (find_initial w (map (entry fs) (package_objects fs)))
initial_reached fs n w =
    let us : List names.Unit = units_of fs in
    let ds : List Found = declarations us in
    let ms : List Meaning = meanings us in
    let imported : first_by (scopes.is_import n) w ms ≡ first_by (scopes.is_import n) w (imported_from 0 us) =
    first_append (scopes.is_import n) w (imported_from 0 us) (numbered first_numbers ds)
    ∙ ap (otherwise (first_by (scopes.is_import n) w (imported_from 0 us))) (numbered_none n w first_numbers ds)
    ∙ nothing_else (first_by (scopes.is_import n) w (imported_from 0 us)) in
    let shared : is_initial (first_by scopes.is_package w ms) ≡ find_initial w (map (entry fs) (declared_in_package ds)) =
    ap is_initial (first_append scopes.is_package w (imported_from 0 us) (numbered first_numbers ds) ∙ ap (λ o. otherwise o (first_by scopes.is_package w (numbered first_numbers ds))) (imported_none w 0 us))
    ∙ first_initial fs w first_numbers ds (declared_named fs) in
    initial_either (first_by (scopes.is_import n) w ms) (first_by scopes.is_package w ms)
    ∙ ap (λ i. initial_by i (is_initial (first_by scopes.is_package w ms))) imported
    ∙ ap (initial_by (first_by (scopes.is_import n) w (imported_from 0 us))) shared

pub initial_stays : (old new : List File) → AreRead old → AreRead new → heads old ≡ heads new → (n : ℕ) (w : List ℕ) → initial_outer new n w ≡ initial_outer old n w
initial_stays old new h k e n w =
    initial_reached new n w
    ∙ ap (λ ms. initial_by (first_by (scopes.is_import n) w ms) (find_initial w (map (entry new) (package_objects new)))) (imports_told 0 old new h k e)
    ∙ ap (λ xs. initial_by (first_by (scopes.is_import n) w (imported_from 0 (units_of old))) (find_initial w xs)) (entries_same old new h k e)
    ∙ sym (initial_reached old n w)
