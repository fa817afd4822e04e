-- Names outside of bodies mean the same in packages with equal heads.
use Rattle.std.proofs.Common.{◌≡◌, ◌∙◌, ℕ, zero, suc, ◌+◌, ◌<◌, ◌≤◌, Bool, true, false, List, [], ◌∷◌, ◌++◌, map, Option, Some, None, refl, sym, ap, subst, arith}
use Rattle.std.specs.Prelude.{if◌then◌else◌, ◌&&◌, nat_eq, nat_le, nat_lt, slice_get, option_map}
use Rattle.std.proofs.lemmas.Bool.Decides.{nat_tests}
use Rattle.go_tokens.specs.declared.token.TokenKind.{TokenKind}
use Rattle.go_tokens.specs.Spellings.{same_text}
use Rattle.go_tokens.specs.Tokens.{kinds}
use Rattle.go_grammar.specs.declared.kind.Category.TheVariants as category
use Rattle.go_grammar.specs.Trees.{last, parts}
use Rattle.go_tree.specs.declared.context.Block.{Block}
use Rattle.go_tree.specs.declared.context.Block.TheVariants as block
use Rattle.go_tree.specs.declared.context.Scope.{Scope}
use Rattle.go_tree.specs.declared.event.Event.{Event}
use Rattle.go_tree.specs.declared.event.Event.TheVariants as event
use Rattle.go_tree.specs.declared.object.Extent.{Extent}
use Rattle.go_tree.specs.declared.object.Object.{Object}
use Rattle.go_tree.specs.declared.object.Object.TheVariants as object
use Rattle.go_tree.specs.Contexts.{is_package, file_context}
use Rattle.go_tree.specs.Declarations.{Found, found_in, found_from, is_function, is_new, new_among, declarations}
use Rattle.go_tree.specs.Events.{events}
use Rattle.go_tree.specs.Extents.{covers, extent_by, extent_of}
use Rattle.go_tree.specs.Imports.{imports_fmt}
use Rattle.go_tree.specs.Meanings.{Meaning, Numbers, first_numbers, own_number, behind_shared, numbers_behind, numbered, imported_meaning, imported_from, meanings}
use Rattle.go_tree.specs.Objects.{predeclared_object, object_by, object_at}
use Rattle.go_tree.specs.Units.{word, is_blank}
use Rattle.go_tree.specs.Units as names
use Rattle.go_tree.specs.Uses.{declared_by, declared_in_package}
use Rattle.go_scopes_events.specs.Orders.{AreInOrder, EachDeclared}
use Rattle.go_scopes_events.specs.Scopes.{is_local, locals_of, first_by, inner, over, inmost, otherwise, reached, IsOrderly, AreOrderly}
use Rattle.go_scopes_events.specs.Scopes as scopes
use Rattle.go_scopes_events.proofs.Public.{meaning_reached, true_false, derives_layered, locals_good, file_nested, file_follows, file_behind, derives_laid, events_order}
use Rattle.go_heads.specs.Functions.{AreRead}
use Rattle.go_heads.specs.Heads.{File, IsRead, Head, head_of, heads, in_bodies}
use Rattle.go_heads.proofs.Files.{first_same, others_same, some_not_none}
use Rattle.go_heads.specs.Meanings.{StandsOutside, meant_at, KeepsMeanings}
use Rattle.go_heads.specs.Objects.{units_of, package_objects, file_in, text_at, head_place}
use Rattle.go_heads.specs.Told.{file_events}
pub use Rattle.go_heads.proofs.Fresh.{Every, every_append}
use Rattle.go_heads.proofs.Imports.{imports_same}
use Rattle.go_heads.proofs.Objects.{Entry, entry, head_text, text_there, head_word, StandFrom, stand_from, entries_same}
use Rattle.go_heads.proofs.Scopes.{IsBodily, locals_bodily}

-- ---- lists

pub every_new : (Q : Found → Type 0) (all ds : List Found) → Every Q ds → Every Q (new_among all ds)
every_new Q all [] h = tt
every_new Q all (d ∷ ds) h = by (is_new all d) (every_new Q all ds h.1)
  where
    by : (b : Bool) → Every Q (new_among all ds) → Every Q (if b then d ∷ new_among all ds else new_among all ds)
    by true g = (h.0, g)
    by false g = g

-- ---- what reads a file

pub orderly : (fs : List File) → AreRead fs → AreOrderly (units_of fs)
orderly [] h = tt
orderly (f ∷ fs) h = (one f h.0, orderly fs h.1)
  where
    one : (f : File) → IsRead f → IsOrderly (file_events f)
    one f h =
        let ts : List TokenKind = kinds f.tokens.tokens in
        let laid = derives_laid ts f.tree category.File h.tree.derives in
        let layered = derives_layered ts f.tree category.File h.tree.derives in
        record {
          end = last f.tree;
          order = subst (λ i. AreInOrder i (last f.tree) (events (file_context (last f.tree)) f.tree)) h.tree.begins (events_order (file_context (last f.tree)) f.tree laid);
          nest = (file_nested f.tree layered laid).nest;
          follow = file_follows f.tree layered laid;
          behind = file_behind ts f.tree h.tree;
        }

-- ---- no local covers a token outside of bodies

abbrev pub IsAway : ℕ → ℕ → Extent → Type 0
IsAway n t e = is_local n e ≡ true → covers e n t ≡ false

pub uncovered : (b c : Bool) (x y : Option Meaning) → c ≡ false → (if b && c then x else y) ≡ y
uncovered true c x y e = ap (λ z. if z then x else y) e
uncovered false c x y e = refl

inmost_away : (n t : ℕ) (w : List ℕ) (ms : List Meaning) → Every (λ m. IsAway n t m.extent) ms → inmost n t w None (locals_of n ms) ≡ None
inmost_away n t w [] h = refl
inmost_away n t w (m ∷ ms) h = by (is_local n m.extent) refl (inmost_away n t w ms h.1)
  where
    by : (b : Bool) → is_local n m.extent ≡ b → inmost n t w None (locals_of n ms) ≡ None → inmost n t w None (if b then m ∷ locals_of n ms else locals_of n ms) ≡ None
    by true e g = ap (λ o. inmost n t w o (locals_of n ms)) (uncovered (same_text m.name w) (covers m.extent n t) (inner None m) None (h.0 e)) ∙ g
    by false e g = g

pub imported_away : (n t k : ℕ) (us : List names.Unit) → Every (λ m. IsAway n t m.extent) (imported_from k us)
imported_away n t k [] = tt
imported_away n t k (u ∷ us) = by (imports_fmt u.tokens u.events) (imported_away n t (suc k) us)
  where
    by : (b : Bool) → Every (λ m. IsAway n t m.extent) (imported_from (suc k) us) → Every (λ m. IsAway n t m.extent) (if b then imported_meaning k ∷ imported_from (suc k) us else imported_from (suc k) us)
    by true g = (λ e. absurd (true_false false e refl), g)
    by false g = g

numbered_away : (n t : ℕ) (k : Numbers) (ds : List Found) → Every (λ d. IsAway n t (extent_of d)) ds → Every (λ m. IsAway n t m.extent) (numbered k ds)
numbered_away n t k [] h = tt
numbered_away n t k (d ∷ ds) h = (h.0, numbered_away n t (numbers_behind k d.it.entity d.it.block) ds h.1)

-- the place that a scope covers
scope_covers : (n t k : ℕ) (s : Scope) → nat_eq k n ≡ true → (nat_eq k n && nat_le s.from t && nat_lt t s.to) ≡ true → (k ≡ n) × (s.from ≤ t) × (t < s.to)
scope_covers n t k s l h = (grind (arith, nat_tests), grind (arith, nat_tests), grind (arith, nat_tests))

module _ (all : List File) (n t : ℕ) (out : StandsOutside all n t) where
  away_by : (k : ℕ) (f : File) (s : Scope) (b : Block) → file_in all k ≡ f → (is_package b ≡ false → (x : ℕ) → s.from ≤ x → x < s.to → in_bodies (parts f.tree) x ≡ true) → IsAway n t (extent_by k s b)
  away_by k f s block.Package here h e = absurd (true_false false e refl)
  away_by k f s (block.Local i) here h e = by (nat_eq k n && nat_le s.from t && nat_lt t s.to) refl
    where
      by : (c : Bool) → (nat_eq k n && nat_le s.from t && nat_lt t s.to) ≡ c → c ≡ false
      by false g = refl
      by true g =
          let q = scope_covers n t k s e g in
          let in_it : in_bodies (parts f.tree) t ≡ true = h refl t q.1 q.2 in
          let not_in : in_bodies (parts f.tree) t ≡ false = sym (ap (λ (x : File). in_bodies (parts x.tree) t) here) ∙ ap (λ z. in_bodies (parts (file_in all z).tree) t) q.0 ∙ out in
          absurd (true_false (in_bodies (parts f.tree) t) in_it not_in)

  file_away : (k : ℕ) (f : File) → file_in all k ≡ f → (es : List Event) → EachDeclared (IsBodily (in_bodies (parts f.tree))) es → Every (λ d. IsAway n t (extent_of d)) (found_in k f.tokens es)
  file_away k f here [] h = tt
  file_away k f here (event.Declaration d ∷ es) h = (away_by k f d.scope d.block here h.0, file_away k f here es h.1)
  file_away k f here (e ∷ es) h = file_away k f here es h

  all_away : (k : ℕ) (fs : List File) → AreRead fs → StandFrom all k fs → Every (λ d. IsAway n t (extent_of d)) (found_from k (units_of fs))
  all_away k [] h s = tt
  all_away k (f ∷ fs) h s =
      every_append (λ d. IsAway n t (extent_of d)) (found_in k f.tokens (file_events f)) (found_from (suc k) (units_of fs))
      (file_away k f s.0 (file_events f) (locals_bodily (kinds f.tokens.tokens) f.tree h.0.tree)) (all_away (suc k) fs h.1 s.1)

-- ---- the first meaning of a name

first_append : (f : Extent → Bool) (w : List ℕ) (xs ys : List Meaning) → first_by f w (xs ++ ys) ≡ otherwise (first_by f w xs) (first_by f w ys)
first_append f w [] ys = refl
first_append f w (x ∷ xs) ys = by (same_text x.name w && f x.extent) (first_append f w xs ys)
  where
    by : (b : Bool) → first_by f w (xs ++ ys) ≡ otherwise (first_by f w xs) (first_by f w ys)
        → (if b then Some x else first_by f w (xs ++ ys)) ≡ otherwise (if b then Some x else first_by f w xs) (first_by f w ys)
    by true e = refl
    by false e = e

never : (b : Bool) (x y : Option Meaning) → (if b && false then x else y) ≡ y
never true x y = refl
never false x y = refl

imported_none : (w : List ℕ) (k : ℕ) (us : List names.Unit) → first_by scopes.is_package w (imported_from k us) ≡ None
imported_none w k [] = refl
imported_none w k (u ∷ us) = by (imports_fmt u.tokens u.events) (imported_none w (suc k) us)
  where
    by : (b : Bool) → first_by scopes.is_package w (imported_from (suc k) us) ≡ None → first_by scopes.is_package w (if b then imported_meaning k ∷ imported_from (suc k) us else imported_from (suc k) us) ≡ None
    by true e = never (same_text (imported_meaning k).name w) (Some (imported_meaning k)) (first_by scopes.is_package w (imported_from (suc k) us)) ∙ e
    by false e = e

no_import : (n k : ℕ) (s : Scope) (b : Block) → scopes.is_import n (extent_by k s b) ≡ false
no_import n k s block.Package = refl
no_import n k s (block.Local i) = refl

numbered_none : (n : ℕ) (w : List ℕ) (k : Numbers) (ds : List Found) → first_by (scopes.is_import n) w (numbered k ds) ≡ None
numbered_none n w k [] = refl
numbered_none n w k (d ∷ ds) =
    uncovered (same_text d.name w) (scopes.is_import n (extent_of d)) (Some (record { name = d.name; extent = extent_of d; object = own_number k d.it.block; source = Some d })) (first_by (scopes.is_import n) w (numbered (numbers_behind k d.it.entity d.it.block) ds)) (no_import n d.file d.it.scope d.it.block)
    ∙ numbered_none n w (numbers_behind k d.it.entity d.it.block) ds

-- the object of the package that has this name, where the first of these has the number k
abbrev pub find : ℕ → List ℕ → List Entry → Option Object
find k w [] = None
find k w (x ∷ xs) = if same_text x.text w then Some (object.Package k) else find (suc k) w xs

abbrev object_in : Option Meaning → Option Object
object_in o = option_map (λ (m : Meaning). m.object) o

shared_next : (k : Numbers) (b : Bool) → (behind_shared k b).shared ≡ suc k.shared
shared_next k true = refl
shared_next k false = refl

module _ (all : List File) where
  abbrev IsNamed : Found → Type 0
  IsNamed d = d.name ≡ text_at all d.file d.it.name

  file_named : (k : ℕ) (f : File) → file_in all k ≡ f → (es : List Event) → Every IsNamed (found_in k f.tokens es)
  file_named k f here [] = tt
  file_named k f here (event.Declaration d ∷ es) = (ap (λ (x : File). word x.tokens d.name) (sym here), file_named k f here es)
  file_named k f here (e ∷ es) = file_named k f here es

  all_named : (k : ℕ) (fs : List File) → StandFrom all k fs → Every IsNamed (found_from k (units_of fs))
  all_named k [] s = tt
  all_named k (f ∷ fs) s = every_append IsNamed (found_in k f.tokens (file_events f)) (found_from (suc k) (units_of fs)) (file_named k f s.0 (file_events f)) (all_named (suc k) fs s.1)

  module _ (w : List ℕ) where
    abbrev meaning_by : Found → Numbers → Block → Meaning
    meaning_by d k b = record { name = d.name; extent = extent_by d.file d.it.scope b; object = own_number k b; source = Some d }

    abbrev rest_of : List Found → List Entry
    rest_of ds = map (entry all) (declared_in_package ds)

    first_found : (k : Numbers) (ds : List Found) → Every IsNamed ds → object_in (first_by scopes.is_package w (numbered k ds)) ≡ find k.shared w (map (entry all) (declared_in_package ds))
    first_found k [] h = refl
    first_found k (d ∷ ds) h = by d.it.block (λ k. first_found k ds h.1)
      where
        in_package : (c : Bool) → ((k : Numbers) → object_in (first_by scopes.is_package w (numbered k ds)) ≡ find k.shared w (rest_of ds))
            → object_in (if c && true then Some (meaning_by d k block.Package) else first_by scopes.is_package w (numbered (behind_shared k (is_function d.it.entity)) ds)) ≡ (if c then Some (object.Package k.shared) else find (suc k.shared) w (rest_of ds))
        in_package true g = refl
        in_package false g = g (behind_shared k (is_function d.it.entity)) ∙ ap (λ z. find z w (rest_of ds)) (shared_next k (is_function d.it.entity))

        by : (b : Block) → ((k : Numbers) → object_in (first_by scopes.is_package w (numbered k ds)) ≡ find k.shared w (rest_of ds))
            → object_in (if same_text d.name w && scopes.is_package (extent_by d.file d.it.scope b) then Some (meaning_by d k b) else first_by scopes.is_package w (numbered (numbers_behind k d.it.entity b) ds))
            ≡ find k.shared w (map (entry all) (if is_package b then declared_by d ∷ declared_in_package ds else declared_in_package ds))
        by block.Package g = in_package (same_text d.name w) g ∙ ap (λ x. if same_text x w then Some (object.Package k.shared) else find (suc k.shared) w (rest_of ds)) h.0
        by (block.Local i) g =
            ap object_in (never (same_text d.name w) (Some (meaning_by d k (block.Local i))) (first_by scopes.is_package w (numbered (numbers_behind k d.it.entity (block.Local i)) ds)))
            ∙ g (numbers_behind k d.it.entity (block.Local i))

-- ---- what a name means outside of bodies

abbrev pub outer_object : List ℕ → Option Meaning → Option Object → Option Object
outer_object w (Some a) o = Some a.object
outer_object w None None = predeclared_object w
outer_object w None (Some x) = Some x

by_outer : (w : List ℕ) (i p : Option Meaning) → object_by w (otherwise i p) ≡ outer_object w i (object_in p)
by_outer w (Some a) p = refl
by_outer w None None = refl
by_outer w None (Some m) = refl

nothing_else : (o : Option Meaning) → otherwise o None ≡ o
nothing_else None = refl
nothing_else (Some m) = refl

-- the object of a local meaning, else another
abbrev pub local_object : Option Meaning → Option Object → Option Object
local_object None o = o
local_object (Some m) o = Some m.object

local_reached : (w : List ℕ) (l i p : Option Meaning) → object_by w (reached l i p) ≡ local_object l (object_by w (otherwise i p))
local_reached w None i p = refl
local_reached w (Some m) i p = refl

abbrev pub meant_by : ℕ → List ℕ → Option Meaning → List Meaning → List Entry → Option Object
meant_by n w local imports objects = if is_blank w then None else local_object local (outer_object w (first_by (scopes.is_import n) w imports) (find 0 w objects))

-- what a name means where no local does: what is imported in the file, else what the package declares
pub outer_reached : (fs : List File) (n : ℕ) (w : List ℕ)
    → object_by w (otherwise (first_by (scopes.is_import n) w (meanings (units_of fs))) (first_by scopes.is_package w (meanings (units_of fs))))
    ≡ outer_object w (first_by (scopes.is_import n) w (imported_from 0 (units_of fs))) (find 0 w (map (entry fs) (package_objects fs)))
outer_reached fs n w =
    let us : List names.Unit = units_of fs in
    let ds : List Found = declarations us in
    let ms : List Meaning = meanings us in
    let stand : StandFrom fs 0 fs = stand_from fs 0 fs (λ k. let z : 0 + k ≡ k = omega arith in ap (file_in fs) z) in
    let imported : first_by (scopes.is_import n) w ms ≡ first_by (scopes.is_import n) w (imported_from 0 us) =
    first_append (scopes.is_import n) w (imported_from 0 us) (numbered first_numbers ds)
    ∙ ap (otherwise (first_by (scopes.is_import n) w (imported_from 0 us))) (numbered_none n w first_numbers ds)
    ∙ nothing_else (first_by (scopes.is_import n) w (imported_from 0 us)) in
    let shared : object_in (first_by scopes.is_package w ms) ≡ find 0 w (map (entry fs) (declared_in_package ds)) =
    ap object_in (first_append scopes.is_package w (imported_from 0 us) (numbered first_numbers ds) ∙ ap (λ o. otherwise o (first_by scopes.is_package w (numbered first_numbers ds))) (imported_none w 0 us))
    ∙ first_found fs w first_numbers ds (every_new (IsNamed fs) (found_from 0 us) (found_from 0 us) (all_named fs 0 fs stand)) in
    by_outer w (first_by (scopes.is_import n) w ms) (first_by scopes.is_package w ms)
    ∙ ap (λ i. outer_object w i (object_in (first_by scopes.is_package w ms))) imported
    ∙ ap (outer_object w (first_by (scopes.is_import n) w (imported_from 0 us))) shared

-- a local meaning, else what the name means where no local does
pub meant_reached : (fs : List File) → AreRead fs → (n t : ℕ) (w : List ℕ)
    → object_at (meanings (units_of fs)) n t w ≡ meant_by n w (inmost n t w None (locals_of n (meanings (units_of fs)))) (imported_from 0 (units_of fs)) (map (entry fs) (package_objects fs))
meant_reached fs h n t w =
    let us : List names.Unit = units_of fs in
    let ms : List Meaning = meanings us in
    let local : Option Meaning = inmost n t w None (locals_of n ms) in
    ap (λ o. if is_blank w then None else object_by w o) (meaning_reached n t w ms (locals_good us (orderly fs h) n).1)
    ∙ ap (λ o. if is_blank w then None else o) (local_reached w local (first_by (scopes.is_import n) w ms) (first_by scopes.is_package w ms) ∙ ap (local_object local) (outer_reached fs n w))

meant_outside : (fs : List File) → AreRead fs → (n t : ℕ) → StandsOutside fs n t → meant_at fs n t ≡ meant_by n (text_at fs n t) None (imported_from 0 (units_of fs)) (map (entry fs) (package_objects fs))
meant_outside fs h n t out =
    let us : List names.Unit = units_of fs in
    let w : List ℕ = text_at fs n t in
    let ds : List Found = declarations us in
    let stand : StandFrom fs 0 fs = stand_from fs 0 fs (λ k. let z : 0 + k ≡ k = omega arith in ap (file_in fs) z) in
    let away : Every (λ m. IsAway n t m.extent) (meanings us) =
    every_append (λ m. IsAway n t m.extent) (imported_from 0 us) (numbered first_numbers ds) (imported_away n t 0 us)
    (numbered_away n t first_numbers ds (every_new (λ d. IsAway n t (extent_of d)) (found_from 0 us) (found_from 0 us) (all_away fs n t out 0 fs h stand))) in
    meant_reached fs h n t w ∙ ap (λ o. meant_by n w o (imported_from 0 us) (map (entry fs) (package_objects fs))) (inmost_away n t w (meanings us) away)

-- ---- two packages

pub imports_told : (k : ℕ) (old new : List File) → AreRead old → AreRead new → heads old ≡ heads new → imported_from k (units_of new) ≡ imported_from k (units_of old)
imports_told k [] [] h g e = refl
imports_told k [] (b ∷ bs) h g e = absurd (some_not_none (head_of b) (heads bs) (sym e))
imports_told k (a ∷ xs) [] h g e = absurd (some_not_none (head_of a) (heads xs) e)
imports_told k (a ∷ xs) (b ∷ bs) h g e =
    ap (λ z. if z then imported_meaning k ∷ imported_from (suc k) (units_of bs) else imported_from (suc k) (units_of bs)) (imports_same a b h.0 g.0 (first_same (head_of a) (head_of b) (heads xs) (heads bs) e))
    ∙ ap (λ ms. if imports_fmt a.tokens (file_events a) then imported_meaning k ∷ ms else ms) (imports_told (suc k) xs bs h.1 g.1 (others_same (head_of a) (head_of b) (heads xs) (heads bs) e))

head_at : (old new : List File) → heads old ≡ heads new → (n : ℕ) → head_of (file_in new n) ≡ head_of (file_in old n)
head_at [] [] e n = refl
head_at [] (b ∷ bs) e n = absurd (some_not_none (head_of b) (heads bs) (sym e))
head_at (a ∷ xs) [] e n = absurd (some_not_none (head_of a) (heads xs) e)
head_at (a ∷ xs) (b ∷ bs) e zero = sym (first_same (head_of a) (head_of b) (heads xs) (heads bs) e)
head_at (a ∷ xs) (b ∷ bs) e (suc n) = head_at xs bs (others_same (head_of a) (head_of b) (heads xs) (heads bs) e) n

text_same : (old new : List File) → heads old ≡ heads new → (n t u : ℕ) → StandsOutside old n t → StandsOutside new n u → head_place new n u ≡ head_place old n t → text_at new n u ≡ text_at old n t
text_same old new e n t u x y same =
    sym (head_word (file_in new n) u y)
    ∙ ap (head_text (file_in new n)) same
    ∙ ap (λ (z : Head). text_there (slice_get z.texts (head_place old n t))) (head_at old new e n)
    ∙ head_word (file_in old n) t x

pub meanings_kept : (old new : List File) → AreRead old → AreRead new → heads old ≡ heads new → KeepsMeanings old new
meanings_kept old new h k e = record {
  text = text_same old new e;
  meaning =
      λ n t u x y same.
      meant_outside new k n u y
      ∙ ap (λ w. meant_by n w None (imported_from 0 (units_of new)) (map (entry new) (package_objects new))) (text_same old new e n t u x y same)
      ∙ ap (λ ms. meant_by n (text_at old n t) None ms (map (entry new) (package_objects new))) (imports_told 0 old new h k e)
      ∙ ap (meant_by n (text_at old n t) None (imported_from 0 (units_of old))) (entries_same old new h k e)
      ∙ sym (meant_outside old h n t x);
}
