-- The names that are looked up in a package, and the declarations that they call for.
use Rattle.std.proofs.Common.{◌≡◌, ◌∙◌, ℕ, zero, suc, ◌+◌, ◌≤◌, ◌⊎◌, inl, inr, Bool, true, false, ◌&&◌, List, [], ◌∷◌, ◌++◌, Option, Some, None, refl, sym, ap, subst, arith}
use Rattle.std.specs.Prelude.{slice_get, if◌then◌else◌, not}
use Rattle.std.proofs.lemmas.Bool.{eq-eqb}
use Rattle.go_tokens.specs.Tokens.{TokenList}
use Rattle.go_tokens.specs.Spellings.{same_text}
use Rattle.go_tree.specs.declared.context.Block.{Block}
use Rattle.go_tree.specs.declared.context.Block.TheVariants as block
use Rattle.go_tree.specs.declared.context.Manner.{Manner}
use Rattle.go_tree.specs.declared.context.Manner.TheVariants as manner
use Rattle.go_tree.specs.declared.context.Site.{Site}
use Rattle.go_tree.specs.declared.event.Declaration.{Declaration}
use Rattle.go_tree.specs.declared.event.Use.{Use}
use Rattle.go_tree.specs.declared.event.Event.{Event}
use Rattle.go_tree.specs.declared.event.Event.TheVariants as event
use Rattle.go_tree.specs.declared.object.Object.{Object}
use Rattle.go_tree.specs.declared.object.Object.TheVariants as object
use Rattle.go_tree.specs.declared.object.Predeclared.{Predeclared}
use Rattle.go_tree.specs.Contexts.{is_package}
use Rattle.go_tree.specs.Declarations.{Found, found_in, found_from, found, is_function, is_reused, may_be_reused, is_new, new_among, declarations}
use Rattle.go_tree.specs.Extents.{covers}
use Rattle.go_tree.specs.Imports.{imports_fmt}
use Rattle.go_tree.specs.Lookups.{Asked, asked, asked_in, asked_from}
use Rattle.go_tree.specs.Meanings.{Meaning, Numbers, first_numbers, own_number, behind_shared, numbers_behind, declared_meaning, numbered, imported_meaning, imported_from, meanings, covering, is_innermost, innermost_of, meaning_at}
use Rattle.go_tree.specs.Needs.{is_same}
use Rattle.go_tree.specs.Objects.{known_object, object_by, object_at, own_object, token_object}
use Rattle.go_tree.specs.Predeclared.{known_names, known_in}
use Rattle.go_tree.specs.Units as names
use Rattle.go_tree.specs.Units.{word, is_blank, bytes_at}
use Rattle.go_scopes_events.specs.Orders.{AreInOrder}
use Rattle.go_scopes_events.specs.Scopes.{AreOrderly}
use Rattle.go_scopes_cycles.specs.Columns.{IsSource}
use Rattle.go_scopes_cycles.specs.Needs.{source_of}
use Rattle.go_package_defs.specs.Sources.{number_in}
use Rattle.go_package_settled.specs.Resolved.{IsIn, package_declarations}
use Rattle.go_package_settled.proofs.Looking.{AnyUsed, IsUse, LocalsApart}
use Rattle.go_package_settled.proofs.Resolving.{distinct, follow_found, new_in}
use Rattle.go_package_settled.proofs.Tokens.{Tells, imports_aside, lesser_name, local_number, local_own, orderly_at, token_told}

-- ---- a token that is looked up

used_behind : (S : Site → Type 0) (t i j : ℕ) (es : List Event) → AreInOrder i j es → AnyUsed (IsUse S t) es → i ≤ t
used_behind S t i j [] o h = absurd h
used_behind S t i j (event.Use u ∷ es) o (inl h) = let a = o.0 in let e = h.name in omega (arith, a, e)
used_behind S t i j (event.Use u ∷ es) o (inr h) = let a = o.0 in let r = used_behind S t (suc u.name) j es o.1 h in omega (arith, a, r)
used_behind S t i j (event.Declaration d ∷ es) o h = let a = o.0 in let r = used_behind S t (suc d.name) j es o.1 h in omega (arith, a, r)
used_behind S t i j (e ∷ es) o h = used_behind S t i j es o h

pub token_used : (ms : List Meaning) (n : ℕ) (ts : TokenList) (S : Site → Type 0) (t i j : ℕ) (es : List Event) → AreInOrder i j es → AnyUsed (IsUse S t) es → token_object ms n ts t es ≡ object_at ms n t (word ts t)
token_used ms n ts S t i j [] o h = absurd h
token_used ms n ts S t i j (event.Use u ∷ es) o (inl h) = ap (λ b. if b then object_at ms n t (word ts t) else token_object ms n ts t es) (eq-eqb u.name t h.name)
token_used ms n ts S t i j (event.Use u ∷ es) o (inr h) =
    let r = used_behind S t (suc u.name) j es o.1 h in
    ap (λ b. if b then object_at ms n t (word ts t) else token_object ms n ts t es) (lesser_name u.name t (omega (arith, r))) ∙ token_used ms n ts S t (suc u.name) j es o.1 h
token_used ms n ts S t i j (event.Declaration d ∷ es) o h =
    let r = used_behind S t (suc d.name) j es o.1 h in
    ap (λ b. if b then own_object n t (word ts t) ms ms else token_object ms n ts t es) (lesser_name d.name t (omega (arith, r))) ∙ token_used ms n ts S t (suc d.name) j es o.1 h
token_used ms n ts S t i j (e ∷ es) o h = token_used ms n ts S t i j es o h

-- ---- the names that are looked up

abbrev pub IsAskedIn : Asked → List Asked → Type 0
IsAskedIn a [] = ⊥
IsAskedIn a (x ∷ asks) = (a ≡ x) ⊎ IsAskedIn a asks

pub called_source : (a : Asked) (d : Found) (asks : List Asked) → source_of a.meaning ≡ Some d → IsAskedIn a asks → IsSource d asks
called_source a d [] e h = absurd h
called_source a d (x ∷ asks) e (inl s) = inl (subst (λ (y : Asked). source_of y.meaning ≡ Some d) s e)
called_source a d (x ∷ asks) e (inr h) = inr (called_source a d asks e h)

asked_front : (a : Asked) (xs ys : List Asked) → IsAskedIn a xs → IsAskedIn a (xs ++ ys)
asked_front a [] ys h = absurd h
asked_front a (x ∷ xs) ys (inl e) = inl e
asked_front a (x ∷ xs) ys (inr h) = inr (asked_front a xs ys h)

asked_behind : (a : Asked) (xs ys : List Asked) → IsAskedIn a ys → IsAskedIn a (xs ++ ys)
asked_behind a [] ys h = h
asked_behind a (x ∷ xs) ys h = inr (asked_behind a xs ys h)

asked_split : (a : Asked) (xs ys : List Asked) → IsAskedIn a (xs ++ ys) → IsAskedIn a xs ⊎ IsAskedIn a ys
asked_split a [] ys h = inr h
asked_split a (x ∷ xs) ys (inl e) = inl (inl e)
asked_split a (x ∷ xs) ys (inr h) = more (asked_split a xs ys h)
  where
    more : IsAskedIn a xs ⊎ IsAskedIn a ys → IsAskedIn a (x ∷ xs) ⊎ IsAskedIn a ys
    more (inl k) = inl (inr k)
    more (inr k) = inr k

-- The use is asked.
pub record IsAskedUse (ms : List Meaning) (n : ℕ) (ts : TokenList) (S : Site → Type 0) (t : ℕ) (asks : List Asked) : Type 0 where
  pub it : Use
  pub found : IsUse S t it
  pub among : IsAskedIn (asked ms n ts it) asks

pub asked_use : (ms : List Meaning) (n : ℕ) (ts : TokenList) (S : Site → Type 0) (t : ℕ) (es : List Event) → is_blank (word ts t) ≡ false → AnyUsed (IsUse S t) es → IsAskedUse ms n ts S t (asked_in ms n ts es)
asked_use ms n ts S t [] b h = absurd h
asked_use ms n ts S t (event.Use u ∷ es) b (inl h) =
    let blank : is_blank (word ts u.name) ≡ false = ap (λ i. is_blank (word ts i)) h.name ∙ b in
    record { it = u; found = h; among = subst (λ x. IsAskedIn (asked ms n ts u) (if x then asked_in ms n ts es else asked ms n ts u ∷ asked_in ms n ts es)) (sym blank) (inl refl) }
asked_use ms n ts S t (event.Use u ∷ es) b (inr h) =
    let r = asked_use ms n ts S t es b h in
    record { it = r.it; found = r.found; among = later (is_blank (word ts u.name)) (asked ms n ts u) (asked ms n ts r.it) (asked_in ms n ts es) r.among }
  where
    later : (x : Bool) (a c : Asked) (asks : List Asked) → IsAskedIn c asks → IsAskedIn c (if x then asks else a ∷ asks)
    later true a c asks k = k
    later false a c asks k = inr k
asked_use ms n ts S t (e ∷ es) b h = asked_use ms n ts S t es b h

some_unit : (a b : names.Unit) → ◌≡◌ {A = Option names.Unit} (Some a) (Some b) → a ≡ b
some_unit a b e = cc

pub asked_at : (ms : List Meaning) (k : ℕ) (us : List names.Unit) (i : ℕ) (u : names.Unit) (a : Asked) → slice_get us i ≡ Some u → IsAskedIn a (asked_in ms (k + i) u.tokens u.events) → IsAskedIn a (asked_from ms k us)
asked_at ms k [] i u a e h = absurd cc
asked_at ms k (x ∷ us) zero u a e h =
    let none : k + 0 ≡ k = omega arith in
    asked_front a (asked_in ms k x.tokens x.events) (asked_from ms (suc k) us)
    (subst (λ m. IsAskedIn a (asked_in ms m x.tokens x.events)) none (subst (λ (y : names.Unit). IsAskedIn a (asked_in ms (k + 0) y.tokens y.events)) (sym (some_unit x u e)) h))
asked_at ms k (x ∷ us) (suc i) u a e h =
    let next : k + suc i ≡ suc k + i = omega arith in
    asked_behind a (asked_in ms k x.tokens x.events) (asked_from ms (suc k) us) (asked_at ms (suc k) us i u a e (subst (λ m. IsAskedIn a (asked_in ms m u.tokens u.events)) next h))

-- the file that a name is looked up in tells of it
abbrev pub UsesIt : Use → List Event → Type 0
UsesIt x [] = ⊥
UsesIt x (event.Use u ∷ es) = (x ≡ u) ⊎ UsesIt x es
UsesIt x (e ∷ es) = UsesIt x es

pub record IsAskedOf (k : ℕ) (us : List names.Unit) (a : Asked) : Type 0 where
  pub number : ℕ
  pub unit : names.Unit
  pub there : slice_get us number ≡ Some unit
  pub file : a.file ≡ k + number
  pub uses : UsesIt a.it unit.events

use_of : (ms : List Meaning) (n : ℕ) (ts : TokenList) (es : List Event) (a : Asked) → IsAskedIn a (asked_in ms n ts es) → (a.file ≡ n) × UsesIt a.it es
use_of ms n ts [] a h = absurd h
use_of ms n ts (event.Use u ∷ es) a h = by (is_blank (word ts u.name)) h (λ k. use_of ms n ts es a k)
  where
    by : (x : Bool) → IsAskedIn a (if x then asked_in ms n ts es else asked ms n ts u ∷ asked_in ms n ts es) → (IsAskedIn a (asked_in ms n ts es) → (a.file ≡ n) × UsesIt a.it es) → (a.file ≡ n) × UsesIt a.it (event.Use u ∷ es)
    by true k f = let r = f k in (r.0, inr r.1)
    by false (inl e) f = (ap (λ (y : Asked). y.file) e, inl (ap (λ (y : Asked). y.it) e))
    by false (inr k) f = let r = f k in (r.0, inr r.1)
use_of ms n ts (e ∷ es) a h = use_of ms n ts es a h

pub asked_of : (ms : List Meaning) (k : ℕ) (us : List names.Unit) (a : Asked) → IsAskedIn a (asked_from ms k us) → IsAskedOf k us a
asked_of ms k [] a h = absurd h
asked_of ms k (u ∷ us) a h = by (asked_split a (asked_in ms k u.tokens u.events) (asked_from ms (suc k) us) h) (λ q. asked_of ms (suc k) us a q)
  where
    by : IsAskedIn a (asked_in ms k u.tokens u.events) ⊎ IsAskedIn a (asked_from ms (suc k) us) → (IsAskedIn a (asked_from ms (suc k) us) → IsAskedOf (suc k) us a) → IsAskedOf k (u ∷ us) a
    by (inl q) f =
        let r = use_of ms k u.tokens u.events a q in
        let none : k ≡ k + 0 = omega arith in
        record { number = 0; unit = u; there = refl; file = r.0 ∙ none; uses = r.1 }
    by (inr q) f =
        let r = f q in
        let next : suc k + r.number ≡ k + suc r.number = omega arith in
        record { number = suc r.number; unit = r.unit; there = r.there; file = r.file ∙ next; uses = r.uses }

-- ---- meanings

abbrev IsMeaning : Meaning → List Meaning → Type 0
IsMeaning m [] = ⊥
IsMeaning m (x ∷ ms) = (m ≡ x) ⊎ IsMeaning m ms

some_meaning : (a b : Meaning) → ◌≡◌ {A = Option Meaning} (Some a) (Some b) → b ≡ a
some_meaning a b e = cc

covering_in : (n t : ℕ) (w : List ℕ) (ms : List Meaning) (m : Meaning) → IsMeaning m (covering n t w ms) → IsMeaning m ms
covering_in n t w [] m h = absurd h
covering_in n t w (x ∷ ms) m h = by (same_text x.name w && covers x.extent n t) h (λ k. covering_in n t w ms m k)
  where
    by : (b : Bool) → IsMeaning m (if b then x ∷ covering n t w ms else covering n t w ms) → (IsMeaning m (covering n t w ms) → IsMeaning m ms) → IsMeaning m (x ∷ ms)
    by true (inl e) f = inl e
    by true (inr k) f = inr (f k)
    by false k f = inr (f k)

innermost_in : (all ms : List Meaning) (m : Meaning) → innermost_of all ms ≡ Some m → IsMeaning m ms
innermost_in all [] m e = absurd cc
innermost_in all (x ∷ ms) m e = by (is_innermost x.extent all) e (λ k. innermost_in all ms m k)
  where
    by : (b : Bool) → (if b then Some x else innermost_of all ms) ≡ Some m → (innermost_of all ms ≡ Some m → IsMeaning m ms) → IsMeaning m (x ∷ ms)
    by true k f = inl (some_meaning x m k)
    by false k f = inr (f k)

-- The meaning of an object of the package comes from the declaration of its number.
pub record IsNumbered (ds : List Found) (m : Meaning) (k : ℕ) : Type 0 where
  pub declared : Found
  pub source : m.source ≡ Some declared
  pub there : slice_get (package_declarations ds) k ≡ Some declared

same_package : (m n : ℕ) → ◌≡◌ {A = Object} (object.Package m) (object.Package n) → m ≡ n
same_package m n e = ap number e
  where
    number : Object → ℕ
    number (object.Package k) = k
    number o = 0

shared_next : (k : Numbers) (b : Bool) → (behind_shared k b).shared ≡ suc k.shared
shared_next k true = refl
shared_next k false = refl

-- the number behind the first ones
record IsBehind (from : ℕ) (ds : List Found) (m : Meaning) (k : ℕ) : Type 0 where
  step : ℕ
  sum : k ≡ from + step
  it : IsNumbered ds m step

numbered_by : (k : Numbers) (d : Found) (ds : List Found) (m : Meaning) (n : ℕ) (b : Block) → d.it.block ≡ b → m.object ≡ object.Package n → (m ≡ declared_meaning d (own_number k d.it.block)) ⊎ IsMeaning m (numbered (numbers_behind k d.it.entity d.it.block) ds)
    → ((q : Numbers) → IsMeaning m (numbered q ds) → IsBehind q.shared ds m n) → IsBehind k.shared (d ∷ ds) m n
numbered_by k d ds m n block.Package e g (inl h) f =
    let same : object.Package n ≡ object.Package k.shared = sym g ∙ ap (λ (y : Meaning). y.object) h ∙ ap (own_number k) e in
    let zeroth : k.shared ≡ k.shared + 0 = omega arith in
    record {
      step = 0;
      sum = same_package n k.shared same ∙ zeroth;
      it = record { declared = d; source = ap (λ (y : Meaning). y.source) h; there = ap (λ b. slice_get (if is_package b then d ∷ package_declarations ds else package_declarations ds) 0) e };
    }
numbered_by k d ds m n block.Package e g (inr h) f =
    let r = f (numbers_behind k d.it.entity d.it.block) h in
    let next : (numbers_behind k d.it.entity d.it.block).shared ≡ suc k.shared = ap (λ b. (numbers_behind k d.it.entity b).shared) e ∙ shared_next k (is_function d.it.entity) in
    let sum = r.sum in
    let total : n ≡ k.shared + suc r.step = omega (arith, sum, next) in
    record {
      step = suc r.step;
      sum = total;
      it = record { declared = r.it.declared; source = r.it.source; there = ap (λ b. slice_get (if is_package b then d ∷ package_declarations ds else package_declarations ds) (suc r.step)) e ∙ r.it.there };
    }
numbered_by k d ds m n (block.Local i) e g (inl h) f = absurd (no_local (sym g ∙ ap (λ (y : Meaning). y.object) h ∙ ap (own_number k) e))
  where
    no_local : {a b c : ℕ} → ◌≡◌ {A = Object} (object.Package a) (object.Local b c) → ⊥
    no_local q = cc
numbered_by k d ds m n (block.Local i) e g (inr h) f =
    let r = f (numbers_behind k d.it.entity d.it.block) h in
    let same : (numbers_behind k d.it.entity d.it.block).shared ≡ k.shared = ap (λ b. (numbers_behind k d.it.entity b).shared) e in
    record {
      step = r.step;
      sum = r.sum ∙ ap (λ x. x + r.step) same;
      it = record { declared = r.it.declared; source = r.it.source; there = ap (λ b. slice_get (if is_package b then d ∷ package_declarations ds else package_declarations ds) r.step) e ∙ r.it.there };
    }

numbered_one : (k : Numbers) (ds : List Found) (m : Meaning) (n : ℕ) → m.object ≡ object.Package n → IsMeaning m (numbered k ds) → IsBehind k.shared ds m n
numbered_one k [] m n g h = absurd h
numbered_one k (d ∷ ds) m n g h = numbered_by k d ds m n d.it.block refl g h (λ q i. numbered_one q ds m n g i)

no_import : (m : ℕ) → ◌≡◌ {A = Object} (object.Package m) object.Import → ⊥
no_import m e = cc

behind_imports : (k : ℕ) (us : List names.Unit) (ms : List Meaning) (m : Meaning) (n : ℕ) → m.object ≡ object.Package n → IsMeaning m (imported_from k us ++ ms) → IsMeaning m ms
behind_imports k [] ms m n g h = h
behind_imports k (u ∷ us) ms m n g h = by (imports_fmt u.tokens u.events) h (λ q. behind_imports (suc k) us ms m n g q)
  where
    by : (b : Bool) → IsMeaning m ((if b then imported_meaning k ∷ imported_from (suc k) us else imported_from (suc k) us) ++ ms) → (IsMeaning m (imported_from (suc k) us ++ ms) → IsMeaning m ms) → IsMeaning m ms
    by true (inl e) f = absurd (no_import n (sym g ∙ ap (λ (y : Meaning). y.object) e))
    by true (inr q) f = f q
    by false q f = f q

numbered_in : (us : List names.Unit) (m : Meaning) (n : ℕ) → m.object ≡ object.Package n → IsMeaning m (meanings us) → IsNumbered (declarations us) m n
numbered_in us m n g h =
    let r = numbered_one first_numbers (declarations us) m n g (behind_imports 0 us (numbered first_numbers (declarations us)) m n g h) in
    let sum = r.sum in
    let same : r.step ≡ n = omega (arith, sum) in
    subst (IsNumbered (declarations us) m) same r.it

-- What a name that is looked up means: an object of the package is declared.
pub record Means (us : List names.Unit) (n t : ℕ) (w : List ℕ) (k : ℕ) : Type 0 where
  pub blank : is_blank w ≡ false
  pub meaning : Meaning
  pub is : meaning_at (meanings us) n t w ≡ Some meaning
  pub one : IsNumbered (declarations us) meaning k

pub means : (us : List names.Unit) (n t : ℕ) (w : List ℕ) (k : ℕ) → object_at (meanings us) n t w ≡ Some (object.Package k) → Means us n t w k
means us n t w k e = by (is_blank w) refl e
  where
    known : (o : Option Predeclared) → known_object o ≡ Some (object.Package k) → ⊥
    known None q = cc
    known (Some p) q = cc

    some_object : (a b : Object) → ◌≡◌ {A = Option Object} (Some a) (Some b) → a ≡ b
    some_object a b q = cc

    meant : is_blank w ≡ false → (o : Option Meaning) → meaning_at (meanings us) n t w ≡ o → object_by w o ≡ Some (object.Package k) → Means us n t w k
    meant b None f q = absurd (known (known_in known_names w) q)
    meant b (Some m) f q =
        let among = covering_in n t w (meanings us) m (innermost_in (covering n t w (meanings us)) (covering n t w (meanings us)) m f) in
        record { blank = b; meaning = m; is = f; one = numbered_in us m k (some_object m.object (object.Package k) q) among }

    by : (b : Bool) → is_blank w ≡ b → (if b then None else object_by w (meaning_at (meanings us) n t w)) ≡ Some (object.Package k) → Means us n t w k
    by true f q = absurd cc
    by false f q = meant f (meaning_at (meanings us) n t w) refl q

-- ---- locals

tells_found : (n : ℕ) (ts : TokenList) (es : List Event) (d : Declaration) → Tells d es → IsIn (record { file = n; name = word ts d.name; place = bytes_at n ts d.name; it = d }) (found_in n ts es)
tells_found n ts [] d h = absurd h
tells_found n ts (event.Declaration x ∷ es) d (inl e) = inl (ap (λ (y : Declaration). record { file = n; name = word ts y.name; place = bytes_at n ts y.name; it = y }) e)
tells_found n ts (event.Declaration x ∷ es) d (inr h) = inr (tells_found n ts es d h)
tells_found n ts (e ∷ es) d h = tells_found n ts es d h

in_front : (x : Found) (xs ys : List Found) → IsIn x xs → IsIn x (xs ++ ys)
in_front x [] ys h = absurd h
in_front x (y ∷ xs) ys (inl e) = inl e
in_front x (y ∷ xs) ys (inr h) = inr (in_front x xs ys h)

in_behind : (x : Found) (xs ys : List Found) → IsIn x ys → IsIn x (xs ++ ys)
in_behind x [] ys h = h
in_behind x (y ∷ xs) ys h = inr (in_behind x xs ys h)

found_at : (k : ℕ) (us : List names.Unit) (i : ℕ) (u : names.Unit) (x : Found) → slice_get us i ≡ Some u → IsIn x (found_in (k + i) u.tokens u.events) → IsIn x (found_from k us)
found_at k [] i u x e h = absurd cc
found_at k (v ∷ us) zero u x e h =
    let none : k + 0 ≡ k = omega arith in
    in_front x (found_in k v.tokens v.events) (found_from (suc k) us)
    (subst (λ m. IsIn x (found_in m v.tokens v.events)) none (subst (λ (y : names.Unit). IsIn x (found_in (k + 0) y.tokens y.events)) (sym (some_unit v u e)) h))
found_at k (v ∷ us) (suc i) u x e h =
    let next : k + suc i ≡ suc k + i = omega arith in
    in_behind x (found_in k v.tokens v.events) (found_from (suc k) us) (found_at (suc k) us i u x e (subst (λ m. IsIn x (found_in m u.tokens u.events)) next h))

declared_new : (all : List Found) (x : Found) → is_blank x.name ≡ false → x.it.manner ≡ manner.Declared → is_new all x ≡ true
declared_new all x b m = ap (λ y. not y && not (may_be_reused x.it.manner && is_reused x all)) b ∙ ap (λ (y : Manner). not (may_be_reused y && is_reused x all)) m

in_new : (all xs : List Found) (x : Found) → is_new all x ≡ true → IsIn x xs → IsIn x (new_among all xs)
in_new all [] x e h = absurd h
in_new all (y ∷ xs) x e (inl q) = subst (λ b. IsIn x (if b then y ∷ new_among all xs else new_among all xs)) (sym (sym (ap (is_new all) q) ∙ e)) (inl q)
in_new all (y ∷ xs) x e (inr h) = later (is_new all y) (in_new all xs x e h)
  where
    later : (b : Bool) → IsIn x (new_among all xs) → IsIn x (if b then y ∷ new_among all xs else new_among all xs)
    later true k = inr k
    later false k = k

-- a blank name declares nothing
blank_own : (x : Found) (w : List ℕ) (all : List Meaning) (k : Numbers) (ds : List Found) (o : Object) → is_blank w ≡ true → ((y : Found) → IsIn y ds → is_same y x ≡ true → is_package y.it.block ≡ false)
    → own_object x.file x.it.name w all (numbered k ds) ≡ Some o → number_in (Some o) ≡ None
blank_own x w all k [] o b f e = absurd (no_object o (sym (ap (λ z. if z then None else object_by w (meaning_at all x.file x.it.name w)) b) ∙ e))
  where
    no_object : (p : Object) → ◌≡◌ {A = Option Object} None (Some p) → ⊥
    no_object p q = cc
blank_own x w all k (y ∷ ds) o b f e = by (is_same y x) refl e (λ q. blank_own x w all (numbers_behind k y.it.entity y.it.block) ds o b (λ z j. f z (inr j)) q)
  where
    by : (c : Bool) → is_same y x ≡ c → (if c then Some (own_number k y.it.block) else own_object x.file x.it.name w all (numbered (numbers_behind k y.it.entity y.it.block) ds)) ≡ Some o
        → (own_object x.file x.it.name w all (numbered (numbers_behind k y.it.entity y.it.block) ds) ≡ Some o → number_in (Some o) ≡ None) → number_in (Some o) ≡ None
    by true q g r = ap number_in (sym g) ∙ local_number k y.it.block (f y (inl refl) q)
    by false q g r = r g

apart_by : (us : List names.Unit) (x : Found) (o : Object) (c : Bool) → is_blank x.name ≡ c → IsIn x (found us) → x.it.manner ≡ manner.Declared
    → ((y : Found) → IsIn y (declarations us) → is_same y x ≡ true → is_package y.it.block ≡ false) → own_object x.file x.it.name x.name (meanings us) (numbered first_numbers (declarations us)) ≡ Some o → number_in (Some o) ≡ None
apart_by us x o true f there w apart own = blank_own x x.name (meanings us) first_numbers (declarations us) o f apart own
apart_by us x o false f there w apart own = local_own x x.name (meanings us) first_numbers (declarations us) o apart (in_new (found us) (found us) x (declared_new (found us) x f w) there) own

-- no token that declares a local is an object of the package
pub locals_apart : (us : List names.Unit) → AreOrderly us → (i : ℕ) (u : names.Unit) → slice_get us i ≡ Some u → LocalsApart (meanings us) i u.tokens u.events
locals_apart us h i u e d t w b m q =
    let ms = meanings us in
    let x : Found = record { file = i; name = word u.tokens d.name; place = bytes_at i u.tokens d.name; it = d } in
    let zeroth : 0 + i ≡ i = omega arith in
    let there : IsIn x (found us) = found_at 0 us i u x e (subst (λ n. IsIn x (found_in n u.tokens u.events)) (sym zeroth) (tells_found i u.tokens u.events d t)) in
    let order = orderly_at us i u h e in
    let apart : (y : Found) → IsIn y (declarations us) → is_same y x ≡ true → is_package y.it.block ≡ false =
    λ y j s. subst (λ (z : Found). is_package z.it.block ≡ false) (sym (distinct 0 0 (found us) y x (follow_found 0 us h) (new_in (found us) (found us) y j) there s)) b in
    let own : own_object i d.name x.name ms (numbered first_numbers (declarations us)) ≡ Some (object.Package m) =
    sym (imports_aside i d.name x.name ms 0 us (numbered first_numbers (declarations us))) ∙ sym (token_told ms i u.tokens u.events d 0 order.0 order.1 t) ∙ q in
    some_number m (apart_by us x (object.Package m) (is_blank x.name) refl there w apart own)
  where
    some_number : (n : ℕ) → ◌≡◌ {A = Option ℕ} (Some n) None → ⊥
    some_number n f = cc
