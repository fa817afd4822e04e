-- In a package without faults of names all that names call for is declared, once, and nothing needs itself.
use Rattle.std.proofs.Common.{◌≡◌, ◌∙◌, refl, sym, ap, subst, ℕ, suc, ◌<◌, ◌≤◌, ◌⊎◌, inl, inr, Bool, true, false, ◌&&◌, ◌||◌, List, [], ◌∷◌, ◌++◌, length, Option, Some, None, arith}
use Rattle.std.specs.Prelude.{if◌then◌else◌, nat_eq, ◌+◌}
use Rattle.go_base.specs.declared.fault.FaultCode.{FaultCode}
use Rattle.go_base.specs.declared.fault.FaultCode.TheVariants as code
use Rattle.go_tokens.specs.Tokens.{TokenList}
use Rattle.go_tokens.specs.Spellings.{same_text}
use Rattle.go_tree.specs.declared.event.Event.{Event}
use Rattle.go_tree.specs.declared.event.Event.TheVariants as event
use Rattle.go_tree.specs.Units as names
use Rattle.go_tree.specs.Units.{Place, word, is_blank}
use Rattle.go_tree.specs.Declarations.{Found, found_in, found_from, found, is_new, new_among, declarations}
use Rattle.go_tree.specs.Extents.{covers}
use Rattle.go_tree.specs.Failures.{Failure, failing, place_if, is_earlier, least_from, least, or_else}
use Rattle.go_tree.specs.Faults.{clause_faults, lookup_faults, unused_faults, placed_faults, cycle_faults, name_faults, reported}
use Rattle.go_tree.specs.Imports.{imports_fmt}
use Rattle.go_tree.specs.Lookups.{Asked, asked, asked_in, asked_from}
use Rattle.go_tree.specs.Meanings.{Meaning, Numbers, first_numbers, numbers_behind, numbered, imported_from, meanings, covering, is_innermost, innermost_of, meaning_at}
use Rattle.go_tree.specs.Needs.{is_same, needs_itself, cycles}
use Rattle.go_tree.specs.Redeclared.{redeclared}
use Rattle.go_scopes_events.specs.Orders.{AreInOrder}
use Rattle.go_scopes_events.specs.Scopes.{AreOrderly}
use Rattle.go_scopes_cycles.specs.Columns.{IsSource, AreAlike}
use Rattle.go_scopes_cycles.specs.Needs.{source_of}
use Rattle.go_scopes_cycles.specs.Closure.{rounds, any_itself, IsLike, AllLike, IsOneEach, IsDeclared, AreDeclared}
use Rattle.go_package_defs.specs.Resolved.{all_asked, IsOrdered}

-- ---- members

abbrev IsIn : Found → List Found → Type 0
IsIn x [] = ⊥
IsIn x (d ∷ ds) = (x ≡ d) ⊎ IsIn x ds

-- a meaning comes from one of the declarations, if it comes from one
record IsFrom (ds : List Found) (m : Meaning) : Type 0 where
  from : (d : Found) → m.source ≡ Some d → IsIn d ds

abbrev AreFrom : List Found → List Meaning → Type 0
AreFrom ds [] = Unit {0}
AreFrom ds (m ∷ ms) = IsFrom ds m × AreFrom ds ms

same_some : {A : Type 0} (x y : A) → Some x ≡ Some y → y ≡ x
same_some x y e = grind (arith, e)

no_some : {A : Type 0} {B : Type 0} (x : A) → None ≡ Some x → B
no_some x e = absurd cc

from_append : (ds : List Found) (ms ns : List Meaning) → AreFrom ds ms → AreFrom ds ns → AreFrom ds (ms ++ ns)
from_append ds [] ns h k = k
from_append ds (m ∷ ms) ns h k = (h.0, from_append ds ms ns h.1 k)

from_if : (ds : List Found) (b : Bool) (m : Meaning) (ms : List Meaning) → IsFrom ds m → AreFrom ds ms → AreFrom ds (if b then m ∷ ms else ms)
from_if ds true m ms h k = (h, k)
from_if ds false m ms h k = k

imported_from_none : (ds : List Found) (n : ℕ) (us : List names.Unit) → AreFrom ds (imported_from n us)
imported_from_none ds n [] = tt
imported_from_none ds n (u ∷ us) = from_if ds (imports_fmt u.tokens u.events) _ (imported_from (suc n) us) (record { from = λ d e. no_some d e }) (imported_from_none ds (suc n) us)

-- the declarations of a part of a list
abbrev AreIn : List Found → List Found → Type 0
AreIn [] all = Unit {0}
AreIn (d ∷ ds) all = IsIn d all × AreIn ds all

in_more : (d : Found) (ds all : List Found) → AreIn ds all → AreIn ds (d ∷ all)
in_more d [] all h = tt
in_more d (x ∷ ds) all h = (inr h.0, in_more d ds all h.1)

in_itself : (ds : List Found) → AreIn ds ds
in_itself [] = tt
in_itself (d ∷ ds) = (inl refl, in_more d ds ds (in_itself ds))

numbered_from : (k : Numbers) (ds all : List Found) → AreIn ds all → AreFrom all (numbered k ds)
numbered_from k [] all h = tt
numbered_from k (d ∷ ds) all h =
    (record { from = λ x e. subst (λ y. IsIn y all) (sym (same_some d x e)) h.0 }, numbered_from (numbers_behind k d.it.entity d.it.block) ds all h.1)

meanings_from : (us : List names.Unit) → AreFrom (declarations us) (meanings us)
meanings_from us = from_append (declarations us) (imported_from 0 us) (numbered first_numbers (declarations us)) (imported_from_none (declarations us) 0 us) (numbered_from first_numbers (declarations us) (declarations us) (in_itself (declarations us)))

covering_from : (ds : List Found) (n t : ℕ) (w : List ℕ) (ms : List Meaning) → AreFrom ds ms → AreFrom ds (covering n t w ms)
covering_from ds n t w [] h = tt
covering_from ds n t w (m ∷ ms) h = from_if ds (same_text m.name w && covers m.extent n t) m (covering n t w ms) h.0 (covering_from ds n t w ms h.1)

-- what is found is one of them
abbrev FoundFrom : List Found → Option Meaning → Type 0
FoundFrom ds None = Unit {0}
FoundFrom ds (Some m) = IsFrom ds m

found_if : (ds : List Found) (b : Bool) (m : Meaning) (o : Option Meaning) → IsFrom ds m → FoundFrom ds o → FoundFrom ds (if b then Some m else o)
found_if ds true m o h k = h
found_if ds false m o h k = k

innermost_from : (ds : List Found) (all ms : List Meaning) → AreFrom ds ms → FoundFrom ds (innermost_of all ms)
innermost_from ds all [] h = tt
innermost_from ds all (m ∷ ms) h = found_if ds (is_innermost m.extent all) m (innermost_of all ms) h.0 (innermost_from ds all ms h.1)

meaning_from : (ds : List Found) (ms : List Meaning) (n t : ℕ) (w : List ℕ) → AreFrom ds ms → FoundFrom ds (meaning_at ms n t w)
meaning_from ds ms n t w h = innermost_from ds (covering n t w ms) (covering n t w ms) (covering_from ds n t w ms h)

source_in : (ds : List Found) (o : Option Meaning) (d : Found) → FoundFrom ds o → source_of o ≡ Some d → IsIn d ds
source_in ds None d h e = no_some d e
source_in ds (Some m) d h e = h.from d e

-- ---- what names call for

abbrev AllCalled : List Found → List Asked → Type 0
AllCalled ds asks = (d : Found) → IsSource d asks → IsIn d ds

called_either : (ds : List Found) (x : Asked) (xs ys : List Asked) → AllCalled ds (x ∷ xs) → AllCalled ds (xs ++ ys) → AllCalled ds (x ∷ (xs ++ ys))
called_either ds x xs ys h k d (inl e) = h d (inl e)
called_either ds x xs ys h k d (inr s) = k d s

called_append : (ds : List Found) (xs ys : List Asked) → AllCalled ds xs → AllCalled ds ys → AllCalled ds (xs ++ ys)
called_append ds [] ys h k = k
called_append ds (x ∷ xs) ys h k = called_either ds x xs ys h (called_append ds xs ys (λ c r. h c (inr r)) k)

called_more : (ds : List Found) (a : Asked) (asks : List Asked) → FoundFrom ds a.meaning → AllCalled ds asks → AllCalled ds (a ∷ asks)
called_more ds a asks h k d (inl e) = source_in ds a.meaning d h e
called_more ds a asks h k d (inr s) = k d s

called_if : (ds : List Found) (b : Bool) (a : Asked) (asks : List Asked) → FoundFrom ds a.meaning → AllCalled ds asks → AllCalled ds (if b then asks else a ∷ asks)
called_if ds true a asks h k = k
called_if ds false a asks h k = called_more ds a asks h k

called_in : (ds : List Found) (ms : List Meaning) (n : ℕ) (ts : TokenList) (es : List Event) → AreFrom ds ms → AllCalled ds (asked_in ms n ts es)
called_in ds ms n ts [] h = λ d s. absurd s
called_in ds ms n ts (event.Use u ∷ es) h = called_if ds (is_blank (word ts u.name)) (asked ms n ts u) (asked_in ms n ts es) (meaning_from ds ms n u.name (word ts u.name) h) (called_in ds ms n ts es h)
called_in ds ms n ts (e ∷ es) h = called_in ds ms n ts es h

called_from : (ds : List Found) (ms : List Meaning) (n : ℕ) (us : List names.Unit) → AreFrom ds ms → AllCalled ds (asked_from ms n us)
called_from ds ms n [] h = λ d s. absurd s
called_from ds ms n (u ∷ us) h = called_append ds (asked_in ms n u.tokens u.events) (asked_from ms (suc n) us) (called_in ds ms n u.tokens u.events h) (called_from ds ms (suc n) us h)

all_called : (us : List names.Unit) → AllCalled (declarations us) (all_asked us)
all_called us = called_from (declarations us) (meanings us) 0 us (meanings_from us)

-- ---- all of them are declared

same_itself : (d : Found) → is_same d d ≡ true
same_itself d = grind arith

declared_in : (d : Found) (ds : List Found) → IsIn d ds → IsDeclared d ds
declared_in d [] h = absurd h
declared_in d (x ∷ ds) (inl e) = inl (subst (λ y. is_same d y ≡ true) e (same_itself d))
declared_in d (x ∷ ds) (inr h) = inr (declared_in d ds h)

are_declared : (us : List names.Unit) → AreDeclared (all_asked us) (declarations us)
are_declared us = λ d s. declared_in d (declarations us) (all_called us d s)

-- ---- each is declared once

-- it stands in the file n at the token i or behind that, or in a later file
abbrev IsAfter : ℕ → ℕ → Found → Type 0
IsAfter n i d = (n < d.file) ⊎ ((n ≡ d.file) × (i ≤ d.it.name))

-- each stands behind the one in front of it
abbrev Follow : ℕ → ℕ → List Found → Type 0
Follow n i [] = Unit {0}
Follow n i (d ∷ ds) = IsAfter n i d × Follow d.file (suc d.it.name) ds

after_less : (n i j : ℕ) (d : Found) → i ≤ j → IsAfter n j d → IsAfter n i d
after_less n i j d l (inl h) = inl h
after_less n i j d l (inr h) = inr (h.0, omega (arith, l, h.1))

follow_less : (n i j : ℕ) (ds : List Found) → i ≤ j → Follow n j ds → Follow n i ds
follow_less n i j [] l h = tt
follow_less n i j (d ∷ ds) l h = (after_less n i j d l h.0, h.1)

-- behind a declaration that stands there
after_on : (n i : ℕ) (d e : Found) → IsAfter n i d → IsAfter d.file (suc d.it.name) e → IsAfter n i e
after_on n i d e (inl h) (inl k) = inl (omega (arith, h, k))
after_on n i d e (inl h) (inr k) = inl (subst (λ m. n < m) k.0 h)
after_on n i d e (inr h) (inl k) = inl (subst (λ m. m < e.file) (sym h.0) k)
after_on n i d e (inr h) (inr k) = inr (h.0 ∙ k.0, omega (arith, h.1, k.1))

follow_on : (n i : ℕ) (d : Found) (ds : List Found) → IsAfter n i d → Follow d.file (suc d.it.name) ds → Follow n i ds
follow_on n i d [] h k = tt
follow_on n i d (e ∷ ds) h k = (after_on n i d e h k.0, k.1)

-- those of later files
follow_file : (n i : ℕ) (ds : List Found) → Follow (suc n) 0 ds → Follow n i ds
follow_file n i [] h = tt
follow_file n i (d ∷ ds) h = (later d h.0, h.1)
  where
    later : (d : Found) → IsAfter (suc n) 0 d → IsAfter n i d
    later d (inl k) = inl (omega (arith, k))
    later d (inr k) = inl (subst (λ m. n < m) k.0 (omega arith))

follow_in : (n i j : ℕ) (ts : TokenList) (es : List Event) (rest : List Found) → AreInOrder i j es → Follow (suc n) 0 rest → Follow n i (found_in n ts es ++ rest)
follow_in n i j ts [] rest h k = follow_file n i rest k
follow_in n i j ts (event.Declaration d ∷ es) rest h k = (inr (refl, h.0), follow_in n (suc d.name) j ts es rest h.1 k)
follow_in n i j ts (event.Use u ∷ es) rest h k = follow_less n i (suc u.name) (found_in n ts es ++ rest) (omega (arith, h.0)) (follow_in n (suc u.name) j ts es rest h.1 k)
follow_in n i j ts (event.Import p ∷ es) rest h k = follow_in n i j ts es rest h k
follow_in n i j ts (event.Member m g x ∷ es) rest h k = follow_in n i j ts es rest h k
follow_in n i j ts (event.Bodiless a b ∷ es) rest h k = follow_in n i j ts es rest h k
follow_in n i j ts (event.Statement a b ∷ es) rest h k = follow_in n i j ts es rest h k
follow_in n i j ts (event.Misplaced a b ∷ es) rest h k = follow_in n i j ts es rest h k
follow_in n i j ts (event.SecondDefault w ∷ es) rest h k = follow_in n i j ts es rest h k

follow_found : (n : ℕ) (us : List names.Unit) → AreOrderly us → Follow n 0 (found_from n us)
follow_found n [] h = tt
follow_found n (u ∷ us) h = follow_in n 0 h.0.end u.tokens u.events (found_from (suc n) us) h.0.order (follow_found (suc n) us h.1)

follow_if : (n i : ℕ) (b : Bool) (d : Found) (ds : List Found) → IsAfter n i d → Follow d.file (suc d.it.name) ds → Follow n i (if b then d ∷ ds else ds)
follow_if n i true d ds h k = (h, k)
follow_if n i false d ds h k = follow_on n i d ds h k

follow_new : (n i : ℕ) (all ds : List Found) → Follow n i ds → Follow n i (new_among all ds)
follow_new n i all [] h = tt
follow_new n i all (d ∷ ds) h = follow_if n i (is_new all d) d (new_among all ds) h.0 (follow_new d.file (suc d.it.name) all ds h.1)

follow_declared : (us : List names.Unit) → AreOrderly us → Follow 0 0 (declarations us)
follow_declared us h = follow_new 0 0 (found us) (found us) (follow_found 0 us h)

in_after : (n i : ℕ) (ds : List Found) (y : Found) → Follow n i ds → IsIn y ds → IsAfter n i y
in_after n i [] y h k = absurd k
in_after n i (d ∷ ds) y h (inl e) = subst (IsAfter n i) (sym e) h.0
in_after n i (d ∷ ds) y h (inr k) = after_on n i d y h.0 (in_after d.file (suc d.it.name) ds y h.1 k)

both_left : (b c : Bool) → (b && c) ≡ true → b ≡ true
both_left true c e = refl
both_left false c e = e

both_right : (b c : Bool) → (b && c) ≡ true → c ≡ true
both_right true c e = e
both_right false c e = absurd cc

same_number : (x y : ℕ) → nat_eq x y ≡ true → x ≡ y
same_number x y e = grind (arith, e)

same_file : (d e : Found) → is_same d e ≡ true → d.file ≡ e.file
same_file d e h = same_number d.file e.file (both_left (nat_eq d.file e.file) (nat_eq d.it.name e.it.name) h)

same_name : (d e : Found) → is_same d e ≡ true → d.it.name ≡ e.it.name
same_name d e h = same_number d.it.name e.it.name (both_right (nat_eq d.file e.file) (nat_eq d.it.name e.it.name) h)

-- what stands behind a declaration is another one
not_behind : (x y : Found) → is_same x y ≡ true → IsAfter x.file (suc x.it.name) y → ⊥
not_behind x y e (inl h) = let f : x.file ≡ y.file = same_file x y e in omega (arith, h, f)
not_behind x y e (inr h) = let f : x.it.name ≡ y.it.name = same_name x y e in omega (arith, h.1, f)

-- nor is one that stands in front
not_before : (x y : Found) → is_same x y ≡ true → IsAfter y.file (suc y.it.name) x → ⊥
not_before x y e (inl h) = let f : x.file ≡ y.file = same_file x y e in omega (arith, h, f)
not_before x y e (inr h) = let f : x.it.name ≡ y.it.name = same_name x y e in omega (arith, h.1, f)

distinct : (n i : ℕ) (ds : List Found) (x y : Found) → Follow n i ds → IsIn x ds → IsIn y ds → is_same x y ≡ true → x ≡ y
distinct n i [] x y h k l e = absurd k
distinct n i (d ∷ ds) x y h (inl p) (inl q) e = p ∙ sym q
distinct n i (d ∷ ds) x y h (inl p) (inr l) e = absurd (not_behind x y e (subst (λ z. IsAfter z.file (suc z.it.name) y) (sym p) (in_after d.file (suc d.it.name) ds y h.1 l)))
distinct n i (d ∷ ds) x y h (inr k) (inl q) e = absurd (not_before x y e (subst (λ z. IsAfter z.file (suc z.it.name) x) (sym q) (in_after d.file (suc d.it.name) ds x h.1 k)))
distinct n i (d ∷ ds) x y h (inr k) (inr l) e = distinct d.file (suc d.it.name) ds x y h.1 k l e

-- declarations of one name are one
abbrev AreOne : List Found → Type 0
AreOne ds = (x y : Found) → IsIn x ds → IsIn y ds → is_same x y ≡ true → x ≡ y

alike : (ds : List Found) (asks : List Asked) → AreOne ds → AllCalled ds asks → AreAlike asks
alike ds asks one call = record {
  specification = λ d e h k s. ap (λ x. x.it.source) (one d e (call d h) (call e k) s);
  column = λ d e h k s. ap (λ x. x.it.column) (one d e (call d h) (call e k) s);
}

like : (ds : List Found) (asks : List Asked) (d : Found) → AreOne ds → AllCalled ds asks → IsIn d ds → IsLike asks d
like ds asks d one call h = record {
  specification = λ e k s. ap (λ x. x.it.source) (one d e h (call e k) s);
  column = λ e k s. ap (λ x. x.it.column) (one d e h (call e k) s);
}

all_like : (all : List Found) (asks : List Asked) (ds : List Found) → AreOne all → AllCalled all asks → AreIn ds all → AllLike asks ds
all_like all asks [] one call h = tt
all_like all asks (d ∷ ds) one call h = (like all asks d one call h.0, all_like all asks ds one call h.1)

one_each : (us : List names.Unit) → AreOrderly us → IsOneEach (all_asked us) (declarations us)
one_each us h =
    let one : AreOne (declarations us) = λ x y k l e. distinct 0 0 (declarations us) x y (follow_declared us h) k l e in
    (alike (declarations us) (all_asked us) one (all_called us), all_like (declarations us) (all_asked us) (declarations us) one (all_called us) (in_itself (declarations us)))

-- ---- where no fault is reported, nothing needs itself

some_if : (b : Bool) (f g : Failure) → (if b then Some g else Some f) ≡ Some (if b then g else f)
some_if true f g = refl
some_if false f g = refl

least_some : (f : Failure) (gs : List Failure) → least_from (Some f) gs ≡ None → ⊥
least_some f [] e = cc
least_some f (g ∷ gs) e = least_some (if is_earlier g f then g else f) gs (sym (ap (λ o. least_from o gs) (some_if (is_earlier g f) f g)) ∙ e)

no_least : (fs : List Failure) → least fs ≡ None → fs ≡ []
no_least [] e = refl
no_least (g ∷ gs) e = absurd (least_some g gs e)

no_second : (a b : Option Failure) → or_else a b ≡ None → b ≡ None
no_second None b e = e
no_second (Some f) b e = absurd cc

right_none : {A : Type 0} (xs ys : List A) → xs ++ ys ≡ [] → ys ≡ []
right_none [] ys e = e
right_none (x ∷ xs) ys e = absurd cc

none_failing : (c : FaultCode) (ss : List Place) → failing c ss ≡ [] → ss ≡ []
none_failing c [] e = refl
none_failing c (s ∷ ss) e = absurd cc

none_itself : (b c : Bool) (p : Place) (ss : List Place) → place_if b p ss ≡ [] → (ss ≡ [] → c ≡ false) → (b || c) ≡ false
none_itself true c p ss e f = absurd cc
none_itself false c p ss e f = f e

no_cycles : (asks : List Asked) (k : ℕ) (ds : List Found) → cycles asks k ds ≡ [] → any_itself asks k ds ≡ false
no_cycles asks k [] e = refl
no_cycles asks k (d ∷ ds) e = none_itself (needs_itself asks k d) (any_itself asks k ds) d.place (cycles asks k ds) e (no_cycles asks k ds)

none_cyclic : (us : List names.Unit) → reported us ≡ None → cycles (all_asked us) (length (declarations us) + length (declarations us)) (declarations us) ≡ []
none_cyclic us e =
    let ds = declarations us in
    let asks = all_asked us in
    let front = failing code.Redeclared (redeclared us ds) ++ lookup_faults asks ++ unused_faults us ds asks ++ placed_faults us in
    none_failing code.Cycle (cycles asks (length ds + length ds) ds) (right_none front (cycle_faults ds asks) (no_least (name_faults us) (no_second (least (clause_faults us)) (least (name_faults us)) e)))

-- a bound on the rounds in which a declaration needs itself
abbrev pub Bound : Type 0
Bound = (asks : List Asked) (ds : List Found) → AreDeclared asks ds → any_itself asks (rounds asks) ds ≡ true → any_itself asks (length ds + length ds) ds ≡ true

false_unless : (b c : Bool) → (b ≡ true → c ≡ true) → c ≡ false → b ≡ false
false_unless true c f e = sym (f refl) ∙ e
false_unless false c f e = refl

none_needs_itself : Bound → (us : List names.Unit) → reported us ≡ None → any_itself (all_asked us) (rounds (all_asked us)) (declarations us) ≡ false
none_needs_itself bound us e =
    let ds = declarations us in
    false_unless (any_itself (all_asked us) (rounds (all_asked us)) ds) (any_itself (all_asked us) (length ds + length ds) ds) (bound (all_asked us) ds (are_declared us)) (no_cycles (all_asked us) (length ds + length ds) ds (none_cyclic us e))

pub ordered : Bound → (us : List names.Unit) → AreOrderly us → reported us ≡ None → IsOrdered us
ordered bound us h e = record { itself = none_needs_itself bound us e; declared = are_declared us; one_each = one_each us h }
