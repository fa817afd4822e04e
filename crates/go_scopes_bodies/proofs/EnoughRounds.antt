-- Twice as many rounds as there are declarations show whether one of them needs itself.
use Rattle.std.proofs.Common.{◌≡◌, ◌∙◌, ℕ, zero, suc, ◌+◌, ◌≤◌, inl, inr, Bool, true, false, List, [], ◌∷◌, ◌++◌, length, Option, Some, None, refl, sym, ap, arith}
use Rattle.std.specs.Prelude.{if◌then◌else◌, ◌||◌, nat_eq}
use Rattle.go_tree.specs.declared.context.Role.TheVariants as role
use Rattle.go_tree.specs.declared.context.Site.TheVariants as site
use Rattle.go_tree.specs.Declarations.{Found}
use Rattle.go_tree.specs.Lookups.{Asked}
use Rattle.go_tree.specs.Needs.{Needed, if_so, way, needed_meaning, needs, is_same, needs_of, is_among, is_known, with_one, with_all, all_needed, needs_itself, cycles}
use Rattle.go_scopes_cycles.specs.Closure.{rounds, any_itself, AreDeclared}
use Rattle.go_scopes_cycles.specs.Columns.{IsSource}
use Rattle.go_heads.specs.Names.{no_place}
use Rattle.go_heads.proofs.Public.{Every}
use Rattle.go_scopes_bodies.proofs.Lists.{no_place as no_places, a_place, or_left, or_right}

-- ---- further rounds

among_more : (x : Found) (xs ys : List Needed) → is_among x xs ≡ true → is_among x (xs ++ ys) ≡ true
among_more x [] ys h = cc
among_more x (z ∷ zs) ys h = by (is_same x z.it) h (among_more x zs ys)
  where
    by : (b : Bool) → (b || is_among x zs) ≡ true → (is_among x zs ≡ true → is_among x (zs ++ ys) ≡ true) → (b || is_among x (zs ++ ys)) ≡ true
    by true h go = refl
    by false h go = go h

among_one : (x : Found) (y : Needed) (xs : List Needed) → is_among x xs ≡ true → is_among x (with_one y xs) ≡ true
among_one x y xs h = by (is_known y xs)
  where
    by : (b : Bool) → is_among x (if b then xs else xs ++ y ∷ []) ≡ true
    by true = h
    by false = among_more x xs (y ∷ []) h

among_all : (x : Found) (ys xs : List Needed) → is_among x xs ≡ true → is_among x (with_all ys xs) ≡ true
among_all x [] xs h = h
among_all x (y ∷ ys) xs h = among_all x ys (with_one y xs) (among_one x y xs h)

among_rounds : (asks : List Asked) (k : ℕ) (x : Found) (xs : List Needed) → is_among x xs ≡ true → is_among x (all_needed asks k xs) ≡ true
among_rounds asks zero x xs h = h
among_rounds asks (suc k) x xs h = among_rounds asks k x (with_all (needs_of asks xs) xs) (among_all x (needs_of asks xs) xs h)

later_rounds : (asks : List Asked) (j k : ℕ) (x : Found) (xs : List Needed) → j ≤ k → is_among x (all_needed asks j xs) ≡ true → is_among x (all_needed asks k xs) ≡ true
later_rounds asks zero k x xs le h = among_rounds asks k x xs h
later_rounds asks (suc j) zero x xs le h = absurd (omega (arith, le))
later_rounds asks (suc j) (suc k) x xs le h = later_rounds asks j k x (with_all (needs_of asks xs) xs) (omega (arith, le)) h

itself_later : (asks : List Asked) (j k : ℕ) (d : Found) → j ≤ k → needs_itself asks k d ≡ false → needs_itself asks j d ≡ false
itself_later asks j k d le e = by (needs_itself asks j d) refl
  where
    by : (b : Bool) → needs_itself asks j d ≡ b → b ≡ false
    by true h = let z : true ≡ false = sym (later_rounds asks j k d (with_all (needs asks (record { it = d; full = false })) []) le h) ∙ e in cc
    by false h = refl

-- ---- names that call for nothing

abbrev idle : Asked
idle = record {
  file = 0;
  name = [];
  place = no_place;
  whole = no_place;
  selected = [];
  meaning = None;
  it = record { name = 0; role = role.Operand; site = site.Elsewhere; constant = false; initial = false };
}

-- so many of them in front
abbrev padded : ℕ → List Asked → List Asked
padded zero asks = asks
padded (suc p) asks = idle ∷ padded p asks

none_needed : (w : Option Bool) (ns : List Needed) → needed_meaning w None ns ≡ ns
none_needed None ns = refl
none_needed (Some f) ns = refl

needs_padded : (p : ℕ) (asks : List Asked) (x : Needed) → needs (padded p asks) x ≡ needs asks x
needs_padded zero asks x = refl
needs_padded (suc p) asks x = none_needed (if_so (nat_eq 0 x.it.file) (way x.it.it x.full site.Elsewhere)) (needs (padded p asks) x) ∙ needs_padded p asks x

of_padded : (p : ℕ) (asks : List Asked) (xs : List Needed) → needs_of (padded p asks) xs ≡ needs_of asks xs
of_padded p asks [] = refl
of_padded p asks (x ∷ xs) = ap (λ ns. ns ++ needs_of (padded p asks) xs) (needs_padded p asks x) ∙ ap (λ ns. needs asks x ++ ns) (of_padded p asks xs)

all_padded : (p k : ℕ) (asks : List Asked) (xs : List Needed) → all_needed (padded p asks) k xs ≡ all_needed asks k xs
all_padded p zero asks xs = refl
all_padded p (suc k) asks xs = ap (λ ns. all_needed (padded p asks) k (with_all ns xs)) (of_padded p asks xs) ∙ all_padded p k asks (with_all (needs_of asks xs) xs)

itself_padded : (p k : ℕ) (asks : List Asked) (d : Found) → needs_itself (padded p asks) k d ≡ needs_itself asks k d
itself_padded p k asks d =
    let first : Needed = record { it = d; full = false } in
    ap (λ ns. is_among d (all_needed (padded p asks) k (with_all ns []))) (needs_padded p asks first) ∙ ap (is_among d) (all_padded p k asks (with_all (needs asks first) []))

any_padded : (p k : ℕ) (asks : List Asked) (ds : List Found) → any_itself (padded p asks) k ds ≡ any_itself asks k ds
any_padded p k asks [] = refl
any_padded p k asks (d ∷ ds) = ap (λ b. b || any_itself (padded p asks) k ds) (itself_padded p k asks d) ∙ ap (λ b. needs_itself asks k d || b) (any_padded p k asks ds)

length_padded : (p : ℕ) (asks : List Asked) → p ≤ length (padded p asks)
length_padded zero asks = omega arith
length_padded (suc p) asks = omega (arith, length_padded p asks)

source_padded : (p : ℕ) (asks : List Asked) (e : Found) → IsSource e (padded p asks) → IsSource e asks
source_padded zero asks e h = h
source_padded (suc p) asks e (inl h) = cc
source_padded (suc p) asks e (inr h) = source_padded p asks e h

-- ---- enough rounds

-- What is known of rounds.
abbrev pub BoundRounds : Type 0
BoundRounds = (asks : List Asked) (ds : List Found) → AreDeclared asks ds → any_itself asks (rounds asks) ds ≡ true → any_itself asks (length ds + length ds) ds ≡ true

-- no declaration needs itself
abbrev pub NoneItself : List Asked → ℕ → List Found → Type 0
NoneItself asks k ds = Every (λ d. needs_itself asks k d ≡ false) ds

pub none_cycles : (asks : List Asked) (k : ℕ) (ds : List Found) → NoneItself asks k ds → cycles asks k ds ≡ []
none_cycles asks k [] h = refl
none_cycles asks k (d ∷ ds) h = a_place (needs_itself asks k d) d.place (cycles asks k ds) h.0 (none_cycles asks k ds h.1)

pub cycles_none : (asks : List Asked) (k : ℕ) (ds : List Found) → cycles asks k ds ≡ [] → NoneItself asks k ds
cycles_none asks k [] e = tt
cycles_none asks k (d ∷ ds) e = let x = no_places (needs_itself asks k d) d.place (cycles asks k ds) e in (x.0, cycles_none asks k ds x.1)

any_none : (asks : List Asked) (k : ℕ) (ds : List Found) → NoneItself asks k ds → any_itself asks k ds ≡ false
any_none asks k [] h = refl
any_none asks k (d ∷ ds) h = ap (λ b. b || any_itself asks k ds) h.0 ∙ any_none asks k ds h.1

none_any : (asks : List Asked) (k : ℕ) (ds : List Found) → any_itself asks k ds ≡ false → NoneItself asks k ds
none_any asks k [] e = tt
none_any asks k (d ∷ ds) e = (or_left (needs_itself asks k d) (any_itself asks k ds) e, none_any asks k ds (or_right (needs_itself asks k d) (any_itself asks k ds) e))

pub fewer_rounds : (asks : List Asked) (j k : ℕ) (ds : List Found) → j ≤ k → NoneItself asks k ds → NoneItself asks j ds
fewer_rounds asks j k [] le h = tt
fewer_rounds asks j k (d ∷ ds) le h = (itself_later asks j k d le h.0, fewer_rounds asks j k ds le h.1)

unpadded : (p k : ℕ) (asks : List Asked) (ds : List Found) → NoneItself (padded p asks) k ds → NoneItself asks k ds
unpadded p k asks [] h = tt
unpadded p k asks (d ∷ ds) h = (sym (itself_padded p k asks d) ∙ h.0, unpadded p k asks ds h.1)

-- Where none needs itself in twice as many rounds as there are declarations, none does in any number of rounds.
pub enough_rounds : BoundRounds → (asks : List Asked) (ds : List Found) → AreDeclared asks ds → NoneItself asks (length ds + length ds) ds → (k : ℕ) → NoneItself asks k ds
enough_rounds law asks ds declared none k =
    let more : List Asked = padded k asks in
    let twice : any_itself more (length ds + length ds) ds ≡ false = any_padded k (length ds + length ds) asks ds ∙ any_none asks (length ds + length ds) ds none in
    unpadded k k asks ds (fewer_rounds more k (rounds more) ds (let le : k ≤ length more = length_padded k asks in omega (arith, le)) (none_any more (rounds more) ds (by (any_itself more (rounds more) ds) refl twice)))
  where
    by : (b : Bool) → any_itself (padded k asks) (rounds (padded k asks)) ds ≡ b → any_itself (padded k asks) (length ds + length ds) ds ≡ false → b ≡ false
    by true h e = let z : true ≡ false = sym (law (padded k asks) ds (λ x s. declared x (source_padded k asks x s)) h) ∙ e in cc
    by false h e = refl
