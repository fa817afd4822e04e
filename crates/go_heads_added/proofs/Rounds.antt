-- A declaration that needs itself after no more rounds than are looked at needs itself after none.
use Rattle.std.proofs.Common.{◌≡◌, ℕ, zero, suc, ◌+◌, ◌-◌, inl, inr, Bool, true, false, ◌||◌, List, [], ◌∷◌, ◌++◌, length, Option, Some, None, refl, sym, ap, subst, ◌∙◌, arith}
use Rattle.std.specs.Prelude.{if◌then◌else◌, nat_eq}
use Rattle.go_tree.specs.declared.context.Role.TheVariants as role
use Rattle.go_tree.specs.declared.context.Site.TheVariants as site
use Rattle.go_tree.specs.Declarations.{Found}
use Rattle.go_tree.specs.Lookups.{Asked}
use Rattle.go_tree.specs.Needs.{Needed, if_so, way, needed_meaning, needs, is_same, needs_of, is_among, is_known, with_one, with_all, all_needed, needs_itself}
use Rattle.go_scopes_cycles.specs.Closure.{rounds, any_itself, AreDeclared}
use Rattle.go_scopes_cycles.specs.Columns.{IsSource}

-- ---- names that call for nothing

nobody : Asked
nobody = record {
  file = 0;
  name = [];
  place = record { file = 0; start = 0; end = 0 };
  whole = record { file = 0; start = 0; end = 0 };
  selected = [];
  meaning = None;
  it = record { name = 0; role = role.Operand; site = site.Elsewhere; constant = false; initial = false };
}

padded : ℕ → List Asked → List Asked
padded zero asks = asks
padded (suc k) asks = nobody ∷ padded k asks

none_needed : (w : Option Bool) (ns : List Needed) → needed_meaning w None ns ≡ ns
none_needed None ns = refl
none_needed (Some f) ns = refl

needs_padded : (k : ℕ) (asks : List Asked) (x : Needed) → needs (padded k asks) x ≡ needs asks x
unfolding padded nobody
needs_padded zero asks x = refl
needs_padded (suc k) asks x = none_needed (if_so (nat_eq 0 x.it.file) (way x.it.it x.full site.Elsewhere)) (needs (padded k asks) x) ∙ needs_padded k asks x

all_padded : (k : ℕ) (asks : List Asked) (xs : List Needed) → needs_of (padded k asks) xs ≡ needs_of asks xs
all_padded k asks [] = refl
all_padded k asks (x ∷ xs) = ap (λ l. l ++ needs_of (padded k asks) xs) (needs_padded k asks x) ∙ ap (λ l. needs asks x ++ l) (all_padded k asks xs)

rounds_padded : (k : ℕ) (asks : List Asked) (r : ℕ) (xs : List Needed) → all_needed (padded k asks) r xs ≡ all_needed asks r xs
rounds_padded k asks zero xs = refl
rounds_padded k asks (suc r) xs = ap (λ l. all_needed (padded k asks) r (with_all l xs)) (all_padded k asks xs) ∙ rounds_padded k asks r (with_all (needs_of asks xs) xs)

itself_padded : (k : ℕ) (asks : List Asked) (r : ℕ) (d : Found) → needs_itself (padded k asks) r d ≡ needs_itself asks r d
itself_padded k asks r d =
    let x : Needed = record { it = d; full = false } in
    ap (λ l. is_among d (all_needed (padded k asks) r (with_all l []))) (needs_padded k asks x) ∙ ap (is_among d) (rounds_padded k asks r (with_all (needs asks x) []))

any_padded : (k : ℕ) (asks : List Asked) (r : ℕ) (ds : List Found) → any_itself (padded k asks) r ds ≡ any_itself asks r ds
any_padded k asks r [] = refl
any_padded k asks r (d ∷ ds) = ap (λ b. b || any_itself (padded k asks) r ds) (itself_padded k asks r d) ∙ ap (λ b. needs_itself asks r d || b) (any_padded k asks r ds)

source_padded : (k : ℕ) (asks : List Asked) (e : Found) → IsSource e (padded k asks) → IsSource e asks
unfolding padded nobody
source_padded zero asks e h = h
source_padded (suc k) asks e (inl q) = absurd cc
source_padded (suc k) asks e (inr h) = source_padded k asks e h

length_padded : (k : ℕ) (asks : List Asked) → length (padded k asks) ≡ k + length asks
unfolding padded
length_padded zero asks = omega arith
length_padded (suc k) asks = let h = length_padded k asks in omega (arith, h)

-- ---- more rounds find more

among_front : (d : Found) (xs ys : List Needed) → is_among d xs ≡ true → is_among d (xs ++ ys) ≡ true
among_front d [] ys h = cc
among_front d (x ∷ xs) ys h = by (is_same d x.it) h (among_front d xs ys)
  where
    by : (b : Bool) → (b || is_among d xs) ≡ true → (is_among d xs ≡ true → is_among d (xs ++ ys) ≡ true) → (b || is_among d (xs ++ ys)) ≡ true
    by true q f = refl
    by false q f = f q

among_one : (d : Found) (y : Needed) (xs : List Needed) → is_among d xs ≡ true → is_among d (with_one y xs) ≡ true
among_one d y xs h = by (is_known y xs)
  where
    by : (b : Bool) → is_among d (if b then xs else xs ++ y ∷ []) ≡ true
    by true = h
    by false = among_front d xs (y ∷ []) h

among_all : (d : Found) (ys xs : List Needed) → is_among d xs ≡ true → is_among d (with_all ys xs) ≡ true
among_all d [] xs h = h
among_all d (y ∷ ys) xs h = among_all d ys (with_one y xs) (among_one d y xs h)

last_round : (asks : List Asked) (k : ℕ) (xs : List Needed) → all_needed asks (suc k) xs ≡ with_all (needs_of asks (all_needed asks k xs)) (all_needed asks k xs)
last_round asks zero xs = refl
last_round asks (suc k) xs = last_round asks k (with_all (needs_of asks xs) xs)

among_later : (asks : List Asked) (d : Found) (xs : List Needed) (j k m : ℕ) → m ≡ j + k → is_among d (all_needed asks k xs) ≡ true → is_among d (all_needed asks m xs) ≡ true
among_later asks d xs zero k m e h = subst (λ i. is_among d (all_needed asks i xs) ≡ true) (let q : k ≡ m = omega (arith, e) in q) h
among_later asks d xs (suc j) k zero e h = absurd (omega (arith, e))
among_later asks d xs (suc j) k (suc m) e h =
    subst (λ l. is_among d l ≡ true) (sym (last_round asks m xs))
    (among_all d (needs_of asks (all_needed asks m xs)) (all_needed asks m xs) (among_later asks d xs j k m (omega (arith, e)) h))

any_later : (asks : List Asked) (j k m : ℕ) (ds : List Found) → m ≡ j + k → any_itself asks k ds ≡ true → any_itself asks m ds ≡ true
any_later asks j k m [] e h = cc
any_later asks j k m (d ∷ ds) e h =
    let xs = with_all (needs asks (record { it = d; full = false })) [] in
    by (needs_itself asks k d) h (λ q. among_later asks d xs j k m e q) (λ q. any_later asks j k m ds e q)
  where
    by : (b : Bool) → (b || any_itself asks k ds) ≡ true → (b ≡ true → needs_itself asks m d ≡ true) → (any_itself asks k ds ≡ true → any_itself asks m ds ≡ true) → (needs_itself asks m d || any_itself asks m ds) ≡ true
    by true q f g = ap (λ c. c || any_itself asks m ds) (f refl)
    by false q f g = or_last (needs_itself asks m d) (g q)
      where
        or_last : (b : Bool) → any_itself asks m ds ≡ true → (b || any_itself asks m ds) ≡ true
        or_last true z = refl
        or_last false z = z

-- ---- no round at all

abbrev pub Bound : Type 0
Bound = (asks : List Asked) (ds : List Found) → AreDeclared asks ds → any_itself asks (rounds asks) ds ≡ true → any_itself asks (length ds + length ds) ds ≡ true

pub never_itself : Bound → (asks : List Asked) (ds : List Found) → AreDeclared asks ds → any_itself asks (length ds + length ds) ds ≡ false → (k : ℕ) → any_itself asks k ds ≡ false
never_itself bound asks ds declared none k = by (any_itself asks k ds) refl
  where
    contradiction : true ≡ false → {X : Type 0} → X
    contradiction e = cc

    by : (b : Bool) → any_itself asks k ds ≡ b → b ≡ false
    by false e = refl
    by true e =
        let more = padded k asks in
        let long = length_padded k asks in
        let m : rounds more ≡ (rounds more - k) + k = omega (arith, long) in
        let later : any_itself more (rounds more) ds ≡ true = any_padded k asks (rounds more) ds ∙ any_later asks (rounds more - k) k (rounds more) ds m e in
        let few : any_itself more (length ds + length ds) ds ≡ true = bound more ds (λ x h. declared x (source_padded k asks x h)) later in
        contradiction (sym few ∙ any_padded k asks (length ds + length ds) ds ∙ none)
