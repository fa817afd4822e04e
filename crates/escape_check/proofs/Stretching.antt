-- Stretches of tokens: where they are put in order, cut out of a file, and searched.
use Rattle.std.proofs.Common.{◌≡◌, ◌∙◌, ℕ, zero, suc, ◌+◌, ◌-◌, ◌<◌, ◌≤◌, ◌^◌, ◌⊎◌, inl, inr, Bool, true, false, leb, leb-true, leb-false, List, [], ◌∷◌, ◌++◌, length, take, drop, get_or, Option, Some, None, refl, sym, ap, arith}
use Rattle.std.proofs.lemmas.Bool.{false≢true}
use Rattle.std.proofs.lemmas.Bool.Decides.{nat_tests}
use Rattle.std.proofs.lemmas.List.{append_assoc, append-nil, drop_all, drop_more, take-append-drop}
use Rattle.std.proofs.lemmas.List.Folds.{list_any-append}
use Rattle.std.specs.Prelude.{◌&&◌, ◌||◌, if◌then◌else◌, nat_le, nat_lt, slice_get, slice_index_or}
use Rattle.std.specs.List.{AllByRecursion, AllWithin, list_any}
use Rattle.std.specs.List.Sorted.{IsNonDecreasingBy}
use Rattle.go_scopes_named.specs.Changes.{AreAscending}
use Rattle.escape_check.specs.declared.stretches.Stretch.{Stretch}
use Rattle.escape_check.specs.Stretches.{AreOrdered, covers, later, reaching, stretch_if, stretches_from}

-- ---- tests

or-false : (b : Bool) → (b || false) ≡ b
or-false true = refl
or-false false = refl

and-true : (b : Bool) → (b && true) ≡ b
and-true true = refl
and-true false = refl

and-false : (b : Bool) → (b && false) ≡ false
and-false true = refl
and-false false = refl

above-itself : (a b : Bool) → (a ≡ true → b ≡ true) → b ≡ (a || b)
above-itself true b h = h refl
above-itself false b h = refl

below-itself : (a b : Bool) → (b ≡ true → a ≡ true) → a ≡ (a || b)
below-itself true b h = refl
below-itself false true h = h refl
below-itself false false h = refl

lt-later : (t r u : ℕ) → nat_lt t (later r u) ≡ (nat_lt t r || nat_lt t u)
lt-later t r u = by (nat_lt r u) refl
  where
    by : (c : Bool) → nat_lt r u ≡ c → nat_lt t (if c then u else r) ≡ (nat_lt t r || nat_lt t u)
    by true e = above-itself (nat_lt t r) (nat_lt t u) (λ f. grind (arith, nat_tests, e, f))
    by false e = below-itself (nat_lt t r) (nat_lt t u) (λ f. grind (arith, nat_tests, e, f))

later-above : (a b : ℕ) → a ≤ later a b
later-above a b = by (nat_lt a b) refl
  where
    by : (c : Bool) → nat_lt a b ≡ c → a ≤ (if c then b else a)
    by true e = grind (arith, nat_tests, e)
    by false e = omega arith

-- ---- stretches in order

abbrev pub Rise : List Stretch → Type 0
Rise [] = Unit
Rise (s ∷ ss) = AllByRecursion (λ r. s.from ≤ r.from) ss × Rise ss

each-from : (P : Stretch → Type 0) (xs : List Stretch) → ((j : ℕ) (d : Stretch) → j < length xs → P (slice_index_or xs j d)) → AllByRecursion P xs
each-from P [] h = tt
each-from P (x ∷ xs) h = (h 0 x (omega arith), each-from P xs (λ j d l. h (suc j) d (omega (arith, l))))

pub rising : (xs : List Stretch) → IsNonDecreasingBy (λ (s : Stretch). s.from) xs → Rise xs
rising [] h = tt
rising (x ∷ xs) h = (
  each-from (λ r. x.from ≤ r.from) xs (λ j d l. h 0 (suc j) d (omega arith) (omega (arith, l))),
  rising xs (λ i j d le l. h (suc i) (suc j) d (omega (arith, le)) (omega (arith, l))),
)

each-reaching : (f k r : ℕ) (ss : List Stretch) → k ≤ r → AllByRecursion (λ s. f ≤ s.from) ss → AllByRecursion (λ q. (f ≤ q.from) × (k ≤ q.upto)) (reaching r ss)
each-reaching f k r [] le h = tt
each-reaching f k r (s ∷ ss) le h =
    let up = later-above r s.upto in
    let more : k ≤ later r s.upto = omega (arith, le, up) in
    ((h.0, more), each-reaching f k (later r s.upto) ss more h.1)

pub reaching_order : (r : ℕ) (ss : List Stretch) → Rise ss → AreOrdered (reaching r ss)
reaching_order r [] h = tt
reaching_order r (s ∷ ss) h = (each-reaching s.from (later r s.upto) (later r s.upto) ss (omega arith) h.0, reaching_order (later r s.upto) ss h.1)

-- whether the first of them begins at a token or before it
abbrev begins : ℕ → List Stretch → Bool
begins t [] = false
begins t (s ∷ ss) = nat_le s.from t

begins-front : (t f : ℕ) (ss : List Stretch) → AllByRecursion (λ r. f ≤ r.from) ss → begins t ss ≡ true → nat_le f t ≡ true
begins-front t f [] h e = absurd (false≢true e)
begins-front t f (s ∷ ss) h e = let low : f ≤ s.from = h.0 in grind (arith, nat_tests, low, e)

reach-one : (f r u a g : Bool) → (g ≡ true → f ≡ true) → ((f && (r || u)) || (a || (g && (r || u)))) ≡ (((f && u) || a) || (f && r))
reach-one true true true a g h = refl
reach-one true true false true g h = refl
reach-one true true false false g h = refl
reach-one true false true a g h = refl
reach-one true false false true g h = refl
reach-one true false false false true h = refl
reach-one true false false false false h = refl
reach-one false r u a true h = absurd (false≢true (h refl))
reach-one false r u a false h = refl

reaching-tokens : (t r : ℕ) (ss : List Stretch) → Rise ss → list_any (covers t) (reaching r ss) ≡ (list_any (covers t) ss || (begins t ss && nat_lt t r))
reaching-tokens t r [] h = refl
reaching-tokens t r (s ∷ ss) h =
    let f = nat_le s.from t in
    let a = list_any (covers t) ss in
    let g = begins t ss in
    ap (λ b. (f && nat_lt t (later r s.upto)) || b) (reaching-tokens t (later r s.upto) ss h.1)
    ∙ ap (λ l. (f && l) || (a || (g && l))) (lt-later t r s.upto)
    ∙ reach-one f (nat_lt t r) (nat_lt t s.upto) a g (begins-front t s.from ss h.0)

pub tokens_kept : (t : ℕ) (ss : List Stretch) → Rise ss → list_any (covers t) (reaching 0 ss) ≡ list_any (covers t) ss
tokens_kept t ss h =
    let none : nat_lt t 0 ≡ false = grind (arith, nat_tests) in
    reaching-tokens t 0 ss h ∙ ap (λ b. list_any (covers t) ss || (begins t ss && b)) none ∙ last (list_any (covers t) ss) (begins t ss)
  where
    last : (a g : Bool) → (a || (g && false)) ≡ a
    last true g = refl
    last false true = refl
    last false false = refl

-- ---- the last that begins in front of a token

pub begun_front : (t : ℕ) (xs : List Stretch) (n : ℕ) → AllWithin (λ (s : Stretch). leb s.from t ≡ true) xs 0 n → AllByRecursion (λ s. s.from ≤ t) (take n xs)
begun_front t xs zero h = tt
begun_front t [] (suc n) h = tt
begun_front t (x ∷ xs) (suc n) h = (leb-true x.from t (h 0 x (omega arith) (omega arith)), begun_front t xs n (λ k d a b. h (suc k) d (omega arith) (omega (arith, b))))

pub behind_back : (t : ℕ) (xs : List Stretch) (n : ℕ) → AllWithin (λ (s : Stretch). leb s.from t ≡ false) xs n (length xs) → AllByRecursion (λ s. t < s.from) (drop n xs)
behind_back t [] zero h = tt
behind_back t [] (suc n) h = tt
behind_back t (x ∷ xs) zero h = (leb-false x.from t (h 0 x (omega arith) (omega arith)), behind_back t xs zero (λ k d a b. h (suc k) d (omega arith) (omega (arith, b))))
behind_back t (x ∷ xs) (suc n) h = behind_back t xs n (λ k d a b. h (suc k) d (omega (arith, a)) (omega (arith, b)))

each_at : (P : Stretch → Type 0) (xs : List Stretch) (j : ℕ) (d : Stretch) → AllByRecursion P xs → j < length xs → P (slice_index_or xs j d)
each_at P [] j d h l = absurd (omega (arith, l))
each_at P (x ∷ xs) zero d h l = h.0
each_at P (x ∷ xs) (suc j) d h l = each_at P xs j d h.1 (omega (arith, l))

pub ordered_by : (xs : List Stretch) → AreOrdered xs → IsNonDecreasingBy (λ (s : Stretch). s.from) xs
ordered_by [] h i j d le l = absurd (omega (arith, l))
ordered_by (x ∷ xs) h zero zero d le l = omega arith
ordered_by (x ∷ xs) h zero (suc j) d le l = (each_at (λ r. (x.from ≤ r.from) × (x.upto ≤ r.upto)) xs j d h.0 (omega (arith, l))).0
ordered_by (x ∷ xs) h (suc i) zero d le l = absurd (omega (arith, le))
ordered_by (x ∷ xs) h (suc i) (suc j) d le l = ordered_by xs h.1 i j d (omega (arith, le)) (omega (arith, l))

covers-begun : (t : ℕ) (s : Stretch) → s.from ≤ t → covers t s ≡ nat_lt t s.upto
covers-begun t s le = let begun : nat_le s.from t ≡ true = grind (arith, nat_tests, le) in ap (λ b. b && nat_lt t s.upto) begun

covers-behind : (t : ℕ) (s : Stretch) → t < s.from → covers t s ≡ false
covers-behind t s l = let behind : nat_le s.from t ≡ false = grind (arith, nat_tests, l) in ap (λ b. b && nat_lt t s.upto) behind

none-behind : (t : ℕ) (ss : List Stretch) → AllByRecursion (λ s. t < s.from) ss → list_any (covers t) ss ≡ false
none-behind t [] h = refl
none-behind t (s ∷ ss) h = ap (λ b. b || list_any (covers t) ss) (covers-behind t s h.0) ∙ none-behind t ss h.1

abbrev pub last_has : ℕ → Option Stretch → Bool
last_has t None = false
last_has t (Some s) = nat_lt t s.upto

last-reaches : (t k : ℕ) (f : ℕ) (s : Stretch) (ss : List Stretch) → AllByRecursion (λ r. (f ≤ r.from) × (k ≤ r.upto)) (s ∷ ss) → nat_lt t k ≡ true → last_has t (slice_get (s ∷ ss) (length ss)) ≡ true
last-reaches t k f s [] h e = let up : k ≤ s.upto = h.0.1 in grind (arith, nat_tests, up, e)
last-reaches t k f s (x ∷ ss) h e = last-reaches t k f x ss h.1 e

last-one : (t : ℕ) (s : Stretch) (ss : List Stretch) → AllByRecursion (λ r. r.from ≤ t) (s ∷ ss) → AreOrdered (s ∷ ss) → list_any (covers t) (s ∷ ss) ≡ last_has t (slice_get (s ∷ ss) (length ss))
last-one t s [] h o = or-false (covers t s) ∙ covers-begun t s h.0
last-one t s (x ∷ ss) h o =
    ap (λ b. b || list_any (covers t) (x ∷ ss)) (covers-begun t s h.0)
    ∙ ap (λ b. nat_lt t s.upto || b) (last-one t x ss h.1 o.1)
    ∙ sym (above-itself (nat_lt t s.upto) (last_has t (slice_get (x ∷ ss) (length ss))) (last-reaches t s.upto s.from x ss o.0))

last-of : (t : ℕ) (xs : List Stretch) → AllByRecursion (λ r. r.from ≤ t) xs → AreOrdered xs → list_any (covers t) xs ≡ last_has t (slice_get xs (length xs - 1))
last-of t [] h o = refl
last-of t (x ∷ xs) h o = let last : length xs ≡ length (x ∷ xs) - 1 = omega arith in last-one t x xs h o ∙ ap (λ n. last_has t (slice_get (x ∷ xs) n)) last

each-take : (P : Stretch → Type 0) (n : ℕ) (xs : List Stretch) → AllByRecursion P xs → AllByRecursion P (take n xs)
each-take P zero xs h = tt
each-take P (suc n) [] h = tt
each-take P (suc n) (x ∷ xs) h = (h.0, each-take P n xs h.1)

ordered-take : (n : ℕ) (xs : List Stretch) → AreOrdered xs → AreOrdered (take n xs)
ordered-take zero xs h = tt
ordered-take (suc n) [] h = tt
ordered-take (suc n) (x ∷ xs) h = (each-take (λ r. (x.from ≤ r.from) × (x.upto ≤ r.upto)) n xs h.0, ordered-take n xs h.1)

pub found_last : (t n : ℕ) (xs : List Stretch) (s : Option Stretch) → AreOrdered xs → AllByRecursion (λ s. s.from ≤ t) (take n xs) → AllByRecursion (λ s. t < s.from) (drop n xs) →
    s ≡ slice_get (take n xs) (length (take n xs) - 1) → last_has t s ≡ list_any (covers t) xs
found_last t n xs s o front back e =
    ap (last_has t) e
    ∙ sym (last-of t (take n xs) front (ordered-take n xs o))
    ∙ sym (or-false (list_any (covers t) (take n xs)))
    ∙ ap (λ b. list_any (covers t) (take n xs) || b) (sym (none-behind t (drop n xs) back))
    ∙ sym (list_any-append (covers t) (take n xs) (drop n xs))
    ∙ ap (list_any (covers t)) (take-append-drop n xs)

-- ---- stretches between the tokens at which a test changes

module _ (test : ℕ → Bool) where
  -- From a token on the test changes at these tokens only.
  abbrev pub ChangesAt : ℕ → List ℕ → Type 0
  ChangesAt f bs = (s t : ℕ) → f ≤ s → s ≤ t → AllByRecursion (λ b. (b ≤ s) ⊎ (t < b)) bs → test s ≡ test t

  one-stretch : (t f u : ℕ) → list_any (covers t) (stretch_if test f u) ≡ (test f && (nat_le f t && nat_lt t u))
  one-stretch t f u = by (test f)
    where
      by : (b : Bool) → list_any (covers t) (if b then record { from = f; upto = u } ∷ [] else []) ≡ (b && (nat_le f t && nat_lt t u))
      by true = or-false (nat_le f t && nat_lt t u)
      by false = refl

  all-behind : (t b : ℕ) (bs : List ℕ) → t < b → AllByRecursion (λ c. b ≤ c) bs → (s : ℕ) → AllByRecursion (λ c. (c ≤ s) ⊎ (t < c)) bs
  all-behind t b [] l h s = tt
  all-behind t b (c ∷ bs) l h s = let low : b ≤ c = h.0 in (inr (omega (arith, l, low)), all-behind t b bs l h.1 s)

  last-piece : (t f : ℕ) (low end here there : Bool) → nat_le f t ≡ low → end ≡ true → (f ≤ t → here ≡ there) → (here && (low && end)) ≡ (low && there)
  last-piece t f true true here there e p same = let le : f ≤ t = grind (arith, nat_tests, e) in and-true here ∙ same le
  last-piece t f false true here there e p same = and-false here
  last-piece t f low false here there e p same = absurd (false≢true p)

  piece-more : (t f b : ℕ) (before low next here there : Bool) → f ≤ b → nat_lt t b ≡ before → nat_le f t ≡ low → nat_le b t ≡ next → (f ≤ t → t < b → here ≡ there) → ((here && (low && before)) || (next && there)) ≡ (low && there)
  piece-more t f b true low true here there le p q r same = absurd (grind (arith, nat_tests, p, r))
  piece-more t f b true true false here there le p q r same =
      let at : f ≤ t = grind (arith, nat_tests, q) in
      let front : t < b = grind (arith, nat_tests, p) in
      or-false (here && true) ∙ and-true here ∙ same at front
  piece-more t f b true false false here there le p q r same = or-false (here && false) ∙ and-false here
  piece-more t f b false true true here there le p q r same = ap (λ c. c || there) (and-false here)
  piece-more t f b false low false here there le p q r same = absurd (grind (arith, nat_tests, p, r))
  piece-more t f b false false true here there le p q r same = absurd (grind (arith, nat_tests, le, q, r))

  pub between_told : (t f : ℕ) (bs : List ℕ) → t < 2 ^ 32 → AllByRecursion (λ b. f ≤ b) bs → AreAscending bs → ChangesAt f bs → list_any (covers t) (stretches_from test f bs) ≡ (nat_le f t && test t)
  between_told t f [] l low up same =
      let end : nat_lt t (2 ^ 32) ≡ true = grind (arith, nat_tests, l) in
      one-stretch t f (2 ^ 32) ∙ last-piece t f (nat_le f t) (nat_lt t (2 ^ 32)) (test f) (test t) refl end (λ le. same f t (omega arith) le tt)
  between_told t f (b ∷ bs) l low up same =
      list_any-append (covers t) (stretch_if test f b) (stretches_from test b bs)
      ∙ ap (λ x. x || list_any (covers t) (stretches_from test b bs)) (one-stretch t f b)
      ∙ ap (λ x. (test f && (nat_le f t && nat_lt t b)) || x)
      (between_told t b bs l up.0 up.1 (λ s u le more apart. let first : f ≤ b = low.0 in same s u (omega (arith, first, le)) more (inl le, apart)))
      ∙ piece-more t f b (nat_lt t b) (nat_le f t) (nat_le b t) (test f) (test t) low.0 refl refl refl
      (λ le front. same f t (omega arith) le (inr front, all-behind t b bs front up.0 f))

-- one stretch more
pub stretches_more : (test : ℕ → Bool) (bs : List ℕ) (i d from upto : ℕ) (before now whole : List Stretch) → i < length bs → upto ≡ get_or bs i d → now ≡ before ++ stretch_if test from upto →
    before ++ stretches_from test from (drop i bs) ≡ whole → now ++ stretches_from test (get_or bs i d) (drop (i + 1) bs) ≡ whole
stretches_more test bs i d from upto before now whole l e a h =
    let b = get_or bs i d in
    let rest = stretches_from test b (drop (i + 1) bs) in
    ap (λ ss. ss ++ rest) (a ∙ ap (λ u. before ++ stretch_if test from u) e)
    ∙ append_assoc before (stretch_if test from b) rest
    ∙ ap (λ ks. before ++ stretches_from test from ks) (sym (drop_more bs i d l))
    ∙ h

pub stretches_left : (test : ℕ → Bool) (bs : List ℕ) (i from : ℕ) (before now whole : List Stretch) → length bs ≤ i → now ≡ before ++ stretch_if test from (2 ^ 32) → before ++ stretches_from test from (drop i bs) ≡ whole → now ≡ whole
stretches_left test bs i from before now whole le a h = a ∙ sym (ap (λ ks. before ++ stretches_from test from ks) (drop_all i bs le)) ∙ h

-- one, if a name means something else
pub stretch_there : (test : ℕ → Bool) (from upto : ℕ) (before : List Stretch) → test from ≡ true → before ++ record { from = from; upto = upto } ∷ [] ≡ before ++ stretch_if test from upto
stretch_there test from upto before e = sym (ap (λ b. before ++ (if b then record { from = from; upto = upto } ∷ [] else [])) e)

pub no_stretch : (test : ℕ → Bool) (from upto : ℕ) (before : List Stretch) → test from ≡ false → before ≡ before ++ stretch_if test from upto
no_stretch test from upto before e = sym (ap (λ b. before ++ (if b then record { from = from; upto = upto } ∷ [] else [])) e ∙ append-nil before)
