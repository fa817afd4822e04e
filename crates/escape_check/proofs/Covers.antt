-- Tokens that members have in common.
use Rattle.std.proofs.Common.{◌≡◌, ◌∙◌, ℕ, suc, ◌+◌, ◌<◌, ◌≤◌, Bool, true, false, cond, List, [], ◌∷◌, ◌++◌, length, map, take, drop, get_or, refl, sym, ap, subst, arith, inl, inr}
use Rattle.std.proofs.lemmas.Bool.{both_ways, cases_lt, false_from_ne_true, or_cases, or_from, or_left, or_right, or_parts}
use Rattle.std.proofs.lemmas.Bool.Decides.{nat_tests}
use Rattle.std.proofs.lemmas.List.{map-append, take_more}
use Rattle.std.proofs.lemmas.List.Folds.{list_any-append}
use Rattle.std.proofs.Math.Seq.{drop-cons}
use Rattle.std.specs.Prelude.{◌&&◌, ◌||◌, nat_eq, nat_le, nat_lt}
use Rattle.std.specs.HashSet.{HashSet}
use Rattle.std.specs.HashSet as set
use Rattle.std.specs.List.{list_any}
use Rattle.go_scopes_lookup.specs.Tables.{same_spot}
use Rattle.param_choose.specs.Members.{Member}
use Rattle.escape_check.specs.Places.{Sources, first_of, place_if, refused_at, window_place}
use Rattle.escape_check.specs.Statements.{meets, overlap_from}
use Rattle.escape_check.specs.Tokens.{Covered, has_token}

module _ {T : Type 0} where
  hit : (m n : Member T) (u : ℕ) → m.from ≤ u → u < m.upto → has_token m.window.func u n ≡ true → meets m n ≡ true
  hit m n u low high h = grind (arith, nat_tests)

  within : (m n : Member T) → meets m n ≡ true → n.from < m.upto
  within m n e = grind (arith, nat_tests)

  inside : (m n : Member T) → meets m n ≡ true → m.from < m.upto
  inside m n e = grind (arith, nat_tests)

  later : (m n : Member T) → meets m n ≡ true → has_token m.window.func n.from n ≡ true
  later m n e = grind (arith, nat_tests)

  earlier : (m n : Member T) → meets m n ≡ true → n.from ≤ m.from → has_token m.window.func m.from n ≡ true
  earlier m n e low = grind (arith, nat_tests)

  miss : (m n : Member T) → ((u : ℕ) → m.from ≤ u → u < m.upto → has_token m.window.func u n ≡ false) → meets m n ≡ false
  miss m n h = false_from_ne_true (meets m n) (λ e. elim (cases_lt m.from n.from) [
    | inl behind ↦ both_ways (has_token m.window.func n.from n) (h n.from (omega (arith, behind)) (within m n e)) (later m n e)
    | inr front ↦ both_ways (has_token m.window.func m.from n) (h m.from (omega arith) (inside m n e)) (earlier m n e front)
  ])

  -- a token that others have too
  pub any_hit : (m : Member T) (ms : List (Member T)) (u : ℕ) → m.from ≤ u → u < m.upto → list_any (has_token m.window.func u) ms ≡ true → list_any (meets m) ms ≡ true
  any_hit m [] u low high h = h
  any_hit m (n ∷ ms) u low high h = elim (or_cases (has_token m.window.func u n) (list_any (has_token m.window.func u) ms) h) [
    | inl e ↦ or_left (meets m n) (list_any (meets m) ms) (hit m n u low high e)
    | inr e ↦ or_right (meets m n) (list_any (meets m) ms) (any_hit m ms u low high e)
  ]

  -- no token that others have
  pub none_hit : (m : Member T) (ms : List (Member T)) → ((u : ℕ) → m.from ≤ u → u < m.upto → list_any (has_token m.window.func u) ms ≡ false) → list_any (meets m) ms ≡ false
  none_hit m [] h = refl
  none_hit m (n ∷ ms) h =
      or_from (meets m n) (list_any (meets m) ms)
      (miss m n (λ u low high. (or_parts (has_token m.window.func u n) (list_any (has_token m.window.func u) ms) (h u low high)).0))
      (none_hit m ms (λ u low high. (or_parts (has_token m.window.func u n) (list_any (has_token m.window.func u) ms) (h u low high)).1))

  -- those of one more member
  pub one_covered : {S : Type 0} (old new : HashSet (ℕ × ℕ) S) (ms : List (Member T)) (m : Member T) → Covered old ms →
      ((func u : ℕ) → set.contains same_spot new (func, u) ≡ (set.contains same_spot old (func, u) || has_token func u m)) → Covered new (ms ++ m ∷ [])
  one_covered old new ms m h e func u =
      e func u ∙ ap (λ b. b || has_token func u m) (h func u) ∙ sym (list_any-append (has_token func u) ms (m ∷ []) ∙ ap (λ b. list_any (has_token func u) ms || b) (or_none (has_token func u m)))
    where
      or_none : (b : Bool) → (b || false) ≡ b
      or_none true = refl
      or_none false = refl

-- ---- tokens that are taken one after the other

-- the tokens from the first one up to another are taken too
abbrev pub Taken : {S : Type 0} → ℕ → ℕ → HashSet (ℕ × ℕ) S → HashSet (ℕ × ℕ) S → ℕ → Type 0
Taken func from old now token = (f u : ℕ) → set.contains same_spot now (f, u) ≡ (set.contains same_spot old (f, u) || (nat_eq f func && nat_le from u && nat_lt u token))

-- these tokens were not taken
abbrev pub New : {S : Type 0} → ℕ → ℕ → HashSet (ℕ × ℕ) S → ℕ → Type 0
New func from old token = (u : ℕ) → from ≤ u → u < token → set.contains same_spot old (func, u) ≡ false

one_more : (func from f u token : ℕ) (old loop new : Bool) → from ≤ token → new ≡ cond (nat_eq func f && nat_eq token u) true loop → loop ≡ (old || (nat_eq f func && nat_le from u && nat_lt u token)) →
    new ≡ (old || (nat_eq f func && nat_le from u && nat_lt u (token + 1)))
one_more func from f u token old loop new low e h = e ∙ ap (λ b. cond (nat_eq func f && nat_eq token u) true b) h ∙ by_old old
  where
    by_old : (b : Bool) → cond (nat_eq func f && nat_eq token u) true (b || (nat_eq f func && nat_le from u && nat_lt u token)) ≡ (b || (nat_eq f func && nat_le from u && nat_lt u (token + 1)))
    by_old true = grind (arith, nat_tests)
    by_old false = grind (arith, nat_tests)

pub taken_more : {S : Type 0} (func from : ℕ) (old loop new : HashSet (ℕ × ℕ) S) (token : ℕ) → from ≤ token →
    ((f u : ℕ) → set.contains same_spot new (f, u) ≡ cond (nat_eq func f && nat_eq token u) true (set.contains same_spot loop (f, u))) → Taken func from old loop token → Taken func from old new (token + 1)
taken_more func from old loop new token low e h f u = one_more func from f u token (set.contains same_spot old (f, u)) (set.contains same_spot loop (f, u)) (set.contains same_spot new (f, u)) low (e f u) (h f u)

-- the token itself isn't among those before it
before : (func from token : ℕ) (old loop : Bool) → loop ≡ (old || (nat_eq func func && nat_le from token && nat_lt token token)) → loop ≡ old
before func from token true loop e = e
before func from token false loop e = e ∙ (let none : (nat_eq func func && nat_le from token && nat_lt token token) ≡ false = grind (arith, nat_tests) in none)

pub as_before : {S : Type 0} (func from : ℕ) (old loop : HashSet (ℕ × ℕ) S) (token : ℕ) → Taken func from old loop token → set.contains same_spot loop (func, token) ≡ set.contains same_spot old (func, token)
as_before func from old loop token h = before func from token (set.contains same_spot old (func, token)) (set.contains same_spot loop (func, token)) (h func token)

pub new_more : {S : Type 0} (func from : ℕ) (old : HashSet (ℕ × ℕ) S) (token : ℕ) → set.contains same_spot old (func, token) ≡ false → New func from old token → New func from old (token + 1)
new_more func from old token e h u low lt = elim (cases_lt u token) [
  | inl front ↦ h u low front
  | inr behind ↦ let same : token ≡ u = omega (arith, behind, lt) in subst (λ v. set.contains same_spot old (func, v) ≡ false) same e
]

-- at the end
ended : (func from f u token upto : ℕ) → upto ≤ token → (from ≤ u → u < token → u < upto) → (nat_eq f func && nat_le from u && nat_lt u token) ≡ (nat_eq f func && nat_le from u && nat_lt u upto)
ended func from f u token upto end h = elim (cases_lt u from) [
  | inl front ↦ grind (arith, nat_tests)
  | inr behind ↦ elim (cases_lt u token) [
    | inl lt ↦ let high : u < upto = h behind lt in grind (arith, nat_tests)
    | inr past ↦ grind (arith, nat_tests)
  ]
]

pub all_taken : {S : Type 0} (func from : ℕ) (old now : HashSet (ℕ × ℕ) S) (token upto : ℕ) → upto ≤ token → ((u : ℕ) → from ≤ u → u < token → u < upto) → Taken func from old now token →
    (f u : ℕ) → set.contains same_spot now (f, u) ≡ (set.contains same_spot old (f, u) || (nat_eq f func && nat_le from u && nat_lt u upto))
all_taken func from old now token upto end inside h f u = h f u ∙ ap (λ b. set.contains same_spot old (f, u) || b) (ended func from f u token upto end (inside u))

-- ---- members one after the other

module _ {A : Type 0} (view : A → Member ℕ) where
  pub take_at : (xs : List A) (i : ℕ) (x : A) → i < length xs → x ≡ get_or xs i x → map view (take (i + 1) xs) ≡ map view (take i xs) ++ view x ∷ []
  take_at xs i x lt e = ap (map view) (take_more xs i x lt ∙ ap (λ y. take i xs ++ y ∷ []) (sym e)) ∙ map-append view (take i xs) (x ∷ [])

  drop_at : (xs : List A) (i : ℕ) (x : A) → i < length xs → x ≡ get_or xs i x → map view (drop i xs) ≡ view x ∷ map view (drop (i + 1) xs)
  drop_at xs i x lt e =
      let next : suc i ≡ i + 1 = omega arith in
      ap (map view) (drop-cons xs i x lt ∙ ap (λ y. y ∷ drop (suc i) xs) (sym e)) ∙ ap (λ k. view x ∷ map view (drop k xs)) next

  pub overlap_more : (s : Sources) (xs : List A) (i : ℕ) (x : A) → i < length xs → x ≡ get_or xs i x → list_any (meets (view x)) (map view (take i xs)) ≡ false →
      overlap_from s i (map view (take i xs)) (map view (drop i xs)) ≡ overlap_from s (i + 1) (map view (take (i + 1) xs)) (map view (drop (i + 1) xs))
  overlap_more s xs i x lt e h =
      let next : suc i ≡ i + 1 = omega arith in
      let rest = map view (drop (i + 1) xs) in
      let earlier = map view (take i xs) in
      ap (overlap_from s i earlier) (drop_at xs i x lt e)
      ∙ ap (λ b. refused_at 3 i (first_of (place_if b (window_place s (view x)))) (overlap_from s (suc i) (earlier ++ view x ∷ []) rest)) h
      ∙ ap (λ k. overlap_from s k (earlier ++ view x ∷ []) rest) next
      ∙ ap (λ es. overlap_from s (i + 1) es rest) (sym (take_at xs i x lt e))
