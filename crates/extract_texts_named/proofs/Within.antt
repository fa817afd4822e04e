-- Numbers that are among others.
use Rattle.std.proofs.Common.{◌≡◌, ℕ, Bool, true, false, List, [], ◌∷◌, ◌++◌, refl, arith}
use Rattle.std.specs.Prelude.{if◌then◌else◌, ◌||◌, nat_eq}
use Rattle.std.specs.List.{AllByRecursion}
use Rattle.std.proofs.lemmas.Bool.Decides.{nat_tests}
use Rattle.go_typed.specs.Trees.{Sort}
use Rattle.go_typed.specs.Trees as trees
use Rattle.clone_window.specs.Sameness.{sort_at}
use Rattle.param_choose.specs.Locals.{Variable, variable_of, variable_at, variables_where, has}

pub has_own : (n : ℕ) (xs : List ℕ) → has (n ∷ xs) n ≡ true
has_own n xs = by (nat_eq n n) (let z : nat_eq n n ≡ true = grind (arith, nat_tests) in z)
  where
    by : (b : Bool) → b ≡ true → (b || has xs n) ≡ true
    by true e = refl
    by false e = absurd cc

pub has_more : (n x : ℕ) (xs : List ℕ) → has xs n ≡ true → has (x ∷ xs) n ≡ true
has_more n x xs h = by (nat_eq n x)
  where
    by : (b : Bool) → (b || has xs n) ≡ true
    by true = refl
    by false = h

pub has_back : (n : ℕ) (xs ys : List ℕ) → has ys n ≡ true → has (xs ++ ys) n ≡ true
has_back n [] ys h = h
has_back n (x ∷ xs) ys h = has_more n x (xs ++ ys) (has_back n xs ys h)

pub has_front : (n : ℕ) (xs ys : List ℕ) → has xs n ≡ true → has (xs ++ ys) n ≡ true
has_front n [] ys h = absurd cc
has_front n (x ∷ xs) ys h = by (nat_eq n x) h (λ g. has_front n xs ys g)
  where
    by : (b : Bool) → (b || has xs n) ≡ true → (has xs n ≡ true → has (xs ++ ys) n ≡ true) → (b || has (xs ++ ys) n) ≡ true
    by true e g = refl
    by false e g = g e

-- each of these is among those
abbrev pub Within : List ℕ → List ℕ → Type 0
Within xs ns = AllByRecursion (λ n. has xs n ≡ true) ns

pub within_back : (ys xs ns : List ℕ) → Within xs ns → Within (ys ++ xs) ns
within_back ys xs [] h = tt
within_back ys xs (n ∷ ns) h = (has_back n ys xs h.0, within_back ys xs ns h.1)

pub within_front : (xs ys ns : List ℕ) → Within xs ns → Within (xs ++ ys) ns
within_front xs ys [] h = tt
within_front xs ys (n ∷ ns) h = (has_front n xs ys h.0, within_front xs ys ns h.1)

pub within_both : (xs ns ms : List ℕ) → Within xs ns → Within xs ms → Within xs (ns ++ ms)
within_both xs [] ms h g = g
within_both xs (n ∷ ns) ms h g = (h.0, within_both xs ns ms h.1 g)

-- ---- variables

module _ {T : Type 0} (P : ℕ → Type 0) where
  both_have : (vs ws : List (Variable T)) → AllByRecursion (λ (v : Variable T). P v.local) vs → AllByRecursion (λ (v : Variable T). P v.local) ws → AllByRecursion (λ (v : Variable T). P v.local) (vs ++ ws)
  both_have [] ws h g = g
  both_have (v ∷ vs) ws h g = (h.0, both_have vs ws h.1 g)

  one_has : (n : ℕ) (s : Sort T) → P n → AllByRecursion (λ (v : Variable T). P v.local) (variable_of n s)
  one_has n (trees.Value t) h = (h, tt)
  one_has n s h = tt

  -- the variables among some numbers have what these have
  pub where_have : (sorts : List (Sort T)) (test : ℕ → Bool) (ns : List ℕ) → AllByRecursion P ns → AllByRecursion (λ (v : Variable T). P v.local) (variables_where sorts test ns)
  where_have sorts test [] h = tt
  where_have sorts test (n ∷ ns) h = both_have (if test n then variable_at sorts n else []) (variables_where sorts test ns) (by (test n)) (where_have sorts test ns h.1)
    where
      by : (b : Bool) → AllByRecursion (λ (v : Variable T). P v.local) (if b then variable_at sorts n else [])
      by true = one_has n (sort_at sorts n) h.0
      by false = tt
