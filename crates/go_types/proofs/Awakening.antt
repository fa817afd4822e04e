-- How the types that wait for a known one get fewer.
use Rattle.std.proofs.Common.{◌≡◌, ℕ, zero, suc, ◌+◌, ◌*◌, ◌-◌, ◌^◌, ◌<◌, ◌≤◌, inl, inr, Bool, true, false, cond, Option, Some, None, List, [], ◌∷◌, length, refl, sym, ap, subst, ◌∙◌, arith}
use Rattle.std.specs.Prelude.{slice_get, slice_set, count_by, nat_eq, min}
use native.Mathlib.Nat.{suc-mul}
use Rattle.std.proofs.lemmas.Bool.Decides.{eqb_tells}
use Rattle.std.proofs.lemmas.List.{length-set}
use Rattle.std.proofs.lemmas.List.Sums.{sum_by-cons, count_by-le-length}
use Rattle.go_types.specs.declared.verdict.Verdict.{Verdict}
use Rattle.go_types.specs.Tables.{Table, Holds}
use Rattle.go_types.specs.Changes.{IsOpen}
use Rattle.go_types.specs.Waiting.{is_for, is_known, is_stale, AreWaiting}
use Rattle.go_types.specs.Findings.{is_blank, IsVisited}
use Rattle.go_types.proofs.Places.{get_within, get_set, get_set_same, get_there}
use Rattle.go_types.proofs.Waiters.{count_set}

-- ---- how many are stale

known_or_not : (o : Option (Option Verdict)) → is_known o ≡ true → o ≡ Some None → {A : Type 0} → A
known_or_not None k e = cc
known_or_not (Some None) k e = cc
known_or_not (Some (Some v)) k e = cc

-- a stale type that waits no longer, or for an unknown one
pub less_stale : (verdicts : List (Option Verdict)) (awaited : List (Option ℕ)) (a p : ℕ) (o : Option ℕ) → slice_get awaited a ≡ Some (Some p) → is_known (slice_get verdicts p) ≡ true → is_stale verdicts o ≡ false → count_by (is_stale verdicts) (slice_set awaited a o) + 1 ≡ count_by (is_stale verdicts) awaited
less_stale verdicts awaited a p o e k not_now =
    let sums = count_set (is_stale verdicts) awaited a (Some p) o e in
    let one : cond {A = ℕ} (is_stale verdicts (Some p)) 1 0 ≡ 1 = ap (λ b. cond {A = ℕ} b 1 0) k in
    let none : cond {A = ℕ} (is_stale verdicts o) 1 0 ≡ 0 = ap (λ b. cond {A = ℕ} b 1 0) not_now in
    omega arith

pub get_apart : {X : Type 0} (xs : List X) (i : ℕ) (y : X) (j : ℕ) → (j ≡ i → ⊥) → slice_get (slice_set xs i y) j ≡ slice_get xs j
get_apart [] i y j ne = refl
get_apart (x ∷ xs) zero y zero ne = absurd (ne refl)
get_apart (x ∷ xs) zero y (suc j) ne = refl
get_apart (x ∷ xs) (suc i) y zero ne = refl
get_apart (x ∷ xs) (suc i) y (suc j) ne = get_apart xs i y j (λ e. ne (ap suc e))

stale_one : (verdicts : List (Option Verdict)) (a : ℕ) (v : Verdict) (o : Option ℕ) → slice_get verdicts a ≡ Some None → cond {A = ℕ} (is_stale (slice_set verdicts a (Some v)) o) 1 0 ≡ cond {A = ℕ} (is_stale verdicts o) 1 0 + cond {A = ℕ} (is_for a o) 1 0
stale_one verdicts a v None e = refl
stale_one verdicts a v (Some q) e =
    elim (eqb_tells q a) as (λ _. cond {A = ℕ} (is_stale (slice_set verdicts a (Some v)) (Some q)) 1 0 ≡ cond {A = ℕ} (is_stale verdicts (Some q)) 1 0 + cond {A = ℕ} (nat_eq q a) 1 0) [
      | inl same ↦
          let now : cond {A = ℕ} (is_known (slice_get (slice_set verdicts a (Some v)) q)) 1 0 ≡ 1 = ap (λ x. cond {A = ℕ} (is_known x) 1 0) (ap (slice_get (slice_set verdicts a (Some v))) same.1 ∙ get_set_same verdicts a (Some v) (get_within verdicts a None e)) in
          let before : cond {A = ℕ} (is_known (slice_get verdicts q)) 1 0 ≡ 0 = ap (λ x. cond {A = ℕ} (is_known x) 1 0) (ap (slice_get verdicts) same.1 ∙ e) in
          let own : cond {A = ℕ} (nat_eq q a) 1 0 ≡ 1 = ap (λ b. cond {A = ℕ} b 1 0) same.0 in
          now ∙ sym (λ j. before j + own j)
      | inr apart ↦
          let now : cond {A = ℕ} (is_known (slice_get (slice_set verdicts a (Some v)) q)) 1 0 ≡ cond {A = ℕ} (is_known (slice_get verdicts q)) 1 0 = ap (λ x. cond {A = ℕ} (is_known x) 1 0) (get_apart verdicts a (Some v) q apart.1) in
          let own : cond {A = ℕ} (nat_eq q a) 1 0 ≡ 0 = ap (λ b. cond {A = ℕ} b 1 0) apart.0 in
          omega arith
    ]

-- All that wait for a type are stale once something is known of it.
pub more_stale : (verdicts : List (Option Verdict)) (awaited : List (Option ℕ)) (a : ℕ) (v : Verdict) → slice_get verdicts a ≡ Some None → count_by (is_stale (slice_set verdicts a (Some v))) awaited ≡ count_by (is_stale verdicts) awaited + count_by (is_for a) awaited
more_stale verdicts [] a v e = refl
more_stale verdicts (o ∷ os) a v e =
    let one = stale_one verdicts a v o e in
    let rest = more_stale verdicts os a v e in
    sum_by-cons (λ x. cond {A = ℕ} (is_stale (slice_set verdicts a (Some v)) x) 1 0) o os ∙ ((λ j. one j + rest j) ∙ (four (cond {A = ℕ} (is_stale verdicts o) 1 0) (cond {A = ℕ} (is_for a o) 1 0) (count_by (is_stale verdicts) os) (count_by (is_for a) os)
    ∙ sym (λ j. sum_by-cons (λ x. cond {A = ℕ} (is_stale verdicts x) 1 0) o os j + sum_by-cons (λ x. cond {A = ℕ} (is_for a x) 1 0) o os j)))
  where
    four : (x y m n : ℕ) → (x + y) + (m + n) ≡ (x + m) + (y + n)
    four x y m n = omega arith

pub none_stale : (verdicts : List (Option Verdict)) (awaited : List (Option ℕ)) → ((i p : ℕ) → slice_get awaited i ≡ Some (Some p) → slice_get verdicts p ≡ Some None) → count_by (is_stale verdicts) awaited ≡ 0
none_stale verdicts [] h = refl
none_stale verdicts (o ∷ os) h =
    let one : cond {A = ℕ} (is_stale verdicts o) 1 0 ≡ 0 = first o (h 0) in
    let rest : count_by (is_stale verdicts) os ≡ 0 = none_stale verdicts os (λ i p e. h (suc i) p e) in
    sum_by-cons (λ x. cond {A = ℕ} (is_stale verdicts x) 1 0) o os ∙ (λ j. one j + rest j)
  where
    first : (x : Option ℕ) → ((p : ℕ) → Some x ≡ Some (Some p) → slice_get verdicts p ≡ Some None) → cond {A = ℕ} (is_stale verdicts x) 1 0 ≡ 0
    first None f = refl
    first (Some p) f = ap (λ y. cond {A = ℕ} (is_known y) 1 0) (f p refl)

pub no_stale_one : (verdicts : List (Option Verdict)) (awaited : List (Option ℕ)) → count_by (is_stale verdicts) awaited ≡ 0 → (i : ℕ) (o : Option ℕ) → slice_get awaited i ≡ Some o → is_stale verdicts o ≡ false
no_stale_one verdicts [] none i o e = cc
no_stale_one verdicts (x ∷ xs) none zero o e = let same : x ≡ o = cc in subst (λ y. is_stale verdicts y ≡ false) same (first (is_stale verdicts x) (sym (sum_by-cons (λ y. cond {A = ℕ} (is_stale verdicts y) 1 0) x xs) ∙ none))
  where
    first : (b : Bool) → cond {A = ℕ} b 1 0 + count_by (is_stale verdicts) xs ≡ 0 → b ≡ false
    first true e = absurd (omega arith)
    first false e = refl
no_stale_one verdicts (x ∷ xs) none (suc i) o e = no_stale_one verdicts xs (rest (cond {A = ℕ} (is_stale verdicts x) 1 0) (count_by (is_stale verdicts) xs) (sym (sum_by-cons (λ y. cond {A = ℕ} (is_stale verdicts y) 1 0) x xs) ∙ none)) i o e
  where
    rest : (m n : ℕ) → m + n ≡ 0 → n ≡ 0
    rest m n e = omega arith

-- ---- what is waited for

pub stopped : (t : Table) (verdicts : List (Option Verdict)) (awaited : List (Option ℕ)) (a : ℕ) → AreWaiting t verdicts awaited → (slice_get verdicts a ≡ Some None → IsOpen t a) → AreWaiting t verdicts (slice_set awaited a None)
stopped t verdicts awaited a h is = record {
  places = length-set awaited a None ∙ h.places;
  idle = λ i e f.
      elim (eqb_tells i a) as (λ _. IsOpen t i) [
        | inl same ↦ subst (IsOpen t) (sym same.1) (is (subst (λ n. slice_get verdicts n ≡ Some None) same.1 e))
        | inr apart ↦ h.idle i e (sym (get_apart awaited a None i apart.1) ∙ f)
      ];
  held = λ i p e.
      elim (get_set awaited a None i (Some p) e) [
        | inl old ↦ h.held i p old
        | inr new ↦ let wrong : Some p ≡ None = new.1 in cc
      ];
}

pub turned : (t : Table) (verdicts : List (Option Verdict)) (awaited : List (Option ℕ)) (a q : ℕ) → a < length awaited → AreWaiting t verdicts awaited → Holds t a q → AreWaiting t verdicts (slice_set awaited a (Some q))
turned t verdicts awaited a q lt h new_held = record {
  places = length-set awaited a (Some q) ∙ h.places;
  idle = λ i e f.
      elim (eqb_tells i a) as (λ _. IsOpen t i) [
        | inl same ↦ let wrong : Some (Some q) ≡ Some None = sym (ap (slice_get (slice_set awaited a (Some q))) same.1 ∙ get_set_same awaited a (Some q) lt) ∙ f in cc
        | inr apart ↦ h.idle i e (sym (get_apart awaited a (Some q) i apart.1) ∙ f)
      ];
  held = λ i p e.
      elim (get_set awaited a (Some q) i (Some p) e) [
        | inl old ↦ h.held i p old
        | inr new ↦ let same : p ≡ q = cc in subst (Holds t i) (sym same) (subst (λ n. Holds t n q) (sym new.0) new_held)
      ];
}

pub learnt : (t : Table) (verdicts : List (Option Verdict)) (awaited : List (Option ℕ)) (a : ℕ) (v : Verdict) → AreWaiting t verdicts awaited → AreWaiting t (slice_set verdicts a (Some v)) awaited
learnt t verdicts awaited a v h = record {
  places = h.places ∙ sym (length-set verdicts a (Some v));
  idle = λ i e f.
      elim (get_set verdicts a (Some v) i None e) [
        | inl old ↦ h.idle i old f
        | inr new ↦ let wrong : None ≡ Some v = new.1 in cc
      ];
  held = h.held;
}

-- a place of which nothing is known
pub unknown_from : (verdicts : List (Option Verdict)) (p : ℕ) → p < length verdicts → is_known (slice_get verdicts p) ≡ false → slice_get verdicts p ≡ Some None
unknown_from verdicts p lt k = let there = get_there verdicts p lt in there.1 ∙ ap Some (none there.0 (ap is_known (sym there.1) ∙ k))
  where
    none : (o : Option Verdict) → is_known (Some o) ≡ false → o ≡ None
    none None e = refl
    none (Some v) e = cc

-- ---- fewer visits are left

pub one_less : (verdicts : List (Option Verdict)) (awaited after : List (Option ℕ)) (t : Table) (stale left : ℕ) → AreWaiting t verdicts after → count_by (is_stale verdicts) after + 1 ≡ count_by (is_stale verdicts) awaited → count_by (is_stale verdicts) awaited ≤ stale → left ≡ stale - 1 → IsVisited t verdicts verdicts after stale left
one_less verdicts awaited after t stale left h fewer few is = record {
  waiting = h;
  few = omega arith;
  less = below (count_by is_blank verdicts * 2 ^ 64) stale left (omega arith);
}
  where
    below : (m x y : ℕ) → y < x → m + y < m + x
    below m x y lt = omega arith

blank_less : (verdicts : List (Option Verdict)) (a : ℕ) (v : Verdict) → slice_get verdicts a ≡ Some None → count_by is_blank (slice_set verdicts a (Some v)) + 1 ≡ count_by is_blank verdicts
blank_less verdicts a v e = let sums = count_set is_blank verdicts a None (Some v) e in omega arith

fewer_blank : (m n b x y : ℕ) → m + 1 ≡ n → y < b → m * b + y < n * b + x
fewer_blank m n b x y e lt =
    let next : suc m ≡ n = omega arith in
    subst (λ k. m * b + y < k * b + x) next (subst (λ z. m * b + y < z + x) (sym (suc-mul m b)) (grow (m * b) b x y lt))
  where
    grow : (p q u w : ℕ) → w < q → p + w < (p + q) + u
    grow p q u w h = omega arith

pub one_learnt : (verdicts : List (Option Verdict)) (awaited : List (Option ℕ)) (t : Table) (a : ℕ) (v : Verdict) (stale more left : ℕ) → AreWaiting t verdicts awaited → slice_get verdicts a ≡ Some None → count_by (is_stale verdicts) awaited ≤ stale → more ≡ count_by (is_for a) awaited → left ≡ min (stale + more) (2 ^ 64 - 1) → length awaited < 2 ^ 64 → IsVisited t verdicts (slice_set verdicts a (Some v)) awaited stale left
one_learnt verdicts awaited t a v stale more left h e few more-is left-is short = record {
  waiting = learnt t verdicts awaited a v h;
  few = bounded (count_by (is_stale (slice_set verdicts a (Some v))) awaited) (count_by (is_stale verdicts) awaited) (count_by (is_for a) awaited) stale more left (length awaited) (2 ^ 64) (more_stale verdicts awaited a v e) few more-is left-is (count_by-le-length (is_stale (slice_set verdicts a (Some v))) awaited) short;
  less = fewer_blank (count_by is_blank (slice_set verdicts a (Some v))) (count_by is_blank verdicts) (2 ^ 64) stale left (blank_less verdicts a v e) (low (stale + more) left (2 ^ 64) left-is short);
}
  where
    bounded : (now before own x m l n b : ℕ) → now ≡ before + own → before ≤ x → m ≡ own → l ≡ min (x + m) (b - 1) → now ≤ n → n < b → now ≤ l
    bounded now before own x m l n b e f g is le lt = omega arith

    low : (x l b : ℕ) → l ≡ min x (b - 1) → length awaited < b → l < b
    low x l b is lt = omega arith
