-- How many types wait for each one.
use Rattle.std.proofs.Common.{◌≡◌, ℕ, zero, suc, ◌+◌, ◌-◌, ◌<◌, ◌≤◌, inl, inr, Bool, false, cond, Option, Some, None, List, [], ◌∷◌, ◌++◌, length, take, drop, refl, sym, ap, subst, ◌∙◌, arith}
use Rattle.std.specs.Prelude.{slice_get, slice_set, count_by, nat_eq}
use Rattle.std.proofs.lemmas.Bool.{eq-eqb}
use Rattle.std.proofs.lemmas.Bool.Decides.{eqb_tells}
use Rattle.std.proofs.lemmas.List.{length-set}
use Rattle.std.proofs.lemmas.List.Sums.{sum_by-cons, sum_by-set, count_by-le-length}
use Rattle.std.proofs.lemmas.Option.{get_or_from_slice_get}
use Rattle.go_types.specs.Waiting.{is_for, AreCounted}
use Rattle.go_types.proofs.Places.{get_within, get_set, get_set_same, get_set_other, get_snoc, get_left, get_last, get_take, take_get}
use Rattle.go_types.proofs.Countings.{count_longer, length_longer, length_taken, take_longer, take_whole}

-- how many pass when an element is put in the place of another one
pub count_set : {X : Type 0} (p : X → Bool) (xs : List X) (i : ℕ) (x y : X) → slice_get xs i ≡ Some x → count_by p (slice_set xs i y) + cond (p x) 1 0 ≡ count_by p xs + cond (p y) 1 0
count_set p xs i x y e =
    let sums = sum_by-set (λ z. cond (p z) 1 0) xs i y x (get_within xs i x e) in
    subst (λ z. count_by p (slice_set xs i y) + cond (p z) 1 0 ≡ count_by p xs + cond (p y) 1 0) (get_or_from_slice_get xs i x x e) sums

inside : {a b : ℕ} → Some a ≡ Some b → a ≡ b
inside e = cc

other : (q p : ℕ) → (q ≡ p → ⊥) → nat_eq q p ≡ false
other q p ne = elim (eqb_tells q p) as (λ _. nat_eq q p ≡ false) [ inl same ↦ absurd (ne same.1) | inr apart ↦ apart.0 ]

pub same_set : {X : Type 0} (xs : List X) (i : ℕ) (x : X) → slice_get xs i ≡ Some x → xs ≡ slice_set xs i x
same_set [] i x e = refl
same_set (z ∷ zs) zero x e = let same : z ≡ x = cc in ap (λ y. y ∷ zs) same
same_set (z ∷ zs) (suc i) x e = ap (λ l. z ∷ l) (same_set zs i x e)

pub set_twice : {X : Type 0} (xs : List X) (i : ℕ) (x y : X) → slice_set (slice_set xs i x) i y ≡ slice_set xs i y
set_twice [] i x y = refl
set_twice (z ∷ zs) zero x y = refl
set_twice (z ∷ zs) (suc i) x y = ap (λ l. z ∷ l) (set_twice zs i x y)

-- ---- a type waits no longer

pub left_as_it_is : (awaited : List (Option ℕ)) (a : ℕ) → slice_get awaited a ≡ Some None → awaited ≡ slice_set awaited a None
left_as_it_is awaited a e = same_set awaited a None e

pub count_left : (awaited : List (Option ℕ)) (a q : ℕ) → slice_get awaited a ≡ Some (Some q) → count_by (is_for q) (slice_set awaited a None) + 1 ≡ count_by (is_for q) awaited
count_left awaited a q e =
    let sums = count_set (is_for q) awaited a (Some q) None e in
    let own : cond {A = ℕ} (is_for q (Some q)) 1 0 ≡ 1 = ap (λ b. cond {A = ℕ} b 1 0) (eq-eqb q q refl) in
    omega arith

pub counted_left : (awaited : List (Option ℕ)) (counts : List ℕ) (a q c : ℕ) → AreCounted awaited counts → slice_get awaited a ≡ Some (Some q) → slice_get counts q ≡ Some c → AreCounted (slice_set awaited a None) (slice_set counts q (c - 1))
counted_left awaited counts a q c h e is = record {
  as_many = length-set counts q (c - 1) ∙ (h.as_many ∙ sym (length-set awaited a None));
  counts_are = λ p lt. counts_are p (subst (λ n. p < n) (length-set awaited a None) lt);
  within = within;
}
  where
    here : Some c ≡ Some (count_by (is_for q) awaited)
    here = sym is ∙ h.counts_are q (h.within a q e)

    counts_are : (p : ℕ) → p < length awaited → slice_get (slice_set counts q (c - 1)) p ≡ Some (count_by (is_for p) (slice_set awaited a None))
    counts_are p lt =
        elim (eqb_tells p q) as (λ _. slice_get (slice_set counts q (c - 1)) p ≡ Some (count_by (is_for p) (slice_set awaited a None))) [
          | inl same ↦
              let less = count_left awaited a q e in
              let total : c ≡ count_by (is_for q) awaited = inside here in
              let now : c - 1 ≡ count_by (is_for q) (slice_set awaited a None) = omega arith in
              subst (λ n. slice_get (slice_set counts q (c - 1)) n ≡ Some (count_by (is_for n) (slice_set awaited a None))) (sym same.1)
              (get_set_same counts q (c - 1) (get_within counts q c is) ∙ ap Some now)
          | inr apart ↦
              let sums = count_set (is_for p) awaited a (Some q) None e in
              let none : cond {A = ℕ} (is_for p (Some q)) 1 0 ≡ 0 = ap (λ b. cond {A = ℕ} b 1 0) (other q p (λ s. apart.1 (sym s))) in
              let now : count_by (is_for p) awaited ≡ count_by (is_for p) (slice_set awaited a None) = omega arith in
              get_set_other counts q (c - 1) p (count_by (is_for p) awaited) (h.counts_are p lt) apart.1 ∙ ap Some now
        ]

    within : (i p : ℕ) → slice_get (slice_set awaited a None) i ≡ Some (Some p) → p < length (slice_set awaited a None)
    within i p g =
        elim (get_set awaited a None i (Some p) g) [
          | inl old ↦ subst (λ n. p < n) (sym (length-set awaited a None)) (h.within i p old)
          | inr new ↦ let wrong : Some p ≡ None = new.1 in cc
        ]

-- ---- a type comes to wait

pub count_joined : (awaited : List (Option ℕ)) (a q : ℕ) → slice_get awaited a ≡ Some None → count_by (is_for q) (slice_set awaited a (Some q)) ≡ count_by (is_for q) awaited + 1
count_joined awaited a q e =
    let sums = count_set (is_for q) awaited a None (Some q) e in
    let own : cond {A = ℕ} (is_for q (Some q)) 1 0 ≡ 1 = ap (λ b. cond {A = ℕ} b 1 0) (eq-eqb q q refl) in
    omega arith

-- there is room for one more
pub count_fits : (awaited : List (Option ℕ)) (a q : ℕ) → slice_get awaited a ≡ Some None → count_by (is_for q) awaited + 1 ≤ length awaited
count_fits awaited a q e =
    let more = count_joined awaited a q e in
    let few = count_by-le-length (is_for q) (slice_set awaited a (Some q)) in
    let long = length-set awaited a (Some q) in
    omega arith

pub counted_joined : (awaited : List (Option ℕ)) (counts : List ℕ) (a q c : ℕ) → AreCounted awaited counts → slice_get awaited a ≡ Some None → q < length awaited → slice_get counts q ≡ Some c → AreCounted (slice_set awaited a (Some q)) (slice_set counts q (c + 1))
counted_joined awaited counts a q c h e low is = record {
  as_many = length-set counts q (c + 1) ∙ (h.as_many ∙ sym (length-set awaited a (Some q)));
  counts_are = λ p lt. counts_are p (subst (λ n. p < n) (length-set awaited a (Some q)) lt);
  within = within;
}
  where
    here : Some c ≡ Some (count_by (is_for q) awaited)
    here = sym is ∙ h.counts_are q low

    counts_are : (p : ℕ) → p < length awaited → slice_get (slice_set counts q (c + 1)) p ≡ Some (count_by (is_for p) (slice_set awaited a (Some q)))
    counts_are p lt =
        elim (eqb_tells p q) as (λ _. slice_get (slice_set counts q (c + 1)) p ≡ Some (count_by (is_for p) (slice_set awaited a (Some q)))) [
          | inl same ↦
              let more = count_joined awaited a q e in
              let total : c ≡ count_by (is_for q) awaited = inside here in
              let now : c + 1 ≡ count_by (is_for q) (slice_set awaited a (Some q)) = omega arith in
              subst (λ n. slice_get (slice_set counts q (c + 1)) n ≡ Some (count_by (is_for n) (slice_set awaited a (Some q)))) (sym same.1)
              (get_set_same counts q (c + 1) (get_within counts q c is) ∙ ap Some now)
          | inr apart ↦
              let sums = count_set (is_for p) awaited a None (Some q) e in
              let none : cond {A = ℕ} (is_for p (Some q)) 1 0 ≡ 0 = ap (λ b. cond {A = ℕ} b 1 0) (other q p (λ s. apart.1 (sym s))) in
              let now : count_by (is_for p) awaited ≡ count_by (is_for p) (slice_set awaited a (Some q)) = omega arith in
              get_set_other counts q (c + 1) p (count_by (is_for p) awaited) (h.counts_are p lt) apart.1 ∙ ap Some now
        ]

    within : (i p : ℕ) → slice_get (slice_set awaited a (Some q)) i ≡ Some (Some p) → p < length (slice_set awaited a (Some q))
    within i p g =
        elim (get_set awaited a (Some q) i (Some p) g) [
          | inl old ↦ subst (λ n. p < n) (sym (length-set awaited a (Some q))) (h.within i p old)
          | inr new ↦ let same : p ≡ q = cc in subst (λ n. p < n) (sym (length-set awaited a (Some q))) (subst (λ n. n < length awaited) (sym same) low)
        ]

-- ---- one type more, and fewer types

count_no_one : (awaited : List (Option ℕ)) (p : ℕ) → ((i q : ℕ) → slice_get awaited i ≡ Some (Some q) → q ≡ p → ⊥) → count_by (is_for p) awaited ≡ 0
count_no_one [] p h = refl
count_no_one (None ∷ os) p h = sum_by-cons (λ x. cond {A = ℕ} (is_for p x) 1 0) None os ∙ (λ j. 0 + count_no_one os p (λ i q e. h (suc i) q e) j)
count_no_one (Some q ∷ os) p h =
    let first : cond {A = ℕ} (nat_eq q p) 1 0 ≡ 0 = ap (λ b. cond {A = ℕ} b 1 0) (other q p (h 0 q refl)) in
    let rest : count_by (is_for p) os ≡ 0 = count_no_one os p (λ i r e. h (suc i) r e) in
    sum_by-cons (λ x. cond {A = ℕ} (is_for p x) 1 0) (Some q) os ∙ (λ j. first j + rest j)

pub counted_longer : (awaited : List (Option ℕ)) (counts : List ℕ) → AreCounted awaited counts → AreCounted (awaited ++ None ∷ []) (counts ++ 0 ∷ [])
counted_longer awaited counts h = record {
  as_many = length_longer counts 0 ∙ (ap suc h.as_many ∙ sym (length_longer awaited None));
  counts_are = counts_are;
  within = within;
}
  where
    more : (p : ℕ) → count_by (is_for p) (awaited ++ None ∷ []) ≡ count_by (is_for p) awaited
    more p = let longer = count_longer (is_for p) awaited None in omega arith

    counts_are : (p : ℕ) → p < length (awaited ++ None ∷ []) → slice_get (counts ++ 0 ∷ []) p ≡ Some (count_by (is_for p) (awaited ++ None ∷ []))
    counts_are p lt =
        elim (eqb_tells p (length awaited)) as (λ _. slice_get (counts ++ 0 ∷ []) p ≡ Some (count_by (is_for p) (awaited ++ None ∷ []))) [
          | inl same ↦
              let last = same.1 in
              let none = count_no_one awaited p (λ i q e is. let low = h.within i q e in absurd (omega arith)) in
              let longer = more p in
              let now : 0 ≡ count_by (is_for p) (awaited ++ None ∷ []) = omega arith in
              ap (slice_get (counts ++ 0 ∷ [])) (last ∙ sym h.as_many) ∙ get_last counts 0 ∙ ap Some now
          | inr apart ↦
              let ne = apart.1 in
              let long = length_longer awaited None in
              let low : p < length awaited = omega arith in
              get_left counts (0 ∷ []) p (count_by (is_for p) awaited) (h.counts_are p low) ∙ ap Some (sym (more p))
        ]

    within : (i p : ℕ) → slice_get (awaited ++ None ∷ []) i ≡ Some (Some p) → p < length (awaited ++ None ∷ [])
    within i p g =
        elim (get_snoc awaited None i (Some p) g) [
          | inl old ↦ let low = h.within i p old in let long = length_longer awaited None in omega arith
          | inr new ↦ let wrong : Some p ≡ None = new.1 in cc
        ]

-- ---- the first types

count_first : (p : ℕ) (n : ℕ) (awaited : List (Option ℕ)) → ((i : ℕ) (o : Option ℕ) → n ≤ i → slice_get awaited i ≡ Some o → o ≡ None) → count_by (is_for p) awaited ≡ count_by (is_for p) (take n awaited)
count_first p n [] h = ap (count_by (is_for p)) (empty n)
  where
    empty : (m : ℕ) → [] ≡ take {A = Option ℕ} m []
    empty zero = refl
    empty (suc m) = refl
count_first p zero (o ∷ os) h =
    let first : cond {A = ℕ} (is_for p o) 1 0 ≡ 0 = ap (λ x. cond {A = ℕ} (is_for p x) 1 0) (h 0 o (omega arith) refl) in
    let rest : count_by (is_for p) os ≡ 0 = count_first p 0 os (λ i x le e. h (suc i) x (omega arith) e) in
    sum_by-cons (λ x. cond {A = ℕ} (is_for p x) 1 0) o os ∙ (λ j. first j + rest j)
count_first p (suc n) (o ∷ os) h =
    sum_by-cons (λ x. cond {A = ℕ} (is_for p x) 1 0) o os
    ∙ (ap (λ m. cond {A = ℕ} (is_for p o) 1 0 + m) (count_first p n os (λ i x le e. h (suc i) x (omega arith) e)) ∙ sym (sum_by-cons (λ x. cond {A = ℕ} (is_for p x) 1 0) o (take n os)))

-- What is kept of the counts behind the first types doesn't matter.
pub counted_first : (n : ℕ) (awaited : List (Option ℕ)) (counts : List ℕ) → AreCounted awaited counts → n ≤ length awaited → ((i p : ℕ) → i < n → slice_get awaited i ≡ Some (Some p) → p < n) → ((i : ℕ) (o : Option ℕ) → n ≤ i → slice_get awaited i ≡ Some o → o ≡ None) → AreCounted (take n awaited) (take n counts)
counted_first n awaited counts h le closed free = record {
  as_many = length_taken counts n (subst (λ m. n ≤ m) (sym h.as_many) le) ∙ sym long;
  counts_are = λ p lt. let low : p < n = subst (λ m. p < m) long lt in take_get n counts p (count_by (is_for p) (take n awaited)) (h.counts_are p (omega arith) ∙ ap Some (count_first p n awaited free)) low;
  within = λ i p e. let at = get_take n awaited i (Some p) e in subst (λ m. p < m) (sym long) (closed i p at.1 at.0);
}
  where
    long : length (take n awaited) ≡ n
    long = length_taken awaited n le

-- ---- a slice of a whole vector, written back

pub written_back : {X : Type 0} (n : ℕ) (xs ys : List X) → length xs ≡ n → length ys ≡ n → take n (xs ++ drop (length xs) ys) ≡ xs
written_back n xs ys e f = subst (λ m. take m (xs ++ drop (length xs) ys) ≡ xs) e (take_longer xs (drop (length xs) ys) (length xs) (omega arith) ∙ take_whole xs)

pub take_set : {X : Type 0} (n : ℕ) (xs : List X) (a : ℕ) (y : X) → n ≤ a → take n (slice_set xs a y) ≡ take n xs
take_set zero xs a y le = refl
take_set (suc n) [] a y le = refl
take_set (suc n) (x ∷ xs) zero y le = absurd (omega arith)
take_set (suc n) (x ∷ xs) (suc a) y le = ap (λ l. x ∷ l) (take_set n xs a y (omega arith))

pub free_more : (n a : ℕ) (xs : List (Option ℕ)) → a < length xs → ((i : ℕ) (o : Option ℕ) → n ≤ i → i < a → slice_get xs i ≡ Some o → o ≡ None) → (i : ℕ) (o : Option ℕ) → n ≤ i → i < a + 1 → slice_get (slice_set xs a None) i ≡ Some o → o ≡ None
free_more n a xs lt h i o le less e =
    elim (eqb_tells i a) as (λ _. o ≡ None) [
      | inl same ↦ let here : Some None ≡ Some o = sym (ap (slice_get (slice_set xs a None)) same.1 ∙ get_set_same xs a None lt) ∙ e in cc
      | inr apart ↦
          let ne = apart.1 in
          elim (get_set xs a None i o e) [
            | inl old ↦ h i o le (omega arith) old
            | inr new ↦ new.1
          ]
    ]

pub set_last : {X : Type 0} (xs : List X) (x y : X) → slice_set (xs ++ x ∷ []) (length xs) y ≡ xs ++ y ∷ []
set_last [] x y = refl
set_last (z ∷ zs) x y = ap (λ l. z ∷ l) (set_last zs x y)
