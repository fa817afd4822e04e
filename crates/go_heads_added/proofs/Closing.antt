-- As many rounds as there are needs that can come up find all that is needed.
use Rattle.std.proofs.Common.{◌≡◌, ◌∙◌, ◌≤◌, ◌<◌, ◌+◌, ℕ, zero, suc, Bool, true, false, ◌&&◌, ◌||◌, List, [], ◌∷◌, ◌++◌, length, ap, sym, subst, refl, arith, ◌⊎◌, inl, inr}
use Rattle.std.specs.Prelude.{if◌then◌else◌, nat_eq}
use Rattle.std.specs.List.{AllByRecursion}
use Rattle.go_tree.specs.Declarations.{Found}
use Rattle.go_tree.specs.Lookups.{Asked}
use Rattle.go_tree.specs.Needs.{Needed, is_same, same_way, is_known, with_one, with_all, needs, needs_of, all_needed}
use Rattle.go_scopes_cycles.proofs.Public.{AllKnown, all_same, each_known, itself, known_all, or_last, there_all}

-- ---- what is not known yet

and_left : (a b : Bool) → (a && b) ≡ true → a ≡ true
and_left true b e = refl
and_left false b e = e

and_right : (a b : Bool) → (a && b) ≡ true → b ≡ true
and_right true b e = e
and_right false b e = cc

same_number : (x y : ℕ) → nat_eq x y ≡ true → x ≡ y
same_number x y e = grind (arith, e)

same_full : (f g : Bool) → same_way f g ≡ true → f ≡ g
same_full true true e = refl
same_full true false e = sym e
same_full false true e = e
same_full false false e = refl

-- needs that are the same are known alike
known_same : (x z : Needed) (xs : List Needed) → (is_same x.it z.it && same_way x.full z.full) ≡ true → is_known z xs ≡ is_known x xs
known_same x z [] e = refl
known_same x z (y ∷ ys) e =
    let same = and_left (is_same x.it z.it) (same_way x.full z.full) e in
    let file = same_number x.it.file z.it.file (and_left (nat_eq x.it.file z.it.file) (nat_eq x.it.it.name z.it.it.name) same) in
    let name = same_number x.it.it.name z.it.it.name (and_right (nat_eq x.it.file z.it.file) (nat_eq x.it.it.name z.it.it.name) same) in
    let full = same_full x.full z.full (and_right (is_same x.it z.it) (same_way x.full z.full) e) in
    ap (λ n. (nat_eq n y.it.file && nat_eq z.it.it.name y.it.it.name && same_way z.full y.full) || is_known z ys) (sym file)
    ∙ ap (λ t. (nat_eq x.it.file y.it.file && nat_eq t y.it.it.name && same_way z.full y.full) || is_known z ys) (sym name)
    ∙ ap (λ f. (nat_eq x.it.file y.it.file && nat_eq x.it.it.name y.it.it.name && same_way f y.full) || is_known z ys) (sym full)
    ∙ ap (λ b. (is_same x.it y.it && same_way x.full y.full) || b) (known_same x z ys e)

known_through : (x : Needed) (ys zs : List Needed) → is_known x ys ≡ true → AllKnown ys zs → is_known x zs ≡ true
known_through x [] zs h k = cc
known_through x (y ∷ ys) zs h k = by (is_same x.it y.it && same_way x.full y.full) refl h (λ r. known_through x ys zs r k.1)
  where
    by : (b : Bool) → (is_same x.it y.it && same_way x.full y.full) ≡ b → (b || is_known x ys) ≡ true → (is_known x ys ≡ true → is_known x zs ≡ true) → is_known x zs ≡ true
    by true e q f = sym (known_same x y zs e) ∙ k.0
    by false e q f = f q

abbrev one_unless : Bool → ℕ → ℕ
one_unless true n = n
one_unless false n = suc n

abbrev unknown : List Needed → List Needed → ℕ
unknown [] c = 0
unknown (u ∷ us) c = one_unless (is_known u c) (unknown us c)

at_most : (b : Bool) (m n : ℕ) → m ≤ n → one_unless b m ≤ suc n
at_most true m n h = omega (arith, h)
at_most false m n h = omega (arith, h)

unknown_length : (us c : List Needed) → unknown us c ≤ length us
unknown_length [] c = omega arith
unknown_length (u ∷ us) c = at_most (is_known u c) (unknown us c) (length us) (unknown_length us c)

false_true : {A : Type 0} → false ≡ true → A
false_true e = cc

less : (b c : Bool) (m n : ℕ) → (b ≡ true → c ≡ true) → m ≤ n → one_unless c m ≤ one_unless b n
less true true m n f h = h
less true false m n f h = false_true (f refl)
less false true m n f h = omega (arith, h)
less false false m n f h = omega (arith, h)

fewer : (b c : Bool) (m n : ℕ) → (b ≡ true → c ≡ true) → m < n → one_unless c m < one_unless b n
fewer true true m n f h = h
fewer true false m n f h = false_true (f refl)
fewer false true m n f h = omega (arith, h)
fewer false false m n f h = omega (arith, h)

new_one : (b c : Bool) (m n : ℕ) → b ≡ false → c ≡ true → m ≤ n → one_unless c m < one_unless b n
new_one true c m n e h k = false_true (sym e)
new_one false true m n e h k = omega (arith, k)
new_one false false m n e h k = false_true h

unknown_less : (us ys c : List Needed) → unknown us (with_all ys c) ≤ unknown us c
unknown_less [] ys c = omega arith
unknown_less (u ∷ us) ys c = less (is_known u c) (is_known u (with_all ys c)) (unknown us (with_all ys c)) (unknown us c) (known_all u ys c) (unknown_less us ys c)

unknown_fewer : (us ys c : List Needed) (y : Needed) → is_known y us ≡ true → is_known y c ≡ false → is_known y (with_all ys c) ≡ true → unknown us (with_all ys c) < unknown us c
unknown_fewer [] ys c y h new there = cc
unknown_fewer (u ∷ us) ys c y h new there = by (is_same y.it u.it && same_way y.full u.full) refl h (λ r. unknown_fewer us ys c y r new there)
  where
    by : (b : Bool) → (is_same y.it u.it && same_way y.full u.full) ≡ b → (b || is_known y us) ≡ true → (is_known y us ≡ true → unknown us (with_all ys c) < unknown us c)
        → one_unless (is_known u (with_all ys c)) (unknown us (with_all ys c)) < one_unless (is_known u c) (unknown us c)
    by true e q f =
        new_one (is_known u c) (is_known u (with_all ys c)) (unknown us (with_all ys c)) (unknown us c) (known_same y u c e ∙ new) (known_same y u (with_all ys c) e ∙ there) (unknown_less us ys c)
    by false e q f = fewer (is_known u c) (is_known u (with_all ys c)) (unknown us (with_all ys c)) (unknown us c) (known_all u ys c) (f q)

-- ---- a round adds something, or nothing is missing

record IsNew (ns c : List Needed) : Type 0 where
  it : Needed
  new : is_known it c ≡ false
  there : is_known it ns ≡ true

news : (ns c : List Needed) → AllKnown ns c ⊎ IsNew ns c
news [] c = inl tt
news (n ∷ ns) c = by (is_known n c) refl (news ns c)
  where
    by : (b : Bool) → is_known n c ≡ b → AllKnown ns c ⊎ IsNew ns c → AllKnown (n ∷ ns) c ⊎ IsNew (n ∷ ns) c
    by true e (inl h) = inl (e, h)
    by true e (inr h) = inr record { it = h.it; new = h.new; there = or_last (is_same h.it.it n.it && same_way h.it.full n.full) (is_known h.it ns) h.there }
    by false e h = inr record { it = n; new = e; there = ap (λ b. b || is_known n ns) (itself n) }

-- ---- what holds of all that is needed

module _ (P : Needed → Type 0) where
  both_all : (xs ys : List Needed) → AllByRecursion P xs → AllByRecursion P ys → AllByRecursion P (xs ++ ys)
  both_all [] ys h k = k
  both_all (x ∷ xs) ys h k = (h.0, both_all xs ys h.1 k)

  one_more : (x : Needed) (xs : List Needed) → P x → AllByRecursion P xs → AllByRecursion P (with_one x xs)
  one_more x xs h k = by (is_known x xs)
    where
      by : (b : Bool) → AllByRecursion P (if b then xs else xs ++ x ∷ [])
      by true = k
      by false = both_all xs (x ∷ []) k (h, tt)

  pub with_more : (ys xs : List Needed) → AllByRecursion P ys → AllByRecursion P xs → AllByRecursion P (with_all ys xs)
  with_more [] xs h k = k
  with_more (y ∷ ys) xs h k = with_more ys (with_one y xs) h.1 (one_more y xs h.0 k)

  module _ (asks : List Asked) (next : (x : Needed) → P x → AllByRecursion P (needs asks x)) where
    round_all : (xs : List Needed) → AllByRecursion P xs → AllByRecursion P (needs_of asks xs)
    round_all [] h = tt
    round_all (x ∷ xs) h = both_all (needs asks x) (needs_of asks xs) (next x h.0) (round_all xs h.1)

    module _ (all : List Needed) (within : (x : Needed) → P x → is_known x all ≡ true) where
      all_within : (xs : List Needed) → AllByRecursion P xs → AllKnown xs all
      all_within [] h = tt
      all_within (x ∷ xs) h = (within x h.0, all_within xs h.1)

      settled : (j : ℕ) (c : List Needed) → AllKnown (needs_of asks c) c → AllKnown (needs_of asks (all_needed asks j c)) (all_needed asks j c)
      settled j c r = subst (λ z. AllKnown (needs_of asks z) z) (sym (all_same asks j c (there_all (needs_of asks c) c r))) r

      falls : (c : List Needed) → AllByRecursion P c → IsNew (needs_of asks c) c → unknown all (with_all (needs_of asks c) c) < unknown all c
      falls c h w =
          unknown_fewer all (needs_of asks c) c w.it (known_through w.it (needs_of asks c) all w.there (all_within (needs_of asks c) (round_all c h))) w.new
          (known_through w.it (needs_of asks c) (with_all (needs_of asks c) c) w.there (each_known (needs_of asks c) c))

      either_way : {A : Type 0} (c : List Needed) → AllKnown (needs_of asks c) c ⊎ IsNew (needs_of asks c) c → (AllKnown (needs_of asks c) c → A) → (IsNew (needs_of asks c) c → A) → A
      either_way c (inl r) f g = f r
      either_way c (inr w) f g = g w

      enough : (k : ℕ) (c : List Needed) → AllByRecursion P c → unknown all c ≤ k → AllKnown (needs_of asks (all_needed asks k c)) (all_needed asks k c)
      enough zero c h low = either_way c (news (needs_of asks c) c) (λ r. settled zero c r) (λ w. absurd (let d = falls c h w in omega (arith, low, d)))
      enough (suc k) c h low =
          either_way c (news (needs_of asks c) c) (λ r. settled (suc k) c r)
          (λ w. enough k (with_all (needs_of asks c) c) (with_more (needs_of asks c) c (round_all c h) h) (let d = falls c h w in omega (arith, low, d)))

      last_round : (k : ℕ) (xs : List Needed) → all_needed asks (suc k) xs ≡ with_all (needs_of asks (all_needed asks k xs)) (all_needed asks k xs)
      last_round zero xs = refl
      last_round (suc k) xs = last_round k (with_all (needs_of asks xs) xs)

      pub two_more : (k : ℕ) (c : List Needed) → AllByRecursion P c → length all ≤ k → all_needed asks (suc (suc k)) c ≡ all_needed asks k c
      two_more k c h low =
          let closed = enough k c h (let l = unknown_length all c in omega (arith, l, low)) in
          let same = last_round k c ∙ there_all (needs_of asks (all_needed asks k c)) (all_needed asks k c) closed in
          last_round (suc k) c ∙ ap (λ z. with_all (needs_of asks z) z) same ∙ there_all (needs_of asks (all_needed asks k c)) (all_needed asks k c) closed

      -- further rounds find no more
      rounds_on : (k j : ℕ) (c : List Needed) → all_needed asks (k + j) c ≡ all_needed asks j (all_needed asks k c)
      rounds_on zero j c = ap (λ i. all_needed asks i c) (let z : 0 + j ≡ j = omega arith in z)
      rounds_on (suc k) j c = ap (λ i. all_needed asks i c) (let z : suc k + j ≡ suc (k + j) = omega arith in z) ∙ rounds_on k j (with_all (needs_of asks c) c)

      pub many_more : (k j : ℕ) (c : List Needed) → AllByRecursion P c → length all ≤ k → all_needed asks (k + j) c ≡ all_needed asks k c
      many_more k j c h low =
          let closed = enough k c h (let l = unknown_length all c in omega (arith, l, low)) in
          rounds_on k j c ∙ all_same asks j (all_needed asks k c) (there_all (needs_of asks (all_needed asks k c)) (all_needed asks k c) closed)

-- ---- all declarations, in both ways

abbrev pub both_ways : List Found → List Needed
both_ways [] = []
both_ways (d ∷ ds) = record { it = d; full = true } ∷ record { it = d; full = false } ∷ both_ways ds

pub both_count : (ds : List Found) → length (both_ways ds) ≡ length ds + length ds
both_count [] = refl
both_count (d ∷ ds) = let e = both_count ds in omega (arith, e)
