-- What declarations need, in two functions side by side: where what one needs in the new function is needed in the old one, none needs
-- itself that didn't.
use Rattle.std.proofs.Common.{◌≡◌, ◌∙◌, ℕ, zero, suc, ◌⊎◌, inl, inr, Bool, true, false, List, [], ◌∷◌, ◌++◌, Option, Some, None, refl, sym, ap, subst}
use Rattle.std.specs.Prelude.{if◌then◌else◌, ◌&&◌, ◌||◌, nat_eq}
use Rattle.go_tree.specs.Declarations.{Found}
use Rattle.go_tree.specs.Lookups.{Asked}
use Rattle.go_tree.specs.Meanings.{Meaning}
use Rattle.go_tree.specs.Needs.{Needed, if_so, way, needed_source, needed_meaning, needs, is_same, needs_of, is_among, same_way, is_known, with_one, with_all, all_needed, needs_itself}
use Rattle.go_scopes_cycles.specs.Needs.{source_of}
use Rattle.extract_names.specs.Gaps.{Among}
use Rattle.extract_names.proofs.Edges.{is_eq}
use Rattle.extract_names.proofs.Rows.{both_true, and_true}
use Rattle.extract_names.proofs.Replaced.{among_left, among_right, among_split}

-- ---- what is needed at once

-- A name calls for what is needed.
pub record Calls (asks : List Asked) (x n : Needed) : Type 0 where
  pub ask : Asked
  pub among : Among ask asks
  pub so : if_so (nat_eq ask.file x.it.file) (way x.it.it x.full ask.it.site) ≡ Some n.full
  pub source : source_of ask.meaning ≡ Some n.it

meaning_tells : (w : Option Bool) (m : Option Meaning) (ns : List Needed) (n : Needed) → Among n (needed_meaning w m ns) → Among n ns ⊎ ((w ≡ Some n.full) × (source_of m ≡ Some n.it))
meaning_tells None m ns n k = inl k
meaning_tells (Some f) None ns n k = inl k
meaning_tells (Some f) (Some m) ns n k = by m.source refl k
  where
    by : (s : Option Found) → m.source ≡ s → Among n (needed_source f s ns) → Among n ns ⊎ ((Some f ≡ Some n.full) × (m.source ≡ Some n.it))
    by None e k = inl k
    by (Some d) e (inl q) = inr (ap (λ (z : Needed). Some z.full) (sym q), e ∙ ap (λ (z : Needed). Some z.it) (sym q))
    by (Some d) e (inr k) = inl k

meaning_more : (w : Option Bool) (m : Option Meaning) (ns : List Needed) (n : Needed) → Among n ns → Among n (needed_meaning w m ns)
meaning_more None m ns n k = k
meaning_more (Some f) None ns n k = k
meaning_more (Some f) (Some m) ns n k = by m.source
  where
    by : (s : Option Found) → Among n (needed_source f s ns)
    by None = k
    by (Some d) = inr k

meaning_told : (w : Option Bool) (m : Option Meaning) (ns : List Needed) (n : Needed) → w ≡ Some n.full → source_of m ≡ Some n.it → Among n (needed_meaning w m ns)
meaning_told None m ns n e f = cc
meaning_told (Some b) None ns n e f = cc
meaning_told (Some b) (Some m) ns n e f = subst (λ s. Among n (needed_source b s ns)) (sym f) (inl (let q : b ≡ n.full = cc in ap (λ (z : Bool). record { it = n.it; full = z }) (sym q)))

pub needs_calls : (asks : List Asked) (x n : Needed) → Among n (needs asks x) → Calls asks x n
needs_calls [] x n k = absurd k
needs_calls (a ∷ asks) x n k = by (meaning_tells (if_so (nat_eq a.file x.it.file) (way x.it.it x.full a.it.site)) a.meaning (needs asks x) n k) (needs_calls asks x n)
  where
    by : Among n (needs asks x) ⊎ ((if_so (nat_eq a.file x.it.file) (way x.it.it x.full a.it.site) ≡ Some n.full) × (source_of a.meaning ≡ Some n.it)) → (Among n (needs asks x) → Calls asks x n) → Calls (a ∷ asks) x n
    by (inl m) go = let c = go m in record { ask = c.ask; among = inr c.among; so = c.so; source = c.source }
    by (inr p) go = record { ask = a; among = inl refl; so = p.0; source = p.1 }

pub calls_needs : (asks : List Asked) (x n : Needed) (a : Asked) → Among a asks → if_so (nat_eq a.file x.it.file) (way x.it.it x.full a.it.site) ≡ Some n.full → source_of a.meaning ≡ Some n.it → Among n (needs asks x)
calls_needs [] x n a k e f = absurd k
calls_needs (b ∷ asks) x n a (inl q) e f =
    meaning_told (if_so (nat_eq b.file x.it.file) (way x.it.it x.full b.it.site)) b.meaning (needs asks x) n
    (subst (λ (z : Asked). if_so (nat_eq z.file x.it.file) (way x.it.it x.full z.it.site) ≡ Some n.full) q e) (subst (λ (z : Asked). source_of z.meaning ≡ Some n.it) q f)
calls_needs (b ∷ asks) x n a (inr k) e f = meaning_more (if_so (nat_eq b.file x.it.file) (way x.it.it x.full b.it.site)) b.meaning (needs asks x) n (calls_needs asks x n a k e f)

pub none_among : (ns : List Needed) → ((n : Needed) → Among n ns → ⊥) → ns ≡ []
none_among [] f = refl
none_among (n ∷ ns) f = absurd (f n (inl refl))

-- ---- rounds

of_from : (asks : List Asked) (xs : List Needed) (n : Needed) → Among n (needs_of asks xs) → (x : Needed) × Among x xs × Among n (needs asks x)
of_from asks [] n k = absurd k
of_from asks (x ∷ xs) n k = by (among_split n (needs asks x) (needs_of asks xs) k) (of_from asks xs n)
  where
    by : Among n (needs asks x) ⊎ Among n (needs_of asks xs) → (Among n (needs_of asks xs) → (y : Needed) × Among y xs × Among n (needs asks y)) → (y : Needed) × Among y (x ∷ xs) × Among n (needs asks y)
    by (inl m) go = (x, inl refl, m)
    by (inr m) go = let y = go m in (y.0, inr y.1, y.2)

of_told : (asks : List Asked) (xs : List Needed) (x n : Needed) → Among x xs → Among n (needs asks x) → Among n (needs_of asks xs)
of_told asks [] x n k m = absurd k
of_told asks (y ∷ xs) x n (inl e) m = among_left n (needs asks y) (needs_of asks xs) (subst (λ z. Among n (needs asks z)) e m)
of_told asks (y ∷ xs) x n (inr k) m = among_right n (needs asks y) (needs_of asks xs) (of_told asks xs x n k m)

one_from : (x : Needed) (xs : List Needed) (n : Needed) → Among n (with_one x xs) → Among n xs ⊎ (n ≡ x)
one_from x xs n k = by (is_known x xs) k
  where
    last : Among n xs ⊎ Among n (x ∷ []) → Among n xs ⊎ (n ≡ x)
    last (inl m) = inl m
    last (inr (inl e)) = inr e
    last (inr (inr m)) = absurd m

    by : (b : Bool) → Among n (if b then xs else xs ++ x ∷ []) → Among n xs ⊎ (n ≡ x)
    by true k = inl k
    by false k = last (among_split n xs (x ∷ []) k)

one_old : (x : Needed) (xs : List Needed) (n : Needed) → Among n xs → Among n (with_one x xs)
one_old x xs n k = by (is_known x xs)
  where
    by : (b : Bool) → Among n (if b then xs else xs ++ x ∷ [])
    by true = k
    by false = among_left n xs (x ∷ []) k

all_from : (ys xs : List Needed) (n : Needed) → Among n (with_all ys xs) → Among n ys ⊎ Among n xs
all_from [] xs n k = inr k
all_from (y ∷ ys) xs n k = by (all_from ys (with_one y xs) n k)
  where
    first : Among n xs ⊎ (n ≡ y) → Among n (y ∷ ys) ⊎ Among n xs
    first (inl m) = inr m
    first (inr e) = inl (inl e)

    by : Among n ys ⊎ Among n (with_one y xs) → Among n (y ∷ ys) ⊎ Among n xs
    by (inl m) = inl (inr m)
    by (inr m) = first (one_from y xs n m)

all_old : (ys xs : List Needed) (n : Needed) → Among n xs → Among n (with_all ys xs)
all_old [] xs n k = k
all_old (y ∷ ys) xs n k = all_old ys (with_one y xs) n (one_old y xs n k)

known_found : (x : Needed) (xs : List Needed) → is_known x xs ≡ true → (y : Needed) × Among y xs × (is_same x.it y.it ≡ true) × (x.full ≡ y.full)
known_found x [] e = cc
known_found x (y ∷ xs) e = by (is_same x.it y.it && same_way x.full y.full) refl e (known_found x xs)
  where
    full : (b c : Bool) → same_way b c ≡ true → b ≡ c
    full true true e = refl
    full true false e = cc
    full false true e = cc
    full false false e = refl

    by : (b : Bool) → (is_same x.it y.it && same_way x.full y.full) ≡ b → (b || is_known x xs) ≡ true → (is_known x xs ≡ true → (z : Needed) × Among z xs × (is_same x.it z.it ≡ true) × (x.full ≡ z.full))
        → (z : Needed) × Among z (y ∷ xs) × (is_same x.it z.it ≡ true) × (x.full ≡ z.full)
    by true q e go = let p = both_true (is_same x.it y.it) (same_way x.full y.full) q in (y, inl refl, p.0, full x.full y.full p.1)
    by false q e go = let z = go e in (z.0, inr z.1, z.2, z.3)

same_refl : (d : Found) → is_same d d ≡ true
same_refl d = and_true (nat_eq d.file d.file) (nat_eq d.it.name d.it.name) (is_eq d.file d.file refl) (is_eq d.it.name d.it.name refl)

among_is : (d : Found) (xs : List Needed) (n : Needed) → Among n xs → is_same d n.it ≡ true → is_among d xs ≡ true
among_is d [] n k e = absurd k
among_is d (x ∷ xs) n (inl q) e = ap (λ b. b || is_among d xs) (subst (λ (z : Needed). is_same d z.it ≡ true) q e)
among_is d (x ∷ xs) n (inr k) e = by (is_same d x.it) (among_is d xs n k e)
  where
    by : (b : Bool) → is_among d xs ≡ true → (b || is_among d xs) ≡ true
    by true e = refl
    by false e = e

is_found : (d : Found) (xs : List Needed) → is_among d xs ≡ true → (n : Needed) × Among n xs × (is_same d n.it ≡ true)
is_found d [] e = cc
is_found d (x ∷ xs) e = by (is_same d x.it) refl e (is_found d xs)
  where
    by : (b : Bool) → is_same d x.it ≡ b → (b || is_among d xs) ≡ true → (is_among d xs ≡ true → (n : Needed) × Among n xs × (is_same d n.it ≡ true)) → (n : Needed) × Among n (x ∷ xs) × (is_same d n.it ≡ true)
    by true q e go = (x, inl refl, q)
    by false q e go = let y = go e in (y.0, inr y.1, y.2)

-- it needs nothing
abbrev pub IsIdle : List Asked → Found → Type 0
IsIdle asks d = (f : Bool) → needs asks (record { it = d; full = f }) ≡ []

none_round : (asks : List Asked) (k : ℕ) → all_needed asks k [] ≡ []
none_round asks zero = refl
none_round asks (suc k) = none_round asks k

pub idle_itself : (asks : List Asked) (k : ℕ) (d : Found) → IsIdle asks d → needs_itself asks k d ≡ false
idle_itself asks k d h = ap (λ ns. is_among d (all_needed asks k (with_all ns []))) (h false) ∙ ap (is_among d) (none_round asks k)

-- Declarations of one file and one name are one.
abbrev pub AreOne : List Found → Type 0
AreOne ds = (x y : Found) → Among x ds → Among y ds → is_same x y ≡ true → x ≡ y

-- ---- two functions

-- What names call for in the new function, and in the old one; what both declare; and which declaration of the new function is one of the
-- old. What such a one needs needs nothing, or it is such a one, needed in the old function in the same way.
pub record NeedsAlike (new old : List Asked) (E D : List Found) (R : Found → Found → Type 0) : Type 0 where
  pub one_new : AreOne E
  pub one_old : AreOne D
  pub within_new : (x n : Needed) → Among n (needs new x) → Among n.it E
  pub within_old : (x n : Needed) → Among n (needs old x) → Among n.it D
  pub once : (x y z : Found) → R x y → R x z → y ≡ z
  pub step : (x y : Found) (f : Bool) → R x y → (n : Needed) → Calls new (record { it = x; full = f }) n → IsIdle new n.it ⊎ ((z : Found) × R n.it z × Among (record { it = z; full = n.full }) (needs old (record { it = y; full = f })))

module _ (new old : List Asked) (E D : List Found) (R : Found → Found → Type 0) (h : NeedsAlike new old E D R) where
  abbrev Within : List Needed → Type 0
  Within ys = (n : Needed) → Among n ys → Among n.it D

  abbrev Alike : List Needed → List Needed → Type 0
  Alike xs ys = (n : Needed) → Among n xs → Among n.it E × (IsIdle new n.it ⊎ ((z : Found) × R n.it z × Among (record { it = z; full = n.full }) ys))

  of_alike : (xs ys : List Needed) → Alike xs ys → Alike (needs_of new xs) (needs_of old ys)
  of_alike xs ys g n k = let x = of_from new xs n k in (h.within_new x.0 n x.2, by x.0 x.2 (g x.0 x.1).1)
    where
      by : (x : Needed) → Among n (needs new x) → IsIdle new x.it ⊎ ((z : Found) × R x.it z × Among (record { it = z; full = x.full }) ys) → IsIdle new n.it ⊎ ((z : Found) × R n.it z × Among (record { it = z; full = n.full }) (needs_of old ys))
      by x m (inl idle) = absurd (subst (Among n) (idle x.full) m)
      by x m (inr (z, r, l)) = next (h.step x.it z x.full r n (needs_calls new x n m))
        where
          next : IsIdle new n.it ⊎ ((w : Found) × R n.it w × Among (record { it = w; full = n.full }) (needs old (record { it = z; full = x.full }))) → IsIdle new n.it ⊎ ((w : Found) × R n.it w × Among (record { it = w; full = n.full }) (needs_of old ys))
          next (inl idle) = inl idle
          next (inr (w, s, q)) = inr (w, s, of_told old ys (record { it = z; full = x.full }) (record { it = w; full = n.full }) l q)

  -- what is added is there
  one_new : (x : Needed) (xs : List Needed) → Among x.it D → Within xs → Among x (with_one x xs)
  one_new x xs i w = by (is_known x xs) refl
    where
      by : (b : Bool) → is_known x xs ≡ b → Among x (if b then xs else xs ++ x ∷ [])
      by false e = among_right x xs (x ∷ []) (inl refl)
      by true e =
          let y = known_found x xs e in
          let p : x.it ≡ y.0.it = h.one_old x.it y.0.it i (w y.0 y.1) y.2 in
          let q : y.0 ≡ x = ap (λ (z : Found). record { it = z; full = y.0.full }) (sym p) ∙ ap (λ (z : Bool). record { it = x.it; full = z }) (sym y.3) in
          subst (λ z. Among z xs) q y.1

  within_one : (x : Needed) (xs : List Needed) → Among x.it D → Within xs → Within (with_one x xs)
  within_one x xs i w n k = by (one_from x xs n k)
    where
      by : Among n xs ⊎ (n ≡ x) → Among n.it D
      by (inl m) = w n m
      by (inr e) = subst (λ (z : Needed). Among z.it D) (sym e) i

  within_all : (ys xs : List Needed) → Within ys → Within xs → Within (with_all ys xs)
  within_all ys xs v w n k = by (all_from ys xs n k)
    where
      by : Among n ys ⊎ Among n xs → Among n.it D
      by (inl m) = v n m
      by (inr m) = w n m

  all_new : (ys xs : List Needed) → Within ys → Within xs → (n : Needed) → Among n ys → Among n (with_all ys xs)
  all_new [] xs v w n k = absurd k
  all_new (y ∷ ys) xs v w n (inl e) = subst (λ z. Among z (with_all ys (with_one y xs))) (sym e) (all_old ys (with_one y xs) y (one_new y xs (v y (inl refl)) w))
  all_new (y ∷ ys) xs v w n (inr k) = all_new ys (with_one y xs) (λ z m. v z (inr m)) (within_one y xs (v y (inl refl)) w) n k

  all_alike : (ks xs bs ys : List Needed) → Within bs → Within ys → Alike ks bs → Alike xs ys → Alike (with_all ks xs) (with_all bs ys)
  all_alike ks xs bs ys v w f g n k = by (all_from ks xs n k)
    where
      by : Among n ks ⊎ Among n xs → Among n.it E × (IsIdle new n.it ⊎ ((z : Found) × R n.it z × Among (record { it = z; full = n.full }) (with_all bs ys)))
      by (inl m) = let x = f n m in (x.0, next x.1)
        where
          next : IsIdle new n.it ⊎ ((z : Found) × R n.it z × Among (record { it = z; full = n.full }) bs) → IsIdle new n.it ⊎ ((z : Found) × R n.it z × Among (record { it = z; full = n.full }) (with_all bs ys))
          next (inl idle) = inl idle
          next (inr (z, r, l)) = inr (z, r, all_new bs ys v w (record { it = z; full = n.full }) l)
      by (inr m) = let x = g n m in (x.0, next x.1)
        where
          next : IsIdle new n.it ⊎ ((z : Found) × R n.it z × Among (record { it = z; full = n.full }) ys) → IsIdle new n.it ⊎ ((z : Found) × R n.it z × Among (record { it = z; full = n.full }) (with_all bs ys))
          next (inl idle) = inl idle
          next (inr (z, r, l)) = inr (z, r, all_old bs ys (record { it = z; full = n.full }) l)

  within_of : (xs : List Needed) → Within (needs_of old xs)
  within_of xs n k = let x = of_from old xs n k in h.within_old x.0 n x.2

  rounds_alike : (k : ℕ) (xs ys : List Needed) → Within ys → Alike xs ys → Alike (all_needed new k xs) (all_needed old k ys)
  rounds_alike zero xs ys w g = g
  rounds_alike (suc k) xs ys w g =
      rounds_alike k (with_all (needs_of new xs) xs) (with_all (needs_of old ys) ys) (within_all (needs_of old ys) ys (within_of ys) w)
      (all_alike (needs_of new xs) xs (needs_of old ys) ys (within_of ys) w (of_alike xs ys g) g)

  -- A declaration that needs itself in the new function needs itself in the old one.
  pub itself_alike : (k : ℕ) (x y : Found) → Among x E → R x y → needs_itself old k y ≡ false → needs_itself new k x ≡ false
  itself_alike k x y i r e = by (needs_itself new k x) refl
    where
      start : Alike (needs new (record { it = x; full = false })) (needs old (record { it = y; full = false }))
      start n m = (h.within_new (record { it = x; full = false }) n m, h.step x y false r n (needs_calls new (record { it = x; full = false }) n m))

      first : Alike (with_all (needs new (record { it = x; full = false })) []) (with_all (needs old (record { it = y; full = false })) [])
      first = all_alike (needs new (record { it = x; full = false })) [] (needs old (record { it = y; full = false })) [] (λ n m. h.within_old (record { it = y; full = false }) n m) (λ n m. absurd m) start (λ n m. absurd m)

      all : Alike (all_needed new k (with_all (needs new (record { it = x; full = false })) [])) (all_needed old k (with_all (needs old (record { it = y; full = false })) []))
      all =
          rounds_alike k (with_all (needs new (record { it = x; full = false })) []) (with_all (needs old (record { it = y; full = false })) [])
          (within_all (needs old (record { it = y; full = false })) [] (λ n m. h.within_old (record { it = y; full = false }) n m) (λ n m. absurd m)) first

      found : (n : Needed) → is_same x n.it ≡ true → Among n.it E × (IsIdle new n.it ⊎ ((z : Found) × R n.it z × Among (record { it = z; full = n.full }) (all_needed old k (with_all (needs old (record { it = y; full = false })) [])))) → needs_itself new k x ≡ true → ⊥
      found n s (l, inl idle) t =
          let q : x ≡ n.it = h.one_new x n.it i l s in
          let f : needs_itself new k x ≡ false = idle_itself new k x (subst (IsIdle new) (sym q) idle) in cc
      found n s (l, inr (z, t, m)) u =
          let q : x ≡ n.it = h.one_new x n.it i l s in
          let p : y ≡ z = h.once x y z r (subst (λ w. R w z) (sym q) t) in
          let f : needs_itself old k y ≡ true = among_is y (all_needed old k (with_all (needs old (record { it = y; full = false })) [])) (record { it = z; full = n.full }) m (subst (λ w. is_same y w ≡ true) p (same_refl y)) in cc

      by : (b : Bool) → needs_itself new k x ≡ b → b ≡ false
      by false q = refl
      by true q = let n = is_found x (all_needed new k (with_all (needs new (record { it = x; full = false })) [])) q in absurd (found n.0 n.2 (all n.0 n.1) q)
