-- Pairs of which no first one has two second ones, and pairs that are one to one.
use Rattle.std.proofs.Common.{◌≡◌, ◌∙◌, ◌⊎◌, inl, inr, ℕ, zero, suc, ◌+◌, ◌≤◌, Bool, true, false, List, [], ◌∷◌, ◌++◌, length, map, take, drop, Option, Some, None, slice_get, refl, sym, ap, subst, arith}
use Rattle.std.specs.Prelude.{◌&&◌, ◌||◌, not, min, nat_eq, cond}
use Rattle.std.specs.List.{list_all, zip}
use Rattle.std.specs.Map.{lookup}
use Rattle.std.proofs.lemmas.Bool.{eqb-true, eq-eqb, and_parts, and_from}
use Rattle.std.proofs.lemmas.Option.{same_Some}
use Rattle.clone_window.specs.Sameness.{is_iff, fits_pair, is_one_to_one}
use Rattle.clone_window.specs.Pairing.{settles, is_settled}

-- ---- both directions

pub and-mixed : (a b c d : Bool) → ((a && b) && (c && d)) ≡ ((a && c) && (b && d))
and-mixed true true c d = refl
and-mixed true false true d = refl
and-mixed true false false d = refl
and-mixed false b c d = refl

all-both : {A : Type 0} (f g h : A → Bool) → ((x : A) → f x ≡ (g x && h x)) → (xs : List A) → list_all f xs ≡ (list_all g xs && list_all h xs)
all-both f g h e [] = refl
all-both f g h e (x ∷ xs) =
    ap (λ b. b && list_all f xs) (e x)
    ∙ ap (λ b. (g x && h x) && b) (all-both f g h e xs)
    ∙ and-mixed (g x) (h x) (list_all g xs) (list_all h xs)

all-equal : {A : Type 0} (f g : A → Bool) → ((x : A) → f x ≡ g x) → (xs : List A) → list_all f xs ≡ list_all g xs
all-equal f g e [] = refl
all-equal f g e (x ∷ xs) = ap (λ b. b && list_all f xs) (e x) ∙ ap (λ b. g x && b) (all-equal f g e xs)

all-mapped : {A B : Type 0} (g : A → B) (f : B → Bool) (xs : List A) → list_all f (map g xs) ≡ list_all (λ x. f (g x)) xs
all-mapped g f [] = refl
all-mapped g f (x ∷ xs) = ap (λ b. f (g x) && b) (all-mapped g f xs)

abbrev turned : (ℕ × ℕ) → (ℕ × ℕ)
turned p = (p.1, p.0)

zip-turned : (xs ys : List ℕ) → zip ys xs ≡ map turned (zip xs ys)
zip-turned [] [] = refl
zip-turned [] (y ∷ ys) = refl
zip-turned (x ∷ xs) [] = refl
zip-turned (x ∷ xs) (y ∷ ys) = ap (λ ps. (y, x) ∷ ps) (zip-turned xs ys)

iff-both : (a b : Bool) → is_iff a b ≡ ((not a || b) && (not b || a))
iff-both true true = refl
iff-both true false = refl
iff-both false true = refl
iff-both false false = refl

settled-turned : (ps : List (ℕ × ℕ)) → is_settled (map turned ps) ≡ list_all (λ p. list_all (λ q. settles (turned p) (turned q)) ps) ps
settled-turned ps =
    all-mapped turned (λ p. list_all (settles p) (map turned ps)) ps
    ∙ all-equal (λ p. list_all (settles (turned p)) (map turned ps)) (λ p. list_all (λ q. settles (turned p) (turned q)) ps) (λ p. all-mapped turned (settles (turned p)) ps) ps

pub one-to-one-both : (xs ys : List ℕ) → is_one_to_one (zip xs ys) ≡ (is_settled (zip xs ys) && is_settled (zip ys xs))
one-to-one-both xs ys =
    let ps : List (ℕ × ℕ) = zip xs ys in
    all-both (λ p. list_all (fits_pair p) ps) (λ p. list_all (settles p) ps) (λ p. list_all (λ q. settles (turned p) (turned q)) ps)
    (λ p. all-both (fits_pair p) (settles p) (λ q. settles (turned p) (turned q)) (λ q. iff-both (nat_eq p.0 q.0) (nat_eq p.1 q.1)) ps) ps
    ∙ ap (λ b. is_settled ps && b) (sym (settled-turned ps) ∙ ap is_settled (sym (zip-turned xs ys)))

-- ---- in words

-- x is one of the list
abbrev pub Among : {A : Type 0} → List A → A → Type 0
Among [] x = ⊥
Among (y ∷ ys) x = (x ≡ y) ⊎ Among ys x

abbrev Settled : List (ℕ × ℕ) → Type 0
Settled ps = (p q : ℕ × ℕ) → Among ps p → Among ps q → p.0 ≡ q.0 → p.1 ≡ q.1

among-front : {A : Type 0} (xs ys : List A) (x : A) → Among xs x → Among (xs ++ ys) x
among-front [] ys x h = absurd h
among-front (y ∷ xs) ys x (inl e) = inl e
among-front (y ∷ xs) ys x (inr h) = inr (among-front xs ys x h)

among-back : {A : Type 0} (xs ys : List A) (x : A) → Among ys x → Among (xs ++ ys) x
among-back [] ys x h = h
among-back (y ∷ xs) ys x h = inr (among-back xs ys x h)

among-either : {A : Type 0} (xs ys : List A) (x : A) → Among (xs ++ ys) x → Among xs x ⊎ Among ys x
among-either [] ys x h = inr h
among-either (y ∷ xs) ys x (inl e) = inl (inl e)
among-either (y ∷ xs) ys x (inr h) = elim (among-either xs ys x h) [ inl a ↦ inl (inr a) | inr b ↦ inr b ]

all-among : {A : Type 0} (test : A → Bool) (xs : List A) → list_all test xs ≡ true → (x : A) → Among xs x → test x ≡ true
all-among test [] h x k = absurd k
all-among {A} test (y ∷ xs) h x (inl e) = subst (λ (z : A). test z ≡ true) (sym e) (and_parts (test y) (list_all test xs) h).0
all-among test (y ∷ xs) h x (inr k) = all-among test xs (and_parts (test y) (list_all test xs) h).1 x k

among-all : {A : Type 0} (test : A → Bool) (xs : List A) → ((x : A) → Among xs x → test x ≡ true) → list_all test xs ≡ true
among-all test [] h = refl
among-all test (y ∷ xs) h = and_from (test y) (list_all test xs) (h y (inl refl)) (among-all test xs (λ x k. h x (inr k)))

settles-says : (p q : ℕ × ℕ) → settles p q ≡ true → p.0 ≡ q.0 → p.1 ≡ q.1
settles-says p q h e = eqb-true p.1 q.1 (ap (λ b. not b || nat_eq p.1 q.1) (sym (eq-eqb p.0 q.0 e)) ∙ h)

settles-where : (p q : ℕ × ℕ) → (p.0 ≡ q.0 → p.1 ≡ q.1) → settles p q ≡ true
settles-where p q h = step (nat_eq p.0 q.0) refl where
  step : (b : Bool) → nat_eq p.0 q.0 ≡ b → (not b || nat_eq p.1 q.1) ≡ true
  step true e = eq-eqb p.1 q.1 (h (eqb-true p.0 q.0 e))
  step false e = refl

says : (ps : List (ℕ × ℕ)) → is_settled ps ≡ true → Settled ps
says ps h p q a b = settles-says p q (all-among (settles p) ps (all-among (λ r. list_all (settles r) ps) ps h p a) q b)

where-settled : (ps : List (ℕ × ℕ)) → Settled ps → is_settled ps ≡ true
where-settled ps h = among-all (λ p. list_all (settles p) ps) ps (λ p a. among-all (settles p) ps (λ q b. settles-where p q (h p q a b)))

-- ---- partners by look-up

abbrev pub partner : ℕ → List (ℕ × ℕ) → Option ℕ
partner a ps = lookup (nat_eq a) ps

partner-among : (a x : ℕ) (ps : List (ℕ × ℕ)) → partner a ps ≡ Some x → Among ps (a, x)
partner-among a x [] h = cc
partner-among a x (p ∷ ps) h = step (λ k. partner-among a x ps k) (nat_eq a p.0) refl h where
  step : (partner a ps ≡ Some x → Among ps (a, x)) → (b : Bool) → nat_eq a p.0 ≡ b → cond b (Some p.1) (partner a ps) ≡ Some x → Among (p ∷ ps) (a, x)
  step below true e k =
      let s : a ≡ p.0 = eqb-true a p.0 e in
      let t : p.1 ≡ x = same_Some p.1 x k in
      inl (ap (λ n. (n, x)) s ∙ ap (λ n. (p.0, n)) (sym t))
  step below false e k = inr (below k)

no-partner : (a : ℕ) (ps : List (ℕ × ℕ)) (p : ℕ × ℕ) → partner a ps ≡ None → Among ps p → p.0 ≡ a → ⊥
no-partner a [] p h k e = k
no-partner a (q ∷ ps) p h k e = step (λ g m. no-partner a ps p g m e) (nat_eq a q.0) refl h k where
  step : (partner a ps ≡ None → Among ps p → ⊥) → (b : Bool) → nat_eq a q.0 ≡ b → cond b (Some q.1) (partner a ps) ≡ None → (p ≡ q) ⊎ Among ps p → ⊥
  step below true f g m = cc
  step below false f g (inl s) = let c : true ≡ false = sym (eq-eqb a q.0 (sym e ∙ ap (λ r. r.0) s)) ∙ f in cc
  step below false f g (inr m) = below g m

-- the partner in two lists, one behind the other
abbrev or-else : Option ℕ → Option ℕ → Option ℕ
or-else (Some x) o = Some x
or-else None o = o

partner-behind : (a : ℕ) (ps qs : List (ℕ × ℕ)) → partner a (ps ++ qs) ≡ or-else (partner a ps) (partner a qs)
partner-behind a [] qs = refl
partner-behind a (p ∷ ps) qs = step (nat_eq a p.0) (partner-behind a ps qs) where
  step : (b : Bool) → partner a (ps ++ qs) ≡ or-else (partner a ps) (partner a qs) → cond b (Some p.1) (partner a (ps ++ qs)) ≡ or-else (cond b (Some p.1) (partner a ps)) (partner a qs)
  step true below = refl
  step false below = below

or-nothing : (o : Option ℕ) → or-else o None ≡ o
or-nothing None = refl
or-nothing (Some x) = refl

-- A further pair whose first local has this partner.
again : (ps : List (ℕ × ℕ)) (a b : ℕ) → Settled ps → partner a ps ≡ Some b → Settled (ps ++ (a, b) ∷ [])
again ps a b h e p q m n i = step (among-either ps ((a, b) ∷ []) p m) (among-either ps ((a, b) ∷ []) q n) where
  step : Among ps p ⊎ Among ((a, b) ∷ []) p → Among ps q ⊎ Among ((a, b) ∷ []) q → p.1 ≡ q.1
  step (inl j) (inl k) = h p q j k i
  step (inl j) (inr (inl k)) = h p (a, b) j (partner-among a b ps e) (i ∙ ap (λ r. r.0) k) ∙ sym (ap (λ r. r.1) k)
  step (inl j) (inr (inr k)) = absurd k
  step (inr (inl j)) (inl k) = ap (λ r. r.1) j ∙ h (a, b) q (partner-among a b ps e) k (sym (ap (λ r. r.0) j) ∙ i)
  step (inr (inl j)) (inr (inl k)) = ap (λ r. r.1) j ∙ sym (ap (λ r. r.1) k)
  step (inr (inl j)) (inr (inr k)) = absurd k
  step (inr (inr j)) k = absurd j

-- A further pair whose first local had no partner.
new : (ps : List (ℕ × ℕ)) (a b : ℕ) → Settled ps → partner a ps ≡ None → Settled (ps ++ (a, b) ∷ [])
new ps a b h e p q m n i = step (among-either ps ((a, b) ∷ []) p m) (among-either ps ((a, b) ∷ []) q n) where
  step : Among ps p ⊎ Among ((a, b) ∷ []) p → Among ps q ⊎ Among ((a, b) ∷ []) q → p.1 ≡ q.1
  step (inl j) (inl k) = h p q j k i
  step (inl j) (inr (inl k)) = absurd (no-partner a ps p e j (i ∙ ap (λ r. r.0) k))
  step (inl j) (inr (inr k)) = absurd k
  step (inr (inl j)) (inl k) = absurd (no-partner a ps q e k (sym i ∙ ap (λ r. r.0) j))
  step (inr (inl j)) (inr (inl k)) = ap (λ r. r.1) j ∙ sym (ap (λ r. r.1) k)
  step (inr (inl j)) (inr (inr k)) = absurd k
  step (inr (inr j)) k = absurd j

-- ---- the loop over two rows

pub pair-next : (xs ys : List ℕ) (i a b : ℕ) → slice_get xs i ≡ Some a → slice_get ys i ≡ Some b → take (i + 1) (zip xs ys) ≡ take i (zip xs ys) ++ (a, b) ∷ []
pair-next [] ys i a b e f = cc
pair-next (x ∷ xs) [] i a b e f = cc
pair-next (x ∷ xs) (y ∷ ys) zero a b e f = ap (λ n. (n, y) ∷ []) (same_Some x a e) ∙ ap (λ n. (a, n) ∷ []) (same_Some y b f)
pair-next (x ∷ xs) (y ∷ ys) (suc i) a b e f = (let n : suc i + 1 ≡ suc (i + 1) = omega arith in ap (λ k. take k ((x, y) ∷ zip xs ys)) n) ∙ ap (λ ps. (x, y) ∷ ps) (pair-next xs ys i a b e f)

pub pair-there : (xs ys : List ℕ) (i a b : ℕ) → slice_get xs i ≡ Some a → slice_get ys i ≡ Some b → Among (zip xs ys) (a, b)
pair-there [] ys i a b e f = cc
pair-there (x ∷ xs) [] i a b e f = cc
pair-there (x ∷ xs) (y ∷ ys) zero a b e f = inl (ap (λ n. (n, b)) (sym (same_Some x a e)) ∙ ap (λ n. (x, n)) (sym (same_Some y b f)))
pair-there (x ∷ xs) (y ∷ ys) (suc i) a b e f = inr (pair-there xs ys i a b e f)

among-taken : {A : Type 0} (xs : List A) (i : ℕ) (x : A) → Among (take i xs) x → Among xs x
among-taken [] zero x h = h
among-taken [] (suc i) x h = h
among-taken (y ∷ xs) zero x h = absurd h
among-taken (y ∷ xs) (suc i) x (inl e) = inl e
among-taken (y ∷ xs) (suc i) x (inr h) = inr (among-taken xs i x h)

-- The pairs so far are settled, and a table has the partner of each first local among them.
pub record SettledSoFar (table : ℕ → Option ℕ) (xs ys : List ℕ) (i : ℕ) : Type 0 where
  pub settled : is_settled (take i (zip xs ys)) ≡ true
  pub partners : (q : ℕ) → table q ≡ partner q (take i (zip xs ys))

pub settled-again : (table : ℕ → Option ℕ) (xs ys : List ℕ) (i a b : ℕ) → slice_get xs i ≡ Some a → slice_get ys i ≡ Some b → table a ≡ Some b →
    SettledSoFar table xs ys i → SettledSoFar table xs ys (i + 1)
settled-again table xs ys i a b e f t h =
    let ps : List (ℕ × ℕ) = take i (zip xs ys) in
    let more = pair-next xs ys i a b e f in
    let has : partner a ps ≡ Some b = sym (h.partners a) ∙ t in
    record {
      settled = ap is_settled more ∙ where-settled (ps ++ (a, b) ∷ []) (again ps a b (says ps h.settled) has);
      partners = λ q. h.partners q ∙ same ps has q ∙ ap (partner q) (sym more);
    } where
      same : (ps : List (ℕ × ℕ)) → partner a ps ≡ Some b → (q : ℕ) → partner q ps ≡ partner q (ps ++ (a, b) ∷ [])
      same ps has q = sym (partner-behind q ps ((a, b) ∷ []) ∙ step (nat_eq q a) refl) where
        step : (t : Bool) → nat_eq q a ≡ t → or-else (partner q ps) (cond t (Some b) None) ≡ partner q ps
        step true g = let k : partner q ps ≡ Some b = ap (λ n. partner n ps) (eqb-true q a g) ∙ has in ap (λ o. or-else o (Some b)) k ∙ sym k
        step false g = or-nothing (partner q ps)

pub settled-new : (table more : ℕ → Option ℕ) (xs ys : List ℕ) (i a b : ℕ) → slice_get xs i ≡ Some a → slice_get ys i ≡ Some b → table a ≡ None →
    ((q : ℕ) → more q ≡ cond (nat_eq a q) (Some b) (table q)) → SettledSoFar table xs ys i → SettledSoFar more xs ys (i + 1)
settled-new table more xs ys i a b e f t u h =
    let ps : List (ℕ × ℕ) = take i (zip xs ys) in
    let next = pair-next xs ys i a b e f in
    let none : partner a ps ≡ None = sym (h.partners a) ∙ t in
    record {
      settled = ap is_settled next ∙ where-settled (ps ++ (a, b) ∷ []) (new ps a b (says ps h.settled) none);
      partners = λ q. u q ∙ ap (λ o. cond (nat_eq a q) (Some b) o) (h.partners q) ∙ put ps none q ∙ ap (partner q) (sym next);
    } where
      put : (ps : List (ℕ × ℕ)) → partner a ps ≡ None → (q : ℕ) → cond (nat_eq a q) (Some b) (partner q ps) ≡ partner q (ps ++ (a, b) ∷ [])
      put ps none q = step (nat_eq a q) refl ∙ sym (partner-behind q ps ((a, b) ∷ [])) where
        step : (t : Bool) → nat_eq a q ≡ t → cond t (Some b) (partner q ps) ≡ or-else (partner q ps) (cond (nat_eq q a) (Some b) None)
        step true g =
            let s : q ≡ a = sym (eqb-true a q g) in
            let k : partner q ps ≡ None = ap (λ n. partner n ps) s ∙ none in
            sym (ap (λ o. or-else o (cond (nat_eq q a) (Some b) None)) k ∙ ap (λ t. cond t (Some b) None) (eq-eqb q a s))
        step false g = rest (nat_eq q a) refl where
          rest : (t : Bool) → nat_eq q a ≡ t → partner q ps ≡ or-else (partner q ps) (cond t (Some b) None)
          rest true k = let c : true ≡ false = sym (eq-eqb a q (sym (eqb-true q a k))) ∙ g in cc
          rest false k = sym (or-nothing (partner q ps))

-- two partners of one local
pub unsettled : (table : ℕ → Option ℕ) (xs ys : List ℕ) (i a b x : ℕ) → slice_get xs i ≡ Some a → slice_get ys i ≡ Some b → table a ≡ Some x → (x ≡ b → ⊥) →
    SettledSoFar table xs ys i → is_settled (zip xs ys) ≡ false
unsettled table xs ys i a b x e f t n h = step (is_settled (zip xs ys)) refl where
  step : (s : Bool) → is_settled (zip xs ys) ≡ s → is_settled (zip xs ys) ≡ false
  step false g = g
  step true g =
      absurd (n (says (zip xs ys) g (a, x) (a, b) (among-taken (zip xs ys) i (a, x) (partner-among a x (take i (zip xs ys)) (sym (h.partners a) ∙ t))) (pair-there xs ys i a b e f) refl))

-- all pairs
pub taken-all : (xs ys : List ℕ) (i : ℕ) → min (length xs) (length ys) ≤ i → take i (zip xs ys) ≡ zip xs ys
taken-all [] ys zero h = refl
taken-all [] ys (suc i) h = refl
taken-all (x ∷ xs) [] zero h = refl
taken-all (x ∷ xs) [] (suc i) h = refl
taken-all (x ∷ xs) (y ∷ ys) zero h = absurd (omega (arith, h))
taken-all (x ∷ xs) (y ∷ ys) (suc i) h = ap (λ ps. (x, y) ∷ ps) (taken-all xs ys i (omega (arith, h)))

pub pair-left : (xs ys : List ℕ) (i a b : ℕ) → slice_get xs i ≡ Some a → slice_get ys i ≡ Some b → drop i (zip xs ys) ≡ (a, b) ∷ drop (i + 1) (zip xs ys)
pair-left [] ys i a b e f = cc
pair-left (x ∷ xs) [] i a b e f = cc
pair-left (x ∷ xs) (y ∷ ys) zero a b e f = ap (λ n. (n, y) ∷ zip xs ys) (same_Some x a e) ∙ ap (λ n. (a, n) ∷ zip xs ys) (same_Some y b f)
pair-left (x ∷ xs) (y ∷ ys) (suc i) a b e f = pair-left xs ys i a b e f ∙ (let n : suc (i + 1) ≡ suc i + 1 = omega arith in ap (λ k. (a, b) ∷ drop k ((x, y) ∷ zip xs ys)) n)

pub none-left : (xs ys : List ℕ) (i : ℕ) → min (length xs) (length ys) ≤ i → drop i (zip xs ys) ≡ []
none-left [] ys zero h = refl
none-left [] ys (suc i) h = refl
none-left (x ∷ xs) [] zero h = refl
none-left (x ∷ xs) [] (suc i) h = refl
none-left (x ∷ xs) (y ∷ ys) zero h = absurd (omega (arith, h))
none-left (x ∷ xs) (y ∷ ys) (suc i) h = none-left xs ys i (omega (arith, h))
