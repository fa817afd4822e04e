-- The number of words, one word after the other.
use Rattle.std.proofs.Common.{◌≡◌, ◌∙◌, ℕ, zero, suc, ◌+◌, ◌%◌, ◌^◌, ◌≤◌, List, [], ◌∷◌, ◌++◌, length, map, take, Option, Some, slice_get, inl, inr, refl, sym, ap, subst, arith}
use Rattle.std.specs.Prelude.{◌⊎◌}
use Rattle.std.proofs.lemmas.List.{map-append}
use Rattle.std.proofs.lemmas.Option.{same_Some}
use Rattle.std.proofs.Math.Nat.{add-mod-mod}
use Rattle.alpha_hash_defs.specs.Hash.{mix, basis, fold, fold_from, term}
use Rattle.alpha_hash_defs.specs.Numbers.{place_before, terms_from, words_hash}
use Rattle.alpha_hash_defs.specs.Words.{Word, number, named, word_value}
use Rattle.alpha_hash.specs.Rolling.{HasPlaces, seen_after, seen_at, term_at}

fold-more : (h : ℕ) (xs : List ℕ) (w : ℕ) → fold_from h (xs ++ w ∷ []) ≡ mix (fold_from h xs) w
fold-more h [] w = refl
fold-more h (x ∷ xs) w = fold-more (mix h x) xs w

one-term : (seen : List (ℕ × ℕ)) (p : ℕ) (w : Word) → terms_from seen p (w ∷ []) ≡ term_at seen p w % 2 ^ 64
one-term seen p (number n) = refl
one-term seen p (named l) = let e : term p (place_before seen l) + 0 ≡ term p (place_before seen l) = omega arith in ap (λ t. t % 2 ^ 64) e

turned-sum : (t a b : ℕ) → (t + (a + b) % 2 ^ 64) % 2 ^ 64 ≡ ((t + a) % 2 ^ 64 + b) % 2 ^ 64
turned-sum t a b =
    add-mod-mod t (a + b) (2 ^ 64)
    ∙ (let e : t + (a + b) ≡ b + (t + a) = omega arith in ap (λ n. n % 2 ^ 64) e)
    ∙ sym (add-mod-mod b (t + a) (2 ^ 64))
    ∙ (let e : b + (t + a) % 2 ^ 64 ≡ (t + a) % 2 ^ 64 + b = omega arith in ap (λ n. n % 2 ^ 64) e)

terms-more : (seen : List (ℕ × ℕ)) (p : ℕ) (ws : List Word) (w : Word) →
    terms_from seen p (ws ++ w ∷ []) ≡ (terms_from seen p ws + term_at (seen_after seen p ws) (p + length ws) w) % 2 ^ 64
terms-more seen p [] w =
    one-term seen p w
    ∙ (let e : p ≡ p + 0 = omega arith in ap (λ k. term_at seen k w % 2 ^ 64) e)
    ∙ (let e : term_at seen (p + 0) w ≡ 0 + term_at seen (p + 0) w = omega arith in ap (λ t. t % 2 ^ 64) e)
terms-more seen p (number n ∷ ws) w =
    terms-more seen (suc p) ws w
    ∙ (let e : suc p + length ws ≡ p + suc (length ws) = omega arith in ap (λ k. (terms_from seen (suc p) ws + term_at (seen_after seen (suc p) ws) k w) % 2 ^ 64) e)
terms-more seen p (named l ∷ ws) w =
    let t = term p (place_before seen l) in
    let later = (l, p) ∷ seen in
    ap (λ n. (t + n) % 2 ^ 64) (terms-more later (suc p) ws w)
    ∙ turned-sum t (terms_from later (suc p) ws) (term_at (seen_after later (suc p) ws) (suc p + length ws) w)
    ∙ (let e : suc p + length ws ≡ p + suc (length ws) = omega arith in ap (λ k. ((t + terms_from later (suc p) ws) % 2 ^ 64 + term_at (seen_after later (suc p) ws) k w) % 2 ^ 64) e)

seen-more : (seen : List (ℕ × ℕ)) (p : ℕ) (ws : List Word) (w : Word) → seen_after seen p (ws ++ w ∷ []) ≡ seen_at (seen_after seen p ws) (p + length ws) w
seen-more seen p [] w = let e : p ≡ p + 0 = omega arith in ap (λ k. seen_at seen k w) e
seen-more seen p (v ∷ ws) w =
    seen-more (seen_at seen p v) (suc p) ws w
    ∙ (let e : suc p + length ws ≡ p + suc (length ws) = omega arith in ap (λ k. seen_at (seen_after (seen_at seen p v) (suc p) ws) k w) e)

front-more : {A : Type 0} (xs : List A) (i : ℕ) (x : A) → slice_get xs i ≡ Some x → take (i + 1) xs ≡ take i xs ++ x ∷ []
front-more [] i x e = cc
front-more (y ∷ xs) zero x e = ap (λ z. z ∷ []) (same_Some y x e)
front-more (y ∷ xs) (suc i) x e = (let n : suc i + 1 ≡ suc (i + 1) = omega arith in ap (λ k. take k (y ∷ xs)) n) ∙ ap (λ l. y ∷ l) (front-more xs i x e)

front-length : {A : Type 0} (xs : List A) (i : ℕ) (x : A) → slice_get xs i ≡ Some x → length (take i xs) ≡ i
front-length [] i x e = cc
front-length (y ∷ xs) zero x e = refl
front-length (y ∷ xs) (suc i) x e = ap suc (front-length xs i x e)

pub front-within : {A : Type 0} (n i : ℕ) (xs : List A) → n ≤ i → take n (take i xs) ≡ take n xs
front-within zero zero [] h = refl
front-within zero zero (x ∷ xs) h = refl
front-within zero (suc i) [] h = refl
front-within zero (suc i) (x ∷ xs) h = refl
front-within (suc n) zero xs h = absurd (omega (arith, h))
front-within (suc n) (suc i) [] h = refl
front-within (suc n) (suc i) (x ∷ xs) h = ap (λ l. x ∷ l) (front-within n i xs (omega (arith, h)))

-- ---- words so far

-- What stands behind the first so many words: their fold, the sum of their terms, the last places of locals, and the numbers of all
-- fronts of them.
pub record RolledSoFar (ws : List Word) (i fold_is terms : ℕ) (places : ℕ → Option ℕ) (numbers : List ℕ) : Type 0 where
  pub fold_so_far : fold_is ≡ fold (map word_value (take i ws))
  pub terms_so_far : terms ≡ terms_from [] 1 (take i ws)
  pub places_so_far : HasPlaces places (seen_after [] 1 (take i ws))
  pub count : length numbers ≡ i + 1
  pub each : (n : ℕ) → n ≤ i → slice_get numbers n ≡ Some (words_hash (take n ws))

pushed-before : {A : Type 0} (xs : List A) (x : A) (n : ℕ) (y : A) → slice_get xs n ≡ Some y → slice_get (xs ++ x ∷ []) n ≡ Some y
pushed-before [] x n y e = cc
pushed-before (z ∷ xs) x zero y e = e
pushed-before (z ∷ xs) x (suc n) y e = pushed-before xs x n y e

pushed-last : {A : Type 0} (xs : List A) (x : A) (n : ℕ) → length xs ≡ n → slice_get (xs ++ x ∷ []) n ≡ Some x
pushed-last [] x zero e = refl
pushed-last [] x (suc n) e = absurd (omega (arith, e))
pushed-last (z ∷ xs) x zero e = absurd (omega (arith, e))
pushed-last (z ∷ xs) x (suc n) e = pushed-last xs x n (omega (arith, e))

pushed-length : {A : Type 0} (xs : List A) (x : A) → length (xs ++ x ∷ []) ≡ length xs + 1
pushed-length [] x = refl
pushed-length (y ∷ xs) x = omega (arith, pushed-length xs x)

pub rolled-more : (ws : List Word) (i f t : ℕ) (places places' : ℕ → Option ℕ) (numbers numbers' : List ℕ) (w : Word) (f' t' added : ℕ) → slice_get ws i ≡ Some w →
    RolledSoFar ws i f t places numbers →
    f' ≡ mix f (word_value w) →
    ((seen : List (ℕ × ℕ)) → HasPlaces places seen → added ≡ term_at seen (i + 1) w) →
    t' ≡ (t + added) % 2 ^ 64 →
    ((seen : List (ℕ × ℕ)) → HasPlaces places seen → HasPlaces places' (seen_at seen (i + 1) w)) →
    numbers' ≡ numbers ++ mix f' t' ∷ [] →
    RolledSoFar ws (i + 1) f' t' places' numbers'
rolled-more ws i f t places places' numbers numbers' w f' t' added at h fe ae te pe ne =
    let more : take (i + 1) ws ≡ take i ws ++ w ∷ [] = front-more ws i w at in
    let long : 1 + length (take i ws) ≡ i + 1 = omega (arith, front-length ws i w at) in
    let seen = seen_after [] 1 (take i ws) in
    let fold_now : f' ≡ fold (map word_value (take (i + 1) ws)) =
    fe
    ∙ ap (λ n. mix n (word_value w)) h.fold_so_far
    ∙ sym (fold-more basis (map word_value (take i ws)) (word_value w))
    ∙ ap fold (sym (map-append word_value (take i ws) (w ∷ [])))
    ∙ ap (λ l. fold (map word_value l)) (sym more) in
    let terms_now : t' ≡ terms_from [] 1 (take (i + 1) ws) =
    te
    ∙ ap (λ n. (n + added) % 2 ^ 64) h.terms_so_far
    ∙ ap (λ n. (terms_from [] 1 (take i ws) + n) % 2 ^ 64) (ae seen h.places_so_far ∙ ap (λ k. term_at seen k w) (sym long))
    ∙ sym (terms-more [] 1 (take i ws) w)
    ∙ ap (terms_from [] 1) (sym more) in
    let seen_now : seen_at seen (i + 1) w ≡ seen_after [] 1 (take (i + 1) ws) =
    ap (λ k. seen_at seen k w) (sym long) ∙ sym (seen-more [] 1 (take i ws) w) ∙ ap (seen_after [] 1) (sym more) in
    let number_now : mix f' t' ≡ words_hash (take (i + 1) ws) = ap (λ n. mix n t') fold_now ∙ ap (mix (fold (map word_value (take (i + 1) ws)))) terms_now in
    record {
      fold_so_far = fold_now;
      terms_so_far = terms_now;
      places_so_far = subst (HasPlaces places') seen_now (pe seen h.places_so_far);
      count = ap length ne ∙ pushed-length numbers (mix f' t') ∙ (let e : length numbers + 1 ≡ i + 1 + 1 = omega (arith, h.count) in e);
      each = λ n k. each n k number_now (split n (i + 1) k);
    } where
      split : (n m : ℕ) → n ≤ m → (n ≡ m) ⊎ (suc n ≤ m)
      split zero zero k = inl refl
      split zero (suc m) k = inr (omega arith)
      split (suc n) zero k = absurd (omega (arith, k))
      split (suc n) (suc m) k = elim (split n m (omega (arith, k))) [ inl e ↦ inl (ap suc e) | inr l ↦ inr (omega (arith, l)) ]

      each : (n : ℕ) → n ≤ i + 1 → mix f' t' ≡ words_hash (take (i + 1) ws) → ((n ≡ i + 1) ⊎ (suc n ≤ i + 1)) → slice_get numbers' n ≡ Some (words_hash (take n ws))
      each n k now (inl e) =
          ap (λ l. slice_get l n) ne ∙ pushed-last numbers (mix f' t') n (omega (arith, h.count, e)) ∙ ap Some now ∙ ap (λ m. Some (words_hash (take m ws))) (sym e)
      each n k now (inr l) = ap (λ m. slice_get m n) ne ∙ pushed-before numbers (mix f' t') n (words_hash (take n ws)) (h.each n (omega (arith, l)))
