-- Lists as loops go through them.
use Rattle.std.proofs.Common.{◌≡◌, ◌∙◌, ℕ, zero, suc, ◌+◌, ◌<◌, ◌≤◌, Bool, true, false, List, [], ◌∷◌, ◌++◌, length, drop, get_or, filter, map, cond, Option, Some, slice_get, refl, sym, ap, append_assoc, arith}
use Rattle.std.proofs.lemmas.List.{append-nil, drop_all, drop_more}
use Rattle.std.specs.Cmp.Lexicographic.{pointwise}
use Rattle.std.specs.Prelude.{◌&&◌, ◌||◌, if◌then◌else◌, nat_eq, nat_le, nat_lt}
use Rattle.std.proofs.lemmas.Bool.{eqb-true, eqb-false, ltb-true}
use Rattle.std.proofs.lemmas.Bool.Decides.{nat_tests}
use Rattle.std.specs.List.{list_any}
use Rattle.std.specs.Option.{option_map}
use Rattle.go_tokens.specs.Spellings.{same_text}

-- ---- a test that some item passes

pub any_here : {A : Type 0} (test : A → Bool) (xs : List A) (i : ℕ) (d : A) → i < length xs → test (get_or xs i d) ≡ true → list_any test (drop i xs) ≡ true
any_here test xs i d l h = ap (list_any test) (drop_more xs i d l) ∙ ap (λ b. b || list_any test (drop (i + 1) xs)) h

pub any_skip : {A : Type 0} (test : A → Bool) (xs : List A) (i : ℕ) (d : A) → i < length xs → test (get_or xs i d) ≡ false →
    list_any test (drop i xs) ≡ list_any test (drop (i + 1) xs)
any_skip test xs i d l h = ap (list_any test) (drop_more xs i d l) ∙ ap (λ b. b || list_any test (drop (i + 1) xs)) h

pub any_none : {A : Type 0} (test : A → Bool) (xs : List A) (i : ℕ) → length xs ≤ i → list_any test (drop i xs) ≡ false
any_none test xs i l = ap (list_any test) (drop_all i xs l)

-- as the program reads it
pub any_at : {A : Type 0} (test : A → Bool) (xs : List A) (i : ℕ) (x : A) → slice_get xs i ≡ Some x → test x ≡ true → list_any test (drop i xs) ≡ true
any_at test [] i x e h = cc
any_at test (y ∷ xs) zero x e h = let same : y ≡ x = cc in ap (λ z. test z || list_any test xs) same ∙ ap (λ b. b || list_any test xs) h
any_at test (y ∷ xs) (suc i) x e h = any_at test xs i x e h

pub any_off : {A : Type 0} (test : A → Bool) (xs : List A) (i : ℕ) (x : A) → slice_get xs i ≡ Some x → test x ≡ false → list_any test (drop i xs) ≡ list_any test (drop (i + 1) xs)
any_off test [] i x e h = cc
any_off test (y ∷ xs) zero x e h = let same : y ≡ x = cc in ap (λ z. test z || list_any test xs) same ∙ ap (λ b. b || list_any test xs) h
any_off test (y ∷ xs) (suc i) x e h =
    let s : suc (i + 1) ≡ suc i + 1 = omega arith in any_off test xs i x e h ∙ ap (λ j. list_any test (drop j (y ∷ xs))) s

-- ---- the items that pass a test

pub filter_here : {A : Type 0} (test : A → Bool) (xs : List A) (i : ℕ) (d : A) (out : List A) → i < length xs → test (get_or xs i d) ≡ true →
    out ++ filter test (drop i xs) ≡ (out ++ get_or xs i d ∷ []) ++ filter test (drop (i + 1) xs)
filter_here test xs i d out l h =
    ap (λ ys. out ++ filter test ys) (drop_more xs i d l)
    ∙ ap (λ b. out ++ (if b then get_or xs i d ∷ filter test (drop (i + 1) xs) else filter test (drop (i + 1) xs))) h
    ∙ sym (append_assoc out (get_or xs i d ∷ []) (filter test (drop (i + 1) xs)))

pub filter_skip : {A : Type 0} (test : A → Bool) (xs : List A) (i : ℕ) (d : A) (out : List A) → i < length xs → test (get_or xs i d) ≡ false →
    out ++ filter test (drop i xs) ≡ out ++ filter test (drop (i + 1) xs)
filter_skip test xs i d out l h =
    ap (λ ys. out ++ filter test ys) (drop_more xs i d l) ∙ ap (λ b. out ++ (if b then get_or xs i d ∷ filter test (drop (i + 1) xs) else filter test (drop (i + 1) xs))) h

pub filter_all : {A : Type 0} (test : A → Bool) (xs : List A) (i : ℕ) (out : List A) → length xs ≤ i → out ++ filter test (drop i xs) ≡ out
filter_all test xs i out l = ap (λ ys. out ++ filter test ys) (drop_all i xs l) ∙ append-nil out

-- ---- each item by a function

pub each_here : {A B : Type 0} (F : A → B) (xs : List A) (i : ℕ) (d : A) (out : List B) → i < length xs →
    out ++ map F (drop i xs) ≡ (out ++ F (get_or xs i d) ∷ []) ++ map F (drop (i + 1) xs)
each_here F xs i d out l = ap (λ ys. out ++ map F ys) (drop_more xs i d l) ∙ sym (append_assoc out (F (get_or xs i d) ∷ []) (map F (drop (i + 1) xs)))

pub each_all : {A B : Type 0} (F : A → B) (xs : List A) (i : ℕ) (out : List B) → length xs ≤ i → out ++ map F (drop i xs) ≡ out
each_all F xs i out l = ap (λ ys. out ++ map F ys) (drop_all i xs l) ∙ append-nil out

-- ---- texts

pub same_told : (a b : List ℕ) → pointwise nat_eq a b ≡ same_text a b
same_told [] [] = refl
same_told [] (y ∷ b) = refl
same_told (x ∷ a) [] = refl
same_told (x ∷ a) (y ∷ b) = ap (λ c. nat_eq x y && c) (same_told a b)

-- ---- sets

pub cond-or : (b c : Bool) → cond b true c ≡ (b || c)
cond-or true c = refl
cond-or false c = refl

swap : (hit old rest : Bool) → (cond hit true old || rest) ≡ (old || (hit || rest))
swap true true rest = refl
swap true false rest = refl
swap false old rest = refl

-- one item more
pub put_more : (new old same hit rest rests all : Bool) → new ≡ cond same true old → same ≡ hit → rests ≡ (hit || rest) → (old || rests) ≡ all → (new || rest) ≡ all
put_more new old same hit rest rests all h e r k = ap (λ b. b || rest) (h ∙ ap (λ b. cond b true old) e) ∙ swap hit old rest ∙ sym (ap (λ b. old || b) r) ∙ k

-- ---- ranges of tokens

-- one token more
pub range_more : (old : Bool) (from i t : ℕ) → from ≤ i → (nat_eq i t || (old || (nat_le from t && nat_lt t i))) ≡ (old || (nat_le from t && nat_lt t (i + 1)))
range_more old from i t l = by (nat_eq i t) refl where
  or-true : (b : Bool) → true ≡ (b || true)
  or-true true = refl
  or-true false = refl

  by : (b : Bool) → nat_eq i t ≡ b → (b || (old || (nat_le from t && nat_lt t i))) ≡ (old || (nat_le from t && nat_lt t (i + 1)))
  by true e =
      let same : i ≡ t = eqb-true i t e in
      let low : nat_le from t ≡ true = grind (arith, nat_tests, same, l) in
      let high : nat_lt t (i + 1) ≡ true = grind (arith, nat_tests, same) in
      or-true old ∙ sym (ap (λ b. old || (b && nat_lt t (i + 1))) low ∙ ap (λ b. old || b) high)
  by false e = let s : nat_lt t i ≡ nat_lt t (i + 1) = grind (arith, nat_tests, eqb-false i t e) in ap (λ b. old || (nat_le from t && b)) s

-- all tokens; where there is none the loop stays at the first
pub range_all : (old : Bool) (from i upto t : ℕ) → upto ≤ i → (from ≤ upto → i ≤ upto) → (upto < i → i ≡ from) → (old || (nat_le from t && nat_lt t i)) ≡ (old || (nat_le from t && nat_lt t upto))
range_all old from i upto t h inside start = ap (λ b. old || b) (by (nat_lt upto i) refl) where
  none : (k : ℕ) → k ≤ from → (nat_le from t && nat_lt t k) ≡ false
  none k l = grind (arith, nat_tests, l)

  by : (b : Bool) → nat_lt upto i ≡ b → (nat_le from t && nat_lt t i) ≡ (nat_le from t && nat_lt t upto)
  by true e =
      let less : upto < i = ltb-true upto i e in
      let same : i ≡ from = start less in
      none i (omega (arith, same)) ∙ sym (none upto (omega (arith, same, less)))
  by false e = let same : i ≡ upto = grind (arith, nat_tests, e, h) in ap (λ k. nat_le from t && nat_lt t k) same

-- ---- texts of tokens

pub text_is : {A B : Type 0} (text : A → B) (o : Option A) (x : A) (t : B) → o ≡ Some x → option_map text o ≡ Some t → text x ≡ t
text_is text o x t e h = let same : Some (text x) ≡ Some t = sym (ap (option_map text) e) ∙ h in cc
