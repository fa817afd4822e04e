-- Names that are not used, one by one.
use Rattle.std.proofs.Common.{◌≡◌, ◌∙◌, ℕ, zero, suc, ◌+◌, ◌-◌, ◌<◌, ◌≤◌, ◌≢◌, Bool, true, false, List, [], ◌∷◌, ◌++◌, length, length-append, drop, get_or, refl, sym, ap, append_assoc, arith}
use Rattle.std.proofs.lemmas.List.{append-nil, drop_all, drop_more}
use Rattle.std.specs.Prelude.{if◌then◌else◌}
use Rattle.go_tree.specs.File.{FileTree}
use Rattle.extract_texts.specs.Fresh.{numbered_name, tokens_in, unused_from, unused_one}

-- ---- names

abbrev chosen : Bool → List ℕ → List (List ℕ)
chosen b w = if b then [] else w ∷ []

abbrev more : (List ℕ → Bool) → Bool → ℕ → ℕ → ℕ → List (List ℕ)
more used b n k r = if b then unused_from used (suc n) (suc k) r else numbered_name n ∷ unused_from used (suc n) k r

-- no more names are wanted
pub none_wanted : (used : List ℕ → Bool) (n count room : ℕ) (names : List (List ℕ)) → length names ≡ count → names ++ unused_from used n (count - length names) room ≡ names
none_wanted used n count room names e =
    let z : count - length names ≡ 0 = omega (arith, e) in
    ap (λ k. names ++ unused_from used n k room) z ∙ ap (λ xs. names ++ xs) (by room) ∙ append-nil names
  where
    by : (room : ℕ) → unused_from used n 0 room ≡ []
    by zero = refl
    by (suc room) = refl

-- no more names are looked at
pub none_left : (used : List ℕ → Bool) (n count room : ℕ) (names : List (List ℕ)) → room ≤ n → names ++ unused_from used n count (room - n) ≡ names
none_left used n count room names h =
    let z : room - n ≡ 0 = omega (arith, h) in
    ap (λ k. names ++ unused_from used n count k) z ∙ ap (λ xs. names ++ xs) (by count) ∙ append-nil names
  where
    by : (count : ℕ) → unused_from used n count 0 ≡ []
    by zero = refl
    by (suc count) = refl

step-by : (used : List ℕ → Bool) (n k r : ℕ) (b : Bool) (names : List (List ℕ)) (count : ℕ) → length names + suc k ≡ count →
    (names ++ chosen b (numbered_name n)) ++ unused_from used (suc n) (count - length (names ++ chosen b (numbered_name n))) r ≡ names ++ more used b n k r
step-by used n k r true names count e =
    let same = append-nil names in
    let left : count - length names ≡ suc k = omega (arith, e) in
    ap (λ xs. xs ++ unused_from used (suc n) (count - length xs) r) same ∙ ap (λ j. names ++ unused_from used (suc n) j r) left
step-by used n k r false names count e =
    let w = numbered_name n in
    let long = length-append names (w ∷ []) in
    let left : count - length (names ++ w ∷ []) ≡ k = omega (arith, e, long) in
    ap (λ j. (names ++ w ∷ []) ++ unused_from used (suc n) j r) left ∙ append_assoc names (w ∷ []) (unused_from used (suc n) k r)

few-by : (b : Bool) (w : List ℕ) (names : List (List ℕ)) (count : ℕ) → length names < count → length (names ++ chosen b w) ≤ count
few-by true w names count h = let same = ap (λ (xs : List (List ℕ)). length xs) (append-nil names) in omega (arith, h, same)
few-by false w names count h = let long = length-append names (w ∷ []) in omega (arith, h, long)

-- one more is looked at
pub few_more : (used : List ℕ → Bool) (n count : ℕ) (names new : List (List ℕ)) → length names ≤ count → length names ≢ count → new ≡ names ++ unused_one used n → length new ≤ count
few_more used n count names new h k e =
    let less : length names < count = omega (arith, h, k) in
    let same = ap (λ (xs : List (List ℕ)). length xs) e in
    let few = few-by (used (numbered_name n)) (numbered_name n) names count less in
    omega (arith, same, few)

pub names_more : (used : List ℕ → Bool) (n count room : ℕ) (names new whole : List (List ℕ)) → length names ≤ count → length names ≢ count → n < room → new ≡ names ++ unused_one used n →
    names ++ unused_from used n (count - length names) (room - n) ≡ whole → new ++ unused_from used (n + 1) (count - length new) (room - (n + 1)) ≡ whole
names_more used n count room names new whole h d l e a =
    let k = count - length names - 1 in
    let r = room - (n + 1) in
    let next : n + 1 ≡ suc n = omega arith in
    let left : length names + suc k ≡ count = omega (arith, h, d) in
    let wanted : count - length names ≡ suc k = omega (arith, h, d) in
    let looked : room - n ≡ suc r = omega (arith, l) in
    ap (λ xs. xs ++ unused_from used (n + 1) (count - length xs) r) e
    ∙ ap (λ m. (names ++ unused_one used n) ++ unused_from used m (count - length (names ++ unused_one used n)) r) next
    ∙ step-by used n k r (used (numbered_name n)) names count left
    ∙ ap (λ j. names ++ unused_from used n j (suc r)) (sym wanted)
    ∙ ap (λ j. names ++ unused_from used n (count - length names) j) (sym looked)
    ∙ a

-- ---- tokens

pub tokens_more : (fs : List FileTree) (i : ℕ) (f : FileTree) → i < length fs → f ≡ get_or fs i f → tokens_in (drop i fs) ≡ length f.tokens.tokens + tokens_in (drop (i + 1) fs)
tokens_more fs i f l e =
    ap tokens_in (drop_more fs i f l ∙ ap (λ x. x ∷ drop (i + 1) fs) (sym e))

pub no_tokens : (fs : List FileTree) (i : ℕ) → length fs ≤ i → tokens_in (drop i fs) ≡ 0
no_tokens fs i l = ap tokens_in (drop_all i fs l)
