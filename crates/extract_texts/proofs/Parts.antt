-- Parts of a text, as far as they are there.
use Rattle.std.proofs.Common.{◌≡◌, ◌∙◌, ℕ, ◌-◌, ◌<◌, ◌≤◌, ◌⊎◌, inl, inr, true, false, List, [], length, length-drop, take, drop, refl, sym, ap, arith}
use Rattle.std.proofs.lemmas.Bool.Decides.{leb_tells}
use Rattle.std.proofs.lemmas.List.{drop_all, take_all}
use Rattle.std.specs.Prelude.{min, nat_le, slice_range}

-- between the ends of the text
pub part_within : (xs : List ℕ) (i j : ℕ) → slice_range xs (min (min (length xs) j) i) (min (length xs) j) ≡ slice_range xs i j
part_within xs i j = by (leb_tells (length xs) j) (leb_tells (min (length xs) j) i)
  where
    none : (k : ℕ) (ys : List ℕ) → ys ≡ [] → take k ys ≡ []
    none k ys e = ap (take k) e ∙ take_all k [] (omega arith)

    nothing : (k : ℕ) (ys : List ℕ) → k ≡ 0 → take k ys ≡ []
    nothing k ys e = ap (λ n. take n ys) e

    all : (k : ℕ) → length xs - i ≤ k → take k (drop i xs) ≡ drop i xs
    all k h = let n = length-drop i xs in take_all k (drop i xs) (omega (arith, n))

    by : ((nat_le (length xs) j ≡ true) × (length xs ≤ j)) ⊎ ((nat_le (length xs) j ≡ false) × (j < length xs)) →
        ((nat_le (min (length xs) j) i ≡ true) × (min (length xs) j ≤ i)) ⊎ ((nat_le (min (length xs) j) i ≡ false) × (i < min (length xs) j)) →
        slice_range xs (min (min (length xs) j) i) (min (length xs) j) ≡ slice_range xs i j
    by (inl a) (inl b) =
        let first : min (length xs) j - min (min (length xs) j) i ≡ 0 = let h = b.1 in omega arith in
        let past : length xs ≤ i = let h = a.1 in let k = b.1 in omega arith in
        nothing (min (length xs) j - min (min (length xs) j) i) (drop (min (min (length xs) j) i) xs) first ∙ sym (none (j - i) (drop i xs) (drop_all i xs past))
    by (inr a) (inl b) =
        let first : min (length xs) j - min (min (length xs) j) i ≡ 0 = let h = b.1 in omega arith in
        let second : j - i ≡ 0 = let h = a.1 in let k = b.1 in omega arith in
        nothing (min (length xs) j - min (min (length xs) j) i) (drop (min (min (length xs) j) i) xs) first ∙ sym (nothing (j - i) (drop i xs) second)
    by (inl a) (inr b) =
        let start : min (min (length xs) j) i ≡ i = let h = b.1 in omega arith in
        let one : length xs - i ≤ min (length xs) j - i = let h = a.1 in omega arith in
        let two : length xs - i ≤ j - i = let h = a.1 in omega arith in
        ap (λ k. slice_range xs k (min (length xs) j)) start ∙ all (min (length xs) j - i) one ∙ sym (all (j - i) two)
    by (inr a) (inr b) =
        let start : min (min (length xs) j) i ≡ i = let h = b.1 in omega arith in
        let last : min (length xs) j ≡ j = let h = a.1 in omega arith in
        ap (λ k. slice_range xs k (min (length xs) j)) start ∙ ap (slice_range xs i) last
