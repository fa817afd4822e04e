-- Lists of values that are put into others, and `append`.
use Rattle.std.proofs.Common.{◌≡◌, ℕ, zero, suc, ◌+◌, ◌<◌, ◌≤◌, Result, Ok, Err, IfOk, List, [], ◌∷◌, ◌++◌, take, drop, length, refl, sym, ap, ◌∙◌, arith, ◌-◌, append_assoc, length-append, length-drop, length-take-le}
use Rattle.std.proofs.lemmas.Bool.{le-leb}
use Rattle.go_base.specs.declared.memory.Memory.{Memory}
use Rattle.go_types_relations.specs.Zeros.{Zero}
use Rattle.go_meaning.specs.Values as meant
use Rattle.go_meaning.specs.Computations.{World}
use Rattle.go_meaning.specs.Operations.{Gives, appended, capacity_of, length_of, longer, put_at, with_cells}
use Rattle.go_values.specs.Views.{view, views}
use Rattle.go_values.specs.declared.value.Value.{Value}
use Rattle.go_values.proofs.Heap.{length_views, append_nil, drop_past}
use Rattle.go_values.proofs.Rows.{take_views, whole}
use borrow.Rule.Slice.PartMut.{put_mid, Post-is}

pub views_append : (us vs : List Value) → views (us ++ vs) ≡ views us ++ views vs
views_append [] vs = refl
views_append (u ∷ us) vs = ap (λ ws. view u ∷ ws) (views_append us vs)

drop_views : (vs : List Value) (n : ℕ) → views (drop n vs) ≡ drop n (views vs)
drop_views vs zero = refl
drop_views [] (suc n) = refl
drop_views (v ∷ vs) (suc n) = drop_views vs n

pub put_inside : (xs vs : List Value) (p : ℕ) → views (take p xs ++ vs ++ drop (p + length vs) xs) ≡ put_at p (views vs) (views xs)
put_inside xs vs p =
    views_append (take p xs ++ vs) (drop (p + length vs) xs) ∙ ap (λ us. us ++ views (drop (p + length vs) xs)) (views_append (take p xs) vs ∙ ap (λ us. us ++ views vs) (take_views xs p))
    ∙ ap (λ ds. take p (views xs) ++ views vs ++ ds) (drop_views xs (p + length vs) ∙ ap (λ n. drop (p + n) (views xs)) (sym (length_views vs)))

-- nothing is left behind them
pub put_last : (xs vs : List Value) (p : ℕ) → length xs ≤ p + length vs → views (take p xs ++ vs) ≡ put_at p (views vs) (views xs)
put_last xs vs p h =
    views_append (take p xs) vs ∙ ap (λ us. us ++ views vs) (take_views xs p) ∙ sym (append_nil (take p (views xs) ++ views vs))
    ∙ ap (λ ds. take p (views xs) ++ views vs ++ ds) (sym (drop_past xs (p + length (views vs)) (omega (arith, h, length_views vs))))

pub put_behind : (xs vs : List Value) (p : ℕ) → length xs ≤ p → views (xs ++ vs) ≡ put_at p (views vs) (views xs)
put_behind xs vs p h = ap (λ us. views (us ++ vs)) (sym (whole xs p h)) ∙ put_last xs vs p (omega (arith, h))
  where
    whole : (xs : List Value) (p : ℕ) → length xs ≤ p → take p xs ≡ xs
    whole [] zero h = refl
    whole [] (suc p) h = refl
    whole (x ∷ xs) zero h = absurd (omega arith)
    whole (x ∷ xs) (suc p) h = ap (λ us. x ∷ us) (whole xs p (omega arith))

-- what a part of a list is once another one was exchanged for it
mid_is : (xs N : List Value) (s n : ℕ) → n ≡ length N → put_mid s (s + n - s) xs N ≡ take s xs ++ N ++ drop (s + length N) xs
mid_is xs N s n e =
    ap (λ ds. take s xs ++ (N ++ ds)) (Post-is s (s + n) xs (omega arith)) ∙ sym (append_assoc (take s xs) N (drop (s + n) xs)) ∙ ap (λ k. take s xs ++ N ++ drop (s + k) xs) e

mid_length : (xs N : List Value) (s : ℕ) → s + length N ≤ length xs → length (take s xs ++ N ++ drop (s + length N) xs) ≡ length xs
mid_length xs N s h =
    omega (arith, length-append (take s xs ++ N) (drop (s + length N) xs), length-append (take s xs) N, length-take-le s xs (omega (arith, h)), length-drop (s + length N) xs, h)

no_rest : (xs M : List Value) (L : ℕ) → L ≡ length xs → length M ≡ length xs → take L (M ++ drop (length M) xs) ≡ M
no_rest xs M L e h =
    ap (λ ds. take L (M ++ ds)) (past xs (length M) (omega (arith, h))) ∙ ap (take L) (end M) ∙ whole M L (omega (arith, e, h))
  where
    past : (xs : List Value) (k : ℕ) → length xs ≤ k → drop k xs ≡ []
    past [] zero h = refl
    past [] (suc k) h = refl
    past (x ∷ xs) zero h = absurd (omega arith)
    past (x ∷ xs) (suc k) h = past xs k (omega arith)

    end : (xs : List Value) → xs ++ [] ≡ xs
    end [] = refl
    end (x ∷ xs) = ap (λ ys. x ∷ ys) (end xs)

pub overwritten : (xs R Y N : List Value) (L s n : ℕ) → R ≡ xs → L ≡ length xs → Y ≡ N → n ≡ length N → s + length N ≤ length xs
    → views (take L (put_mid s (s + n - s) R Y ++ drop (length (put_mid s (s + n - s) R Y)) xs)) ≡ put_at s (views N) (views xs)
overwritten xs R Y N L s n eR eL eY en h =
    let m : put_mid s (s + n - s) R Y ≡ take s xs ++ N ++ drop (s + length N) xs =
    ap (λ r. put_mid s (s + n - s) r Y) eR ∙ ap (λ y. put_mid s (s + n - s) xs y) eY ∙ mid_is xs N s n en in
    ap (λ l. views (take L (l ++ drop (length l) xs))) m ∙ ap views (no_rest xs (take s xs ++ N ++ drop (s + length N) xs) L eL (mid_length xs N s h)) ∙ put_inside xs N s

-- ---- append

pub if_weaker : (r : Result Value Memory) (P Q : Value → Type 0) → ((v : Value) → P v → Q v) → IfOk r P → IfOk r Q
if_weaker (Ok v) P Q f h = f v h
if_weaker (Err x) P Q f h = h

pub appended_within : (z : Zero) (s : meant.Value) (vs : List meant.Value) (w : World) → 0 < length vs → length_of s + length vs ≤ capacity_of s
    → appended z s vs w ≡ Gives (longer s (length vs) ∷ []) (with_cells s (length_of s) vs w)
appended_within z s [] w h k = absurd (omega arith)
appended_within z s (v ∷ vs) w h k = rw (le-leb (length_of s + length (v ∷ vs)) (capacity_of s) k) refl
