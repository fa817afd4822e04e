-- Windows come in one after the other, and what is counted.
use Rattle.std.proofs.Common.{◌≡◌, ◌∙◌, ℕ, zero, suc, ◌+◌, ◌≤◌, Bool, List, [], ◌∷◌, ◌++◌, length, take, drop, Some, slice_get, refl, sym, ap, subst, arith}
use Rattle.std.specs.List.{sum_by}
use Rattle.std.proofs.lemmas.List.Sums.{sum_by-append, sum_by-take-le}
use Rattle.std.proofs.lemmas.Option.{same_Some}
use Rattle.go_base.specs.Steps.{Counts}
use Rattle.go_typed.specs.declared.window.Window.{Window}
use Rattle.window_index.specs.Buckets.{Bucket, all_entered, entered}
use Rattle.window_index.specs.Counting.{group_count, rivals}
use Rattle.window_index.proofs.Joining.{all-count-grows, all-entered-more}

front-more : {A : Type 0} (xs : List A) (i : ℕ) (x : A) → slice_get xs i ≡ Some x → take (i + 1) xs ≡ take i xs ++ x ∷ []
front-more [] i x e = cc
front-more (y ∷ xs) zero x e = ap (λ z. z ∷ []) (same_Some y x e)
front-more (y ∷ xs) (suc i) x e = (let n : suc i + 1 ≡ suc (i + 1) = omega arith in ap (λ k. take k (y ∷ xs)) n) ∙ ap (λ l. y ∷ l) (front-more xs i x e)

both-parts : {A : Type 0} (i : ℕ) (xs : List A) → take i xs ++ drop i xs ≡ xs
both-parts zero [] = refl
both-parts (suc i) [] = refl
both-parts zero (x ∷ xs) = refl
both-parts (suc i) (x ∷ xs) = ap (λ l. x ∷ l) (both-parts i xs)

whole : {A : Type 0} (i : ℕ) (xs : List A) → length xs ≤ i → take i xs ≡ xs
whole zero [] h = refl
whole (suc i) [] h = refl
whole zero (x ∷ xs) h = absurd (omega (arith, h))
whole (suc i) (x ∷ xs) h = ap (λ l. x ∷ l) (whole i xs (omega (arith, h)))

nothing : {A : Type 0} (xs : List A) → take 0 xs ≡ []
nothing [] = refl
nothing (x ∷ xs) = refl

-- What stands behind the first so many windows: the buckets with them, and the counts.
pub record PutSoFar (same : Window → Window → Bool) (xs : List (Window × ℕ)) (i : ℕ) (old new : List Bucket) (before now : Counts) : Type 0 where
  pub buckets : new ≡ all_entered same (take i xs) old
  pub entered_so_far : now.entered ≡ before.entered + i
  pub compared_so_far : now.compared ≤ before.compared + sum_by (λ x. group_count x.1 (all_entered same xs old)) (take i xs)
  pub checked_so_far : now.checked ≡ before.checked

-- no more groups stand under a hash than once all are in
pub count-so-far : (same : Window → Window → Bool) (xs : List (Window × ℕ)) (i h : ℕ) (old new : List Bucket) → new ≡ all_entered same (take i xs) old → group_count h new ≤ group_count h (all_entered same xs old)
count-so-far same xs i h old new e =
    let all : all_entered same (drop i xs) new ≡ all_entered same xs old =
    ap (all_entered same (drop i xs)) e ∙ sym (all-entered-more same (take i xs) (drop i xs) old) ∙ ap (λ l. all_entered same l old) (both-parts i xs) in
    subst (λ bs. group_count h new ≤ group_count h bs) all (all-count-grows same (drop i xs) h new)

pub put-more : (same : Window → Window → Bool) (xs : List (Window × ℕ)) (i : ℕ) (x : Window × ℕ) (old new new' : List Bucket) (before now now' : Counts) → slice_get xs i ≡ Some x →
    PutSoFar same xs i old new before now → new' ≡ entered same x new → now'.compared ≤ now.compared + group_count x.1 new → now'.entered ≡ now.entered + 1 → now'.checked ≡ now.checked →
    PutSoFar same xs (i + 1) old new' before now'
put-more same xs i x old new new' before now now' at h e c n k =
    let more = front-more xs i x at in
    let f : Window × ℕ → ℕ = λ y. group_count y.1 (all_entered same xs old) in
    let counted : sum_by f (take (i + 1) xs) ≡ sum_by f (take i xs) + (0 + f x) = ap (sum_by f) more ∙ sum_by-append f (take i xs) (x ∷ []) in
    record {
      buckets = e ∙ ap (entered same x) h.buckets ∙ sym (ap (λ l. all_entered same l old) more ∙ all-entered-more same (take i xs) (x ∷ []) old);
      entered_so_far = omega (arith, n, h.entered_so_far);
      compared_so_far = omega (arith, c, h.compared_so_far, counted, count-so-far same xs i x.1 old new h.buckets);
      checked_so_far = k ∙ h.checked_so_far;
    }

-- at an exit between two windows
pub put-in-part : (same : Window → Window → Bool) (xs : List (Window × ℕ)) (i h : ℕ) (x : Window × ℕ) (old new : List Bucket) (before now now' : Counts) → slice_get xs i ≡ Some x →
    PutSoFar same xs i old new before now → h ≡ x.1 → now'.compared ≤ now.compared + group_count h new → now'.compared ≤ before.compared + rivals same xs old
put-in-part same xs i h x old new before now now' at p e c =
    let f : Window × ℕ → ℕ = λ y. group_count y.1 (all_entered same xs old) in
    let counted : sum_by f (take (i + 1) xs) ≡ sum_by f (take i xs) + (0 + f x) = ap (sum_by f) (front-more xs i x at) ∙ sum_by-append f (take i xs) (x ∷ []) in
    let few : group_count h new ≤ f x = subst (λ k. group_count k new ≤ f x) (sym e) (count-so-far same xs i x.1 old new p.buckets) in
    omega (arith, c, p.compared_so_far, counted, few, sum_by-take-le f xs (i + 1))
