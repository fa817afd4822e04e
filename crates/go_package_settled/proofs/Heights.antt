-- What is needed has lower heights, and so earlier stages.
use Rattle.std.proofs.Common.{◌≡◌, ℕ, ◌+◌, ◌*◌, ◌<◌, ◌≤◌, Bool, true, false, ◌&&◌, Some, refl, ap, arith}
use Rattle.std.proofs.lemmas.Bool.{and_parts, and_from}
use Rattle.go_package_settled.specs.Heights.{Needing, AreOrdered, is_value, by_sort, values_under, parts_under, width, base, told_height, own_height}
use Rattle.go_package_settled.proofs.Counting.{higher, as_high, count_least, count_more, count_less}

not_true : (b : Bool) → (b ≡ true → ⊥) → b ≡ false
not_true true h = absurd (h refl)
not_true false h = refl

both_false : (b c : Bool) → c ≡ false → (b && c) ≡ false
both_false true c e = e
both_false false c e = refl

module _ (x : Needing) (a : AreOrdered x) where
  -- ---- counts

  abbrev A : ℕ → ℕ
  A k = values_under x k

  abbrev B : ℕ → ℕ
  B k = parts_under x k

  abbrev w : ℕ
  w = width x

  -- the values that one needs, another needs that needs the one
  value_through : (k m n : ℕ) → x.full k m ≡ true → (is_value (x.sort n) && x.full m n) ≡ true → (is_value (x.sort n) && x.full k n) ≡ true
  value_through k m n h e =
      let parts = and_parts (is_value (x.sort n)) (x.full m n) e in
      and_from (is_value (x.sort n)) (x.full k n) parts.0 (a.through k m n h parts.1)

  values_more : (k m : ℕ) → x.full k m ≡ true → A m ≤ A k
  values_more k m h = count_more (λ n. is_value (x.sort n) && x.full m n) (λ n. is_value (x.sort n) && x.full k n) (λ n e. value_through k m n h e) x.size

  value_itself : (m : ℕ) → x.sort m ≡ Some false → x.full m m ≡ false
  value_itself m s = not_true (x.full m m) (λ h. a.itself m (a.whole m m s h))

  values_less : (k m : ℕ) → x.full k m ≡ true → x.sort m ≡ Some false → A m < A k
  values_less k m h s =
      count_less (λ n. is_value (x.sort n) && x.full m n) (λ n. is_value (x.sort n) && x.full k n) (λ n e. value_through k m n h e) m x.size (a.inside m false s)
      (both_false (is_value (x.sort m)) (x.full m m) (value_itself m s))
      (and_from (is_value (x.sort m)) (x.full k m) (ap is_value s) h)

  parts_less : (k m : ℕ) (b : Bool) → x.part k m ≡ true → x.sort m ≡ Some b → B m < B k
  parts_less k m b h s = count_less (x.part m) (x.part k) (λ n e. a.partly_through k m n h e) m x.size (a.inside m b s) (not_true (x.part m m) (a.itself m)) h

  parts_low : (k : ℕ) → B k < w
  parts_low k = let h = count_least (x.part k) x.size in omega (arith, h)

  -- ---- heights

  told_type : (k : ℕ) → x.sort k ≡ Some true → told_height x k ≡ (w + (w + w)) * A k + B k
  told_type k s = ap (λ o. base x k + by_sort o (B k) (w + w)) s

  own_type : (k : ℕ) → x.sort k ≡ Some true → own_height x k ≡ (w + (w + w)) * A k + (w + B k)
  own_type k s = ap (λ o. base x k + by_sort o (w + B k) (w + w)) s

  own_value : (k : ℕ) → x.sort k ≡ Some false → own_height x k ≡ (w + (w + w)) * A k + (w + w)
  own_value k s = ap (λ o. base x k + by_sort o (w + B k) (w + w)) s

  less_by : (i j k l : ℕ) → i ≡ k → j ≡ l → k < l → i < j
  less_by i j k l e f h = omega (arith, e, f, h)

  positive : 0 < w
  positive = omega arith

  twice_low : w + w < w + (w + w)
  twice_low = let h = positive in omega (arith, h)

  -- a value, and what it needs
  pub value_over_type : (k m : ℕ) → x.sort k ≡ Some false → x.sort m ≡ Some true → x.full k m ≡ true → own_height x m < own_height x k
  value_over_type k m s t h =
      let low = parts_low m in
      less_by (own_height x m) (own_height x k) ((w + (w + w)) * A m + (w + B m)) ((w + (w + w)) * A k + (w + w)) (own_type m t) (own_value k s)
      (as_high (w + (w + w)) (A m) (A k) (w + B m) (w + w) (values_more k m h) (let q : w + B m < w + w = omega (arith, low) in q))

  pub value_over_value : (k m : ℕ) → x.sort k ≡ Some false → x.sort m ≡ Some false → x.full k m ≡ true → own_height x m < own_height x k
  value_over_value k m s t h =
      less_by (own_height x m) (own_height x k) ((w + (w + w)) * A m + (w + w)) ((w + (w + w)) * A k + (w + w)) (own_value m t) (own_value k s)
      (higher (w + (w + w)) (A m) (A k) (w + w) (w + w) (values_less k m h t) twice_low)

  -- a type, and what it needs
  pub own_over_told : (k : ℕ) → x.sort k ≡ Some true → told_height x k < own_height x k
  own_over_told k s =
      let p = positive in
      less_by (told_height x k) (own_height x k) ((w + (w + w)) * A k + B k) ((w + (w + w)) * A k + (w + B k)) (told_type k s) (own_type k s)
      (as_high (w + (w + w)) (A k) (A k) (B k) (w + B k) (omega arith) (let q : B k < w + B k = omega (arith, p) in q))

  pub told_over_told : (k m : ℕ) → x.sort k ≡ Some true → x.sort m ≡ Some true → x.part k m ≡ true → told_height x m < told_height x k
  told_over_told k m s t h =
      less_by (told_height x m) (told_height x k) ((w + (w + w)) * A m + B m) ((w + (w + w)) * A k + B k) (told_type m t) (told_type k s)
      (as_high (w + (w + w)) (A m) (A k) (B m) (B k) (values_more k m (a.partly_full k m h)) (parts_less k m true h t))

  pub told_over_value : (k m : ℕ) → x.sort k ≡ Some true → x.sort m ≡ Some false → x.full k m ≡ true → own_height x m < told_height x k
  told_over_value k m s t h =
      less_by (own_height x m) (told_height x k) ((w + (w + w)) * A m + (w + w)) ((w + (w + w)) * A k + B k) (own_value m t) (told_type k s)
      (higher (w + (w + w)) (A m) (A k) (w + w) (B k) (values_less k m h t) twice_low)

  pub own_over_own : (k m : ℕ) → x.sort k ≡ Some true → x.sort m ≡ Some true → x.part k m ≡ true → own_height x m < own_height x k
  own_over_own k m s t h =
      let l = parts_less k m true h t in
      less_by (own_height x m) (own_height x k) ((w + (w + w)) * A m + (w + B m)) ((w + (w + w)) * A k + (w + B k)) (own_type m t) (own_type k s)
      (as_high (w + (w + w)) (A m) (A k) (w + B m) (w + B k) (values_more k m (a.partly_full k m h)) (let q : w + B m < w + B k = omega (arith, l) in q))

  pub own_over_right : (k m : ℕ) → x.sort k ≡ Some true → x.sort m ≡ Some true → x.full k m ≡ true → told_height x m < own_height x k
  own_over_right k m s t h =
      let low = parts_low m in
      less_by (told_height x m) (own_height x k) ((w + (w + w)) * A m + B m) ((w + (w + w)) * A k + (w + B k)) (told_type m t) (own_type k s)
      (as_high (w + (w + w)) (A m) (A k) (B m) (w + B k) (values_more k m h) (let q : B m < w + B k = omega (arith, low) in q))
