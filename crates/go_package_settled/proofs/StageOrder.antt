-- The stages of what an object needs, and of the object.
use Rattle.std.proofs.Common.{◌≡◌, ℕ, ◌+◌, ◌<◌, ◌≤◌, Bool, true, false, Option, Some, None, refl, ap, arith}
use Rattle.go_package_settled.specs.Heights.{Needing, AreOrdered, by_sort, told_height, own_height, stage, stand_stage, told_stage, own_stage}
use Rattle.go_package_settled.proofs.Counting.{rank_first, rank_second, second_most}
use Rattle.go_package_settled.proofs.Heights.{own_over_told, value_over_type, value_over_value, told_over_told, told_over_value, own_over_own, own_over_right}

module _ (x : Needing) (a : AreOrdered x) where
  abbrev T : ℕ → ℕ
  T = told_height x

  abbrev U : ℕ → ℕ
  U = own_height x

  -- ---- stages by sorts

  sorted : (k y z : ℕ) (o : Option Bool) → x.sort k ≡ o → by_sort (x.sort k) y z ≡ by_sort o y z
  sorted k y z o e = ap (λ p. by_sort p y z) e

  none_zero : (k y z : ℕ) → x.sort k ≡ None → by_sort (x.sort k) y z ≡ 0
  none_zero k y z e = sorted k y z None e

  pub own_is : (k : ℕ) (b : Bool) → x.sort k ≡ Some b → own_stage x k ≡ stage x (U k)
  own_is k true e = sorted k (stage x (U k)) (stage x (U k)) (Some true) e
  own_is k false e = sorted k (stage x (U k)) (stage x (U k)) (Some false) e

  pub told_type : (k : ℕ) → x.sort k ≡ Some true → told_stage x k ≡ stage x (T k)
  told_type k e = sorted k (stage x (T k)) (stage x (U k)) (Some true) e

  pub told_value : (k : ℕ) → x.sort k ≡ Some false → told_stage x k ≡ stage x (U k)
  told_value k e = sorted k (stage x (T k)) (stage x (U k)) (Some false) e

  pub stand_type : (k : ℕ) → x.sort k ≡ Some true → stand_stage x k ≡ 0
  stand_type k e = sorted k 0 (stage x (U k)) (Some true) e

  pub stand_value : (k : ℕ) → x.sort k ≡ Some false → stand_stage x k ≡ stage x (U k)
  stand_value k e = sorted k 0 (stage x (U k)) (Some false) e

  -- ---- the first ones

  pub own_later : (k : ℕ) (b : Bool) → x.sort k ≡ Some b → 0 < own_stage x k
  own_later k b e = let q = own_is k b e in omega (arith, q)

  pub told_later : (k : ℕ) → x.sort k ≡ Some true → 0 < told_stage x k
  told_later k e = let q = told_type k e in omega (arith, q)

  -- ---- numbers

  under : (i j y z : ℕ) → i ≡ y → j ≡ z → y < z → i < j
  under i j y z e f h = omega (arith, e, f, h)

  under_zero : (i j : ℕ) → i ≡ 0 → 0 < j → i < j
  under_zero i j e h = omega (arith, e, h)

  under_next : (i j k : ℕ) → i < j → j < k → i < k
  under_next i j k f h = omega (arith, f, h)

  -- a height of a number below another one
  first_under : (m k : ℕ) (b : Bool) → x.sort m ≡ Some b → T m < k → stage x (T m) < stage x k
  first_under m k b e h = rank_first T U x.size m k (a.inside m b e) h

  second_under : (m k : ℕ) (b : Bool) → x.sort m ≡ Some b → U m < k → stage x (U m) < stage x k
  second_under m k b e h = rank_second T U x.size m k (a.inside m b e) h

  -- ---- a type's stages rise

  pub told_under_own : (k : ℕ) → x.sort k ≡ Some true → told_stage x k < own_stage x k
  told_under_own k s = under (told_stage x k) (own_stage x k) (stage x (T k)) (stage x (U k)) (told_type k s) (own_is k true s) (first_under k (U k) true s (own_over_told x a k s))

  -- the right side of an object is known no later than all of it
  pub told_most_own : (k : ℕ) (o : Option Bool) → x.sort k ≡ o → told_stage x k ≤ own_stage x k
  told_most_own k None s = let e = none_zero k (stage x (T k)) (stage x (U k)) s in omega (arith, e)
  told_most_own k (Some true) s = let h = told_under_own k s in omega (arith, h)
  told_most_own k (Some false) s = let e = told_value k s in let f = own_is k false s in omega (arith, e, f)

  -- ---- what a constant, a variable or a function needs

  pub value_needs : (k m : ℕ) (o : Option Bool) → x.sort m ≡ o → x.sort k ≡ Some false → x.full k m ≡ true → own_stage x m < own_stage x k
  value_needs k m None t s h = under_zero (own_stage x m) (own_stage x k) (none_zero m (stage x (U m)) (stage x (U m)) t) (own_later k false s)
  value_needs k m (Some true) t s h =
      under (own_stage x m) (own_stage x k) (stage x (U m)) (stage x (U k)) (own_is m true t) (own_is k false s) (second_under m (U k) true t (value_over_type x a k m s t h))
  value_needs k m (Some false) t s h =
      under (own_stage x m) (own_stage x k) (stage x (U m)) (stage x (U k)) (own_is m false t) (own_is k false s) (second_under m (U k) false t (value_over_value x a k m s t h))

  -- with the right side of that
  pub value_needs_right : (k m : ℕ) → x.sort k ≡ Some false → x.full k m ≡ true → told_stage x m < own_stage x k
  value_needs_right k m s h =
      let l = told_most_own m (x.sort m) refl in
      let n = value_needs k m (x.sort m) refl s h in
      omega (arith, l, n)

  -- ---- what a type needs

  -- a constant, a variable or a function that it needs in any way
  pub value_under_told : (k m : ℕ) → x.sort k ≡ Some true → x.sort m ≡ Some false → x.full k m ≡ true → own_stage x m < told_stage x k
  value_under_told k m s t h =
      under (own_stage x m) (told_stage x k) (stage x (U m)) (stage x (T k)) (own_is m false t) (told_type k s) (second_under m (T k) false t (told_over_value x a k m s t h))

  -- what it names loosely stands for something
  pub stand_under_told : (k m : ℕ) (o : Option Bool) → x.sort m ≡ o → x.sort k ≡ Some true → x.full k m ≡ true → stand_stage x m < told_stage x k
  stand_under_told k m None t s h = under_zero (stand_stage x m) (told_stage x k) (none_zero m 0 (stage x (U m)) t) (told_later k s)
  stand_under_told k m (Some true) t s h = under_zero (stand_stage x m) (told_stage x k) (stand_type m t) (told_later k s)
  stand_under_told k m (Some false) t s h =
      let l = value_under_told k m s t h in
      let e = stand_value m t in
      let f = own_is m false t in
      omega (arith, l, e, f)

  -- the right sides of what it needs in part
  pub told_under_told : (k m : ℕ) (o : Option Bool) → x.sort m ≡ o → x.sort k ≡ Some true → x.part k m ≡ true → told_stage x m < told_stage x k
  told_under_told k m None t s h = under_zero (told_stage x m) (told_stage x k) (none_zero m (stage x (T m)) (stage x (U m)) t) (told_later k s)
  told_under_told k m (Some true) t s h =
      under (told_stage x m) (told_stage x k) (stage x (T m)) (stage x (T k)) (told_type m t) (told_type k s) (first_under m (T k) true t (told_over_told x a k m s t h))
  told_under_told k m (Some false) t s h =
      let l = value_under_told k m s t (a.partly_full k m h) in
      let e = told_value m t in
      let f = own_is m false t in
      omega (arith, l, e, f)

  -- all that is found of it
  pub own_under_own : (k m : ℕ) (o : Option Bool) → x.sort m ≡ o → x.sort k ≡ Some true → x.part k m ≡ true → own_stage x m < own_stage x k
  own_under_own k m None t s h = under_zero (own_stage x m) (own_stage x k) (none_zero m (stage x (U m)) (stage x (U m)) t) (own_later k true s)
  own_under_own k m (Some true) t s h =
      under (own_stage x m) (own_stage x k) (stage x (U m)) (stage x (U k)) (own_is m true t) (own_is k true s) (second_under m (U k) true t (own_over_own x a k m s t h))
  own_under_own k m (Some false) t s h = under_next (own_stage x m) (told_stage x k) (own_stage x k) (value_under_told k m s t (a.partly_full k m h)) (told_under_own k s)

  -- the right sides of what it needs in any way, before the rules are judged that fail in its own
  pub told_under_full : (k m : ℕ) (o : Option Bool) → x.sort m ≡ o → x.sort k ≡ Some true → x.full k m ≡ true → told_stage x m < own_stage x k
  told_under_full k m None t s h = under_zero (told_stage x m) (own_stage x k) (none_zero m (stage x (T m)) (stage x (U m)) t) (own_later k true s)
  told_under_full k m (Some true) t s h =
      under (told_stage x m) (own_stage x k) (stage x (T m)) (stage x (U k)) (told_type m t) (own_is k true s) (first_under m (U k) true t (own_over_right x a k m s t h))
  told_under_full k m (Some false) t s h =
      let l = value_under_told k m s t h in
      let e = told_value m t in
      let f = own_is m false t in
      let g = told_under_own k s in
      omega (arith, l, e, f, g)

  -- ---- no stage is too high

  pub own_low : (k : ℕ) (o : Option Bool) → x.sort k ≡ o → own_stage x k ≤ x.size + x.size
  own_low k None s = let e = none_zero k (stage x (U k)) (stage x (U k)) s in omega (arith, e)
  own_low k (Some b) s = let e = own_is k b s in let h = second_most T U x.size k (a.inside k b s) in omega (arith, e, h)

  pub told_low : (k : ℕ) → told_stage x k ≤ x.size + x.size
  told_low k = let l = told_most_own k (x.sort k) refl in let h = own_low k (x.sort k) refl in omega (arith, l, h)

  pub stand_low : (k : ℕ) (o : Option Bool) → x.sort k ≡ o → stand_stage x k ≤ x.size + x.size
  stand_low k None s = let e = none_zero k 0 (stage x (U k)) s in omega (arith, e)
  stand_low k (Some true) s = let e = stand_type k s in omega (arith, e)
  stand_low k (Some false) s = let e = stand_value k s in let f = own_is k false s in let h = own_low k (Some false) s in omega (arith, e, f, h)
