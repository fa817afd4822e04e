-- Lists whose members stand in a strict order.
use Rattle.std.proofs.Common.{◌≡◌, ◌∙◌, ℕ, zero, suc, ◌+◌, ◌<◌, ◌≤◌, Bool, true, false, List, [], ◌∷◌, ◌++◌, length, get_or, map, inl, inr, refl, sym, ap, subst, arith}
use Rattle.std.specs.Prelude.{◌⊎◌, if◌then◌else◌, filter}
use Rattle.std.specs.Cmp.{IsTotalOrder}
use Rattle.std.specs.declared.cmp.Ordering.{Ordering}
use Rattle.std.specs.declared.cmp.Ordering.TheVariants.{Less, Equal, Greater}
use Rattle.std.specs.List.{AllByRecursion, All, IsDistinct}
use Rattle.std.specs.List.Sorted.{IsPermutation, IsSortedBy, IsSortedByKey}
use Rattle.std.specs.Ordering.{eq_by_cmp, is_eq, is_lt, ordering_reverse}
use Rattle.std.proofs.lemmas.List.Elements.{recursion_from_All, All-from_recursion}
use Rattle.std.proofs.lemmas.List.Sorted.{All-permutation, IsPermutation-sym, ranks_by, sorted_far}
use Rattle.clone_classes.specs.Classes.{Among}
use Rattle.window_index.specs.Orderly.{Ascends}

-- ---- members

pub at-member : {A : Type 0} (P : A → Type 0) (xs : List A) (x : A) → AllByRecursion P xs → Among xs x → P x
at-member P [] x h m = absurd m
at-member P (y ∷ xs) x h (inl e) = subst P (sym e) h.0
at-member P (y ∷ xs) x h (inr m) = at-member P xs x h.1 m

pub for-members : {A : Type 0} (P : A → Type 0) (xs : List A) → ((x : A) → Among xs x → P x) → AllByRecursion P xs
for-members P [] f = tt
for-members P (x ∷ xs) f = (f x (inl refl), for-members P xs (λ y h. f y (inr h)))

pub moved-member : {A : Type 0} (xs ys : List A) (x : A) → IsPermutation xs ys → Among xs x → Among ys x
moved-member xs ys x p m =
    at-member (Among ys) xs x (recursion_from_All (Among ys) xs (All-permutation (Among ys) ys xs (IsPermutation-sym xs ys p) (All-from_recursion (Among ys) ys (for-members (Among ys) ys (λ y h. h))))) m

pub joined-members : {A : Type 0} (P Q R : A → Type 0) (xs : List A) → ((x : A) → P x → Q x → R x) → AllByRecursion P xs → AllByRecursion Q xs → AllByRecursion R xs
joined-members P Q R [] f h k = tt
joined-members P Q R (x ∷ xs) f h k = (f x h.0 k.0, joined-members P Q R xs f h.1 k.1)

pub kept-members : {A : Type 0} (P : A → Type 0) (t : A → Bool) (xs : List A) → AllByRecursion P xs → AllByRecursion P (filter t xs)
kept-members P t [] h = tt
kept-members P t (x ∷ xs) h = by (t x) (kept-members P t xs h.1) where
  by : (b : Bool) → AllByRecursion P (filter t xs) → AllByRecursion P (if b then x ∷ filter t xs else filter t xs)
  by true r = (h.0, r)
  by false r = r

-- ---- ascents

pub kept-ascends : {A : Type 0} (R : A → A → Type 0) (t : A → Bool) (xs : List A) → Ascends R xs → Ascends R (filter t xs)
kept-ascends R t [] h = tt
kept-ascends R t (x ∷ xs) h = by (t x) (kept-ascends R t xs h.1) where
  by : (b : Bool) → Ascends R (filter t xs) → Ascends R (if b then x ∷ filter t xs else filter t xs)
  by true r = (kept-members (R x) t xs h.0, r)
  by false r = r

-- Lists that ascend are equal where they have the same members.
pub same-members : {A : Type 0} (R : A → A → Type 0) → ((x y : A) → R x y → R y x → ⊥) → (xs ys : List A) → Ascends R xs → Ascends R ys →
    ((x : A) → Among xs x → Among ys x) → ((x : A) → Among ys x → Among xs x) → xs ≡ ys
same-members R never [] [] a b f g = refl
same-members R never [] (y ∷ ys) a b f g = absurd (g y (inl refl))
same-members R never (x ∷ xs) [] a b f g = absurd (f x (inl refl))
same-members {A} R never (x ∷ xs) (y ∷ ys) a b f g =
    ap (λ z. z ∷ xs) first ∙ ap (λ l. y ∷ l) (same-members R never xs ys a.1 b.1 (λ z h. left z h (f z (inr h))) (λ z h. right z h (g z (inr h)))) where
      heads : (x ≡ y) ⊎ Among ys x → (y ≡ x) ⊎ Among xs y → x ≡ y
      heads (inl e) k = e
      heads (inr h) (inl e) = sym e
      heads (inr h) (inr k) = absurd (never x y (at-member (R x) xs y a.0 k) (at-member (R y) ys x b.0 h))

      first : x ≡ y
      first = heads (f x (inl refl)) (g y (inl refl))

      left : (z : A) → Among xs z → (z ≡ y) ⊎ Among ys z → Among ys z
      left z h (inl e) = let r : R x x = subst (R x) (e ∙ sym first) (at-member (R x) xs z a.0 h) in absurd (never x x r r)
      left z h (inr k) = k

      right : (z : A) → Among ys z → (z ≡ x) ⊎ Among xs z → Among xs z
      right z h (inl e) = let r : R y y = subst (R y) (e ∙ first) (at-member (R y) ys z b.0 h) in absurd (never y y r r)
      right z h (inr k) = k

-- ---- sorted lists

module _ {A K : Type 0} (cmp : K → K → Ordering) (o : IsTotalOrder cmp) (key : A → K) where
  abbrev pub Before : A → A → Type 0
  Before x y = cmp (key x) (key y) ≡ Less

  abbrev pub tied : A → A → Bool
  tied x y = eq_by_cmp cmp (key x) (key y)

  pub never-both : (x y : A) → Before x y → Before y x → ⊥
  never-both x y h k =
      let e : Less ≡ ordering_reverse Less = sym h ∙ o.antisymm (key x) (key y) ∙ ap ordering_reverse k in
      let t : true ≡ false = ap is_lt e in cc

  less-of : (x y : A) (r : Ordering) → cmp (key x) (key y) ≡ r → is_lt (cmp (key y) (key x)) ≡ false → tied x y ≡ false → Before x y
  less-of x y Less e h k = e
  less-of x y Equal e h k = let t : true ≡ false = sym (ap is_eq e) ∙ k in cc
  less-of x y Greater e h k = let t : true ≡ false = sym (ap is_lt (o.antisymm (key y) (key x) ∙ ap ordering_reverse e)) ∙ h in cc

  tail-sorted : (x : A) (xs : List A) → IsSortedByKey key cmp (x ∷ xs) → IsSortedByKey key cmp xs
  tail-sorted x xs s k d l h =
      let e : suc k + 1 ≡ suc (k + 1) = omega arith in
      subst (λ m. is_lt (cmp (key (get_or (x ∷ xs) m d)) (key (get_or xs k d))) ≡ false) e (s (suc k) d (omega arith) (omega (arith, h)))

  pub sorted-ascends : (xs : List A) → IsSortedByKey key cmp xs → IsDistinct tied xs → Ascends Before xs
  unfolding IsDistinct
  sorted-ascends [] s d = tt
  sorted-ascends (x ∷ xs) s d = (
    joined-members (λ y. is_lt (cmp (key y) (key x)) ≡ false) (λ y. tied x y ≡ false) (Before x) xs (λ y h k. less-of x y (cmp (key x) (key y)) refl h k)
        (recursion_from_All (λ y. is_lt (cmp (key y) (key x)) ≡ false) xs (λ k e l. sorted_far (λ y z. is_lt (cmp (key y) (key z))) (ranks_by o key) (x ∷ xs) s 0 (suc k) e (omega arith) (omega (arith, l))))
        d.0,
    sorted-ascends xs (tail-sorted x xs s) d.1,
  )

  pub ascends-distinct : (xs : List A) → Ascends Before xs → IsDistinct tied xs
  unfolding IsDistinct
  ascends-distinct [] a = tt
  ascends-distinct (x ∷ xs) a = (for-members (λ y. tied x y ≡ false) xs (λ y m. ap is_eq (at-member (Before x) xs y a.0 m)), ascends-distinct xs a.1)

  pub tied-flips : (x y : A) → tied x y ≡ tied y x
  tied-flips x y = by (cmp (key y) (key x)) refl where
    by : (r : Ordering) → cmp (key y) (key x) ≡ r → tied x y ≡ tied y x
    by Less e = ap is_eq (o.antisymm (key x) (key y) ∙ ap ordering_reverse e) ∙ sym (ap is_eq e)
    by Equal e = ap is_eq (o.antisymm (key x) (key y) ∙ ap ordering_reverse e) ∙ sym (ap is_eq e)
    by Greater e = ap is_eq (o.antisymm (key x) (key y) ∙ ap ordering_reverse e) ∙ sym (ap is_eq e)
