-- One more belongs to one more.
use Rattle.std.proofs.Common.{◌≡◌, ◌∙◌, ℕ, zero, suc, ◌+◌, ◌<◌, ◌⊎◌, inl, inr, List, [], ◌∷◌, ◌++◌, length, Some, slice_get, refl, sym, ap, subst, arith}
use Rattle.std.proofs.lemmas.Bool.{cases_order}
use Rattle.go_package.specs.Reading.{Upto}

get_within : {A : Type 0} (xs ys : List A) (n : ℕ) (x : A) → slice_get xs n ≡ Some x → slice_get (xs ++ ys) n ≡ Some x
get_within [] ys n x e = cc
get_within (z ∷ xs) ys zero x e = e
get_within (z ∷ xs) ys (suc n) x e = get_within xs ys n x e

get_behind : {A : Type 0} (xs : List A) (x : A) → slice_get (xs ++ x ∷ []) (length xs) ≡ Some x
get_behind [] x = refl
get_behind (z ∷ xs) x = get_behind xs x

length_more : {A : Type 0} (xs : List A) (x : A) → length (xs ++ x ∷ []) ≡ suc (length xs)
length_more [] x = refl
length_more (z ∷ xs) x = ap suc (length_more xs x)

same_some : {A : Type 0} (x y : A) → Some x ≡ Some y → x ≡ y
same_some x y e = grind (arith, e)

module _ {A B : Type 0} (belongs : ℕ → A → B → Type 0) (xs : List A) where
  abbrev There : List B → ℕ → A → Type 0
  There ys n x = (y : B) × (slice_get ys n ≡ Some y) × belongs n x y

  at_end : (i : ℕ) (ys : List B) (x z : A) (y : B) (n : ℕ) → length ys ≡ i → slice_get xs i ≡ Some x → belongs i x y → n ≡ i → slice_get xs n ≡ Some z → There (ys ++ y ∷ []) n z
  at_end i ys x z y n e h b en hz =
      let same : x ≡ z = same_some x z (sym h ∙ ap (slice_get xs) (sym en) ∙ hz) in
      (y, ap (slice_get (ys ++ y ∷ [])) (en ∙ sym e) ∙ get_behind ys y, subst (λ m. belongs m z y) (sym en) (subst (λ w. belongs i w y) same b))

  one_more_by : (i : ℕ) (ys : List B) (x z : A) (y : B) (n : ℕ) → Upto belongs xs i ys → slice_get xs i ≡ Some x → belongs i x y → n < suc i → slice_get xs n ≡ Some z → (n ≡ i) ⊎ ((n < i) ⊎ (i < n)) → There (ys ++ y ∷ []) n z
  one_more_by i ys x z y n up h b lt hz (inl en) = at_end i ys x z y n up.0 h b en hz
  one_more_by i ys x z y n up h b lt hz (inr (inl l)) = let r = up.1 n z l hz in (r.0, get_within ys (y ∷ []) n r.0 r.1, r.2)
  one_more_by i ys x z y n up h b lt hz (inr (inr l)) = absurd (omega (arith, lt, l))

  pub one_more : (i : ℕ) (ys : List B) (x : A) (y : B) → Upto belongs xs i ys → slice_get xs i ≡ Some x → belongs i x y → Upto belongs xs (i + 1) (ys ++ y ∷ [])
  one_more i ys x y up h b =
      let e : suc i ≡ i + 1 = omega arith in
      subst (λ k. Upto belongs xs k (ys ++ y ∷ [])) e (length_more ys y ∙ ap suc up.0, λ n z lt hz. one_more_by i ys x z y n up h b lt hz (cases_order n i))
