-- The pigeonhole principle.
use Rattle.std.proofs.Common.{◌≡◌, ◌∙◌, ℕ, zero, suc, ◌<◌, ◌≤◌, Bool, true, false, inl, inr, ◌⊎◌, refl, sym, arith}
use Rattle.std.proofs.lemmas.Bool.{eqb-true, eq-eqb}
use Rattle.std.specs.Prelude.{if◌then◌else◌, nat_eq}

abbrev pub Into : (ℕ → ℕ) → ℕ → ℕ → Type 0
Into f n m = (i : ℕ) → i < n → f i < m

abbrev pub OneToOne : (ℕ → ℕ) → ℕ → Type 0
OneToOne f n = (i j : ℕ) → i < n → j < n → f i ≡ f j → i ≡ j

-- the function with the last value in the place of m
abbrev avoiding : (ℕ → ℕ) → ℕ → ℕ → ℕ → ℕ
avoiding f m last i = if nat_eq (f i) m then f last else f i

abbrev Avoids : ℕ → ℕ → ℕ → ℕ → Type 0
Avoids x m y r = ((x ≡ m) × (r ≡ y)) ⊎ ((x ≡ m → ⊥) × (r ≡ x))

apart : (x m : ℕ) → nat_eq x m ≡ false → x ≡ m → ⊥
apart x m e f = let t : true ≡ false = sym (eq-eqb x m f) ∙ e in cc

avoids-by : (x m y : ℕ) (b : Bool) → nat_eq x m ≡ b → Avoids x m y (if b then y else x)
avoids-by x m y true e = inl (eqb-true x m e, refl)
avoids-by x m y false e = inr (apart x m e, refl)

avoids : (x m y : ℕ) → Avoids x m y (if nat_eq x m then y else x)
avoids x m y = avoids-by x m y (nat_eq x m) refl

into-less : (f : ℕ → ℕ) (n m : ℕ) → Into f (suc n) (suc m) → OneToOne f (suc n) → Into (avoiding f m n) n m
into-less f n m into one i p =
    let a = into i (omega (arith, p)) in
    let b = into n (omega arith) in
    let ne : f i ≡ f n → ⊥ = λ e. let z = one i n (omega (arith, p)) (omega arith) e in omega (arith, z, p) in
    by a b ne (avoids (f i) m (f n)) where
      by : f i < suc m → f n < suc m → (f i ≡ f n → ⊥) → Avoids (f i) m (f n) (avoiding f m n i) → avoiding f m n i < m
      by a b ne (inl w) = omega (arith, a, b, w.0, w.1, ne)
      by a b ne (inr w) = omega (arith, a, w.0, w.1)

one-less : (f : ℕ → ℕ) (n m : ℕ) → OneToOne f (suc n) → OneToOne (avoiding f m n) n
one-less f n m one i j p q e = both (avoids (f i) m (f n)) (avoids (f j) m (f n)) where
  both : Avoids (f i) m (f n) (avoiding f m n i) → Avoids (f j) m (f n) (avoiding f m n j) → i ≡ j
  both (inl v) (inl w) = one i j (omega (arith, p)) (omega (arith, q)) (v.0 ∙ sym w.0)
  both (inl v) (inr w) = let z = one n j (omega arith) (omega (arith, q)) (sym v.1 ∙ e ∙ w.1) in absurd (omega (arith, z, q))
  both (inr v) (inl w) = let z = one i n (omega (arith, p)) (omega arith) (sym v.1 ∙ e ∙ w.1) in absurd (omega (arith, z, p))
  both (inr v) (inr w) = one i j (omega (arith, p)) (omega (arith, q)) (sym v.1 ∙ e ∙ w.1)

pub pigeonhole : (n m : ℕ) (f : ℕ → ℕ) → Into f n m → OneToOne f n → n ≤ m
pigeonhole zero m f into one = omega arith
pigeonhole (suc n) zero f into one = absurd (omega (arith, into n (omega arith)))
pigeonhole (suc n) (suc m) f into one = omega (arith, pigeonhole n m (avoiding f m n) (into-less f n m into one) (one-less f n m one))
