-- How many declared types stand before a number.
use Rattle.std.proofs.Common.{◌≡◌, ℕ, zero, suc, ◌+◌, ◌<◌, ◌≤◌, List, [], ◌∷◌, ◌++◌, Some, None, take, length, refl, sym, ◌∙◌, ap, arith, Bool, true, false, cond}
use Rattle.std.specs.Prelude.{slice_get, count_by}
use Rattle.std.proofs.lemmas.List.Sums.{sum_by-append, count_by_more_no}
use Rattle.std.proofs.lemmas.Option.{get_or_from_slice_get}
use Rattle.go_types.specs.declared.shape.Shape.{Shape}
use Rattle.go_types.specs.declared.shape.Shape.TheVariants as shape
use Rattle.go_types.specs.Tables.{is_declaration}
use Rattle.go_types.specs.Changes.{declaration}
use Rattle.go_types.proofs.Places.{get_there}

abbrev pub weight : Bool → ℕ
weight b = cond b 1 0

module _ {X : Type 0} (p : X → Bool) where
  pub count_longer : (xs : List X) (x : X) → count_by p (xs ++ x ∷ []) ≡ count_by p xs + weight (p x)
  count_longer xs x = let e = sum_by-append (λ y. cond (p y) 1 0) xs (x ∷ []) in omega (arith, e)

  count_first : (x : X) (xs : List X) → count_by p (x ∷ xs) ≡ weight (p x) + count_by p xs
  count_first x xs = let e = sum_by-append (λ y. cond (p y) 1 0) (x ∷ []) xs in omega (arith, e)

  -- the n-th element that passes
  pub record Passes (xs : List X) (n : ℕ) : Type 0 where
    pub place : ℕ
    pub element : X
    pub there : slice_get xs place ≡ Some element
    pub passes : p element ≡ true
    pub before : count_by p (take place xs) ≡ n

  pub passing : (xs : List X) (n : ℕ) → n < count_by p xs → Passes xs n
  passing [] n h = absurd (omega arith)
  passing (x ∷ xs) n h = by (p x) refl n h (passing xs)
    where
      by : (b : Bool) → p x ≡ b → (m : ℕ) → m < count_by p (x ∷ xs) → ((k : ℕ) → k < count_by p xs → Passes xs k) → Passes (x ∷ xs) m
      by true e zero l rest = record { place = 0; element = x; there = refl; passes = e; before = refl }
      by true e (suc m) l rest =
          let all = count_first x xs in
          let one : weight (p x) ≡ weight true = ap weight e in
          let r = rest m (omega (arith, all, one, l)) in
          let first = count_first x (take r.place xs) in
          let same = r.before in
          record { place = suc r.place; element = r.element; there = r.there; passes = r.passes; before = omega (arith, first, one, same) }
      by false e m l rest =
          let all = count_first x xs in
          let none : weight (p x) ≡ weight false = ap weight e in
          let r = rest m (omega (arith, all, none, l)) in
          let first = count_first x (take r.place xs) in
          let same = r.before in
          record { place = suc r.place; element = r.element; there = r.there; passes = r.passes; before = omega (arith, first, none, same) }

  -- more pass before a later place
  pub count_rises : (xs : List X) (i n : ℕ) (x : X) → slice_get xs i ≡ Some x → p x ≡ true → i < n → count_by p (take i xs) < count_by p (take n xs)
  count_rises [] i n x e h l = cc
  count_rises (y ∷ ys) i zero x e h l = absurd (omega arith)
  count_rises (y ∷ ys) zero (suc n) x e h l =
      let same : y ≡ x = cc in
      let one : weight (p y) ≡ weight true = ap weight (ap p same ∙ h) in
      let first = count_first y (take n ys) in
      omega (arith, one, first)
  count_rises (y ∷ ys) (suc i) (suc n) x e h l =
      let rest = count_rises ys i n x e h (omega arith) in
      let left = count_first y (take i ys) in
      let right = count_first y (take n ys) in
      omega (arith, rest, left, right)

  pub count_taken : (xs : List X) (n : ℕ) → count_by p (take n xs) ≤ count_by p xs
  count_taken xs zero = omega arith
  count_taken [] (suc n) = omega arith
  count_taken (x ∷ xs) (suc n) =
      let rest = count_taken xs n in
      let left = count_first x (take n xs) in
      let right = count_first x xs in
      omega (arith, rest, left, right)

pub take_taken : {X : Type 0} (xs : List X) (i n : ℕ) → i ≤ n → take i (take n xs) ≡ take i xs
take_taken xs zero n h = refl
take_taken xs (suc i) zero h = absurd (omega arith)
take_taken [] (suc i) (suc n) h = refl
take_taken (x ∷ xs) (suc i) (suc n) h = ap (λ l. x ∷ l) (take_taken xs i n (omega arith))

pub take_longer : {X : Type 0} (xs ys : List X) (i : ℕ) → i ≤ length xs → take i (xs ++ ys) ≡ take i xs
take_longer xs ys zero h = refl
take_longer [] ys (suc i) h = absurd (omega arith)
take_longer (x ∷ xs) ys (suc i) h = ap (λ l. x ∷ l) (take_longer xs ys i (omega arith))

pub take_whole : {X : Type 0} (xs : List X) → take (length xs) xs ≡ xs
take_whole [] = refl
take_whole (x ∷ xs) = ap (λ l. x ∷ l) (take_whole xs)

pub length_taken : {X : Type 0} (xs : List X) (n : ℕ) → n ≤ length xs → length (take n xs) ≡ n
length_taken xs zero h = refl
length_taken [] (suc n) h = absurd (omega arith)
length_taken (x ∷ xs) (suc n) h = ap suc (length_taken xs n (omega arith))

pub length_longer : {X : Type 0} (xs : List X) (x : X) → length (xs ++ x ∷ []) ≡ suc (length xs)
length_longer [] x = refl
length_longer (y ∷ ys) x = ap suc (length_longer ys x)

undeclared : (x : Shape) → declaration (Some x) ≡ None → is_declaration x ≡ false
undeclared (shape.Named n) e = cc
undeclared shape.Bool e = refl
undeclared shape.Text e = refl
undeclared (shape.Int _) e = refl
undeclared (shape.Array _ _) e = refl
undeclared (shape.Slice _) e = refl
undeclared (shape.Struct _) e = refl
undeclared (shape.Func _ _) e = refl

-- a type that isn't a declared one doesn't count
pub undeclared_passed : (xs : List Shape) (i : ℕ) → i < length xs → declaration (slice_get xs i) ≡ None → count_by is_declaration (take (i + 1) xs) ≡ count_by is_declaration (take i xs)
undeclared_passed xs i h e =
    let there = get_there xs i h in
    let not_one = undeclared there.0 (ap declaration (sym there.1) ∙ e) in
    count_by_more_no is_declaration xs i there.0 h (ap is_declaration (get_or_from_slice_get xs i there.0 there.0 there.1) ∙ not_one)
