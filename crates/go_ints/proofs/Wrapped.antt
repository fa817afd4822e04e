-- Wrapping: the value is in range, differs by a multiple of 2 ^ bits, and is the only such value.
use Rattle.std.proofs.Common.{◌↔◌, ◌≡◌, refl, sym, ap, subst, ◌∙◌, ℕ, zero, suc, ◌+◌, ◌-◌, ◌*◌, ◌/◌, ◌%◌, ◌^◌, ◌<◌, ◌≤◌, Bool, true, false, ℤ, pos, ◌+ℤ◌, ◌-ℤ◌, ◌*ℤ◌, ◌≤ℤ◌, ◌<ℤ◌, arith}
use Rattle.std.proofs.lemmas.Int.{ints, int_rem_euclid_is}
use Rattle.std.proofs.lemmas.Nat.{pow_pos, div-add-mod'}
use Rattle.std.proofs.Math.Pow.{pow_mono}
use Rattle.std.proofs.Math.Nat.{mod-lt, mod-eq_of_lt, add-mul-mod_self_right}
use Rattle.std.proofs.Math.IntN.{negsuc, *ℤ_comm}
use Rattle.std.specs.Int.{int_rem_euclid}
use borrow.Author.Differences.{up, down, same_in, same_out, sum_is_lem, neg_is, product_is}
use Rattle.go_ints.specs.Wrapping.{IsWidth, least_value, greatest_value, InRange, IsCongruent, wrapped}

-- what is left of z at the modulus m, and how many times m it lies from z
pub record Left (z : ℤ) (m : ℕ) : Type 0 where
  pub rest : ℕ
  pub over : ℕ
  pub under : ℕ
  pub is : int_rem_euclid z (pos m) ≡ pos rest
  pub small : rest < m
  pub differ : pos rest +ℤ pos (over * m) ≡ z +ℤ pos (under * m)

pub left : (z : ℤ) (m : ℕ) → 0 < m → Left z m
left (pos a) m p = record {
  rest = a % m;
  over = a / m;
  under = 0;
  is = refl;
  small = mod-lt a p;
  differ = omega (arith, same_in, same_out, sum_is_lem, div-add-mod' a m);
}
left (negsuc a) m p =
    let small = mod-lt a p in
    record {
      rest = m - 1 - a % m;
      over = 0;
      under = a / m + 1;
      is = refl;
      small = omega arith;
      differ = omega (arith, same_in, same_out, sum_is_lem, div-add-mod' a m);
    }

-- half of 2 ^ bits, twice
pub halves : (bits : ℕ) → 0 < bits → 2 ^ (bits - 1) * 2 ≡ 2 ^ bits
halves zero p = absurd (omega arith)
halves (suc b) p = grind arith

-- the range has 2 ^ bits values
pub range_is : (bits : ℕ) (signed : Bool) → 0 < bits → greatest_value bits signed +ℤ pos 1 ≡ least_value bits signed +ℤ pos (2 ^ bits)
range_is bits true p = omega (arith, ints, halves bits p, pow_pos (bits - 1))
range_is bits false p = omega (arith, ints, pow_pos bits)

pub wrapped_in_range : (bits : ℕ) (signed : Bool) (z : ℤ) → 0 < bits → InRange bits signed (wrapped bits signed z)
unfolding wrapped
wrapped_in_range bits signed z p =
    let l = left (z -ℤ least_value bits signed) (2 ^ bits) (pow_pos bits) in
    let e = range_is bits signed p in
    (omega (arith, ints, l.is, l.small), omega (arith, ints, l.is, l.small, e))

-- x and y with these multiples of 2 ^ bits are equal
pub differ_by : {bits : ℕ} {x y : ℤ} (j k : ℕ) → x +ℤ pos (j * 2 ^ bits) ≡ y +ℤ pos (k * 2 ^ bits) → IsCongruent bits x y
differ_by j k e = record { over = j; under = k; differ = e }

pub congruent_same : {bits : ℕ} {x y : ℤ} → x ≡ y → IsCongruent bits x y
congruent_same {bits} {x} {y} e = differ_by 0 0 (ap (λ t. t +ℤ pos (0 * 2 ^ bits)) e)

pub congruent_sym : {bits : ℕ} {x y : ℤ} → IsCongruent bits x y → IsCongruent bits y x
congruent_sym h = differ_by h.under h.over (sym h.differ)

pub congruent_trans : {bits : ℕ} {x y z : ℤ} → IsCongruent bits x y → IsCongruent bits y z → IsCongruent bits x z
congruent_trans h g = differ_by (h.over + g.over) (h.under + g.under) (omega (arith, same_in, same_out, sum_is_lem, h.differ, g.differ))

pub wrapped_congruent : (bits : ℕ) (signed : Bool) (z : ℤ) → IsCongruent bits (wrapped bits signed z) z
unfolding wrapped
wrapped_congruent bits signed z =
    let l = left (z -ℤ least_value bits signed) (2 ^ bits) (pow_pos bits) in
    differ_by l.over l.under (omega (arith, same_in, same_out, sum_is_lem, neg_is, l.is, l.differ))

-- a value in range that differs from z by a multiple is what z wraps to
pub only_wrapped : (bits : ℕ) (signed : Bool) (r z : ℤ) → 0 < bits → InRange bits signed r → IsCongruent bits r z → r ≡ wrapped bits signed z
unfolding wrapped
only_wrapped bits signed r z p (low, high) h =
    let j = h.over in
    let k = h.under in
    let m = 2 ^ bits in
    let l = least_value bits signed in
    let s = up r + down l - down r - up l in
    let span = range_is bits signed p in
    let small : s < m = omega (arith, ints, span) in
    let rest : int_rem_euclid (z -ℤ l) (pos m) ≡ pos ((s + j * m) % m) = int_rem_euclid_is (z -ℤ l) (pos m) m k (s + j * m) (pow_pos bits) refl (omega (arith, ints, h.differ)) in
    let is : (s + j * m) % m ≡ s = add-mul-mod_self_right s j m ∙ mod-eq_of_lt small in
    let shown : r ≡ l +ℤ pos s = omega (arith, ints) in
    shown ∙ ap (λ x. l +ℤ x) (sym (rest ∙ ap pos is))

-- numbers that differ by a multiple wrap to one value
pub congruent_wrapped : (bits : ℕ) (signed : Bool) (x y : ℤ) → 0 < bits → IsCongruent bits x y → wrapped bits signed x ≡ wrapped bits signed y
congruent_wrapped bits signed x y p h = only_wrapped bits signed (wrapped bits signed x) y p (wrapped_in_range bits signed x p) (congruent_trans (wrapped_congruent bits signed x) h)

-- what fits wraps to itself
pub wrapped_fits : (bits : ℕ) (signed : Bool) (z : ℤ) → 0 < bits → InRange bits signed z → wrapped bits signed z ≡ z
wrapped_fits bits signed z p range = sym (only_wrapped bits signed z z p range (congruent_same refl))

-- wrapping leaves alone exactly what is in range
pub wrapped_same : (bits : ℕ) (signed : Bool) (z : ℤ) → 0 < bits → (wrapped bits signed z ≡ z) ↔ InRange bits signed z
wrapped_same bits signed z p = (λ e. subst (InRange bits signed) e (wrapped_in_range bits signed z p), wrapped_fits bits signed z p)

-- ---- sums, differences and products of numbers that differ by multiples
pub congruent-add : {bits : ℕ} {x x' y y' : ℤ} → IsCongruent bits x x' → IsCongruent bits y y' → IsCongruent bits (x +ℤ y) (x' +ℤ y')
congruent-add h g = differ_by (h.over + g.over) (h.under + g.under) (omega (arith, same_in, same_out, sum_is_lem, h.differ, g.differ))

pub congruent-sub : {bits : ℕ} {x x' y y' : ℤ} → IsCongruent bits x x' → IsCongruent bits y y' → IsCongruent bits (x -ℤ y) (x' -ℤ y')
congruent-sub h g = differ_by (h.over + g.under) (h.under + g.over) (omega (arith, same_in, same_out, sum_is_lem, neg_is, h.differ, g.differ))

times : (bits : ℕ) (x x' y : ℤ) → IsCongruent bits x x' → IsCongruent bits (x *ℤ y) (x' *ℤ y)
times bits x x' y h =
    let j = h.over in
    let k = h.under in
    let sum : up x + j * 2 ^ bits + down x' ≡ up x' + k * 2 ^ bits + down x = omega (arith, same_out, sum_is_lem, h.differ) in
    let above = ap (λ t. t * up y) sum in
    let below = ap (λ t. t * down y) sum in
    differ_by (j * up y + k * down y) (k * up y + j * down y) (omega (arith, same_in, sum_is_lem, product_is))

pub congruent-mul : {bits : ℕ} {x x' y y' : ℤ} → IsCongruent bits x x' → IsCongruent bits y y' → IsCongruent bits (x *ℤ y) (x' *ℤ y')
congruent-mul {bits} {x} {x'} {y} {y'} h g =
    let turned : IsCongruent bits (x' *ℤ y) (x' *ℤ y') = subst (λ t. IsCongruent bits t (x' *ℤ y')) (*ℤ_comm y x') (subst (λ t. IsCongruent bits (y *ℤ x') t) (*ℤ_comm y' x') (times bits y y' x' g)) in
    congruent_trans (times bits x x' y h) turned

-- adding, subtracting and multiplying wrapped values is wrapping the exact result
module _ (bits : ℕ) (signed : Bool) (x y : ℤ) (p : 0 < bits) where
  pub wrapped-add : wrapped bits signed (wrapped bits signed x +ℤ wrapped bits signed y) ≡ wrapped bits signed (x +ℤ y)
  wrapped-add = congruent_wrapped bits signed _ _ p (congruent-add (wrapped_congruent bits signed x) (wrapped_congruent bits signed y))

  pub wrapped-sub : wrapped bits signed (wrapped bits signed x -ℤ wrapped bits signed y) ≡ wrapped bits signed (x -ℤ y)
  wrapped-sub = congruent_wrapped bits signed _ _ p (congruent-sub (wrapped_congruent bits signed x) (wrapped_congruent bits signed y))

  pub wrapped-mul : wrapped bits signed (wrapped bits signed x *ℤ wrapped bits signed y) ≡ wrapped bits signed (x *ℤ y)
  wrapped-mul = congruent_wrapped bits signed _ _ p (congruent-mul (wrapped_congruent bits signed x) (wrapped_congruent bits signed y))

-- ---- what is left of x at the modulus, read as two's complement

width_pos : (bits : ℕ) → IsWidth bits → 0 < bits
width_pos bits h = omega arith

pub width_bound : (bits : ℕ) → IsWidth bits → 2 ^ bits ≤ 2 ^ 64
width_bound bits h = pow_mono {i = bits} {j = 64} (omega arith)

-- from half of the modulus up the bits of a signed value read as negative
pub high_bits : (bits : ℕ) (x r : ℤ) → IsWidth bits → r ≡ int_rem_euclid x (pos (2 ^ bits)) → pos (2 ^ bits) ≤ℤ (pos 2 *ℤ r) → r -ℤ pos (2 ^ bits) ≡ wrapped bits true x
high_bits bits x r w e h =
    let p = width_pos bits w in
    let l = left x (2 ^ bits) (pow_pos bits) in
    let half = halves bits p in
    only_wrapped bits true (r -ℤ pos (2 ^ bits)) x p (omega (arith, ints, l.is, l.small, half), omega (arith, ints, l.is, l.small, half)) (differ_by (l.over + 1) l.under (omega (arith, ints, l.is, l.differ)))

pub low_bits : (bits : ℕ) (signed : Bool) (x r : ℤ) → IsWidth bits → r ≡ int_rem_euclid x (pos (2 ^ bits)) → (signed ≡ true → (pos 2 *ℤ r) <ℤ pos (2 ^ bits)) → r ≡ wrapped bits signed x
low_bits bits true x r w e h =
    let p = width_pos bits w in
    let l = left x (2 ^ bits) (pow_pos bits) in
    let half = halves bits p in
    let below = h refl in
    only_wrapped bits true r x p (omega (arith, ints, l.is, l.small, half), omega (arith, ints, l.is, l.small, half)) (differ_by l.over l.under (omega (arith, ints, l.is, l.differ)))
low_bits bits false x r w e h =
    let p = width_pos bits w in
    let l = left x (2 ^ bits) (pow_pos bits) in
    only_wrapped bits false r x p (omega (arith, ints, l.is, l.small), omega (arith, ints, l.is, l.small)) (differ_by l.over l.under (omega (arith, ints, l.is, l.differ)))
