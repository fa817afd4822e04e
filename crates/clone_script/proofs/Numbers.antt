-- A number is read from its decimal digits and from nothing else.
use Rattle.std.proofs.Common.{◌≡◌, ℕ, ◌+◌, ◌*◌, ◌-◌, ◌/◌, ◌%◌, ◌^◌, ◌<◌, ◌≤◌, ◌⊎◌, inl, inr, Bool, true, false, cond, eqb, List, [], ◌∷◌, ◌++◌, Option, Some, None, Ok, Err, refl, sym, ap, subst, ◌∙◌, append_assoc, arith}
use Rattle.std.proofs.lemmas.List.{append-nil}
use Rattle.std.proofs.lemmas.Bool.{eqb-true}
use Rattle.std.specs.Fmt.{decimal}
use Rattle.std.proofs.lemmas.Fmt.{decimal_digit, decimal_step, decimal_by_steps}
use Rattle.clone_script.specs.Reading.{more, Read, or_bad, with_digit, next_number, number_from, number_at}
use Rattle.clone_script.proofs.Readers.{Reads, pair_is, none_left}

pub chosen : {A : Type 0} (b : Bool) (x y z : A) → cond b x y ≡ z → ((b ≡ true) × (x ≡ z)) ⊎ ((b ≡ false) × (y ≡ z))
chosen true x y z e = inl (refl, e)
chosen false x y z e = inr (refl, e)

pub or_bad_ok : {A B : Type 0} (o : Option A) (f : A → Read B) (y : B × List ℕ) → or_bad o f ≡ Ok y → (x : A) × (o ≡ Some x) × (f x ≡ Ok y)
or_bad_ok None f y e = absurd cc
or_bad_ok (Some x) f y e = (x, refl, e)

pub or_bad_more : {A B : Type 0} (o : Option A) (f : A → Read B) → or_bad o f ≡ Err more → (x : A) × (o ≡ Some x) × (f x ≡ Err more)
or_bad_more None f e = absurd cc
or_bad_more (Some x) f e = (x, refl, e)

-- m is n with the digit b behind it
pub record Adds (limit n b m : ℕ) : Type 0 where
  pub least : 48 ≤ b
  pub most : b ≤ 57
  pub value : m ≡ n * 10 + (b - 48)
  pub inside : m ≤ limit

pub adds : (limit n b m : ℕ) → with_digit limit n b ≡ Some m → Adds limit n b m
unfolding with_digit
adds limit n b m e = record { least = grind arith; most = grind arith; value = grind arith; inside = grind arith }

pub with_some : (limit n b : ℕ) → 48 ≤ b → b ≤ 57 → n * 10 + (b - 48) ≤ limit → with_digit limit n b ≡ Some (n * 10 + (b - 48))
unfolding with_digit
with_some limit n b l h i = grind arith

pub with_first : (limit d : ℕ) → 48 ≤ d → d ≤ 57 → d - 48 ≤ limit → with_digit limit 0 d ≡ Some (d - 48)
with_first limit d l h i = let e : 0 * 10 + (d - 48) ≡ d - 48 = omega arith in with_some limit 0 d l h (omega (arith, i)) ∙ ap (λ (z : ℕ). Some z) e

pub next_adds : (limit n b m : ℕ) → next_number limit n b ≡ Some m → (0 < n) × Adds limit n b m
unfolding next_number
next_adds limit n b m e =
    elim (chosen _ (with_digit limit n b) None (Some m) e) [
      | inl w ↦ (grind arith, adds limit n b m w.1)
      | inr w ↦ absurd cc
    ]

pub next_some : (limit n b : ℕ) → 0 < n → 48 ≤ b → b ≤ 57 → n * 10 + (b - 48) ≤ limit → next_number limit n b ≡ Some (n * 10 + (b - 48))
unfolding next_number
next_some limit n b p l h i = let e = with_some limit n b l h i in grind (arith, e)

-- the digits of a number with one more
pub one_more : (limit n b m : ℕ) → limit < 2 ^ 64 → 0 < n → Adds limit n b m → decimal m ≡ decimal n ++ b ∷ []
one_more limit n b m small p a =
    let front : m / 10 ≡ n = omega (arith, p, a.value, a.least, a.most) in
    let last : 48 + m % 10 ≡ b = omega (arith, p, a.value, a.least, a.most) in
    let step = decimal_step m (omega (arith, p, a.value)) (omega (arith, small, a.inside)) in
    step ∙ rw (front, last) refl

abbrev pub Found : ℕ → ℕ → ℕ → List ℕ → ℕ → List ℕ → Type 0
Found limit end n bytes v rest = (ds : List ℕ) × (bytes ≡ ds ++ end ∷ rest) × (decimal v ≡ decimal n ++ ds) × (v ≤ limit)

from_found : (limit end n : ℕ) (bytes rest : List ℕ) (v : ℕ) → limit < 2 ^ 64 → n ≤ limit → number_from limit end n bytes ≡ Ok (v, rest) → Found limit end n bytes v rest
unfolding number_from
from_found limit end n [] rest v small le e = absurd cc
from_found limit end n (b ∷ bs) rest v small le e =
    elim (chosen (eqb b end) (Ok (n, bs)) (or_bad (next_number limit n b) (λ m. number_from limit end m bs)) (Ok (v, rest)) e) [
      | inl w ↦
          let p = pair_is n v bs rest w.1 in
          ([], rw (eqb-true b end w.0, p.1) refl, rw (sym p.0) (sym (append-nil (decimal n))), rw (sym p.0) le)
      | inr w ↦
          let h = or_bad_ok (next_number limit n b) (λ m. number_from limit end m bs) (v, rest) w.1 in
          let a = next_adds limit n b h.0 h.1 in
          let t = from_found limit end h.0 bs rest v small a.1.inside h.2 in
          (b ∷ t.0, ap (λ (z : List ℕ). b ∷ z) t.1, t.2 ∙ ap (λ (z : List ℕ). z ++ t.0) (one_more limit n b h.0 small a.0 a.1) ∙ append_assoc (decimal n) (b ∷ []) t.0, t.3)
    ]

from_more : (limit end n : ℕ) (bytes : List ℕ) → limit < 2 ^ 64 → n ≤ limit → number_from limit end n bytes ≡ Err more → (v : ℕ) × (v ≤ limit) × (decimal v ≡ decimal n ++ bytes)
unfolding number_from
from_more limit end n [] small le e = (n, le, sym (append-nil (decimal n)))
from_more limit end n (b ∷ bs) small le e =
    elim (chosen (eqb b end) (Ok (n, bs)) (or_bad (next_number limit n b) (λ m. number_from limit end m bs)) (Err more) e) [
      | inl w ↦ absurd cc
      | inr w ↦
          let h = or_bad_more (next_number limit n b) (λ m. number_from limit end m bs) w.1 in
          let a = next_adds limit n b h.0 h.1 in
          let t = from_more limit end h.0 bs small a.1.inside h.2 in
          (t.0, t.1, t.2 ∙ ap (λ (z : List ℕ). z ++ bs) (one_more limit n b h.0 small a.0 a.1) ∙ append_assoc (decimal n) (b ∷ []) bs)
    ]

-- ---- what the digits of a number are

abbrev pub AreDigits : List ℕ → Type 0
AreDigits [] = Unit {0}
AreDigits (d ∷ ds) = (48 ≤ d) × (d ≤ 57) × AreDigits ds

-- the number that digits write behind those of n
abbrev pub behind : ℕ → List ℕ → ℕ
behind n [] = n
behind n (d ∷ ds) = behind (n * 10 + (d - 48)) ds

pub behind_least : (n : ℕ) (ds : List ℕ) → n ≤ behind n ds
behind_least n [] = omega arith
behind_least n (d ∷ ds) = omega (arith, behind_least (n * 10 + (d - 48)) ds)

behind_append : (n : ℕ) (ds : List ℕ) (x : ℕ) → behind n (ds ++ x ∷ []) ≡ behind n ds * 10 + (x - 48)
behind_append n [] x = refl
behind_append n (d ∷ ds) x = behind_append (n * 10 + (d - 48)) ds x

digits_append : (ds : List ℕ) (x : ℕ) → AreDigits ds → 48 ≤ x → x ≤ 57 → AreDigits (ds ++ x ∷ [])
digits_append [] x h l u = (l, u, tt)
digits_append (d ∷ ds) x h l u = (h.0, h.1, digits_append ds x h.2 l u)

-- `0`, or a digit from 1 to 9 followed by digits
abbrev pub Numeral : ℕ → List ℕ → Type 0
Numeral n [] = ⊥
Numeral n (d ∷ ds) = (48 ≤ d) × (d ≤ 57) × AreDigits ds × (behind (d - 48) ds ≡ n) × ((0 < d - 48) ⊎ (ds ≡ []))

longer : (n : ℕ) (ds : List ℕ) → 10 ≤ n → Numeral (n / 10) ds → Numeral n (ds ++ ((48 + n % 10) ∷ []))
longer n [] h t = absurd t
longer n (d ∷ ds) h t =
    let first : 0 < d - 48 = elim t.4 [ inl w ↦ w | inr w ↦ let e : d - 48 ≡ n / 10 = subst (λ (z : List ℕ). behind (d - 48) z ≡ n / 10) w t.3 in omega (arith, e, h) ] in
    (t.0, t.1, digits_append ds (48 + n % 10) t.2 (omega arith) (omega arith), behind_append (d - 48) ds (48 + n % 10) ∙ rw t.3 (omega arith), inl first)

pub numeral : (n : ℕ) → n < 2 ^ 64 → Numeral n (decimal n)
numeral n small = decimal_by_steps Numeral (λ n h. (omega arith, omega arith, tt, omega arith, inr refl)) longer n small

pub not_end : (d end : ℕ) → 48 ≤ d → end < 48 → eqb d end ≡ false
not_end d end h e = grind arith

from_again : (limit end m : ℕ) (ds rest : List ℕ) → end < 48 → AreDigits ds → behind m ds ≤ limit → ((0 < m) ⊎ (ds ≡ [])) → number_from limit end m (ds ++ end ∷ rest) ≡ Ok (behind m ds, rest)
unfolding number_from
from_again limit end m [] rest low h le p = let e : eqb end end ≡ true = grind arith in rw e refl
from_again limit end m (d ∷ ds) rest low h le p =
    let first : 0 < m = elim p [ inl w ↦ w | inr w ↦ absurd cc ] in
    let inside : m * 10 + (d - 48) ≤ limit = omega (arith, le, behind_least (m * 10 + (d - 48)) ds) in
    rw (not_end d end h.0 low, next_some limit m d first h.0 h.1 inside) (from_again limit end (m * 10 + (d - 48)) ds rest low h.2 le (inl (omega (arith, first))))

from_short : (limit end m : ℕ) (ds bytes q : List ℕ) (c : ℕ) → end < 48 → AreDigits ds → behind m ds ≤ limit → ((0 < m) ⊎ (ds ≡ [])) → bytes ++ c ∷ q ≡ ds ++ end ∷ [] → number_from limit end m bytes ≡ Err more
unfolding number_from
from_short limit end m ds [] q c low h le p e = refl
from_short limit end m [] (b ∷ bs) q c low h le p e = let t : bs ++ c ∷ q ≡ [] = cc in absurd (none_left bs q c t)
from_short limit end m (d ∷ ds) (b ∷ bs) q c low h le p e =
    let first : 0 < m = elim p [ inl w ↦ w | inr w ↦ absurd cc ] in
    let inside : m * 10 + (d - 48) ≤ limit = omega (arith, le, behind_least (m * 10 + (d - 48)) ds) in
    let head : b ≡ d = cc in
    let t : bs ++ c ∷ q ≡ ds ++ end ∷ [] = cc in
    rw (head, not_end d end h.0 low, next_some limit m d first h.0 h.1 inside) (from_short limit end (m * 10 + (d - 48)) ds bs q c low h.2 le (inl (omega (arith, first))) t)

at_again : (limit end n : ℕ) (ds rest : List ℕ) → end < 48 → n ≤ limit → Numeral n ds → number_at limit end (ds ++ end ∷ rest) ≡ Ok (n, rest)
unfolding number_at
at_again limit end n [] rest low le h = absurd h
at_again limit end n (d ∷ ds) rest low le h =
    let inside : d - 48 ≤ limit = omega (arith, le, h.3, behind_least (d - 48) ds) in
    rw (with_first limit d h.0 h.1 inside) (from_again limit end (d - 48) ds rest low h.2 (omega (arith, le, h.3)) h.4 ∙ rw h.3 refl)

at_short : (limit end n : ℕ) (ds bytes q : List ℕ) (c : ℕ) → end < 48 → n ≤ limit → Numeral n ds → bytes ++ c ∷ q ≡ ds ++ end ∷ [] → number_at limit end bytes ≡ Err more
unfolding number_at
at_short limit end n ds [] q c low le h e = refl
at_short limit end n [] (b ∷ bs) q c low le h e = absurd h
at_short limit end n (d ∷ ds) (b ∷ bs) q c low le h e =
    let inside : d - 48 ≤ limit = omega (arith, le, h.3, behind_least (d - 48) ds) in
    let head : b ≡ d = cc in
    let t : bs ++ c ∷ q ≡ ds ++ end ∷ [] = cc in
    rw (head, with_first limit d h.0 h.1 inside) (from_short limit end (d - 48) ds bs q c low h.2 (omega (arith, le, h.3)) h.4 t)

pub first_digit : (limit b m : ℕ) → Adds limit 0 b m → decimal m ≡ b ∷ []
first_digit limit b m a = let e : 48 + m ≡ b = omega (arith, a.value, a.least) in decimal_digit m (omega (arith, a.value, a.most)) ∙ rw e refl

pub at_found : (limit end : ℕ) (bytes rest : List ℕ) (v : ℕ) → limit < 2 ^ 64 → number_at limit end bytes ≡ Ok (v, rest) → (v ≤ limit) × (bytes ≡ decimal v ++ end ∷ rest)
unfolding number_at
at_found limit end [] rest v small e = absurd cc
at_found limit end (b ∷ bs) rest v small e =
    let h = or_bad_ok (with_digit limit 0 b) (λ m. number_from limit end m bs) (v, rest) e in
    let a = adds limit 0 b h.0 h.1 in
    let t = from_found limit end h.0 bs rest v small a.inside h.2 in
    let digits : decimal v ≡ b ∷ t.0 = t.2 ∙ ap (λ (z : List ℕ). z ++ t.0) (first_digit limit b h.0 a) in
    (t.3, ap (λ (z : List ℕ). b ∷ z) t.1 ∙ sym (ap (λ (z : List ℕ). z ++ end ∷ rest) digits))

at_more : (limit end : ℕ) (bytes : List ℕ) → limit < 2 ^ 64 → number_at limit end bytes ≡ Err more → (v : ℕ) × (c : ℕ) × (q : List ℕ) × (v ≤ limit) × (bytes ++ c ∷ q ≡ decimal v ++ end ∷ [])
unfolding number_at
at_more limit end [] small e = (0, 48, end ∷ [], omega arith, rw (decimal_digit 0 (omega arith)) refl)
at_more limit end (b ∷ bs) small e =
    let h = or_bad_more (with_digit limit 0 b) (λ m. number_from limit end m bs) e in
    let a = adds limit 0 b h.0 h.1 in
    let t = from_more limit end h.0 bs small a.inside h.2 in
    let digits : decimal t.0 ≡ b ∷ bs = t.2 ∙ ap (λ (z : List ℕ). z ++ bs) (first_digit limit b h.0 a) in
    (t.0, end, [], t.1, rw digits refl)

-- a number, and the byte that ends it
abbrev pub IsNumberText : ℕ → ℕ → List ℕ → ℕ → Type 0
IsNumberText limit end s n = (n ≤ limit) × (s ≡ decimal n ++ end ∷ [])

pub number_reads : (limit end : ℕ) → limit < 2 ^ 64 → end < 48 → Reads (IsNumberText limit end) (number_at limit end)
number_reads limit end small low = record {
  again = λ s rest n t. ap (λ (z : List ℕ). number_at limit end (z ++ rest)) t.1 ∙ ap (number_at limit end) (append_assoc (decimal n) (end ∷ []) rest) ∙ at_again limit end n (decimal n) rest low t.0 (numeral n (omega (arith, t.0, small)));
  found = λ bytes rest n e. let h = at_found limit end bytes rest n small e in (decimal n ++ end ∷ [], (h.0, refl), h.1 ∙ sym (append_assoc (decimal n) (end ∷ []) rest));
  ahead = λ bytes e. let h = at_more limit end bytes small e in (h.0, h.1, h.2, (h.3, h.4));
  short = λ bytes q c n t. at_short limit end n (decimal n) bytes q c low t.0 (numeral n (omega (arith, t.0, small))) t.1;
}
