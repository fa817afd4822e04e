-- Locals of the examples that stand for one another.
use Rattle.std.proofs.Common.{◌≡◌, ℕ, zero, suc, ◌+◌, ◌<◌, ◌≤◌, refl, sym, ◌∙◌, arith}
use Rattle.std.specs.Prelude.{Bool, true, false}
use Rattle.go_meaning_simulation.specs.Locals.{Linked}

-- the first one for the first one
abbrev pub first : ℕ → ℕ → Bool
first zero zero = true
first i j = false

pub first_is : (i j : ℕ) → first i j ≡ true → (i ≡ 0) × (j ≡ 0)
first_is zero zero e = (refl, refl)
first_is zero (suc j) e = absurd cc
first_is (suc i) j e = absurd cc

-- so many locals, of which the first ones stand for one another
abbrev pub first_linked : (count new_count : ℕ) → 1 ≤ count → 1 ≤ new_count → Linked
first_linked count new_count some some' = record {
  linked = first;
  count = count;
  new_count = new_count;
  one = λ i j k x y. (first_is i j x).1 ∙ sym (first_is i k y).1;
  back_one = λ i k j x y. (first_is i j x).0 ∙ sym (first_is k j y).0;
  in_old = λ i j x. let e = first_is i j x in omega (arith, e.0, some);
  in_new = λ i j x. let e = first_is i j x in omega (arith, e.1, some');
}

-- the locals a and b for a and b
abbrev pub both_linked : ℕ → ℕ → Bool
both_linked zero zero = true
both_linked (suc zero) (suc zero) = true
both_linked i j = false

pub both_are : (i j : ℕ) → both_linked i j ≡ true → (i ≡ j) × (i < 2)
both_are zero zero e = (refl, omega arith)
both_are zero (suc j) e = absurd cc
both_are (suc zero) zero e = absurd cc
both_are (suc zero) (suc zero) e = (refl, omega arith)
both_are (suc zero) (suc (suc j)) e = absurd cc
both_are (suc (suc i)) j e = absurd cc

abbrev pub both : Linked
both = record {
  linked = both_linked;
  count = 2;
  new_count = 2;
  one = λ i j k x y. sym (both_are i j x).0 ∙ (both_are i k y).0;
  back_one = λ i k j x y. (both_are i j x).0 ∙ sym (both_are k j y).0;
  in_old = λ i j x. (both_are i j x).1;
  in_new = λ i j x. let e = both_are i j x in omega (arith, e.0, e.1);
}

-- the locals a and b of a window for those of `next`, where a parameter stands between them
abbrev pub next_linked : ℕ → ℕ → Bool
next_linked zero zero = true
next_linked (suc zero) (suc (suc zero)) = true
next_linked i j = false

pub next_are : (i j : ℕ) → next_linked i j ≡ true → (j ≡ i + i) × (i < 2)
next_are zero zero e = (refl, omega arith)
next_are zero (suc j) e = absurd cc
next_are (suc zero) zero e = absurd cc
next_are (suc zero) (suc zero) e = absurd cc
next_are (suc zero) (suc (suc zero)) e = (refl, omega arith)
next_are (suc zero) (suc (suc (suc j))) e = absurd cc
next_are (suc (suc i)) j e = absurd cc

abbrev pub in_next : Linked
in_next = record {
  linked = next_linked;
  count = 2;
  new_count = 3;
  one = λ i j k x y. (next_are i j x).0 ∙ sym (next_are i k y).0;
  back_one = λ i k j x y. let e = next_are i j x in let g = next_are k j y in omega (arith, e.0, g.0);
  in_old = λ i j x. (next_are i j x).1;
  in_new = λ i j x. let e = next_are i j x in omega (arith, e.0, e.1);
}
