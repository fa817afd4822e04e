-- Tokens of a text, in order of place.
use Rattle.std.proofs.Common.{◌≡◌, ℕ, zero, suc, ◌<◌, ◌≤◌, inl, inr, List, [], ◌∷◌, Some, length, map, ap, arith}
use Rattle.std.specs.Prelude.{slice_get}
use Rattle.std.proofs.lemmas.Bool.{cases_lt}
use Rattle.go_tokens.specs.declared.token.Token.{Token}
use Rattle.go_tokens.specs.Tokens.{AreOrdered, span_of}
use Rattle.go_tree.specs.Units.{end_in, start_in}

from_at : (ts : List Token) (at end : ℕ) → AreOrdered at (map span_of ts) end → (j : ℕ) → j < length ts → at ≤ start_in (slice_get ts j)
from_at [] at end h j lt = absurd (omega (arith, lt))
from_at (t ∷ ts) at end h zero lt = h.0
from_at (t ∷ ts) at end h (suc j) lt = let rest = from_at ts t.span.end end h.2 j (omega (arith, lt)) in omega (arith, h.0, h.1, rest)

pub ends_before : (ts : List Token) (at end : ℕ) → AreOrdered at (map span_of ts) end → (i j : ℕ) → i < j → j < length ts → end_in (slice_get ts i) ≤ start_in (slice_get ts j)
ends_before [] at end h i j lt inside = absurd (omega (arith, inside))
ends_before (t ∷ ts) at end h i zero lt inside = absurd (omega (arith, lt))
ends_before (t ∷ ts) at end h zero (suc j) lt inside = from_at ts t.span.end end h.2 j (omega (arith, inside))
ends_before (t ∷ ts) at end h (suc i) (suc j) lt inside = ends_before ts t.span.end end h.2 i j (omega (arith, lt)) (omega (arith, inside))

forward : (ts : List Token) (at end : ℕ) → AreOrdered at (map span_of ts) end → (i : ℕ) → i < length ts → start_in (slice_get ts i) ≤ end_in (slice_get ts i)
forward [] at end h i inside = absurd (omega (arith, inside))
forward (t ∷ ts) at end h zero inside = h.1
forward (t ∷ ts) at end h (suc i) inside = forward ts t.span.end end h.2 i (omega (arith, inside))

-- a token begins before a later one ends
pub begins_before : (ts : List Token) (at end : ℕ) → AreOrdered at (map span_of ts) end → (i j : ℕ) → i ≤ j → j < length ts → start_in (slice_get ts i) ≤ end_in (slice_get ts j)
begins_before ts at end h i j le inside = elim (cases_lt i j) [
  | inl less ↦
      let a = ends_before ts at end h i j less inside in
      let b = forward ts at end h i (omega (arith, less, inside)) in
      let c = forward ts at end h j inside in
      omega (arith, a, b, c)
  | inr more ↦ (let c = forward ts at end h j inside in let same : i ≡ j = omega (arith, le, more) in omega (arith, c, ap (λ k. start_in (slice_get ts k)) same))
]

-- a written token begins in front of where a later one ends
pub begins_strictly : (ts : List Token) (at end : ℕ) → AreOrdered at (map span_of ts) end → (i j : ℕ) → start_in (slice_get ts i) < end_in (slice_get ts i) → i ≤ j → j < length ts → start_in (slice_get ts i) < end_in (slice_get ts j)
begins_strictly ts at end h i j w le inside = elim (cases_lt i j) [
  | inl less ↦
      let a = ends_before ts at end h i j less inside in
      let c = forward ts at end h j inside in
      omega (arith, a, w, c)
  | inr more ↦ (let same : i ≡ j = omega (arith, le, more) in omega (arith, w, ap (λ k. end_in (slice_get ts k)) same))
]

order_ends : (ts : List Token) (at end : ℕ) → AreOrdered at (map span_of ts) end → at ≤ end
order_ends [] at end h = h
order_ends (t ∷ ts) at end h = let rest = order_ends ts t.span.end end h.2 in omega (arith, h.0, h.1, rest)

-- a token ends within the text
pub ends_within : (ts : List Token) (at end : ℕ) → AreOrdered at (map span_of ts) end → (j : ℕ) → j < length ts → end_in (slice_get ts j) ≤ end
ends_within [] at end h j inside = absurd (omega (arith, inside))
ends_within (t ∷ ts) at end h zero inside = order_ends ts t.span.end end h.2
ends_within (t ∷ ts) at end h (suc j) inside = ends_within ts t.span.end end h.2 j (omega (arith, inside))

pub inside_some : {A : Type 0} (xs : List A) (k : ℕ) (x : A) → slice_get xs k ≡ Some x → k < length xs
inside_some [] k x e = absurd cc
inside_some (y ∷ xs) zero x e = omega arith
inside_some (y ∷ xs) (suc k) x e = omega (arith, inside_some xs k x e)

pub starts_rise : (ts : List Token) (at end : ℕ) → AreOrdered at (map span_of ts) end → (i j : ℕ) → i ≤ j → j < length ts → start_in (slice_get ts i) ≤ start_in (slice_get ts j)
starts_rise ts at end h i j le inside = elim (cases_lt i j) [
  | inl less ↦ (let a = ends_before ts at end h i j less inside in let b = forward ts at end h i (omega (arith, le, inside)) in omega (arith, a, b))
  | inr more ↦ (let same : i ≡ j = omega (arith, le, more) in omega (arith, ap (λ k. start_in (slice_get ts k)) same))
]

pub ends_rise : (ts : List Token) (at end : ℕ) → AreOrdered at (map span_of ts) end → (i j : ℕ) → i ≤ j → j < length ts → end_in (slice_get ts i) ≤ end_in (slice_get ts j)
ends_rise ts at end h i j le inside = elim (cases_lt i j) [
  | inl less ↦ (let a = ends_before ts at end h i j less inside in let b = forward ts at end h j inside in omega (arith, a, b))
  | inr more ↦ (let same : i ≡ j = omega (arith, le, more) in omega (arith, ap (λ k. end_in (slice_get ts k)) same))
]

-- written tokens that begin at one place are one token
pub same_start : (ts : List Token) (at end : ℕ) → AreOrdered at (map span_of ts) end → (i j : ℕ) → i < length ts → j < length ts → start_in (slice_get ts i) < end_in (slice_get ts i) → start_in (slice_get ts j) < end_in (slice_get ts j)
    → start_in (slice_get ts i) ≡ start_in (slice_get ts j) → i ≡ j
same_start ts at end h i j u v w x e = elim (cases_lt i j) [
  | inl less ↦ (let a = ends_before ts at end h i j less v in absurd (omega (arith, a, w, e)))
  | inr more ↦ elim (cases_lt j i) [
    | inl less ↦ (let a = ends_before ts at end h j i less u in absurd (omega (arith, a, x, e)))
    | inr least ↦ omega (arith, more, least)
  ]
]
