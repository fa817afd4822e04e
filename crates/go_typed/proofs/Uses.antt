-- The locals that are named at the tokens of a range.
use Rattle.std.proofs.Common.{◌≡◌, ◌∙◌, ◌⊎◌, inl, inr, ℕ, zero, suc, ◌+◌, ◌<◌, ◌≤◌, List, ◌++◌, length, Option, Some, None, slice_get, ap, sym, subst, refl, arith}
use Rattle.go_typed.specs.declared.walk.LocalUse.{LocalUse}
use Rattle.go_typed.specs.Funcs.{named_at}
use Rattle.go_typed.specs.Windows.{use_at, uses_from}
use Rattle.go_typed.proofs.ListPlaces.{Behind, get_either, get_right}

pub record Named (tokens : List (Option ℕ)) (i n : ℕ) (u : LocalUse) : Type 0 where
  pub from : i ≤ u.token
  pub to : u.token < i + n
  pub names : named_at tokens u.token ≡ Some u.local

-- what one token gives
one_use : (tokens : List (Option ℕ)) (i n : ℕ) (o : Option ℕ) → named_at tokens i ≡ o → (k : ℕ) (u : LocalUse) → slice_get (use_at i o) k ≡ Some u → (k ≡ 0) × Named tokens i (suc n) u
one_use tokens i n None e k u h = cc
one_use tokens i n (Some m) e zero u h =
    let same : record { local = m; token = i } ≡ u = cc in
    (refl, subst (Named tokens i (suc n)) same (record { from = omega arith; to = omega arith; names = e }))
one_use tokens i n (Some m) e (suc k) u h = cc

further : (tokens : List (Option ℕ)) (i n : ℕ) (u : LocalUse) → Named tokens (suc i) n u → Named tokens i (suc n) u
further tokens i n u h = record { from = let a = h.from in omega (arith, a); to = let b = h.to in omega (arith, b); names = h.names }

-- each is a token of the range with the local that it names
pub uses_name : (tokens : List (Option ℕ)) (i n k : ℕ) (u : LocalUse) → slice_get (uses_from tokens i n) k ≡ Some u → Named tokens i n u
uses_name tokens i zero k u h = cc
uses_name tokens i (suc n) k u h = elim (get_either (use_at i (named_at tokens i)) (uses_from tokens (suc i) n) k u h) [
  | inl g ↦ (one_use tokens i n (named_at tokens i) refl k u g).1
  | inr g ↦ further tokens i n u (uses_name tokens (suc i) n g.place u g.there)
]

pub record Listed (tokens : List (Option ℕ)) (i n t m : ℕ) : Type 0 where
  pub place : ℕ
  pub there : slice_get (uses_from tokens i n) place ≡ Some (record { local = m; token = t })

-- each token of the range that names a local is among them
pub uses_list : (tokens : List (Option ℕ)) (i n t m : ℕ) → i ≤ t → t < i + n → named_at tokens t ≡ Some m → Listed tokens i n t m
uses_list tokens i zero t m low high e = absurd (omega (arith, low, high))
uses_list tokens i (suc n) t m low high e = elim (at_or_behind i t low) [
  | inl same ↦
      let first : named_at tokens i ≡ Some m = ap (named_at tokens) same ∙ e in
      record { place = 0; there = ap (λ o. slice_get (use_at i o ++ uses_from tokens (suc i) n) 0) first ∙ ap (λ j. Some (record { local = m; token = j })) same }
  | inr later ↦
      let r = uses_list tokens (suc i) n t m later (omega (arith, high)) e in
      record { place = length (use_at i (named_at tokens i)) + r.place; there = get_right (use_at i (named_at tokens i)) (uses_from tokens (suc i) n) r.place ∙ r.there }
] where
  at_or_behind : (a b : ℕ) → a ≤ b → (a ≡ b) ⊎ (suc a ≤ b)
  at_or_behind zero zero h = inl refl
  at_or_behind zero (suc b) h = inr (omega arith)
  at_or_behind (suc a) zero h = absurd (omega (arith, h))
  at_or_behind (suc a) (suc b) h = elim (at_or_behind a b (omega (arith, h))) [ inl e ↦ inl (ap suc e) | inr l ↦ inr (omega (arith, l)) ]

at_once : (i l : ℕ) (u : LocalUse) (o : Option ℕ) → slice_get (use_at i o) l ≡ Some u → u.token ≡ i
at_once i l u None g = cc
at_once i zero u (Some m) g = let same : record { local = m; token = i } ≡ u = cc in sym (ap (λ (w : LocalUse). w.token) same)
at_once i (suc l) u (Some m) g = cc

-- tokens rise
pub uses_rise : (tokens : List (Option ℕ)) (i n j k : ℕ) (u v : LocalUse) → slice_get (uses_from tokens i n) j ≡ Some u → slice_get (uses_from tokens i n) k ≡ Some v → j < k → u.token < v.token
uses_rise tokens i zero j k u v e f h = cc
uses_rise tokens i (suc n) j k u v e f h = go (get_either here others j u e) (get_either here others k v f) (λ a b. uses_rise tokens (suc i) n a b u v) where
  here : List LocalUse
  here = use_at i (named_at tokens i)

  others : List LocalUse
  others = uses_from tokens (suc i) n

  go : (slice_get here j ≡ Some u) ⊎ Behind here others j u → (slice_get here k ≡ Some v) ⊎ Behind here others k v → ((a b : ℕ) → slice_get others a ≡ Some u → slice_get others b ≡ Some v → a < b → u.token < v.token) → u.token < v.token
  go (inl a) (inl b) again =
      let x = (one_use tokens i n (named_at tokens i) refl j u a).0 in
      let y = (one_use tokens i n (named_at tokens i) refl k v b).0 in
      absurd (omega (arith, x, y, h))
  go (inl a) (inr b) again =
      let x = at_once i j u (named_at tokens i) a in
      let y = uses_name tokens (suc i) n b.place v b.there in
      let low = y.from in
      omega (arith, x, low)
  go (inr a) (inl b) again =
      let p = a.place_is in
      let y = (one_use tokens i n (named_at tokens i) refl k v b).0 in
      absurd (omega (arith, y, h))
  go (inr a) (inr b) again =
      let p = a.place_is in
      let q = b.place_is in
      again a.place b.place a.there b.there (omega (arith, p, q, h))
