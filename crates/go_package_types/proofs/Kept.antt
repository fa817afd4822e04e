-- The least fault by tokens is the least one by bytes, where faults begin and end with tokens that have bytes.
use Rattle.std.proofs.Common.{◌≡◌, ℕ, zero, suc, ◌-◌, ◌<◌, ◌≤◌, ◌⊎◌, inl, inr, Bool, true, false, List, [], ◌∷◌, map, Option, Some, None, refl, ap, sym, ◌∙◌, cond, subst, arith}
use Rattle.std.specs.Prelude.{◌&&◌, ◌||◌, slice_get, nat_eq, nat_lt, max}
use Rattle.std.specs.Option.{option_map}
use Rattle.std.proofs.lemmas.Bool.{eq-eqb, ne_eqb, lt-ltb, le-ltb, cases_order}
use Rattle.std.proofs.lemmas.Bool.Decides.{nat_tests}
use Rattle.go_base.specs.Fault.{code_number}
use Rattle.go_tokens.specs.Tokens.{TokenList, AreOrdered, span_of}
use Rattle.go_tokens.specs.declared.token.Token.{Token}
use Rattle.go_tree.specs.Failures as failures
use Rattle.go_tree.specs.Failures.{Failure, is_earlier, least_from}
use Rattle.go_tree.specs.Units.{start_in, end_in}
use Rattle.go_exprs_rules.specs.declared.fault.TypeFault.{TypeFault}
use Rattle.go_exprs_rules.specs.Faults.{before, sooner, earlier, least}
use Rattle.go_exprs_rules.proofs.Public.{decided, takes, keeps, earlier_assoc}
use Rattle.go_package_defs.specs.Answer.{failure_at, failures_at}
use Rattle.go_package_defs.specs.Sources.{Package, tokens_in}
use Rattle.go_package_laws.specs.Places.{EachFault}
use Rattle.go_package_types.specs.Places.{has_bytes, stands}

-- ---- tokens in order

behind : (start : ℕ) (ts : List Token) (end : ℕ) → AreOrdered start (map span_of ts) end → (i : ℕ) (t : Token) → slice_get ts i ≡ Some t → start ≤ t.span.start
behind start [] end o i t e = absurd cc
behind start (x ∷ ts) end o zero t e = let is : x ≡ t = cc in subst (λ (y : Token). start ≤ y.span.start) is o.0
behind start (x ∷ ts) end o (suc i) t e =
    let r = behind x.span.end ts end o.2 i t e in
    let a = o.0 in
    let b = o.1 in
    omega (arith, r, a, b)

in_order : (start : ℕ) (ts : List Token) (end : ℕ) → AreOrdered start (map span_of ts) end → (i j : ℕ) (t u : Token) → i < j → slice_get ts i ≡ Some t → slice_get ts j ≡ Some u → t.span.end ≤ u.span.start
in_order start [] end o i j t u l e f = absurd cc
in_order start (x ∷ ts) end o i zero t u l e f = absurd (omega (arith, l))
in_order start (x ∷ ts) end o zero (suc j) t u l e f = let is : x ≡ t = cc in subst (λ (y : Token). y.span.end ≤ u.span.start) is (behind x.span.end ts end o.2 j u f)
in_order start (x ∷ ts) end o (suc i) (suc j) t u l e f = in_order x.span.end ts end o.2 i j t u (let k : i < j = omega (arith, l) in k) e f

-- ---- faults at tokens

both_left : (a b : Bool) → (a && b) ≡ true → a ≡ true
both_left true b e = refl
both_left false b e = absurd cc

both_right : (a b : Bool) → (a && b) ≡ true → b ≡ true
both_right true b e = e
both_right false b e = absurd cc

one_of : (a b : Bool) → (a || b) ≡ true → (a ≡ true) ⊎ (b ≡ true)
one_of true b e = inl refl
one_of false b e = inr e

same_is : (x y : ℕ) → nat_eq x y ≡ true → x ≡ y
same_is x y e = grind (arith, nat_tests)

less_is : (x y : ℕ) → nat_lt x y ≡ true → x < y
less_is x y e = grind (arith, nat_tests)

pub record There (ts : List Token) (i : ℕ) : Type 0 where
  pub it : Token
  pub is : slice_get ts i ≡ Some it
  pub some : it.span.start < it.span.end

there_by : (ts : List Token) (i : ℕ) (o : Option Token) → slice_get ts i ≡ o → has_bytes o ≡ true → There ts i
there_by ts i None e h = absurd cc
there_by ts i (Some t) e h = record { it = t; is = e; some = less_is t.span.start t.span.end h }

-- where a fault stands
pub record Full (ts : List Token) (i j : ℕ) : Type 0 where
  pub first : There ts i
  pub inner : 0 < i
  pub last : (i ≡ j) ⊎ ((i < j) × There ts (j - 1))

last_by : (ts : List Token) (i j : ℕ) → (nat_eq i j ≡ true) ⊎ ((nat_lt i j && has_bytes (slice_get ts (j - 1))) ≡ true) → (i ≡ j) ⊎ ((i < j) × There ts (j - 1))
last_by ts i j (inl e) = inl (same_is i j e)
last_by ts i j (inr e) = inr (less_is i j (both_left (nat_lt i j) (has_bytes (slice_get ts (j - 1))) e), there_by ts (j - 1) (slice_get ts (j - 1)) refl (both_right (nat_lt i j) (has_bytes (slice_get ts (j - 1))) e))

full : (ts : TokenList) (i j : ℕ) → stands ts i j ≡ true → Full ts.tokens i j
full ts i j e =
    let a = has_bytes (slice_get ts.tokens i) in
    let b = nat_lt 0 i in
    let c = nat_eq i j || (nat_lt i j && has_bytes (slice_get ts.tokens (j - 1))) in
    record {
      first = there_by ts.tokens i (slice_get ts.tokens i) refl (both_left a b (both_left (a && b) c e));
      inner = less_is 0 i (both_right a b (both_left (a && b) c e));
      last = last_by ts.tokens i j (one_of (nat_eq i j) (nat_lt i j && has_bytes (slice_get ts.tokens (j - 1))) (both_right (a && b) c e));
    }

-- ---- two orders by the same tests

equal : (x y : ℕ) (b : Bool) → x ≡ y → cond (nat_eq x y) b (nat_lt x y) ≡ b
equal x y b e = ap (λ c. cond c b (nat_lt x y)) (eq-eqb x y e)

less : (x y : ℕ) (b : Bool) → x < y → cond (nat_eq x y) b (nat_lt x y) ≡ true
less x y b h = ap (λ c. cond c b (nat_lt x y)) (ne_eqb x y (λ e. omega (arith, e, h))) ∙ lt-ltb x y h

greater : (x y : ℕ) (b : Bool) → y < x → cond (nat_eq x y) b (nat_lt x y) ≡ false
greater x y b h = ap (λ c. cond c b (nat_lt x y)) (ne_eqb x y (λ e. omega (arith, e, h))) ∙ le-ltb x y (let q : y ≤ x = omega (arith, h) in q)

kept : (x y u v : ℕ) (b c : Bool) → (x < y → u < v) → (y < x → v < u) → (x ≡ y → (u ≡ v) × (b ≡ c)) → cond (nat_eq x y) b (nat_lt x y) ≡ cond (nat_eq u v) c (nat_lt u v)
kept x y u v b c up down same =
    elim (cases_order x y) [
      | inl e ↦ equal x y b e ∙ (same e).1 ∙ sym (equal u v c (same e).0)
      | inr h ↦ elim h [
        | inl l ↦ less x y b l ∙ sym (less u v c (up l))
        | inr g ↦ greater x y b g ∙ sym (greater u v c (down g))
      ]
    ]

module _ (p : Package) (n : ℕ) (end : ℕ) (ordered : AreOrdered 0 (map span_of (tokens_in p n).tokens) end) where
  abbrev tokens : List Token
  tokens = (tokens_in p n).tokens

  abbrev start : ℕ → ℕ
  start i = start_in (slice_get tokens i)

  abbrev finish : ℕ → ℕ
  finish i = end_in (slice_get tokens i)

  abbrev at : TypeFault → Failure
  at f = failure_at p n f

  abbrev Stands : TypeFault → Type 0
  Stands f = stands (tokens_in p n) f.first f.last ≡ true

  start_at : (i : ℕ) (t : Token) → slice_get tokens i ≡ Some t → start i ≡ t.span.start
  start_at i t e = ap start_in e

  finish_at : (i : ℕ) (t : Token) → slice_get tokens i ≡ Some t → finish i ≡ t.span.end
  finish_at i t e = ap end_in e

  start_less : (i j : ℕ) → There tokens i → There tokens j → i < j → start i < start j
  start_less i j a b l =
      let o = in_order 0 tokens end ordered i j a.it b.it l a.is b.is in
      let s = a.some in
      let x = start_at i a.it a.is in
      let y = start_at j b.it b.is in
      omega (arith, o, s, x, y)

  -- a token ends behind where it or an earlier one begins
  reaches : (i j : ℕ) → There tokens i → There tokens j → i ≤ j → start i < finish j
  reaches i j a b l =
      elim (cases_order i j) [
        | inl e ↦
            let s = b.some in
            let x : start i ≡ start j = ap start e in
            let y = start_at j b.it b.is in
            let z = finish_at j b.it b.is in
            omega (arith, s, x, y, z)
        | inr h ↦ elim h [
          | inl m ↦
              let o = start_less i j a b m in
              let s = b.some in
              let y = start_at j b.it b.is in
              let z = finish_at j b.it b.is in
              omega (arith, o, s, y, z)
          | inr g ↦ absurd (omega (arith, l, g))
        ]
      ]

  finish_less : (i j : ℕ) → There tokens i → There tokens j → i < j → finish i < finish j
  finish_less i j a b l =
      let o = in_order 0 tokens end ordered i j a.it b.it l a.is b.is in
      let s = b.some in
      let x = finish_at i a.it a.is in
      let z = finish_at j b.it b.is in
      omega (arith, o, s, x, z)

  before_it : (i j : ℕ) (o : Option Token) → slice_get tokens i ≡ o → There tokens j → i < j → end_in o ≤ start j
  before_it i j None e b l = omega arith
  before_it i j (Some t) e b l =
      let o = in_order 0 tokens end ordered i j t b.it l e b.is in
      let y = start_at j b.it b.is in
      omega (arith, o, y)

  -- where a fault ends
  end_some : (i j : ℕ) → There tokens i → i < j → There tokens (j - 1) → max (start i) (finish (j - 1)) ≡ finish (j - 1)
  end_some i j a l b = let r = reaches i (j - 1) a b (let q : i ≤ j - 1 = omega (arith, l) in q) in omega (arith, r)

  end_none : (i j : ℕ) → There tokens i → 0 < i → i ≡ j → max (start i) (finish (j - 1)) ≡ start i
  end_none i j a l e =
      let m : j - 1 < i = omega (arith, l, e) in
      let r = before_it (j - 1) i (slice_get tokens (j - 1)) refl a m in
      omega (arith, r)

  ends_less : (i j k : ℕ) → Full tokens i j → Full tokens i k → j < k → max (start i) (finish (j - 1)) < max (start i) (finish (k - 1))
  ends_less i j k f g l =
      elim f.last [
        | inl e ↦ elim g.last [
          | inl d ↦ absurd (omega (arith, e, d, l))
          | inr h ↦
              let x = end_none i j f.first f.inner e in
              let y = end_some i k g.first h.0 h.1 in
              let h0 = h.0 in
              let r = reaches i (k - 1) g.first h.1 (let q : i ≤ k - 1 = omega (arith, h0) in q) in
              omega (arith, x, y, r)
        ]
        | inr b ↦ elim g.last [
          | inl d ↦ (let b0 = b.0 in absurd (omega (arith, b0, d, l)))
          | inr h ↦
              let x = end_some i j f.first b.0 b.1 in
              let y = end_some i k g.first h.0 h.1 in
              let b0 = b.0 in
              let r = finish_less (j - 1) (k - 1) b.1 h.1 (let q : j - 1 < k - 1 = omega (arith, b0, l) in q) in
              omega (arith, x, y, r)
        ]
      ]

  full_of : (f : TypeFault) → Stands f → Full tokens f.first f.last
  full_of f s = full (tokens_in p n) f.first f.last s

  end_less : (f g : TypeFault) → Stands f → Stands g → f.first ≡ g.first → f.last < g.last → (at f).place.end < (at g).place.end
  end_less f g s t e l =
      let r = ends_less g.first f.last g.last (subst (λ i. Full tokens i f.last) e (full_of f s)) (full_of g t) l in
      let x : (at f).place.end ≡ max (start g.first) (finish (f.last - 1)) = ap (λ i. max (start i) (finish (f.last - 1))) e in
      omega (arith, r, x)

  end_same : (f g : TypeFault) → f.first ≡ g.first → f.last ≡ g.last → (at f).place.end ≡ (at g).place.end
  end_same f g e d = ap (λ i. max (start i) (finish (f.last - 1))) e ∙ ap (λ j. max (start g.first) (finish (j - 1))) d

  order_kept : (f g : TypeFault) → Stands f → Stands g → before f g ≡ is_earlier (at f) (at g)
  order_kept f g s t =
      let codes = nat_lt (code_number f.code) (code_number g.code) in
      let inner = cond (nat_eq (at f).place.end (at g).place.end) codes (nat_lt (at f).place.end (at g).place.end) in
      let whole = cond (nat_eq (start f.first) (start g.first)) inner (nat_lt (start f.first) (start g.first)) in
      kept f.first g.first (start f.first) (start g.first) (cond (nat_eq f.last g.last) codes (nat_lt f.last g.last)) inner
      (start_less f.first g.first (full_of f s).first (full_of g t).first) (start_less g.first f.first (full_of g t).first (full_of f s).first)
      (λ e. (ap start e, kept f.last g.last (at f).place.end (at g).place.end codes codes (end_less f g s t e) (end_less g f t s (sym e)) (λ d. (end_same f g e d, refl))))
      ∙ sym (equal n n whole refl)

  -- ---- the least

  sooner_stands : (f g : TypeFault) → Stands f → Stands g → Stands (sooner f g)
  sooner_stands f g s t = elim (decided (before g f)) [ inl e ↦ subst Stands (sym (takes f g e)) t | inr e ↦ subst Stands (sym (keeps f g e)) s ]

  step : (f g : TypeFault) → Stands f → Stands g → failures.earlier (Some (at f)) (at g) ≡ Some (at (sooner f g))
  step f g s t =
      elim (decided (before g f)) [
        | inl e ↦ ap (λ b. cond b (Some (at g)) (Some (at f))) (sym (order_kept g f t s) ∙ e) ∙ ap (λ h. Some (at h)) (sym (takes f g e))
        | inr e ↦ ap (λ b. cond b (Some (at g)) (Some (at f))) (sym (order_kept g f t s) ∙ e) ∙ ap (λ h. Some (at h)) (sym (keeps f g e))
      ]

  from : (f : TypeFault) (gs : List TypeFault) → Stands f → EachFault (stands (tokens_in p n)) gs → least_from (Some (at f)) (failures_at p n gs) ≡ option_map (failure_at p n) (earlier (Some f) (least gs))
  from f [] s t = refl
  from f (g ∷ gs) s t =
      ap (λ o. least_from o (failures_at p n gs)) (step f g s t.0) ∙ from (sooner f g) gs (sooner_stands f g s t.0) t.1
      ∙ ap (option_map (failure_at p n)) (earlier_assoc (Some f) (Some g) (least gs))

  pub keeps_least : (fs : List TypeFault) → EachFault (stands (tokens_in p n)) fs → failures.least (failures_at p n fs) ≡ option_map (failure_at p n) (least fs)
  keeps_least [] s = refl
  keeps_least (f ∷ fs) s = from f fs s.0 s.1
