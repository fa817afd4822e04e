-- The least fault by tokens is the least one by bytes.
use Rattle.std.proofs.Common.{◌≡◌, ℕ, ◌-◌, ◌<◌, ◌≤◌, inl, inr, Bool, true, false, List, [], ◌∷◌, length, Some, refl, ap, sym, ◌∙◌, cond, subst, arith}
use Rattle.std.specs.Prelude.{slice_get, nat_eq, nat_lt, max}
use Rattle.std.specs.Option.{option_map}
use Rattle.std.proofs.lemmas.Bool.{eq-eqb, ne_eqb, lt-ltb, le-ltb, cases_order}
use Rattle.go_base.specs.Fault.{code_number}
use Rattle.go_tokens.specs.Tokens.{TokenList}
use Rattle.go_tree.specs.Failures as failures
use Rattle.go_tree.specs.Failures.{Failure, first_different, is_earlier, least_from}
use Rattle.go_tree.specs.Units.{start_in, end_in}
use Rattle.go_exprs_rules.specs.declared.fault.TypeFault.{TypeFault}
use Rattle.go_exprs_rules.specs.Faults.{before, sooner, earlier, least}
use Rattle.go_exprs_rules.proofs.Public.{decided, takes, keeps, earlier_assoc}
use Rattle.go_package_defs.specs.Answer.{failure_at, failures_at}
use Rattle.go_package_defs.specs.Sources.{Package, tokens_in}
use Rattle.go_package_types.specs.SpecificationPlaces.{TokensRise, StandsIn, KeepsLeast, AllStandIn}

-- ---- two orders by the same tests

equal : (x y : ℕ) (b : Bool) → x ≡ y → cond (nat_eq x y) b (nat_lt x y) ≡ b
equal x y b e = ap (λ c. cond c b (nat_lt x y)) (eq-eqb x y e)

less : (x y : ℕ) (b : Bool) → x < y → cond (nat_eq x y) b (nat_lt x y) ≡ true
less x y b h = ap (λ c. cond c b (nat_lt x y)) (ne_eqb x y (λ e. omega (arith, e, h))) ∙ lt-ltb x y h

greater : (x y : ℕ) (b : Bool) → y < x → cond (nat_eq x y) b (nat_lt x y) ≡ false
greater x y b h = ap (λ c. cond c b (nat_lt x y)) (ne_eqb x y (λ e. omega (arith, e, h))) ∙ le-ltb x y (let q : y ≤ x = omega (arith, h) in q)

kept : (x y u v : ℕ) (b c : Bool) → (x < y → u < v) → (y < x → v < u) → (x ≡ y → (u ≡ v) × (b ≡ c)) → cond (nat_eq x y) b (nat_lt x y) ≡ cond (nat_eq u v) c (nat_lt u v)
kept x y u v b c up down same =
    elim (cases_order x y) [
      | inl e ↦ equal x y b e ∙ (same e).1 ∙ sym (equal u v c (same e).0)
      | inr h ↦ elim h [
        | inl l ↦ less x y b l ∙ sym (less u v c (up l))
        | inr g ↦ greater x y b g ∙ sym (greater u v c (down g))
      ]
    ]

module _ (p : Package) (n : ℕ) (rise : TokensRise (tokens_in p n)) where
  abbrev tokens : TokenList
  tokens = tokens_in p n

  abbrev start : ℕ → ℕ
  start i = start_in (slice_get tokens.tokens i)

  abbrev finish : ℕ → ℕ
  finish i = end_in (slice_get tokens.tokens i)

  abbrev at : TypeFault → Failure
  at f = failure_at p n f

  -- a token behind another one ends behind its beginning
  reaches : (i j : ℕ) → i ≤ j → j < length tokens.tokens → start i ≤ finish j
  reaches i j l h =
      elim (cases_order i j) [
        | inl e ↦ let o = rise.own j h in let s : start i ≡ start j = ap start e in omega (arith, o, s)
        | inr h2 ↦ elim h2 [
          | inl m ↦
              let o = rise.own i (let q : i < length tokens.tokens = omega (arith, m, h) in q) in
              let r = rise.ends i j m h in
              omega (arith, o, r)
          | inr g ↦ absurd (omega (arith, l, g))
        ]
      ]

  larger : (a b : ℕ) → a ≤ b → max a b ≡ b
  larger a b h = omega (arith, h)

  end_is : (f : TypeFault) → StandsIn tokens f → (at f).place.end ≡ finish (f.last - 1)
  end_is f s =
      let a = s.some in
      let b = s.within in
      larger (start f.first) (finish (f.last - 1)) (reaches f.first (f.last - 1) (let q : f.first ≤ f.last - 1 = omega (arith, a) in q) (let q : f.last - 1 < length tokens.tokens = omega (arith, a, b) in q))

  end_less : (f g : TypeFault) → StandsIn tokens f → StandsIn tokens g → f.last < g.last → (at f).place.end < (at g).place.end
  end_less f g s t h =
      let a = s.some in
      let b = t.within in
      let e = end_is f s in
      let d = end_is g t in
      let r = rise.ends (f.last - 1) (g.last - 1) (let q : f.last - 1 < g.last - 1 = omega (arith, a, h) in q) (let q : g.last - 1 < length tokens.tokens = omega (arith, h, b) in q) in
      omega (arith, e, d, r)

  start_less : (f g : TypeFault) → StandsIn tokens g → f.first < g.first → start f.first < start g.first
  start_less f g t h =
      let a = t.some in
      let b = t.within in
      rise.starts f.first g.first h (let q : g.first < length tokens.tokens = omega (arith, a, b) in q)

  end_same : (f g : TypeFault) → f.first ≡ g.first → f.last ≡ g.last → (at f).place.end ≡ (at g).place.end
  end_same f g e d = ap (λ i. max (start i) (finish (f.last - 1))) e ∙ ap (λ j. max (start g.first) (finish (j - 1))) d

  order_kept : (f g : TypeFault) → StandsIn tokens f → StandsIn tokens g → before f g ≡ is_earlier (at f) (at g)
  order_kept f g s t =
      let codes = nat_lt (code_number f.code) (code_number g.code) in
      let inner = cond (nat_eq (at f).place.end (at g).place.end) codes (nat_lt (at f).place.end (at g).place.end) in
      let whole = cond (nat_eq (start f.first) (start g.first)) inner (nat_lt (start f.first) (start g.first)) in
      kept f.first g.first (start f.first) (start g.first) (cond (nat_eq f.last g.last) codes (nat_lt f.last g.last)) inner
      (start_less f g t) (start_less g f s)
      (λ e. (ap start e, kept f.last g.last (at f).place.end (at g).place.end codes codes (end_less f g s t) (end_less g f t s) (λ d. (end_same f g e d, refl))))
      ∙ sym (equal n n whole refl)

  -- ---- the least

  sooner_stands : (f g : TypeFault) → StandsIn tokens f → StandsIn tokens g → StandsIn tokens (sooner f g)
  sooner_stands f g s t = elim (decided (before g f)) [ inl e ↦ subst (StandsIn tokens) (sym (takes f g e)) t | inr e ↦ subst (StandsIn tokens) (sym (keeps f g e)) s ]

  step : (f g : TypeFault) → StandsIn tokens f → StandsIn tokens g → failures.earlier (Some (at f)) (at g) ≡ Some (at (sooner f g))
  step f g s t =
      elim (decided (before g f)) [
        | inl e ↦ ap (λ b. cond b (Some (at g)) (Some (at f))) (sym (order_kept g f t s) ∙ e) ∙ ap (λ h. Some (at h)) (sym (takes f g e))
        | inr e ↦ ap (λ b. cond b (Some (at g)) (Some (at f))) (sym (order_kept g f t s) ∙ e) ∙ ap (λ h. Some (at h)) (sym (keeps f g e))
      ]

  from : (f : TypeFault) (gs : List TypeFault) → StandsIn tokens f → AllStandIn p n gs → least_from (Some (at f)) (failures_at p n gs) ≡ option_map (failure_at p n) (earlier (Some f) (least gs))
  from f [] s t = refl
  from f (g ∷ gs) s t =
      ap (λ o. least_from o (failures_at p n gs)) (step f g s t.0) ∙ from (sooner f g) gs (sooner_stands f g s t.0) t.1
      ∙ ap (option_map (failure_at p n)) (earlier_assoc (Some f) (Some g) (least gs))

  pub keeps_least : (fs : List TypeFault) → AllStandIn p n fs → KeepsLeast p n fs
  keeps_least [] s = refl
  keeps_least (f ∷ fs) s = from f fs s.0 s.1
