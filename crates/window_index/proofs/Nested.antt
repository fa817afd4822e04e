-- Typed trees whose parts lie one behind the other: each statement behind the first token of its list, and behind the statement
-- in front of it.
use Rattle.std.proofs.Common.{◌≡◌, ◌∙◌, ℕ, zero, suc, ◌<◌, ◌≤◌, ◌⊎◌, inl, inr, Bool, true, false, refl, sym, ap, subst, arith}
use Rattle.go_typed.specs.Forms.{is_statement_list, values_count}
use Rattle.go_typed.specs.Trees.{Label, Nothing, Typed, typed, Typeds, none, more, skip, first_of, last_of, mapped, all_mapped, row, list_of}

-- one of two
abbrev pub choice : Bool → Type 0 → Type 0 → Type 0
choice true P Q = P
choice false P Q = Q

pub in-each : (b : Bool) (P P' Q Q' : Type 0) → (P → P') → (Q → Q') → choice b P Q → choice b P' Q'
in-each true P P' Q Q' f g h = f h
in-each false P P' Q Q' f g h = g h

-- ---- trees without statement lists

abbrev mutual
  pub Flat : {T : Type 0} → Typed T → Type 0
  Flat (typed f i j l ps) = (is_statement_list f ≡ false) × AllFlat ps

  pub AllFlat : {T : Type 0} → Typeds T → Type 0
  AllFlat none = Unit {0}
  AllFlat (more p ps) = Flat p × AllFlat ps
  AllFlat (skip ps) = AllFlat ps

-- ---- trees in order

abbrev mutual
  pub Nested : {T : Type 0} → Typed T → Type 0
  Nested (typed f i j l ps) = choice (is_statement_list f) (Listed (values_count f) (suc i) j ps) (Row false i j ps)

  -- It has a token at least, and lies in the range.
  pub Within : {T : Type 0} → ℕ → ℕ → Typed T → Type 0
  Within i j (typed f a b l ps) = (i ≤ a) × (a < b) × (b ≤ j) × choice (is_statement_list f) (Listed (values_count f) (suc a) b ps) (Row false a b ps)

  -- The parts that have statement lists lie in the range, one behind the other; all parts do where the row is a strict one.
  pub Row : {T : Type 0} → Bool → ℕ → ℕ → Typeds T → Type 0
  Row b i j none = Unit {0}
  Row b i j (more p ps) = ((b ≡ false) × Flat p × Row b i j ps) ⊎ (Within i j p × Row b (last_of p) j ps)
  Row b i j (skip ps) = Row b i j ps

  -- The same of a statement list, all of whose parts but the first n lie so.
  pub Listed : {T : Type 0} → ℕ → ℕ → ℕ → Typeds T → Type 0
  Listed n i j none = Unit {0}
  Listed zero i j (more p ps) = Within i j p × Listed zero (last_of p) j ps
  Listed (suc n) i j (more p ps) = (Flat p × Listed n i j ps) ⊎ (Within i j p × Listed n (last_of p) j ps)
  Listed n i j (skip ps) = Listed n i j ps

module _ {T : Type 0} where
  pub within-first : (i j : ℕ) (p : Typed T) → Within i j p → i ≤ first_of p
  within-first i j (typed f a b l ps) h = h.0

  pub within-grows : (i j : ℕ) (p : Typed T) → Within i j p → first_of p < last_of p
  within-grows i j (typed f a b l ps) h = h.1

  pub within-last : (i j : ℕ) (p : Typed T) → Within i j p → last_of p ≤ j
  within-last i j (typed f a b l ps) h = h.2

  pub within-nested : (i j : ℕ) (p : Typed T) → Within i j p → Nested p
  within-nested i j (typed f a b l ps) h = h.3

  pub is-within : (i j : ℕ) (p : Typed T) → i ≤ first_of p → first_of p < last_of p → last_of p ≤ j → Nested p → Within i j p
  is-within i j (typed f a b l ps) u v w h = (u, v, w, h)

  pub within-wider : (i i' j j' : ℕ) (p : Typed T) → i' ≤ i → j ≤ j' → Within i j p → Within i' j' p
  within-wider i i' j j' (typed f a b l ps) u v h = (omega (arith, u, h.0), h.1, omega (arith, v, h.2), h.3)

  -- ---- rows

  pub row-flat : (i j : ℕ) (ps : Typeds T) → AllFlat ps → Row false i j ps
  row-flat i j none h = tt
  row-flat i j (more p ps) h = inl (refl, h.0, row-flat i j ps h.1)
  row-flat i j (skip ps) h = row-flat i j ps h

  pub row-wider : (b : Bool) (i i' j j' : ℕ) (ps : Typeds T) → i' ≤ i → j ≤ j' → Row b i j ps → Row b i' j' ps
  row-wider b i i' j j' none u v h = tt
  row-wider b i i' j j' (more p ps) u v (inl h) = inl (h.0, h.1, row-wider b i i' j j' ps u v h.2)
  row-wider b i i' j j' (more p ps) u v (inr h) = inr (within-wider i i' j j' p u v h.0, row-wider b (last_of p) (last_of p) j j' ps (omega arith) v h.1)
  row-wider b i i' j j' (skip ps) u v h = row-wider b i i' j j' ps u v h

  pub row-looser : (b : Bool) (i j : ℕ) (ps : Typeds T) → Row b i j ps → Row false i j ps
  row-looser b i j none h = tt
  row-looser b i j (more p ps) (inl h) = inl (refl, h.1, row-looser b i j ps h.2)
  row-looser b i j (more p ps) (inr h) = inr (h.0, row-looser b (last_of p) j ps h.1)
  row-looser b i j (skip ps) h = row-looser b i j ps h

  pub row-listed : (i j : ℕ) (ps : Typeds T) → Row true i j ps → Listed zero i j ps
  row-listed i j none h = tt
  row-listed i j (more p ps) (inl h) = let e : true ≡ false = h.0 in cc
  row-listed i j (more p ps) (inr h) = (h.0, row-listed (last_of p) j ps h.1)
  row-listed i j (skip ps) h = row-listed i j ps h

  pub row-skips : (n i j : ℕ) (ps : Typeds T) → Row true i j ps → Listed n i j ps
  row-skips n i j none h = tt
  row-skips zero i j (more p ps) (inl h) = let e : true ≡ false = h.0 in cc
  row-skips (suc n) i j (more p ps) (inl h) = let e : true ≡ false = h.0 in cc
  row-skips zero i j (more p ps) (inr h) = (h.0, row-skips zero (last_of p) j ps h.1)
  row-skips (suc n) i j (more p ps) (inr h) = inr (h.0, row-skips n (last_of p) j ps h.1)
  row-skips n i j (skip ps) h = row-skips n i j ps h

  -- the same parts, as a list
  pub same-row : (ps : Typeds T) → row (list_of ps) ≡ ps
  same-row none = refl
  same-row (more p ps) = ap (more p) (same-row ps)
  same-row (skip ps) = ap skip (same-row ps)

  -- ---- a tree without statement lists is in order

  pub flat-nested : (x : Typed T) → Flat x → Nested x
  flat-nested (typed f i j l ps) h = by (is_statement_list f) h.0 where
    by : (b : Bool) → b ≡ false → choice b (Listed (values_count f) (suc i) j ps) (Row false i j ps)
    by true e = cc
    by false e = row-flat i j ps h.1

-- ---- what counts of a tree: not what its nodes stand for

abbrev pub plain : Label (Unit {0})
plain = record { sort = Nothing; varies = false; calls = false }

abbrev mutual
  pub shape : {T : Type 0} → Typed T → Typed (Unit {0})
  shape (typed f i j l ps) = typed f i j plain (shapes ps)

  pub shapes : {T : Type 0} → Typeds T → Typeds (Unit {0})
  shapes none = none
  shapes (more p ps) = more (shape p) (shapes ps)
  shapes (skip ps) = skip (shapes ps)

module _ {T U : Type 0} where
  pub same-last : (x : Typed T) (y : Typed U) → shape x ≡ shape y → last_of x ≡ last_of y
  same-last (typed f i j l ps) (typed g a b m qs) e = cc

  mutual
    pub flat-alike : (x : Typed T) (y : Typed U) → shape x ≡ shape y → Flat x → Flat y
    flat-alike (typed f i j l ps) (typed g a b m qs) e h = (let k : f ≡ g = cc in ap is_statement_list (sym k) ∙ h.0, all-flat-alike ps qs (let k : shapes ps ≡ shapes qs = cc in k) h.1)

    pub all-flat-alike : (ps : Typeds T) (qs : Typeds U) → shapes ps ≡ shapes qs → AllFlat ps → AllFlat qs
    all-flat-alike none none e h = tt
    all-flat-alike (more p ps) (more q qs) e h = (flat-alike p q (let k : shape p ≡ shape q = cc in k) h.0, all-flat-alike ps qs (let k : shapes ps ≡ shapes qs = cc in k) h.1)
    all-flat-alike (skip ps) (skip qs) e h = all-flat-alike ps qs (let k : shapes ps ≡ shapes qs = cc in k) h
    all-flat-alike none (more q qs) e h = cc
    all-flat-alike none (skip qs) e h = cc
    all-flat-alike (more p ps) none e h = cc
    all-flat-alike (more p ps) (skip qs) e h = cc
    all-flat-alike (skip ps) none e h = cc
    all-flat-alike (skip ps) (more q qs) e h = cc

  mutual
    pub nested-alike : (x : Typed T) (y : Typed U) → shape x ≡ shape y → Nested x → Nested y
    nested-alike (typed f i j l ps) (typed g a b m qs) e h =
        let u : f ≡ g = cc in
        let v : i ≡ a = cc in
        let w : j ≡ b = cc in
        let z : shapes ps ≡ shapes qs = cc in
        subst (λ k. choice (is_statement_list k) (Listed (values_count k) (suc a) b qs) (Row false a b qs)) u
        (subst (λ k. choice (is_statement_list f) (Listed (values_count f) (suc k) b qs) (Row false k b qs)) v
        (subst (λ k. choice (is_statement_list f) (Listed (values_count f) (suc i) k qs) (Row false i k qs)) w
        (in-each (is_statement_list f) (Listed (values_count f) (suc i) j ps) (Listed (values_count f) (suc i) j qs) (Row false i j ps) (Row false i j qs) (λ k. listed-alike (values_count f) (suc i) j ps qs z k) (λ k. row-alike false i j ps qs z k) h)))

    pub within-alike : (i j : ℕ) (x : Typed T) (y : Typed U) → shape x ≡ shape y → Within i j x → Within i j y
    within-alike i j (typed f a b l ps) (typed g c d m qs) e h =
        let u : f ≡ g = cc in
        let v : a ≡ c = cc in
        let w : b ≡ d = cc in
        let z : shapes ps ≡ shapes qs = cc in (
          omega (arith, h.0, v),
          omega (arith, h.1, v, w),
          omega (arith, h.2, w),
          subst (λ k. choice (is_statement_list k) (Listed (values_count k) (suc c) d qs) (Row false c d qs)) u
              (subst (λ k. choice (is_statement_list f) (Listed (values_count f) (suc k) d qs) (Row false k d qs)) v
              (subst (λ k. choice (is_statement_list f) (Listed (values_count f) (suc a) k qs) (Row false a k qs)) w
              (in-each (is_statement_list f) (Listed (values_count f) (suc a) b ps) (Listed (values_count f) (suc a) b qs) (Row false a b ps) (Row false a b qs) (λ k. listed-alike (values_count f) (suc a) b ps qs z k) (λ k. row-alike false a b ps qs z k) h.3))),
        )

    pub row-alike : (b : Bool) (i j : ℕ) (ps : Typeds T) (qs : Typeds U) → shapes ps ≡ shapes qs → Row b i j ps → Row b i j qs
    row-alike b i j none none e h = tt
    row-alike b i j (more p ps) (more q qs) e (inl h) =
        inl (h.0, flat-alike p q (let k : shape p ≡ shape q = cc in k) h.1, row-alike b i j ps qs (let k : shapes ps ≡ shapes qs = cc in k) h.2)
    row-alike b i j (more p ps) (more q qs) e (inr h) =
        let s : shape p ≡ shape q = cc in
        inr (within-alike i j p q s h.0, subst (λ k. Row b k j qs) (same-last p q s) (row-alike b (last_of p) j ps qs (let k : shapes ps ≡ shapes qs = cc in k) h.1))
    row-alike b i j (skip ps) (skip qs) e h = row-alike b i j ps qs (let k : shapes ps ≡ shapes qs = cc in k) h
    row-alike b i j none (more q qs) e h = cc
    row-alike b i j none (skip qs) e h = cc
    row-alike b i j (more p ps) none e h = cc
    row-alike b i j (more p ps) (skip qs) e h = cc
    row-alike b i j (skip ps) none e h = cc
    row-alike b i j (skip ps) (more q qs) e h = cc

    listed-alike : (n i j : ℕ) (ps : Typeds T) (qs : Typeds U) → shapes ps ≡ shapes qs → Listed n i j ps → Listed n i j qs
    listed-alike n i j none none e h = tt
    listed-alike zero i j (more p ps) (more q qs) e h =
        let s : shape p ≡ shape q = cc in
        (within-alike i j p q s h.0, subst (λ k. Listed zero k j qs) (same-last p q s) (listed-alike zero (last_of p) j ps qs (let k : shapes ps ≡ shapes qs = cc in k) h.1))
    listed-alike (suc n) i j (more p ps) (more q qs) e (inl h) =
        inl (flat-alike p q (let k : shape p ≡ shape q = cc in k) h.0, listed-alike n i j ps qs (let k : shapes ps ≡ shapes qs = cc in k) h.1)
    listed-alike (suc n) i j (more p ps) (more q qs) e (inr h) =
        let s : shape p ≡ shape q = cc in
        inr (within-alike i j p q s h.0, subst (λ k. Listed n k j qs) (same-last p q s) (listed-alike n (last_of p) j ps qs (let k : shapes ps ≡ shapes qs = cc in k) h.1))
    listed-alike n i j (skip ps) (skip qs) e h = listed-alike n i j ps qs (let k : shapes ps ≡ shapes qs = cc in k) h
    listed-alike n i j none (more q qs) e h = cc
    listed-alike n i j none (skip qs) e h = cc
    listed-alike n i j (more p ps) none e h = cc
    listed-alike n i j (more p ps) (skip qs) e h = cc
    listed-alike n i j (skip ps) none e h = cc
    listed-alike n i j (skip ps) (more q qs) e h = cc

-- ---- over other words for types

module _ {T U : Type 0} (g : T → U) where
  mutual
    pub shape-mapped : (x : Typed T) → shape (mapped g x) ≡ shape x
    shape-mapped (typed f i j l ps) = ap (typed f i j plain) (shapes-mapped ps)

    shapes-mapped : (ps : Typeds T) → shapes (all_mapped g ps) ≡ shapes ps
    shapes-mapped none = refl
    shapes-mapped (more p ps) = ap (λ q. more q (shapes (all_mapped g ps))) (shape-mapped p) ∙ ap (more (shape p)) (shapes-mapped ps)
    shapes-mapped (skip ps) = ap skip (shapes-mapped ps)
