-- Where tokens stand that are inside no run: their order stays.
use Rattle.std.proofs.Common.{◌≡◌, ◌∙◌, ℕ, suc, ◌+◌, ◌-◌, ◌<◌, ◌≤◌, ◌⊎◌, inl, inr, Bool, true, false, List, [], ◌∷◌, length, refl, sym, ap, subst, eq-or-lt_of_le, arith}
use Rattle.std.specs.Prelude.{nat_eq, nat_le, nat_lt, if◌then◌else◌}
use Rattle.std.proofs.lemmas.Bool.Decides.{nat_tests}
use Rattle.go_rewriting.specs.Replacing.{moved}
use Rattle.extract_names.specs.Gaps.{Gap, moved_by, Among, AreApart, Stays, AtEdge}

pub le_true : (x y : ℕ) → nat_le x y ≡ true → x ≤ y
le_true x y e = grind (arith, nat_tests)

pub le_false : (x y : ℕ) → nat_le x y ≡ false → y < x
le_false x y e = grind (arith, nat_tests)

pub is_le : (x y : ℕ) → x ≤ y → nat_le x y ≡ true
is_le x y h = grind (arith, nat_tests)

pub not_le : (x y : ℕ) → y < x → nat_le x y ≡ false
not_le x y h = grind (arith, nat_tests)

pub lt_true : (x y : ℕ) → nat_lt x y ≡ true → x < y
lt_true x y e = grind (arith, nat_tests)

pub lt_false : (x y : ℕ) → nat_lt x y ≡ false → y ≤ x
lt_false x y e = grind (arith, nat_tests)

pub is_lt : (x y : ℕ) → x < y → nat_lt x y ≡ true
is_lt x y h = grind (arith, nat_tests)

pub not_lt : (x y : ℕ) → y ≤ x → nat_lt x y ≡ false
not_lt x y h = grind (arith, nat_tests)

pub eq_true : (x y : ℕ) → nat_eq x y ≡ true → x ≡ y
eq_true x y e = grind (arith, nat_tests)

pub is_eq : (x y : ℕ) → x ≡ y → nat_eq x y ≡ true
is_eq x y h = grind (arith, nat_tests)

pub not_eq : (x y : ℕ) → (x ≡ y → ⊥) → nat_eq x y ≡ false
not_eq x y h = by (nat_eq x y) refl
  where
    by : (b : Bool) → nat_eq x y ≡ b → b ≡ false
    by true e = absurd (h (eq_true x y e))
    by false e = refl

-- ---- one gap

pub front_moved : (g : Gap) (gs : List Gap) (t : ℕ) → t ≤ g.from → moved_by (g ∷ gs) t ≡ t
front_moved g gs t le = ap (λ b. if b then t else moved g.upto (g.from + length g.texts) (moved_by gs t)) (is_le t g.from le)

pub behind_moved : (g : Gap) (gs : List Gap) (t : ℕ) → g.from < t → moved_by (g ∷ gs) t ≡ (moved_by gs t - g.upto) + (g.from + length g.texts)
behind_moved g gs t lt = ap (λ b. if b then t else moved g.upto (g.from + length g.texts) (moved_by gs t)) (not_le t g.from lt)

-- ---- gaps

pub low_moved : (gs : List Gap) (i t : ℕ) → AreApart i gs → t ≤ i → moved_by gs t ≡ t
low_moved [] i t h le = refl
low_moved (g ∷ gs) i t h le = front_moved g gs t (let lo : i ≤ g.from = h.0 in omega (arith, lo, le))

pub above_moved : (gs : List Gap) (i t : ℕ) → AreApart i gs → i ≤ t → i ≤ moved_by gs t
above_moved [] i t h le = le
above_moved (g ∷ gs) i t h le = by (nat_le t g.from) refl
  where
    by : (b : Bool) → nat_le t g.from ≡ b → i ≤ (if b then t else moved g.upto (g.from + length g.texts) (moved_by gs t))
    by true e = le
    by false e = let lo : i ≤ g.from = h.0 in omega (arith, lo)

pub rises : (gs : List Gap) (i : ℕ) → AreApart i gs → (x y : ℕ) → AtEdge gs x → AtEdge gs y → x < y → moved_by gs x < moved_by gs y
rises [] i h x y ex ey lt = lt
rises (g ∷ gs) i h x y ex ey lt = by ex.0 ey.0 (rises gs g.upto h.3 x y ex.1 ey.1 lt)
  where
    some : 0 < length g.texts
    some = h.2

    both : g.upto ≤ x → g.upto ≤ y → moved_by gs x < moved_by gs y → moved_by (g ∷ gs) x < moved_by (g ∷ gs) y
    both lx ly less =
        let wide : g.from < g.upto = h.1 in
        let e : moved_by (g ∷ gs) x ≡ (moved_by gs x - g.upto) + (g.from + length g.texts) = behind_moved g gs x (omega (arith, wide, lx)) in
        let f : moved_by (g ∷ gs) y ≡ (moved_by gs y - g.upto) + (g.from + length g.texts) = behind_moved g gs y (omega (arith, wide, ly)) in
        let low : g.upto ≤ moved_by gs x = above_moved gs g.upto x h.3 lx in
        omega (arith, e, f, less, low)

    by : (x ≤ g.from) ⊎ (g.upto ≤ x) → (y ≤ g.from) ⊎ (g.upto ≤ y) → moved_by gs x < moved_by gs y → moved_by (g ∷ gs) x < moved_by (g ∷ gs) y
    by (inl lx) (inl ly) less = let e : moved_by (g ∷ gs) x ≡ x = front_moved g gs x lx in let f : moved_by (g ∷ gs) y ≡ y = front_moved g gs y ly in omega (arith, e, f, lt)
    by (inl lx) (inr ly) less =
        let wide : g.from < g.upto = h.1 in
        let e : moved_by (g ∷ gs) x ≡ x = front_moved g gs x lx in
        let f : moved_by (g ∷ gs) y ≡ (moved_by gs y - g.upto) + (g.from + length g.texts) = behind_moved g gs y (omega (arith, wide, ly)) in
        omega (arith, e, f, some, lx)
    by (inr lx) (inl ly) less = absurd (let wide : g.from < g.upto = h.1 in omega (arith, wide, lx, ly, lt))
    by (inr lx) (inr ly) less = both lx ly less

-- where a run begins and ends
pub upto_moved : (gs : List Gap) (i : ℕ) → AreApart i gs → (g : Gap) → Among g gs → moved_by gs g.upto ≡ moved_by gs g.from + length g.texts
upto_moved [] i h g k = absurd k
upto_moved (f ∷ gs) i h g (inl e) = subst (λ x. moved_by (f ∷ gs) x.upto ≡ moved_by (f ∷ gs) x.from + length x.texts) (sym e) own
  where
    own : moved_by (f ∷ gs) f.upto ≡ moved_by (f ∷ gs) f.from + length f.texts
    own =
        let wide : f.from < f.upto = h.1 in
        let a : moved_by (f ∷ gs) f.from ≡ f.from = front_moved f gs f.from (omega arith) in
        let b : moved_by (f ∷ gs) f.upto ≡ (moved_by gs f.upto - f.upto) + (f.from + length f.texts) = behind_moved f gs f.upto wide in
        let c : moved_by gs f.upto ≡ f.upto = low_moved gs f.upto f.upto h.3 (omega arith) in
        omega (arith, a, b, c)
upto_moved (f ∷ gs) i h g (inr k) =
    let wide : f.from < f.upto = h.1 in
    let low : f.upto ≤ g.from = after gs f.upto h.3 g k in
    let wider : g.from < g.upto = width gs f.upto h.3 g k in
    let a : moved_by (f ∷ gs) g.from ≡ (moved_by gs g.from - f.upto) + (f.from + length f.texts) = behind_moved f gs g.from (omega (arith, wide, low)) in
    let b : moved_by (f ∷ gs) g.upto ≡ (moved_by gs g.upto - f.upto) + (f.from + length f.texts) = behind_moved f gs g.upto (omega (arith, wide, low, wider)) in
    let c : moved_by gs g.upto ≡ moved_by gs g.from + length g.texts = upto_moved gs f.upto h.3 g k in
    let d : f.upto ≤ moved_by gs g.from = above_moved gs f.upto g.from h.3 low in
    omega (arith, a, b, c, d)
  where
    after : (gs : List Gap) (i : ℕ) → AreApart i gs → (g : Gap) → Among g gs → i ≤ g.from
    after [] i h g k = absurd k
    after (f ∷ gs) i h g (inl e) = subst (λ (x : Gap). i ≤ x.from) (sym e) h.0
    after (f ∷ gs) i h g (inr k) = let lo : i ≤ f.from = h.0 in let wide : f.from < f.upto = h.1 in let low : f.upto ≤ g.from = after gs f.upto h.3 g k in omega (arith, lo, wide, low)

    width : (gs : List Gap) (i : ℕ) → AreApart i gs → (g : Gap) → Among g gs → g.from < g.upto
    width [] i h g k = absurd k
    width (f ∷ gs) i h g (inl e) = subst (λ (x : Gap). x.from < x.upto) (sym e) h.1
    width (f ∷ gs) i h g (inr k) = width gs f.upto h.3 g k

pub stays_edge : (gs : List Gap) (t : ℕ) → Stays gs t → AtEdge gs t
stays_edge [] t h = tt
stays_edge (g ∷ gs) t h = (by h.0, stays_edge gs t h.1)
  where
    by : (t < g.from) ⊎ (g.upto ≤ t) → (t ≤ g.from) ⊎ (g.upto ≤ t)
    by (inl lt) = inl (omega (arith, lt))
    by (inr le) = inr le

low_edge : (gs : List Gap) (i t : ℕ) → AreApart i gs → t ≤ i → AtEdge gs t
low_edge [] i t h le = tt
low_edge (g ∷ gs) i t h le = let lo : i ≤ g.from = h.0 in let wide : g.from < g.upto = h.1 in (inl (omega (arith, lo, le)), low_edge gs g.upto t h.3 (omega (arith, lo, wide, le)))

-- the gap stands so among the others
pub record Placed (gs : List Gap) (g : Gap) : Type 0 where
  pub from : AtEdge gs g.from
  pub upto : AtEdge gs g.upto
  pub wide : g.from < g.upto
  pub some : 0 < length g.texts

pub placed : (gs : List Gap) (i : ℕ) → AreApart i gs → (g : Gap) → Among g gs → (i ≤ g.from) × Placed gs g
placed [] i h g k = absurd k
placed (f ∷ gs) i h g (inl e) = subst (λ (x : Gap). (i ≤ x.from) × Placed (f ∷ gs) x) (sym e) own
  where
    own : (i ≤ f.from) × Placed (f ∷ gs) f
    own =
        let wide : f.from < f.upto = h.1 in
        (h.0, record { from = (inl (omega arith), low_edge gs f.upto f.from h.3 (omega (arith, wide))); upto = (inr (omega arith), low_edge gs f.upto f.upto h.3 (omega arith)); wide = h.1; some = h.2 })
placed (f ∷ gs) i h g (inr k) =
    let p = placed gs f.upto h.3 g k in
    let lo : i ≤ f.from = h.0 in
    let wide : f.from < f.upto = h.1 in
    let low : f.upto ≤ g.from = p.0 in
    let wider : g.from < g.upto = p.1.wide in
    (omega (arith, lo, wide, low), record { from = (inr low, p.1.from); upto = (inr (omega (arith, low, wider)), p.1.upto); wide = p.1.wide; some = p.1.some })

-- the token behind one that stays
pub next_moved : (gs : List Gap) (i t : ℕ) → AreApart i gs → Stays gs t → moved_by gs (suc t) ≡ suc (moved_by gs t)
next_moved [] i t h k = refl
next_moved (g ∷ gs) i t h k = by k.0 (next_moved gs g.upto t h.3 k.1)
  where
    by : (t < g.from) ⊎ (g.upto ≤ t) → moved_by gs (suc t) ≡ suc (moved_by gs t) → moved_by (g ∷ gs) (suc t) ≡ suc (moved_by (g ∷ gs) t)
    by (inl lt) c = front_moved g gs (suc t) lt ∙ ap suc (sym (front_moved g gs t (omega (arith, lt))))
    by (inr le) c =
        let wide : g.from < g.upto = h.1 in
        let a : moved_by (g ∷ gs) (suc t) ≡ (moved_by gs (suc t) - g.upto) + (g.from + length g.texts) = behind_moved g gs (suc t) (omega (arith, wide, le)) in
        let b : moved_by (g ∷ gs) t ≡ (moved_by gs t - g.upto) + (g.from + length g.texts) = behind_moved g gs t (omega (arith, wide, le)) in
        let d : g.upto ≤ moved_by gs t = above_moved gs g.upto t h.3 le in
        omega (arith, a, b, c, d)

-- ---- what keeps the order of some tokens keeps their tests

module _ (v : ℕ → ℕ) (E : ℕ → Type 0) (up : (x y : ℕ) → E x → E y → x < y → v x < v y) where
  pub mono : (x y : ℕ) → E x → E y → x ≤ y → v x ≤ v y
  mono x y ex ey le = by (eq-or-lt_of_le le)
    where
      by : (x ≡ y) ⊎ (x < y) → v x ≤ v y
      by (inl e) = let f : v x ≡ v y = ap v e in omega (arith, f)
      by (inr lt) = let k : v x < v y = up x y ex ey lt in omega (arith, k)

  pub back : (x y : ℕ) → E x → E y → v x < v y → x < y
  back x y ex ey lt = by (nat_lt x y) refl
    where
      by : (b : Bool) → nat_lt x y ≡ b → x < y
      by true e = lt_true x y e
      by false e = absurd (let le : v y ≤ v x = mono y x ey ex (lt_false x y e) in omega (arith, le, lt))

  pub one : (x y : ℕ) → E x → E y → v x ≡ v y → x ≡ y
  one x y ex ey e = by (nat_lt x y) (nat_lt y x) refl refl
    where
      by : (b c : Bool) → nat_lt x y ≡ b → nat_lt y x ≡ c → x ≡ y
      by true c f g = absurd (let lt : v x < v y = up x y ex ey (lt_true x y f) in omega (arith, lt, e))
      by false true f g = absurd (let lt : v y < v x = up y x ey ex (lt_true y x g) in omega (arith, lt, e))
      by false false f g = let a : y ≤ x = lt_false x y f in let b : x ≤ y = lt_false y x g in omega (arith, a, b)

  pub same_le : (x y : ℕ) → E x → E y → nat_le (v x) (v y) ≡ nat_le x y
  same_le x y ex ey = by (nat_le x y) refl
    where
      by : (b : Bool) → nat_le x y ≡ b → nat_le (v x) (v y) ≡ b
      by true e = is_le (v x) (v y) (mono x y ex ey (le_true x y e))
      by false e = not_le (v x) (v y) (up y x ey ex (le_false x y e))

  pub same_lt : (x y : ℕ) → E x → E y → nat_lt (v x) (v y) ≡ nat_lt x y
  same_lt x y ex ey = by (nat_lt x y) refl
    where
      by : (b : Bool) → nat_lt x y ≡ b → nat_lt (v x) (v y) ≡ b
      by true e = is_lt (v x) (v y) (up x y ex ey (lt_true x y e))
      by false e = not_lt (v x) (v y) (mono y x ey ex (lt_false x y e))

  pub same_eq : (x y : ℕ) → E x → E y → nat_eq (v x) (v y) ≡ nat_eq x y
  same_eq x y ex ey = by (nat_eq x y) refl
    where
      by : (b : Bool) → nat_eq x y ≡ b → nat_eq (v x) (v y) ≡ b
      by true e = is_eq (v x) (v y) (ap v (eq_true x y e))
      by false e = not_eq (v x) (v y) (λ f. by_false (one x y ex ey f) e)
        where
          by_false : x ≡ y → nat_eq x y ≡ false → ⊥
          by_false p q = let r : nat_eq x y ≡ true = is_eq x y p in cc
