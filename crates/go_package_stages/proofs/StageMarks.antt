-- Numbers and marks of lists.
use Rattle.std.proofs.Common.{◌≡◌, ℕ, zero, suc, ◌+◌, ◌<◌, ◌≤◌, Bool, true, false, List, [], ◌∷◌, Option, Some, None, refl, sym, ap, subst, ◌∙◌, arith}
use Rattle.std.specs.Prelude.{slice_get, nat_le, unwrap_or}
use Rattle.std.proofs.lemmas.Bool.{leb-true, and_parts}
use Rattle.go_tree.specs.declared.object.Declared.{Declared}
use Rattle.go_needs.specs.declared.bounds.Bound.{Bound}
use Rattle.go_needs.specs.Bounds.{AtMost, AllAtMost}
use Rattle.go_package_defs.specs.Knowledge.{is_type, following}
use Rattle.go_package_laws.specs.Ranks.{AllBefore, number_or, type_object}
use Rattle.go_package_stages.specs.declared.marks.Mark.{Mark}
use Rattle.go_package_stages.specs.declared.numbers.Numbers.{Numbers}
use Rattle.go_package_stages.specs.Numbers.{number_at, at_most, told_if, is_told_at, next_type, types_told}
use Rattle.go_package_stages.specs.Marked.{mark_at, marks_from}

-- ---- numbers of a list

pub number_most : (k : ℕ) (ns : List ℕ) → at_most k ns ≡ true → (n : ℕ) → number_at ns n ≤ k
number_most k [] e n = omega arith
number_most k (x ∷ ns) e zero = leb-true x k (and_parts (nat_le x k) (at_most k ns) e).0
number_most k (x ∷ ns) e (suc n) = number_most k ns (and_parts (nat_le x k) (at_most k ns) e).1 n

at_most_before : (o : Option ℕ) (j k : ℕ) → AtMost o j → j < k → unwrap_or o 0 < k
at_most_before None j k h l = absurd h
at_most_before (Some r) j k h l = omega (arith, h, l)

pub all_before : (rs : List ℕ) (j k : ℕ) (ns : List ℕ) → AllAtMost rs j ns → j < k → AllBefore (number_at rs) k ns
all_before rs j k [] h l = tt
all_before rs j k (n ∷ ns) h l = (at_most_before (slice_get rs n) j k h.0 l, all_before rs j k ns h.1 l)

-- ---- declared types

record Behind (o : Option ℕ) (n : ℕ) : Type 0 where
  it : ℕ
  there : o ≡ Some it
  next : suc it ≡ n

behind : (o : Option ℕ) (n : ℕ) → following o ≡ Some n → Behind o n
behind None n e = absurd cc
behind (Some m) n e = record { it = m; there = refl; next = cc }

module _ (x : Numbers) where
  abbrev told : ℕ → ℕ
  told n = number_at x.told.items n

  abbrev reach : ℕ → ℕ
  reach t = number_at x.reach.items t

  type_by : (i j : ℕ) (b : Bool) (f : ℕ → Option ℕ) (n : ℕ) → told_if b (told i) (reach j) ≡ true → ((u : ℕ) → following (f u) ≡ Some n → told (n + i) ≤ reach (u + next_type b j))
      → (t : ℕ) → number_or b t f ≡ Some n → told (n + i) ≤ reach (t + j)
  type_by i j true f n a later zero e =
      let first : 0 ≡ n = cc in
      let same : i ≡ n + i = omega (arith, first) in
      let at : j ≡ 0 + j = omega arith in
      subst (λ m. told m ≤ reach (0 + j)) same (subst (λ u. told i ≤ reach u) at (leb-true (told i) (reach j) a))
  type_by i j true f n a later (suc u) e = let at : u + suc j ≡ suc u + j = omega arith in subst (λ v. told (n + i) ≤ reach v) at (later u e)
  type_by i j false f n a later t e = later t e

  type_behind : (i k n : ℕ) (o : Option ℕ) → ((m : ℕ) → o ≡ Some m → told (m + suc i) ≤ k) → following o ≡ Some n → told (n + i) ≤ k
  type_behind i k n o f e =
      let h = behind o n e in
      let next = h.next in
      let same : h.it + suc i ≡ n + i = omega (arith, next) in
      subst (λ m. told m ≤ k) same (f h.it h.there)

  type_at : (i j : ℕ) (ds : List Declared) (t n : ℕ) → types_told x i j ds ≡ true → type_object ds t ≡ Some n → told (n + i) ≤ reach (t + j)
  type_at i j [] t n a e = absurd cc
  type_at i j (d ∷ ds) t n a e =
      let b = is_type d.entity in
      let both = and_parts (is_told_at x i j d) (types_told x (suc i) (next_type b j) ds) a in
      type_by i j b (λ u. type_object ds u) n both.0
      (λ u f. type_behind i (reach (u + next_type b j)) n (type_object ds u) (λ m g. type_at (suc i) (next_type b j) ds u m both.1 g) f) t e

  pub type_told : (ds : List Declared) → types_told x 0 0 ds ≡ true → (t n : ℕ) → type_object ds t ≡ Some n → told n ≤ reach t
  type_told ds a t n e =
      let same : n + 0 ≡ n = omega arith in
      let at : t + 0 ≡ t = omega arith in
      subst (λ u. told n ≤ reach u) at (subst (λ m. told m ≤ reach (t + 0)) same (type_at 0 0 ds t n a e))

-- ---- marks

-- The mark of this number is made from a bound.
pub record Marked (ns rs : List ℕ) (i : ℕ) (bs : List Bound) (n : ℕ) (m : Mark) : Type 0 where
  pub bound : Bound
  pub there : slice_get bs n ≡ Some bound
  pub is : m ≡ mark_at ns rs (n + i) bound

marked_from : (ns rs : List ℕ) (i : ℕ) (bs : List Bound) (n : ℕ) (m : Mark) → slice_get (marks_from ns rs i bs) n ≡ Some m → Marked ns rs i bs n m
marked_from ns rs i [] n m e = absurd cc
marked_from ns rs i (b ∷ bs) zero m e = let same : i ≡ 0 + i = omega arith in record { bound = b; there = refl; is = sym (some_is (mark_at ns rs i b) m e) ∙ ap (λ k. mark_at ns rs k b) same }
  where
    some_is : (x y : Mark) → ◌≡◌ {A = Option Mark} (Some x) (Some y) → x ≡ y
    some_is x y e = cc
marked_from ns rs i (b ∷ bs) (suc n) m e =
    let h = marked_from ns rs (suc i) bs n m e in
    let same : n + suc i ≡ suc n + i = omega arith in
    record { bound = h.bound; there = h.there; is = h.is ∙ ap (λ k. mark_at ns rs k h.bound) same }

pub mark_is : (ns rs : List ℕ) (bs : List Bound) (n : ℕ) (m : Mark) → slice_get (marks_from ns rs 0 bs) n ≡ Some m → (b : Bound) × (slice_get bs n ≡ Some b) × (m ≡ mark_at ns rs n b)
mark_is ns rs bs n m e =
    let h = marked_from ns rs 0 bs n m e in
    let same : n + 0 ≡ n = omega arith in
    (h.bound, h.there, h.is ∙ ap (λ k. mark_at ns rs k h.bound) same)
