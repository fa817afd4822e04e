-- No type of a table contains itself, so what a type holds comes to an end.
use Rattle.std.proofs.Common.{◌≡◌, ℕ, zero, suc, ◌+◌, ◌<◌, ◌≤◌, ◌⊎◌, inl, inr, List, [], ◌∷◌, Option, Some, None, map, length, refl, sym, ◌∙◌, ap, subst, arith, Bool, true, false, cond, eqb, ◌||◌}
use Rattle.std.specs.Prelude.{slice_get, ◌&&◌}
use Rattle.std.specs.List.{AllByRecursion, list_any, list_all, IsDistinct}
use Rattle.std.proofs.lemmas.Bool.{eqb-true}
use Rattle.std.proofs.lemmas.Map.Steps.{length-le_from_distinct_below}
use Rattle.go_types.specs.declared.shape.Shape.{Shape}
use Rattle.go_types.specs.declared.shape.Shape.TheVariants as shape
use Rattle.go_types.specs.Tables.{Table, IsTable, HasShape, HasRightId, HasPartsBelow, is_declaration, option_list, held, Holds, Contains, at_once, through, NoneContainsItself}
use Rattle.go_types.proofs.Places.{all_at, get_within}

-- ---- one step

pub declared_or_not : (s : Shape) → ((n : ℕ) × (s ≡ shape.Named n)) ⊎ (is_declaration s ≡ false)
declared_or_not shape.Bool = inr refl
declared_or_not shape.Text = inr refl
declared_or_not (shape.Int k) = inr refl
declared_or_not (shape.Array n e) = inr refl
declared_or_not (shape.Slice e) = inr refl
declared_or_not (shape.Struct fs) = inr refl
declared_or_not (shape.Func ps rs) = inr refl
declared_or_not (shape.Named n) = inl (n, refl)

-- what a shape that isn't declared holds is a part
pub held_part : (t : Table) (s : Shape) (i k j : ℕ) → is_declaration s ≡ false → HasPartsBelow i s → slice_get (held t s) k ≡ Some j → j < i
held_part t shape.Bool i k j d b e = cc
held_part t shape.Text i k j d b e = cc
held_part t (shape.Int _) i k j d b e = cc
held_part t (shape.Array n p) i k j d b e = all_at (λ q. q < i) (p ∷ []) k j b e
held_part t (shape.Slice _) i k j d b e = cc
held_part t (shape.Struct fs) i k j d b e = all_at (λ q. q < i) (map (λ f. f.ty) fs) k j b e
held_part t (shape.Func _ _) i k j d b e = cc
held_part t (shape.Named n) i k j d b e = cc

-- the right side that is listed
pub listed_right : (o : Option (Option ℕ)) (k j : ℕ) → slice_get (option_list o) k ≡ Some j → o ≡ Some (Some j)
listed_right None k j e = cc
listed_right (Some None) k j e = cc
listed_right (Some (Some r)) zero j e = let same : r ≡ j = cc in ap (λ x. Some (Some x)) same
listed_right (Some (Some r)) (suc k) j e = cc

pub right_listed : (o : Option (Option ℕ)) (j : ℕ) → o ≡ Some (Some j) → slice_get (option_list o) 0 ≡ Some j
right_listed o j e = ap (λ x. slice_get (option_list x) 0) e

pub held_within : (t : Table) → IsTable t → (i j : ℕ) → Holds t i j → j < length t.shapes
held_within t ok i j h =
    elim (declared_or_not h.its_shape) [
      | inl d ↦
          let at : slice_get (option_list (slice_get t.rights d.0)) h.place ≡ Some j = ap (λ s. slice_get (held t s) h.place) (sym d.1) ∙ h.held_is in
          (ok.right_sides d.0 j (listed_right (slice_get t.rights d.0) h.place j at)).0
      | inr n ↦
          let within = get_within t.shapes i h.its_shape h.shape_is in
          let below = held_part t h.its_shape i h.place j n (ok.parts_below i h.its_shape h.shape_is) h.held_is in
          omega (arith, within, below)
    ]

-- a declared type holds its right side
pub holds_right : (t : Table) (i n r : ℕ) → HasShape t i (shape.Named n) → HasRightId t n r → Holds t i r
holds_right t i n r s h = record { its_shape = shape.Named n; shape_is = s; place = 0; held_is = right_listed (slice_get t.rights n) r h }

-- a step goes to a smaller number, or starts at a declared type
step : (t : Table) → IsTable t → (i j : ℕ) → Holds t i j → (j < i) ⊎ ((n : ℕ) × HasShape t i (shape.Named n))
step t ok i j h =
    elim (declared_or_not h.its_shape) [
      | inl d ↦ inr (d.0, h.shape_is ∙ ap Some d.1)
      | inr n ↦ inl (held_part t h.its_shape i h.place j n (ok.parts_below i h.its_shape h.shape_is) h.held_is)
    ]

-- ---- many steps

pub Contains_trans : (t : Table) (i j k : ℕ) → Contains t i j → Contains t j k → Contains t i k
Contains_trans t i j k (at_once _ _ h) d = through i j k h d
Contains_trans t i j k (through _ m _ h c) d = through i m k h (Contains_trans t m j k c d)

-- a declared type on the way from i to j
record OnTheWay (t : Table) (i j : ℕ) : Type 0 where
  declared_type : ℕ
  number : ℕ
  is_declared : HasShape t declared_type (shape.Named number)
  before : (i ≡ declared_type) ⊎ Contains t i declared_type
  behind : Contains t declared_type j

way : (t : Table) → IsTable t → (i j : ℕ) → Contains t i j → (j < i) ⊎ OnTheWay t i j
way t ok i j (at_once _ _ h) =
    elim (step t ok i j h) [
      | inl l ↦ inl l
      | inr d ↦ inr (record { declared_type = i; number = d.0; is_declared = d.1; before = inl refl; behind = at_once i j h })
    ]
way t ok i j (through _ k _ h c) =
    elim (way t ok k j c) [
      | inl l ↦
          elim (step t ok i k h) [
            | inl m ↦ inl (omega (arith, l, m))
            | inr d ↦ inr (record { declared_type = i; number = d.0; is_declared = d.1; before = inl refl; behind = through i k j h c })
          ]
      | inr w ↦
          let so_far : Contains t i w.declared_type =
          elim w.before [
            | inl e ↦ subst (Contains t i) e (at_once i k h)
            | inr b ↦ through i k w.declared_type h b
          ] in
          inr (record { declared_type = w.declared_type; number = w.number; is_declared = w.is_declared; before = inr so_far; behind = w.behind })
    ]

pub contains_not_itself : (t : Table) → IsTable t → (i : ℕ) → Contains t i i → ⊥
contains_not_itself t ok i c =
    elim (way t ok i i c) [
      | inl l ↦ omega (arith, l)
      | inr w ↦
          let round : Contains t w.declared_type w.declared_type =
          elim w.before [
            | inl e ↦ subst (Contains t w.declared_type) e w.behind
            | inr b ↦ Contains_trans t w.declared_type i w.declared_type w.behind b
          ] in
          ok.finite w.declared_type w.number w.is_declared round
    ]

-- ---- how far steps go

abbrev held_at : Table → Option Shape → List ℕ
held_at t None = []
held_at t (Some s) = held t s

-- no more than so many steps lead on from a type
unfoldable pub unfolds : ℕ → Table → ℕ → Bool
unfolds zero t i = false
unfolds (suc n) t i = list_all (unfolds n t) (held_at t (slice_get t.shapes i))

-- the numbers below n of steps that are too few
unfoldable pub waits : ℕ → Table → ℕ → ℕ
waits zero t i = 0
waits (suc n) t i = waits n t i + cond (unfolds n t i) 0 1

all_pass : (p : ℕ → Bool) (xs : List ℕ) (k x : ℕ) → list_all p xs ≡ true → slice_get xs k ≡ Some x → p x ≡ true
all_pass p [] k x a e = cc
all_pass p (y ∷ ys) zero x a e =
    let same : y ≡ x = cc in
    let here : p y ≡ true = elim (p y) as (λ b. ((b && list_all p ys) ≡ true) → b ≡ true) [ true ↦ λ h. refl | false ↦ λ h. h ] a in
    subst (λ z. p z ≡ true) same here
all_pass p (y ∷ ys) (suc k) x a e =
    let rest : list_all p ys ≡ true = elim (p y) as (λ b. ((b && list_all p ys) ≡ true) → list_all p ys ≡ true) [ true ↦ λ h. h | false ↦ λ h. cc ] a in
    all_pass p ys k x rest e

record Fails (p : ℕ → Bool) (xs : List ℕ) : Type 0 where
  at : ℕ
  which : ℕ
  there : slice_get xs at ≡ Some which
  fails : p which ≡ false

one_fails : (p : ℕ → Bool) (xs : List ℕ) → list_all p xs ≡ false → Fails p xs
one_fails p [] a = cc
one_fails p (y ∷ ys) a = by (p y) refl (one_fails p ys)
  where
    by : (b : Bool) → p y ≡ b → (list_all p ys ≡ false → Fails p ys) → Fails p (y ∷ ys)
    by false e later = record { at = 0; which = y; there = refl; fails = e }
    by true e later =
        let rest : list_all p ys ≡ false = ap (λ b. b && list_all p ys) (sym e) ∙ a in
        let f = later rest in
        record { at = suc f.at; which = f.which; there = f.there; fails = f.fails }

-- a way from i
abbrev IsPath : Table → ℕ → List ℕ → Type 0
IsPath t i [] = Unit {0}
IsPath t i (j ∷ js) = Holds t i j × IsPath t j js

shape_held : (t : Table) (i k j : ℕ) (o : Option Shape) → slice_get t.shapes i ≡ o → slice_get (held_at t o) k ≡ Some j → Holds t i j
shape_held t i k j None e h = cc
shape_held t i k j (Some s) e h = record { its_shape = s; shape_is = e; place = k; held_is = h }

stuck : (t : Table) (n i : ℕ) → unfolds n t i ≡ false → (js : List ℕ) × IsPath t i js × (length js ≡ n)
unfolding unfolds
stuck t zero i e = ([], tt, refl)
stuck t (suc n) i e =
    let f = one_fails (unfolds n t) (held_at t (slice_get t.shapes i)) e in
    let rest = stuck t n f.which f.fails in
    let size : length rest.0 ≡ n = rest.2 in
    (f.which ∷ rest.0, (shape_held t i f.at f.which (slice_get t.shapes i) refl f.there, rest.1), omega arith)

-- ---- every type comes to an end

reached : (t : Table) (i : ℕ) (js : List ℕ) (q : ℕ) → IsPath t i js → list_any (eqb q) js ≡ true → Contains t i q
reached t i [] q p e = cc
reached t i (j ∷ js) q p e = by (eqb q j) refl (reached t j js q p.1)
  where
    by : (b : Bool) → eqb q j ≡ b → (list_any (eqb q) js ≡ true → Contains t j q) → Contains t i q
    by true h later = at_once i q (subst (Holds t i) (sym (eqb-true q j h)) p.0)
    by false h later = through i j q p.0 (later (ap (λ b. b || list_any (eqb q) js) (sym h) ∙ e))

none_is : (x : ℕ) (js : List ℕ) → (list_any (eqb x) js ≡ true → ⊥) → AllByRecursion (λ y. eqb x y ≡ false) js
none_is x [] f = tt
none_is x (j ∷ js) f = by (eqb x j) refl (none_is x js)
  where
    by : (b : Bool) → eqb x j ≡ b → ((list_any (eqb x) js ≡ true → ⊥) → AllByRecursion (λ y. eqb x y ≡ false) js) → AllByRecursion (λ y. eqb x y ≡ false) (j ∷ js)
    by true h later = absurd (f (ap (λ b. b || list_any (eqb x) js) h))
    by false h later = (h, later (λ there. f (ap (λ b. b || list_any (eqb x) js) h ∙ there)))

path_distinct : (t : Table) → IsTable t → (i : ℕ) (js : List ℕ) → IsPath t i js → IsDistinct eqb js
unfolding IsDistinct
path_distinct t ok i [] p = tt
path_distinct t ok i (j ∷ js) p = (none_is j js (λ e. contains_not_itself t ok j (reached t j js j p.1 e)), path_distinct t ok j js p.1)

contained_within : (t : Table) → IsTable t → (i j : ℕ) → Contains t i j → j < length t.shapes
contained_within t ok i j (at_once _ _ h) = held_within t ok i j h
contained_within t ok i j (through _ k _ h c) = contained_within t ok k j c

all_unfold : (t : Table) → IsTable t → (i : ℕ) → unfolds (suc (length t.shapes)) t i ≡ true
all_unfold t ok i = by (unfolds (suc (length t.shapes)) t i) refl
  where
    by : (b : Bool) → unfolds (suc (length t.shapes)) t i ≡ b → unfolds (suc (length t.shapes)) t i ≡ true
    by true e = e
    by false e =
        let s = stuck t (suc (length t.shapes)) i e in
        let size : length s.0 ≡ suc (length t.shapes) = s.2 in
        let few = length-le_from_distinct_below s.0 (length t.shapes) (path_distinct t ok i s.0 s.1) (λ q m. contained_within t ok i q (reached t i s.0 q s.1 m)) in
        absurd (omega (arith, size, few))

one_more : (t : Table) (n i j : ℕ) → Holds t i j → unfolds (suc n) t i ≡ true → unfolds n t j ≡ true
unfolding unfolds
one_more t n i j h e =
    let all : list_all (unfolds n t) (held t h.its_shape) ≡ true = ap (λ o. list_all (unfolds n t) (held_at t o)) (sym h.shape_is) ∙ e in
    all_pass (unfolds n t) (held t h.its_shape) h.place j all h.held_is

last_wait : (t : Table) (n i j : ℕ) → Holds t i j → cond (unfolds n t j) 0 1 ≤ cond (unfolds (suc n) t i) 0 1
last_wait t n i j h = by (unfolds (suc n) t i) refl
  where
    by : (b : Bool) → unfolds (suc n) t i ≡ b → cond (unfolds n t j) 0 1 ≤ cond (unfolds (suc n) t i) 0 1
    by true e = let there = one_more t n i j h e in rw (e, there) (omega arith)
    by false e = rw e (elim (unfolds n t j) as (λ b. cond b 0 1 ≤ 1) [ true ↦ omega arith | false ↦ omega arith ])

fewer_wait : (t : Table) (n i j : ℕ) → Holds t i j → suc (waits n t j) ≤ waits (suc n) t i
unfolding waits unfolds
fewer_wait t zero i j h = omega arith
fewer_wait t (suc n) i j h =
    let before : suc (waits n t j) ≤ waits (suc n) t i = fewer_wait t n i j h in
    let last : cond (unfolds n t j) 0 1 ≤ cond (unfolds (suc n) t i) 0 1 = last_wait t n i j h in
    omega (arith, before, last)

-- the measure of what a type holds
unfoldable pub depth : Table → ℕ → ℕ
depth t i = waits (suc (suc (length t.shapes))) t i

pub shallower : (t : Table) → IsTable t → (i j : ℕ) → Holds t i j → depth t j < depth t i
unfolding depth waits
shallower t ok i j h =
    let none : ℕ = 0 in
    let ends : cond (unfolds (suc (length t.shapes)) t j) 0 1 ≡ none = ap (λ b. cond b none 1) (all_unfold t ok j) in
    let less : suc (waits (suc (length t.shapes)) t j) ≤ waits (suc (suc (length t.shapes))) t i = fewer_wait t (suc (length t.shapes)) i j h in
    omega (arith, ends, less)

-- ---- measures

contained_less : (t : Table) (measure : ℕ → ℕ) → ((i j : ℕ) → Holds t i j → measure j < measure i) → (i j : ℕ) → Contains t i j → measure j < measure i
contained_less t measure f i j (at_once _ _ h) = f i j h
contained_less t measure f i j (through _ k _ h c) =
    let first = f i k h in
    let rest = contained_less t measure f k j c in
    omega (arith, first, rest)

pub measured_finite : (t : Table) (measure : ℕ → ℕ) → ((i j : ℕ) → Holds t i j → measure j < measure i) → NoneContainsItself t
measured_finite t measure f i n h c = let less = contained_less t measure f i i c in omega (arith, less)
