-- What a mark says of an object that a name means.
use Rattle.std.proofs.Common.{◌≡◌, ℕ, zero, suc, ◌<◌, true, List, [], ◌∷◌, length, map, Option, Some, None, refl, sym, ap, subst, ◌∙◌, arith}
use Rattle.std.specs.Prelude.{slice_get, nat_lt}
use Rattle.std.specs.Option.{option_map}
use Rattle.std.proofs.lemmas.Option.{slice_get-map, same_Some}
use Rattle.std.proofs.lemmas.Bool.{leb-true, ltb-true, lt-ltb}
use Rattle.go_tree.specs.declared.object.Object.{Object}
use Rattle.go_tree.specs.declared.object.Object.TheVariants as object
use Rattle.go_needs.specs.declared.bounds.Bound.{Bound}
use Rattle.go_needs.specs.Bounds.{AreBounds}
use Rattle.go_package_defs.specs.Knowledge.{Outline, State, state_of, needs_of}
use Rattle.go_package_laws.specs.Ranks.{reached, AllBefore, NeedBefore}
use Rattle.go_package_laws.specs.Stages.{TypesBefore}
use Rattle.go_package_laws.proofs.Public.{stands_more}
use Rattle.go_exprs_rules.specs.Scopes.{Needed, in_full, at_once, loosely}
use Rattle.go_package_stages.specs.declared.marks.Mark.{Mark}
use Rattle.go_package_stages.specs.Marks.{known_from, mark_before, is_before}
use Rattle.go_package_stages.specs.declared.numbers.Numbers.{Numbers}
use Rattle.go_package_stages.specs.Numbers.{number_at, ranks_in}
use Rattle.go_package_stages.specs.Marked.{is_reached, AreReached, mark_at, marks_from}
use Rattle.go_package_stages.proofs.StageMarks.{all_before, mark_is}

pub item_at : {A : Type 0} (xs : List A) (n : ℕ) → n < length xs → (x : A) × (slice_get xs n ≡ Some x)
item_at [] n h = absurd (omega (arith, h))
item_at (x ∷ xs) zero h = (x, refl)
item_at (x ∷ xs) (suc n) h = item_at xs n (let l : n < length xs = omega (arith, h) in l)

pub seen_at : {A B : Type 0} (f : A → B) (xs : List A) (n : ℕ) (x : A) (y : B) → slice_get xs n ≡ Some x → slice_get (map f xs) n ≡ Some y → f x ≡ y
seen_at f xs n x y e g = same_Some (f x) y (sym (ap (option_map f) e) ∙ sym (slice_get-map f xs n) ∙ g)

below : {A : Type 0} (xs : List A) (n : ℕ) (x : A) → slice_get xs n ≡ Some x → n < length xs
below [] n x e = absurd cc
below (y ∷ ys) zero x e = omega arith
below (y ∷ ys) (suc n) x e = let h = below ys n x e in omega (arith, h)

same_bound : (o : Option Bound) (a b : Bound) → o ≡ Some a → o ≡ Some b → a ≡ b
same_bound o a b e f = cc

-- no number of a mark is below that of the types that the object stands for
types_low : (n : Needed) (ns rs : List ℕ) (i : ℕ) (b : Bound) (k : ℕ) → known_from n (mark_at ns rs i b) < k → number_at rs i < k
types_low loosely ns rs i b k h = omega (arith, h)
types_low at_once ns rs i b k h = omega (arith, h)
types_low in_full ns rs i b k h = omega (arith, h)

known_more : (reach : List ℕ) (r k : ℕ) → r < k → (t : ℕ) → is_reached reach r t ≡ true → nat_lt (number_at reach t) k ≡ true
known_more reach r k h t e = let low = leb-true (number_at reach t) r e in lt-ltb (number_at reach t) k (omega (arith, low, h))

module _ (stands ns rs : List ℕ) (bs : List Bound) (os : List Outline) (bounds : AreBounds ns bs os) (many : length bs ≡ length os) (k : ℕ) where
  abbrev ms : List Mark
  ms = marks_from stands rs 0 bs

  outline : (i : ℕ) (b : Bound) → slice_get bs i ≡ Some b → (o : Outline) × (slice_get os i ≡ Some o)
  outline i b e = let l = below bs i b e in item_at os i (let h : i < length os = omega (arith, l, many) in h)

  full_before : (i : ℕ) (b : Bound) → slice_get bs i ≡ Some b → b.in_full < k → AllBefore (number_at ns) k (i ∷ needs_of in_full (slice_get os i))
  full_before i b e l =
      let o = outline i b e in
      let w = bounds.in_full i o.0 o.1 in
      let same : w.0 ≡ b = same_bound (slice_get bs i) w.0 b w.1 e in
      let low : w.0.in_full < k = subst (λ (z : Bound). z.in_full < k) (sym same) l in
      subst (λ x. AllBefore (number_at ns) k (i ∷ needs_of in_full x)) (sym o.1) (all_before ns w.0.in_full k (i ∷ o.0.fully) w.2 low)

  part_before : (i : ℕ) (b : Bound) → slice_get bs i ≡ Some b → b.at_once < k → AllBefore (number_at ns) k (i ∷ needs_of at_once (slice_get os i))
  part_before i b e l =
      let o = outline i b e in
      let w = bounds.at_once i o.0 o.1 in
      let same : w.0 ≡ b = same_bound (slice_get bs i) w.0 b w.1 e in
      let low : w.0.at_once < k = subst (λ (z : Bound). z.at_once < k) (sym same) l in
      subst (λ x. AllBefore (number_at ns) k (i ∷ needs_of at_once x)) (sym o.1) (all_before ns w.0.at_once k (i ∷ o.0.partly) w.2 low)

  need_by : (n : Needed) (i : ℕ) (b : Bound) → slice_get bs i ≡ Some b → known_from n (mark_at stands rs i b) < k → NeedBefore os (number_at ns) (number_at stands) k n (Some (object.Package i))
  need_by in_full i b e l = full_before i b e (let h : b.in_full < k = omega (arith, l) in h)
  need_by at_once i b e l = part_before i b e (let h : b.at_once < k = omega (arith, l) in h)
  need_by loosely i b e l = let h : number_at stands i < k = omega (arith, l) in h

  package_need : (n : Needed) (i : ℕ) (x : Option Mark) → slice_get ms i ≡ x → mark_before k n x ≡ true → NeedBefore os (number_at ns) (number_at stands) k n (Some (object.Package i))
  package_need n i None e h = absurd cc
  package_need n i (Some m) e h =
      let w = mark_is stands rs bs i m e in
      need_by n i w.0 w.1 (subst (λ z. known_from n z < k) w.2 (ltb-true (known_from n m) k h))

  pub need_before : (n : Needed) (o : Option Object) → is_before ms k n o ≡ true → NeedBefore os (number_at ns) (number_at stands) k n o
  need_before in_full None h = tt
  need_before at_once None h = tt
  need_before loosely None h = tt
  need_before in_full (Some object.Import) h = tt
  need_before at_once (Some object.Import) h = tt
  need_before loosely (Some object.Import) h = tt
  need_before in_full (Some (object.Predeclared x)) h = tt
  need_before at_once (Some (object.Predeclared x)) h = tt
  need_before loosely (Some (object.Predeclared x)) h = tt
  need_before in_full (Some (object.Local f i)) h = tt
  need_before at_once (Some (object.Local f i)) h = tt
  need_before loosely (Some (object.Local f i)) h = tt
  need_before n (Some (object.Package i)) h = package_need n i (slice_get ms i) refl h

  module _ (found : List State) (x : Numbers) (stood : AreReached x.reach.items rs found) where
    types_by : (n : Needed) (i : ℕ) (b : Bound) → known_from n (mark_at stands rs i b) < k → TypesBefore found (ranks_in x) k (Some (object.Package i))
    types_by n i b l =
        let low = types_low n stands rs i b k l in
        stands_more (is_reached x.reach.items (number_at rs i)) (reached (ranks_in x) k) (λ t e. known_more x.reach.items (number_at rs i) k low t e) (state_of found i).stands (stood i)

    package_types : (n : Needed) (i : ℕ) (m : Option Mark) → slice_get ms i ≡ m → mark_before k n m ≡ true → TypesBefore found (ranks_in x) k (Some (object.Package i))
    package_types n i None e h = absurd cc
    package_types n i (Some m) e h =
        let w = mark_is stands rs bs i m e in
        types_by n i w.0 (subst (λ z. known_from n z < k) w.2 (ltb-true (known_from n m) k h))

    pub types_before : (n : Needed) (o : Option Object) → is_before ms k n o ≡ true → TypesBefore found (ranks_in x) k o
    types_before n None h = tt
    types_before n (Some object.Import) h = tt
    types_before n (Some (object.Predeclared z)) h = tt
    types_before n (Some (object.Local f i)) h = tt
    types_before n (Some (object.Package i)) h = package_types n i (slice_get ms i) refl h
