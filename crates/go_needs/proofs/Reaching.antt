-- Whether a declaration needs one that fails, by levels that are right.
use Rattle.std.proofs.Common.{◌≡◌, ◌∙◌, ℕ, zero, suc, ◌<◌, ◌≤◌, Bool, true, false, ◌&&◌, ◌||◌, nat_eq, List, [], ◌∷◌, ◌++◌, Option, Some, None, is_some, refl, ap, sym, subst, arith, inl, inr, ◌⊎◌}
use Rattle.std.specs.Prelude.{if◌then◌else◌, slice_get}
use Rattle.std.specs.List.{list_any}
use Rattle.go_tree.specs.Needs.{Needed, is_same, same_way, is_known, with_one, with_all, needs, needs_of, all_needed}
use Rattle.go_package_defs.specs.Sources.{Package, number_at, number_before, needed_numbers, rounds, needed_by}
use Rattle.go_needs.specs.declared.levels.Levels.{Levels}
use Rattle.go_needs.specs.declared.owners.Owner.{Owner}
use Rattle.go_needs.specs.Calls.{calls_of, fits}
use Rattle.go_needs.specs.Levels.{level_of, nearest, near, settled}
use Rattle.go_needs.specs.Owners.{owner_of}
use Rattle.go_scopes_cycles.specs.Ranks.{Place}
use Rattle.go_needs.specs.Reached.{IsOurs}
use Rattle.go_needs.proofs.Standing.{both_left, both_right, same_number}
use Rattle.go_needs.proofs.Here.{ours_object}
use Rattle.go_needs.proofs.Called.{Each, One, Fits, Has, all_fit, all_none, one_some_level}

-- ---- lists

pub each_append : (P : Needed → Type 0) (xs ys : List Needed) → Each P xs → Each P ys → Each P (xs ++ ys)
each_append P [] ys h k = k
each_append P (x ∷ xs) ys h k = (h.0, each_append P xs ys h.1 k)

each_if : (P : Needed → Type 0) (b : Bool) (xs ys : List Needed) → Each P xs → Each P ys → Each P (if b then xs else ys)
each_if P true xs ys h k = h
each_if P false xs ys h k = k

pub each_all : (P : Needed → Type 0) (ys xs : List Needed) → Each P ys → Each P xs → Each P (with_all ys xs)
each_all P [] xs k h = h
each_all P (y ∷ ys) xs k h = each_all P ys (with_one y xs) k.1 (each_if P (is_known y xs) xs (xs ++ y ∷ []) h (each_append P xs (y ∷ []) h (k.0, tt)))

one_left : (P : Needed → Type 0) (xs ys : List Needed) → One P xs → One P (xs ++ ys)
one_left P [] ys h = absurd h
one_left P (x ∷ xs) ys (inl h) = inl h
one_left P (x ∷ xs) ys (inr h) = inr (one_left P xs ys h)

one_right : (P : Needed → Type 0) (xs ys : List Needed) → One P ys → One P (xs ++ ys)
one_right P [] ys h = h
one_right P (x ∷ xs) ys h = inr (one_right P xs ys h)

one_if : (P : Needed → Type 0) (b : Bool) (xs ys : List Needed) → One P xs → One P ys → One P (if b then xs else ys)
one_if P true xs ys h k = h
one_if P false xs ys h k = k

one_all : (P : Needed → Type 0) (ys xs : List Needed) → One P xs → One P (with_all ys xs)
one_all P [] xs h = h
one_all P (y ∷ ys) xs h = one_all P ys (with_one y xs) (one_if P (is_known y xs) xs (xs ++ y ∷ []) h (one_left P xs (y ∷ []) h))

way_same : (f g : Bool) → same_way f g ≡ true → f ≡ g
way_same true true e = refl
way_same true false e = absurd (grind (arith, e))
way_same false true e = absurd (grind (arith, e))
way_same false false e = refl

module _ (p : Package) (os all : List Owner) (ls : List Levels) (f : ℕ → Bool) where
  -- ---- the objects of what is needed

  -- It is the object of this number, needed in this way.
  pub record Is (m : ℕ) (g : Bool) (y : Needed) : Type 0 where
    pub named : number_at p y.it.file y.it.it.name ≡ Some m
    pub way : y.full ≡ g

  is_by : (x y : Needed) (m : ℕ) (g : Bool) → (is_same x.it y.it && same_way x.full y.full) ≡ true → Is m g x → Is m g y
  is_by x y m g e i =
      let same = both_left (is_same x.it y.it) (same_way x.full y.full) e in
      let file : x.it.file ≡ y.it.file = same_number x.it.file y.it.file (both_left (nat_eq x.it.file y.it.file) (nat_eq x.it.it.name y.it.it.name) same) in
      let name : x.it.it.name ≡ y.it.it.name = same_number x.it.it.name y.it.it.name (both_right (nat_eq x.it.file y.it.file) (nat_eq x.it.it.name y.it.it.name) same) in
      record {
        named = sym (ap (λ n. number_at p n x.it.it.name) file ∙ ap (λ t. number_at p y.it.file t) name) ∙ i.named;
        way = sym (way_same x.full y.full (both_right (is_same x.it y.it) (same_way x.full y.full) e)) ∙ i.way;
      }

  known_is : (x : Needed) (xs : List Needed) (m : ℕ) (g : Bool) → is_known x xs ≡ true → Is m g x → One (Is m g) xs
  known_is x [] m g e i = absurd (grind (arith, e))
  known_is x (y ∷ ys) m g e i = by (is_same x.it y.it && same_way x.full y.full) refl e (λ k. known_is x ys m g k i)
    where
      by : (b : Bool) → (is_same x.it y.it && same_way x.full y.full) ≡ b → (b || is_known x ys) ≡ true → (is_known x ys ≡ true → One (Is m g) ys) → One (Is m g) (y ∷ ys)
      by true h k rest = inl (is_by x y m g h i)
      by false h k rest = inr (rest k)

  one_new : (x : Needed) (xs : List Needed) (m : ℕ) (g : Bool) → Is m g x → One (Is m g) (with_one x xs)
  one_new x xs m g i = by (is_known x xs) refl
    where
      by : (b : Bool) → is_known x xs ≡ b → One (Is m g) (if b then xs else xs ++ x ∷ [])
      by true h = known_is x xs m g h i
      by false h = one_right (Is m g) xs (x ∷ []) (inl i)

  all_new : (ys xs : List Needed) (m : ℕ) (g : Bool) → One (Is m g) ys → One (Is m g) (with_all ys xs)
  all_new [] xs m g h = absurd h
  all_new (y ∷ ys) xs m g (inl i) = one_all (Is m g) ys (with_one y xs) (one_new y xs m g i)
  all_new (y ∷ ys) xs m g (inr h) = all_new ys (with_one y xs) m g h

  stays : (k : ℕ) (xs : List Needed) (m : ℕ) (g : Bool) → One (Is m g) xs → One (Is m g) (all_needed p.asked k xs)
  stays zero xs m g h = h
  stays (suc k) xs m g h = stays k (with_all (needs_of p.asked xs) xs) m g (one_all (Is m g) (needs_of p.asked xs) xs h)

  -- ---- the numbers of what is needed

  before_fails : (o : Option ℕ) (ns : List ℕ) → list_any f ns ≡ true → list_any f (number_before o ns) ≡ true
  before_fails None ns e = e
  before_fails (Some n) ns e = by (f n)
    where
      by : (b : Bool) → (b || list_any f ns) ≡ true
      by true = refl
      by false = e

  one_fails : (xs : List Needed) (m : ℕ) (g : Bool) → f m ≡ true → One (Is m g) xs → list_any f (needed_numbers p xs) ≡ true
  one_fails [] m g e h = absurd h
  one_fails (x ∷ xs) m g e (inl i) = ap (λ o. list_any f (number_before o (needed_numbers p xs))) i.named ∙ ap (λ b. b || list_any f (needed_numbers p xs)) e
  one_fails (x ∷ xs) m g e (inr h) = before_fails (number_at p x.it.file x.it.it.name) (needed_numbers p xs) (one_fails xs m g e h)

  -- ---- levels

  abbrev levels : Place → Option ℕ
  levels = nearest ls (calls_of p.uses all p.asked)

  module _ (others : List Owner) (ok : fits p.uses os all p.asked ≡ true) (among : all ≡ os ++ others) where
    ours : (y : Needed) → Fits p os all y → IsOurs all y.it.file y.it.it.source
    ours y t = subst (λ ws. IsOurs ws y.it.file y.it.it.source) (sym among) (ours_object os others y.it.file y.it.it.source (owner_of y.it) t.number t.owner refl refl)

    fit_all : (xs : List Needed) → Each (Fits p os all) xs → Each (Fits p os all) (needs_of p.asked xs)
    fit_all [] h = tt
    fit_all (x ∷ xs) h = each_append (Fits p os all) (needs p.asked x) (needs_of p.asked xs) (all_fit p os all p.asked x (ours x h.0) ok) (fit_all xs h.1)

    abbrev start : Needed → List Needed
    start x = with_all (needs p.asked x) []

    fit_start : (x : Needed) → IsOurs all x.it.file x.it.it.source → Each (Fits p os all) (start x)
    fit_start x our = each_all (Fits p os all) (needs p.asked x) [] (all_fit p os all p.asked x our ok) tt

    -- ---- one fails

    -- One of the list is the object of this number, needed in this way.
    record Picked (m : ℕ) (g : Bool) (xs : List Needed) : Type 1 where
      it : Needed
      fit : Fits p os all it
      number : fit.number ≡ m
      way : it.full ≡ g
      more : (P : Needed → Type 0) → One P (needs p.asked it) → One P (needs_of p.asked xs)

    some_same : (m n : ℕ) → ◌≡◌ {A = Option ℕ} (Some m) (Some n) → m ≡ n
    some_same m n e = grind (arith, e)

    pick : (xs : List Needed) (m : ℕ) (g : Bool) → Each (Fits p os all) xs → One (Is m g) xs → Picked m g xs
    pick [] m g h o = absurd o
    pick (x ∷ xs) m g h (inl i) = record {
      it = x;
      fit = h.0;
      number = some_same h.0.number m (sym h.0.named ∙ i.named);
      way = i.way;
      more = λ P o. one_left P (needs p.asked x) (needs_of p.asked xs) o;
    }
    pick (x ∷ xs) m g h (inr o) =
        let w = pick xs m g h.1 o in
        record { it = w.it; fit = w.fit; number = w.number; way = w.way; more = λ P q. one_right P (needs p.asked x) (needs_of p.asked xs) (w.more P q) }

    -- The object of this number has this level.
    record Level (j : ℕ) (xs : List Needed) : Type 0 where
      number : ℕ
      way : Bool
      one : One (Is number way) xs
      level : level_of ls number way ≡ Some j

    level_in : (j : ℕ) (xs : List Needed) → One (Has p os all ls (Some j)) xs → Level j xs
    level_in j [] h = absurd h
    level_in j (x ∷ xs) (inl h) = record { number = h.fit.number; way = x.full; one = inl (record { named = h.fit.named; way = refl }); level = h.level }
    level_in j (x ∷ xs) (inr h) = let w = level_in j xs h in record { number = w.number; way = w.way; one = inr w.one; level = w.level }

    -- It needs one of a lower level, of which Q holds.
    pub record Lower (Q : ℕ → Type 0) (l : ℕ) (n : Option ℕ) : Type 0 where
      pub next : ℕ
      pub is : n ≡ Some next
      pub below : next < l
      pub good : Q next

    module _ (Q : ℕ → Type 0) (down : (m : ℕ) (g : Bool) (o : Owner) (l : ℕ) → slice_get os m ≡ Some o → level_of ls m g ≡ Some l → Q l → (f m ≡ true) ⊎ Lower Q l (near levels o g)) where
      found_by : (k : ℕ) (xs : List Needed) (m : ℕ) (g : Bool) (l : ℕ) → Each (Fits p os all) xs → One (Is m g) xs → level_of ls m g ≡ Some l → Q l
          → ((j : ℕ) → j < l → Q j → One (Has p os all ls (Some j)) (needs_of p.asked xs) → list_any f (needed_numbers p (all_needed p.asked k xs)) ≡ true) → list_any f (needed_numbers p (all_needed p.asked k xs)) ≡ true
      found_by k xs m g l h o e q next =
          let w = pick xs m g h o in
          let same : level_of ls w.fit.number w.it.full ≡ Some l = ap (λ n. level_of ls n w.it.full) w.number ∙ (ap (level_of ls m) w.way ∙ e) in
          by w (down w.fit.number w.it.full (owner_of w.it.it) l w.fit.owner same q)
        where
          by : (w : Picked m g xs) → (f w.fit.number ≡ true) ⊎ Lower Q l (near levels (owner_of w.it.it) w.it.full) → list_any f (needed_numbers p (all_needed p.asked k xs)) ≡ true
          by w (inl b) = one_fails (all_needed p.asked k xs) m g (ap f (sym w.number) ∙ b) (stays k xs m g o)
          by w (inr v) = next v.next v.below v.good (w.more (Has p os all ls (Some v.next)) (one_some_level p os all ls w.it v.next ok v.is))

      found : (k : ℕ) (xs : List Needed) (m : ℕ) (g : Bool) (l : ℕ) → Each (Fits p os all) xs → One (Is m g) xs → level_of ls m g ≡ Some l → Q l → l ≤ k → list_any f (needed_numbers p (all_needed p.asked k xs)) ≡ true
      found zero xs m g l h o e q high = found_by zero xs m g l h o e q (λ j below b w. absurd (omega (arith, below, high)))
      found (suc k) xs m g l h o e q high = found_by (suc k) xs m g l h o e q (λ j below b one.
          let w = level_in j (needs_of p.asked xs) one in
          found k (with_all (needs_of p.asked xs) xs) w.number w.way j (each_all (Fits p os all) (needs_of p.asked xs) xs (fit_all xs h) h) (all_new (needs_of p.asked xs) xs w.number w.way w.one) w.level b (omega (arith, below, high)))

      -- what a declaration needs with a level of which Q holds has one that fails
      pub reaches_from : (x : Needed) (j : ℕ) → IsOurs all x.it.file x.it.it.source → near levels (owner_of x.it) x.full ≡ Some j → Q j → j ≤ rounds p → list_any f (needed_by p x) ≡ true
      reaches_from x j our e q high =
          let w = level_in j (needs p.asked x) (one_some_level p os all ls x j ok e) in
          found (rounds p) (start x) w.number w.way j (fit_start x our) (all_new (needs p.asked x) [] w.number w.way w.one) w.level q high

    -- ---- levels that are right

    module _ (r : ℕ) (right : (m : ℕ) (g : Bool) (o : Owner) → slice_get os m ≡ Some o → settled (f m) (level_of ls m g) (near levels o g) r ≡ true) where
      -- ---- none fails

      not_failing : (b : Bool) (l n : Option ℕ) → settled b l n r ≡ true → l ≡ None → b ≡ false
      not_failing b None n e h = grind (arith, e)
      not_failing b (Some l) n e h = absurd (grind (arith, h))

      next_none : (b : Bool) (l n : Option ℕ) → settled b l n r ≡ true → l ≡ None → n ≡ None
      next_none b None None e h = refl
      next_none b None (Some j) e h = absurd (grind (arith, e))
      next_none b (Some l) n e h = absurd (grind (arith, h))

      none_more : (xs : List Needed) → Each (Has p os all ls None) xs → Each (Has p os all ls None) (needs_of p.asked xs)
      none_more [] h = tt
      none_more (x ∷ xs) h =
          let t = h.0.fit in
          let next = next_none (f t.number) (level_of ls t.number x.full) (near levels (owner_of x.it) x.full) (right t.number x.full (owner_of x.it) t.owner) h.0.level in
          each_append (Has p os all ls None) (needs p.asked x) (needs_of p.asked xs) (all_none p os all ls x (ours x t) ok next) (none_more xs h.1)

      none_through : (k : ℕ) (xs : List Needed) → Each (Has p os all ls None) xs → Each (Has p os all ls None) (all_needed p.asked k xs)
      none_through zero xs h = h
      none_through (suc k) xs h = none_through k (with_all (needs_of p.asked xs) xs) (each_all (Has p os all ls None) (needs_of p.asked xs) xs (none_more xs h) h)

      none_fails : (xs : List Needed) → Each (Has p os all ls None) xs → list_any f (needed_numbers p xs) ≡ false
      none_fails [] h = refl
      none_fails (x ∷ xs) h =
          let t = h.0.fit in
          let clear : f t.number ≡ false = not_failing (f t.number) (level_of ls t.number x.full) (near levels (owner_of x.it) x.full) (right t.number x.full (owner_of x.it) t.owner) h.0.level in
          ap (λ o. list_any f (number_before o (needed_numbers p xs))) t.named ∙ (ap (λ b. b || list_any f (needed_numbers p xs)) clear ∙ none_fails xs h.1)

      not_high : (b : Bool) (l : ℕ) (n : Option ℕ) → settled b (Some l) n r ≡ true → l ≤ r
      not_high b l n e = grind (arith, e)

      abbrev Any : ℕ → Type 0
      Any l = Unit {0}

      fails_or : (b : Bool) (l : ℕ) (n : Option ℕ) → settled b (Some l) n r ≡ true → (b ≡ true) ⊎ Lower Any l n
      fails_or true l n e = inl refl
      fails_or false l None e = absurd (grind (arith, e))
      fails_or false l (Some j) e = inr (record { next = j; is = refl; below = grind (arith, e); good = tt })

      down : (m : ℕ) (g : Bool) (o : Owner) (l : ℕ) → slice_get os m ≡ Some o → level_of ls m g ≡ Some l → Any l → (f m ≡ true) ⊎ Lower Any l (near levels o g)
      down m g o l h e q = fails_or (f m) l (near levels o g) (sym (ap (λ v. settled (f m) v (near levels o g) r) e) ∙ right m g o h)

      picked_low : (m : ℕ) (g : Bool) (xs : List Needed) (j : ℕ) → Picked m g xs → level_of ls m g ≡ Some j → j ≤ r
      picked_low m g xs j w e =
          let same : level_of ls w.fit.number w.it.full ≡ Some j = ap (λ n. level_of ls n w.it.full) w.number ∙ (ap (level_of ls m) w.way ∙ e) in
          not_high (f w.fit.number) j (near levels (owner_of w.it.it) w.it.full) (sym (ap (λ v. settled (f w.fit.number) v (near levels (owner_of w.it.it) w.it.full) r) same) ∙ right w.fit.number w.it.full (owner_of w.it.it) w.fit.owner)

      near_low : (x : Needed) (j : ℕ) → IsOurs all x.it.file x.it.it.source → near levels (owner_of x.it) x.full ≡ Some j → j ≤ r
      near_low x j our e =
          let w = level_in j (needs p.asked x) (one_some_level p os all ls x j ok e) in
          picked_low w.number w.way (start x) j (pick (start x) w.number w.way (fit_start x our) (all_new (needs p.asked x) [] w.number w.way w.one)) w.level

      reaches_by : (x : Needed) → IsOurs all x.it.file x.it.it.source → r ≤ rounds p → (o : Option ℕ) → near levels (owner_of x.it) x.full ≡ o → is_some o ≡ list_any f (needed_by p x)
      reaches_by x our high None e = sym (none_fails (all_needed p.asked (rounds p) (start x)) (none_through (rounds p) (start x) (each_all (Has p os all ls None) (needs p.asked x) [] (all_none p os all ls x our ok e) tt)))
      reaches_by x our high (Some j) e = let low = near_low x j our e in sym (reaches_from Any down x j our e tt (omega (arith, low, high)))

      pub reaches : (x : Needed) → IsOurs all x.it.file x.it.it.source → r ≤ rounds p → is_some (near levels (owner_of x.it) x.full) ≡ list_any f (needed_by p x)
      reaches x our high = reaches_by x our high (near levels (owner_of x.it) x.full) refl
