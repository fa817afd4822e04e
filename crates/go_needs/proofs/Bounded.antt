-- Ranks of what objects need, by numbers that bound them.
use Rattle.std.proofs.Common.{◌≡◌, ◌∙◌, ℕ, zero, suc, ◌-◌, ◌+◌, ◌≤◌, Bool, true, false, ◌&&◌, nat_le, List, [], ◌∷◌, ◌++◌, map, Option, Some, None, refl, ap, sym, subst, arith}
use Rattle.std.specs.Prelude.{if◌then◌else◌, slice_get}
use Rattle.std.specs.HashMap.{HashMap}
use Rattle.std.specs.HashMap as hash
use Rattle.go_tree.specs.Needs.{Needed, with_all, needs, needs_of, all_needed}
use Rattle.go_package_defs.specs.Declarations.{Specification}
use Rattle.go_package_defs.specs.Knowledge.{Outline, outlines}
use Rattle.go_package_defs.specs.Sources.{Package, number_before, needed_numbers, rounds, needed_by}
use Rattle.go_needs.specs.declared.bounds.Bound.{Bound}
use Rattle.go_needs.specs.declared.calls.Call.{Call}
use Rattle.go_needs.specs.declared.levels.Levels.{Levels}
use Rattle.go_needs.specs.declared.needs.Needs.{Needs}
use Rattle.go_needs.specs.declared.owners.Owner.{Owner}
use Rattle.go_scopes_cycles.specs.declared.ranks.Part.TheVariants as part
use Rattle.go_needs.specs.Bounds.{AtMost, AllAtMost, AreBounds, level_under, is_low, bounds_one, bounds_by, is_bounded, are_bounded}
use Rattle.go_needs.specs.Calls.{calls_of, fits}
use Rattle.go_needs.specs.Levels.{level_of, nearer, here, nearest, near_in, near, KnowsNearest}
use Rattle.go_needs.specs.Owners.{owner_of}
use Rattle.go_scopes_cycles.specs.Ranks.{Place, same_place, own_part}
use Rattle.go_needs.specs.Reached.{IsOurs}
use Rattle.go_needs.specs.Tells.{TellsNeeds}
use Rattle.go_needs.proofs.Called.{Each, Fits, Has, all_none}
use Rattle.go_needs.proofs.Here.{ours_object}
use Rattle.go_needs.proofs.Knowing.{needed_of, needs_found, everything, as_many_outlines}
use Rattle.go_needs.proofs.Maps.{At, item_at, below}
use Rattle.go_needs.proofs.Reaching.{each_append, each_all}
use Rattle.go_needs.proofs.Settled.{near_same}
use Rattle.go_needs.proofs.Standing.{both_left, both_right}

-- ---- levels below l alone

abbrev cut_one : ℕ → Option ℕ → Option ℕ
cut_one l None = None
cut_one l (Some j) = if nat_le l j then None else Some j

abbrev cut : ℕ → Levels → Levels
cut l x = record { partly = cut_one l x.partly; fully = cut_one l x.fully }

cut_level : (l : ℕ) (ls : List Levels) (m : ℕ) (g : Bool) → level_of (map (cut l) ls) m g ≡ cut_one l (level_of ls m g)
cut_level l [] m g = refl
cut_level l (x ∷ ls) zero true = refl
cut_level l (x ∷ ls) zero false = refl
cut_level l (x ∷ ls) (suc m) g = cut_level l ls m g

cut_none : (l : ℕ) (o : Option ℕ) → is_low l o ≡ true → cut_one l o ≡ None
cut_none l None e = refl
cut_none l (Some j) e = ap (λ b. if b then None else Some j) e

none_cut : (l j : ℕ) (b : Bool) → nat_le l j ≡ b → (if b then None else Some j) ≡ None → l ≤ j
none_cut l j true h e = grind (arith, h)
none_cut l j false h e = absurd (grind (arith, e))

low_left : (l : ℕ) (a b : Option ℕ) → is_low l (nearer a b) ≡ true → is_low l a ≡ true
low_left l None b e = refl
low_left l (Some x) None e = e
low_left l (Some x) (Some y) e = grind (arith, e)

low_right : (l : ℕ) (a b : Option ℕ) → is_low l (nearer a b) ≡ true → is_low l b ≡ true
low_right l None b e = e
low_right l (Some x) None e = refl
low_right l (Some x) (Some y) e = grind (arith, e)

here_by : (l : ℕ) (b : Bool) (o w : Option ℕ) → w ≡ cut_one l o → is_low l (if b then o else None) ≡ true → (if b then w else None) ≡ None
here_by l true o w e h = e ∙ cut_none l o h
here_by l false o w e h = refl

here_cut : (l : ℕ) (q : Option Place) (k : Place) (o w : Option ℕ) → w ≡ cut_one l o → is_low l (here q k o) ≡ true → here q k w ≡ None
here_cut l None k o w e h = refl
here_cut l (Some q) k o w e h = here_by l (same_place q k) o w e h

nearest_cut : (l : ℕ) (ls : List Levels) (cs : List Call) (k : Place) → is_low l (nearest ls cs k) ≡ true → nearest (map (cut l) ls) cs k ≡ None
nearest_cut l ls [] k e = refl
nearest_cut l ls (c ∷ cs) k e =
    let full = here c.full k (level_of ls c.number true) in
    let partial = here c.partial k (level_of ls c.number false) in
    let rest = nearest ls cs k in
    let more = low_right l full (nearer partial rest) e in
    let one = here_cut l c.full k (level_of ls c.number true) (level_of (map (cut l) ls) c.number true) (cut_level l ls c.number true) (low_left l full (nearer partial rest) e) in
    let two = here_cut l c.partial k (level_of ls c.number false) (level_of (map (cut l) ls) c.number false) (cut_level l ls c.number false) (low_left l partial rest more) in
    ap (λ o. nearer o (nearer (here c.partial k (level_of (map (cut l) ls) c.number false)) (nearest (map (cut l) ls) cs k))) one
    ∙ (ap (λ o. nearer o (nearest (map (cut l) ls) cs k)) two ∙ nearest_cut l ls cs k (low_right l partial rest more))

near_cut : (l : ℕ) (g h : Place → Option ℕ) → ((k : Place) → is_low l (g k) ≡ true → h k ≡ None) → (n : ℕ) (s : Option ℕ) (c : ℕ) (f : Bool) → is_low l (near_in g n s c f) ≡ true → near_in h n s c f ≡ None
near_cut l g h cuts n None c f e = refl
near_cut l g h cuts n (Some s) c f e =
    let always = g ((n, s), part.Always) in
    let value = g ((n, s), part.Value c) in
    let own = g ((n, s), own_part f) in
    let more = low_right l always (nearer value own) e in
    ap (λ o. nearer o (nearer (h ((n, s), part.Value c)) (h ((n, s), own_part f)))) (cuts ((n, s), part.Always) (low_left l always (nearer value own) e))
    ∙ (ap (λ o. nearer o (h ((n, s), own_part f))) (cuts ((n, s), part.Value c) (low_left l value own more)) ∙ cuts ((n, s), own_part f) (low_right l value own more))

-- ---- one object

abbrev bound_of : Bool → Bound → ℕ
bound_of true b = b.in_full
bound_of false b = b.at_once

level_at : (top : ℕ) (bs : List Bound) (m : ℕ) (b : Bound) (g : Bool) → slice_get bs m ≡ Some b → level_of (map (level_under top) bs) m g ≡ Some (top - bound_of g b)
level_at top [] m b g e = absurd (grind (arith, e))
level_at top (x ∷ bs) zero b true e = let is : x ≡ b = cc in ap (λ (y : Bound). Some (top - y.in_full)) is
level_at top (x ∷ bs) zero b false e = let is : x ≡ b = cc in ap (λ (y : Bound). Some (top - y.at_once)) is
level_at top (x ∷ bs) (suc m) b g e = level_at top bs m b g e

-- The object of this number has a rank and bounds.
pub record IsBounded (g : Place → Option ℕ) (top : ℕ) (ranks : List ℕ) (bounds : List Bound) (m : ℕ) (o : Owner) : Type 0 where
  pub rank : ℕ
  pub ranked : slice_get ranks m ≡ Some rank
  pub bound : Bound
  pub there : slice_get bounds m ≡ Some bound
  pub is : (f : Bool) → bounds_one top rank (bound_of f bound) (near g o f) ≡ true

bounded_by : (g : Place → Option ℕ) (top : ℕ) (ranks : List ℕ) (bounds : List Bound) (m : ℕ) (o : Owner) (r : Option ℕ) (b : Option Bound) → slice_get ranks m ≡ r → slice_get bounds m ≡ b → bounds_by g top r b o ≡ true → IsBounded g top ranks bounds m o
bounded_by g top ranks bounds m o None b re be e = absurd (grind (arith, e))
bounded_by g top ranks bounds m o (Some r) None re be e = absurd (grind (arith, e))
bounded_by g top ranks bounds m o (Some r) (Some b) re be e = record { rank = r; ranked = re; bound = b; there = be; is = both }
  where
    both : (f : Bool) → bounds_one top r (bound_of f b) (near g o f) ≡ true
    both true = both_right (bounds_one top r b.at_once (near g o false)) (bounds_one top r b.in_full (near g o true)) e
    both false = both_left (bounds_one top r b.at_once (near g o false)) (bounds_one top r b.in_full (near g o true)) e

bounded_there : (g : Place → Option ℕ) (top : ℕ) (ranks : List ℕ) (bounds : List Bound) (n m k : ℕ) (os : List Owner) (o : Owner) → m ≡ n + k → slice_get os k ≡ Some o → are_bounded g top ranks bounds n os ≡ true → is_bounded g top ranks bounds m o ≡ true
bounded_there g top ranks bounds n m k [] o i e h = absurd (grind (arith, e))
bounded_there g top ranks bounds n m zero (w ∷ os) o i e h =
    let first : is_bounded g top ranks bounds n w ≡ true = both_left (is_bounded g top ranks bounds n w) (are_bounded g top ranks bounds (suc n) os) h in
    let same : w ≡ o = grind (arith, e) in
    let number : n ≡ m = omega (arith, i) in
    subst (λ j. is_bounded g top ranks bounds j o ≡ true) number (subst (λ v. is_bounded g top ranks bounds n v ≡ true) same first)
bounded_there g top ranks bounds n m (suc k) (w ∷ os) o i e h =
    bounded_there g top ranks bounds (suc n) m k os o (omega (arith, i)) e (both_right (is_bounded g top ranks bounds n w) (are_bounded g top ranks bounds (suc n) os) h)

-- what the test of one number says
record OneBounded (top r b : ℕ) (next : Option ℕ) : Type 0 where
  rank : r ≤ b
  within : b ≤ top
  low : is_low (top - b) next ≡ true

one_bounded : (top r b : ℕ) (next : Option ℕ) → bounds_one top r b next ≡ true → OneBounded top r b next
one_bounded top r b next e =
    let both = both_left (nat_le r b && nat_le b top) (is_low (top - b) next) e in
    let first = both_left (nat_le r b) (nat_le b top) both in
    let second = both_right (nat_le r b) (nat_le b top) both in
    record { rank = grind (arith, first); within = grind (arith, second); low = both_right (nat_le r b && nat_le b top) (is_low (top - b) next) e }

lower : (l j : ℕ) (o : Option ℕ) → l ≤ j → is_low j o ≡ true → is_low l o ≡ true
lower l j None h e = refl
lower l j (Some k) h e = grind (arith, h, e)

at_most : (o : Option ℕ) (r k : ℕ) → o ≡ Some r → r ≤ k → AtMost o k
at_most o r k e h = subst (λ v. AtMost v k) (sym e) h

-- ---- all that an object needs

module _ (p : Package) (os all others : List Owner) (ranks : List ℕ) (bounds : List Bound) (top : ℕ) (ok : fits p.uses os all p.asked ≡ true) (among : all ≡ os ++ others) where
  abbrev ls : List Levels
  ls = map (level_under top) bounds

  abbrev far : Place → Option ℕ
  far = nearest ls (calls_of p.uses all p.asked)

  module _ (right : (m : ℕ) (o : Owner) → slice_get os m ≡ Some o → IsBounded far top ranks bounds m o) (l : ℕ) where
    abbrev low_ones : List Levels
    low_ones = map (cut l) ls

    -- all that is needed at once is so far below the top
    next_none : (x : Needed) → IsOurs all x.it.file x.it.it.source → is_low l (near far (owner_of x.it) x.full) ≡ true → Each (Has p os all low_ones None) (needs p.asked x)
    next_none x our e =
        all_none p os all low_ones x our ok
        (near_cut l far (nearest low_ones (calls_of p.uses all p.asked)) (nearest_cut l ls (calls_of p.uses all p.asked)) x.it.file x.it.it.source x.it.it.column x.full e)

    ours : (y : Needed) → Fits p os all y → IsOurs all y.it.file y.it.it.source
    ours y t = subst (λ ws. IsOurs ws y.it.file y.it.it.source) (sym among) (ours_object os others y.it.file y.it.it.source (owner_of y.it) t.number t.owner refl refl)

    -- It has a rank that is so far below the top, and what it needs too.
    record IsFar (y : Needed) (m : ℕ) : Type 0 where
      rank : ℕ
      ranked : slice_get ranks m ≡ Some rank
      far_below : rank ≤ top - l
      next : is_low l (near far (owner_of y.it) y.full) ≡ true

    is_far : (y : Needed) (h : Has p os all low_ones None y) → IsFar y h.fit.number
    is_far y h =
        let m = h.fit.number in
        let b = right m (owner_of y.it) h.fit.owner in
        let j = top - bound_of y.full b.bound in
        let one = one_bounded top b.rank (bound_of y.full b.bound) (near far (owner_of y.it) y.full) (b.is y.full) in
        let level : cut_one l (Some j) ≡ None = ap (cut_one l) (sym (level_at top bounds m b.bound y.full b.there)) ∙ (sym (cut_level l ls m y.full) ∙ h.level) in
        let least : l ≤ j = none_cut l j (nat_le l j) refl level in
        let first = one.rank in
        let second = one.within in
        record { rank = b.rank; ranked = b.ranked; far_below = omega (arith, first, second, least); next = lower l j (near far (owner_of y.it) y.full) least one.low }

    far_more : (xs : List Needed) → Each (Has p os all low_ones None) xs → Each (Has p os all low_ones None) (needs_of p.asked xs)
    far_more [] h = tt
    far_more (x ∷ xs) h = each_append (Has p os all low_ones None) (needs p.asked x) (needs_of p.asked xs) (next_none x (ours x h.0.fit) (is_far x h.0).next) (far_more xs h.1)

    far_through : (k : ℕ) (xs : List Needed) → Each (Has p os all low_ones None) xs → Each (Has p os all low_ones None) (all_needed p.asked k xs)
    far_through zero xs h = h
    far_through (suc k) xs h = far_through k (with_all (needs_of p.asked xs) xs) (each_all (Has p os all low_ones None) (needs_of p.asked xs) xs (far_more xs h) h)

    numbers_far : (xs : List Needed) → Each (Has p os all low_ones None) xs → AllAtMost ranks (top - l) (needed_numbers p xs)
    numbers_far [] h = tt
    numbers_far (x ∷ xs) h =
        let w = is_far x h.0 in
        subst (λ o. AllAtMost ranks (top - l) (number_before o (needed_numbers p xs))) (sym h.0.fit.named)
        (at_most (slice_get ranks h.0.fit.number) w.rank (top - l) w.ranked w.far_below, numbers_far xs h.1)

    pub needed_far : (x : Needed) → IsOurs all x.it.file x.it.it.source → is_low l (near far (owner_of x.it) x.full) ≡ true → AllAtMost ranks (top - l) (needed_by p x)
    needed_far x our e = numbers_far (all_needed p.asked (rounds p) (with_all (needs p.asked x) []))
        (far_through (rounds p) (with_all (needs p.asked x) []) (each_all (Has p os all low_ones None) (needs p.asked x) [] (next_none x our e) tt))

  -- an object with what it needs
  object_within : (right : (m : ℕ) (o : Owner) → slice_get os m ≡ Some o → IsBounded far top ranks bounds m o) (m : ℕ) (x : Needed) (b : IsBounded far top ranks bounds m (owner_of x.it)) → IsOurs all x.it.file x.it.it.source
      → AllAtMost ranks (bound_of x.full b.bound) (m ∷ needed_by p x)
  object_within right m x b our =
      let k = bound_of x.full b.bound in
      let one = one_bounded top b.rank k (near far (owner_of x.it) x.full) (b.is x.full) in
      let within = one.within in
      let back : top - (top - k) ≡ k = omega (arith, within) in
      (at_most (slice_get ranks m) b.rank k b.ranked one.rank, subst (λ j. AllAtMost ranks j (needed_by p x)) back (needed_far right (top - k) x our one.low))

-- ---- all objects

module _ {S : Type 0} (x : Needs) (m : HashMap Place ℕ S) (p : Package) (ds : List Specification) (top : ℕ) (ranks : List ℕ) (bounds : List Bound)
    (knows : KnowsNearest m (map (level_under top) bounds) x.calls.items) (test : are_bounded (hash.get same_place m) top ranks bounds 0 x.owners.items ≡ true) (t : TellsNeeds x p ds) where
  abbrev os : List Owner
  os = x.owners.items

  abbrev all : List Owner
  all = everything x p ds t

  abbrev levels : Place → Option ℕ
  levels = nearest (map (level_under top) bounds) (calls_of p.uses all p.asked)

  same : (k : Place) → levels k ≡ hash.get same_place m k
  same k = sym (knows k ∙ ap (λ cs. nearest (map (level_under top) bounds) cs k) t.calls.calls)

  right : (n : ℕ) (o : Owner) → slice_get os n ≡ Some o → IsBounded levels top ranks bounds n o
  right n o e =
      let b = bounded_by (hash.get same_place m) top ranks bounds n o (slice_get ranks n) (slice_get bounds n) refl refl (bounded_there (hash.get same_place m) top ranks bounds 0 n n os o (omega arith) e test) in
      record { rank = b.rank; ranked = b.ranked; bound = b.bound; there = b.there; is = λ f. ap (bounds_one top b.rank (bound_of f b.bound)) (near_same levels (hash.get same_place m) o.file o.source o.column f same) ∙ b.is f }

  -- what is needed is as far below the top as what is needed at once
  pub needed_within : (l : ℕ) (y : Needed) → IsOurs all y.it.file y.it.it.source → is_low l (near (hash.get same_place m) (owner_of y.it) y.full) ≡ true → AllAtMost ranks (top - l) (needed_by p y)
  needed_within l y our e = needed_far p os all t.calls.others ranks bounds top t.calls.fit t.calls.among right l y our (ap (is_low l) (near_same levels (hash.get same_place m) y.it.file y.it.it.source y.it.it.column y.full same) ∙ e)

  record One (n : ℕ) (w : Outline) (f : Bool) : Type 0 where
    bound : Bound
    there : slice_get bounds n ≡ Some bound
    within : AllAtMost ranks (bound_of f bound) (n ∷ needed_of f w)

  owner_there : (n : ℕ) (w : Outline) → slice_get (outlines p ds) n ≡ Some w → At os n
  owner_there n w e = let b = below (outlines p ds) n w e in let a = t.calls.as_many in let c = as_many_outlines x p ds t in item_at os n (omega (arith, a, b, c))

  one : (n : ℕ) (w : Outline) (f : Bool) → slice_get (outlines p ds) n ≡ Some w → One n w f
  one n w f e =
      let o = owner_there n w e in
      let s = needs_found x p ds t n o.it w f o.there e in
      let b : IsBounded levels top ranks bounds n (owner_of s.it.it) = right n (owner_of s.it.it) (o.there ∙ ap Some (sym s.own)) in
      record {
        bound = b.bound;
        there = b.there;
        within = subst (λ g. AllAtMost ranks (bound_of g b.bound) (n ∷ needed_of f w)) s.way
            (subst (λ ns. AllAtMost ranks (bound_of s.it.full b.bound) (n ∷ ns)) (sym s.needed) (object_within p os all t.calls.others ranks bounds top t.calls.fit t.calls.among right n s.it b s.ours));
      }

  pub bounded : AreBounds ranks bounds (outlines p ds)
  bounded = record {
    at_once = λ n w e. let r = one n w false e in (r.bound, r.there, r.within);
    in_full = λ n w e. let r = one n w true e in (r.bound, r.there, r.within);
  }
