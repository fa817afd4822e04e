-- A declaration that a circle of names leads back to needs itself.
use Rattle.std.proofs.Common.{◌≡◌, ◌≤◌, ◌<◌, ◌∙◌, ℕ, zero, suc, Bool, true, false, ◌&&◌, ◌||◌, nat_eq, nat_le, List, [], ◌∷◌, ◌++◌, length, refl, ap, sym, subst, arith, Option, Some, None, drop, get_or, inl, inr}
use Rattle.std.specs.Prelude.{slice_get}
use Rattle.std.proofs.Math.Seq.{drop-cons}
use Rattle.go_tree.specs.declared.context.Site.{Site}
use Rattle.go_tree.specs.declared.event.Declaration.{Declaration}
use Rattle.go_tree.specs.Declarations.{Found}
use Rattle.go_tree.specs.Lookups.{Asked}
use Rattle.go_tree.specs.Needs.{Needed, if_so, way_by, way, is_same, same_way, is_among, is_known, with_all, needs, needs_of, all_needed, needs_itself}
use Rattle.go_scopes_cycles.specs.Needs.{source_of, way_of, needed_in, needed_by}
use Rattle.go_scopes_cycles.specs.Circles.{needed_at, step, walked, comes_back, is_circle}
use Rattle.go_scopes_cycles.specs.Columns.{IsSource, AreAlike}
use Rattle.go_scopes_cycles.proofs.AllNeeded.{needs_some, needs_none, or_last, known_append, known_all, itself, AllKnown, each_known}
use Rattle.go_scopes_cycles.proofs.Ranked.{Each, each_append, each_all, each_more, needs_by, needed_source_of, both_left, both_right, same_number}

-- ---- a walk that leads nowhere

nowhere : (a : Option Asked) → needed_at a None ≡ None
nowhere None = refl
nowhere (Some a) = refl

lost : (asks : List Asked) (ns : List ℕ) → walked asks None ns ≡ None
lost asks [] = refl
lost asks (n ∷ ns) = ap (λ x. walked asks x ns) (nowhere (slice_get asks n)) ∙ lost asks ns

pub lost_at : (asks : List Asked) (x y : Option Needed) (ns : List ℕ) (i : ℕ) → i < length ns → walked asks x (drop i ns) ≡ y → step asks x (get_or ns i 0) ≡ None → y ≡ None
lost_at asks x y ns i h e none =
    sym e ∙ ap (walked asks x) (drop-cons ns i 0 h)
    ∙ ap (λ o. walked asks o (drop (suc i) ns)) none
    ∙ lost asks (drop (suc i) ns)

-- ---- declarations of one name need the same

same_way_is : (f g : Bool) → same_way f g ≡ true → f ≡ g
same_way_is true true e = refl
same_way_is true false e = sym e
same_way_is false true e = e
same_way_is false false e = refl

-- They are needed in one way, and need the same.
record IsAlike (x z : Needed) : Type 0 where
  same : is_same x.it z.it ≡ true
  file : x.it.file ≡ z.it.file
  name : x.it.it.name ≡ z.it.it.name
  full : x.full ≡ z.full

alike : (x z : Needed) → (is_same x.it z.it && same_way x.full z.full) ≡ true → IsAlike x z
alike x z e =
    let same : is_same x.it z.it ≡ true = both_left (is_same x.it z.it) (same_way x.full z.full) e in
    record {
      same = same;
      file = same_number x.it.file z.it.file (both_left (nat_eq x.it.file z.it.file) (nat_eq x.it.it.name z.it.it.name) same);
      name = same_number x.it.it.name z.it.it.name (both_right (nat_eq x.it.file z.it.file) (nat_eq x.it.it.name z.it.it.name) same);
      full = same_way_is x.full z.full (both_right (is_same x.it z.it) (same_way x.full z.full) e);
    }

way_alike : (d e : Declaration) (f : Bool) (s : Site) → d.source ≡ e.source → d.column ≡ e.column → way d f s ≡ way e f s
way_alike d e f s h k = ap (λ n. way_by n d.column f s) h ∙ ap (λ n. way_by e.source n f s) k

way_of_alike : (a : Asked) (x z : Needed) → IsAlike x z → x.it.it.source ≡ z.it.it.source → x.it.it.column ≡ z.it.it.column → way_of a x ≡ way_of a z
way_of_alike a x z same h k =
    ap (λ n. if_so (nat_eq a.file n) (way x.it.it x.full a.it.site)) same.file
    ∙ ap (λ f. if_so (nat_eq a.file z.it.file) (way x.it.it f a.it.site)) same.full
    ∙ ap (λ w. if_so (nat_eq a.file z.it.file) w) (way_alike x.it.it z.it.it z.full a.it.site h k)

needed_at_alike : (a : Option Asked) (x z : Needed) → IsAlike x z → x.it.it.source ≡ z.it.it.source → x.it.it.column ≡ z.it.it.column → needed_at a (Some x) ≡ needed_at a (Some z)
needed_at_alike None x z same h k = refl
needed_at_alike (Some a) x z same h k = ap (λ w. needed_in w (source_of a.meaning)) (way_of_alike a x z same h k)

-- A name calls for it.
record IsCalled (asks : List Asked) (x : Needed) : Type 0 where
  called : IsSource x.it asks

step_alike : (asks : List Asked) (x z : Needed) (n : ℕ) → AreAlike asks → IsAlike x z → IsCalled asks x → IsCalled asks z → step asks (Some x) n ≡ step asks (Some z) n
step_alike asks x z n h same own there =
    needed_at_alike (slice_get asks n) x z same (h.specification x.it z.it own.called there.called same.same) (h.column x.it z.it own.called there.called same.same)

-- ---- one step

known_first : (x : Needed) (xs : List Needed) → is_known x (x ∷ xs) ≡ true
known_first x xs = ap (λ b. b || is_known x xs) (itself x)

known_behind : (x : Needed) (xs ys : List Needed) → is_known x ys ≡ true → is_known x (xs ++ ys) ≡ true
known_behind x [] ys h = h
known_behind x (z ∷ zs) ys h = or_last (is_same x.it z.it && same_way x.full z.full) (is_known x (zs ++ ys)) (known_behind x zs ys h)

needs_here : (a : Asked) (asks : List Asked) (x y : Needed) → needed_by a x ≡ Some y → is_known y (needs (a ∷ asks) x) ≡ true
needs_here a asks x y e = subst (λ ns. is_known y ns ≡ true) (sym (needs_some a asks x y e)) (known_first y (needs asks x))

needs_there : (a : Asked) (asks : List Asked) (x y : Needed) (o : Option Needed) → needed_by a x ≡ o → is_known y (needs asks x) ≡ true → is_known y (needs (a ∷ asks) x) ≡ true
needs_there a asks x y None e h = subst (λ ns. is_known y ns ≡ true) (sym (needs_none a asks x e)) h
needs_there a asks x y (Some v) e h = subst (λ ns. is_known y ns ≡ true) (sym (needs_some a asks x v e)) (or_last (is_same y.it v.it && same_way y.full v.full) (is_known y (needs asks x)) h)

step_known : (asks : List Asked) (x y : Needed) (n : ℕ) → step asks (Some x) n ≡ Some y → is_known y (needs asks x) ≡ true
step_known [] x y n e = absurd (grind (arith, e))
step_known (a ∷ asks) x y zero e = needs_here a asks x y e
step_known (a ∷ asks) x y (suc n) e = needs_there a asks x y (needed_by a x) refl (step_known asks x y n e)

step_called : (asks : List Asked) (x y : Needed) (n : ℕ) → step asks (Some x) n ≡ Some y → IsSource y.it asks
step_called [] x y n e = absurd (grind (arith, e))
step_called (a ∷ asks) x y zero e = inl (needed_source_of (way_of a x) (source_of a.meaning) y e)
step_called (a ∷ asks) x y (suc n) e = inr (step_called asks x y n e)

needs_called : (asks : List Asked) (x : Needed) → Each (IsCalled asks) (needs asks x)
needs_called [] x = tt
needs_called (a ∷ asks) x =
    needs_by (IsCalled (a ∷ asks)) a asks x (needed_by a x) refl
    (λ y e. record { called = inl (needed_source_of (way_of a x) (source_of a.meaning) y e) })
    (each_more (IsCalled asks) (IsCalled (a ∷ asks)) (needs asks x) (λ y h. record { called = inr h.called }) (needs_called asks x))

round_called : (asks : List Asked) (xs : List Needed) → Each (IsCalled asks) (needs_of asks xs)
round_called asks [] = tt
round_called asks (x ∷ xs) = each_append (IsCalled asks) (needs asks x) (needs_of asks xs) (needs_called asks x) (round_called asks xs)

-- ---- one round

known_alike : (x z : Needed) (xs : List Needed) → IsAlike x z → is_known z xs ≡ is_known x xs
known_alike x z [] h = refl
known_alike x z (y ∷ ys) h =
    ap (λ n. (nat_eq n y.it.file && nat_eq z.it.it.name y.it.it.name && same_way z.full y.full) || is_known z ys) (sym h.file)
    ∙ ap (λ t. (nat_eq x.it.file y.it.file && nat_eq t y.it.it.name && same_way z.full y.full) || is_known z ys) (sym h.name)
    ∙ ap (λ f. (nat_eq x.it.file y.it.file && nat_eq x.it.it.name y.it.it.name && same_way f y.full) || is_known z ys) (sym h.full)
    ∙ ap (λ b. (is_same x.it y.it && same_way x.full y.full) || b) (known_alike x z ys h)

through_by : (x y : Needed) (zs : List Needed) (b : Bool) (rest : Bool) → (is_same x.it y.it && same_way x.full y.full) ≡ b → (b || rest) ≡ true → is_known y zs ≡ true → (rest ≡ true → is_known x zs ≡ true) → is_known x zs ≡ true
through_by x y zs true rest e h k f = sym (known_alike x y zs (alike x y e)) ∙ k
through_by x y zs false rest e h k f = f h

through : (x : Needed) (ys zs : List Needed) → is_known x ys ≡ true → AllKnown ys zs → is_known x zs ≡ true
through x [] zs h k = absurd (grind (arith, h))
through x (y ∷ ys) zs h k = through_by x y zs (is_same x.it y.it && same_way x.full y.full) (is_known x ys) refl h k.0 (λ r. through x ys zs r k.1)

known_added : (x : Needed) (ys xs : List Needed) → is_known x ys ≡ true → is_known x (with_all ys xs) ≡ true
known_added x ys xs h = through x ys (with_all ys xs) h (each_known ys xs)

round_by : (asks : List Asked) (x y z : Needed) (zs : List Needed) (n : ℕ) (b : Bool) (rest : Bool) → (is_same x.it z.it && same_way x.full z.full) ≡ b → (b || rest) ≡ true → AreAlike asks → IsCalled asks x → IsCalled asks z → step asks (Some x) n ≡ Some y → (rest ≡ true → is_known y (needs_of asks zs) ≡ true) → is_known y (needs asks z ++ needs_of asks zs) ≡ true
round_by asks x y z zs n true rest e h one own there goes f = known_append y (needs asks z) (needs_of asks zs) (step_known asks z y n (sym (step_alike asks x z n one (alike x z e) own there) ∙ goes))
round_by asks x y z zs n false rest e h one own there goes f = known_behind y (needs asks z) (needs_of asks zs) (f h)

round_known : (asks : List Asked) (x y : Needed) (zs : List Needed) (n : ℕ) → AreAlike asks → is_known x zs ≡ true → IsCalled asks x → Each (IsCalled asks) zs → step asks (Some x) n ≡ Some y → is_known y (needs_of asks zs) ≡ true
round_known asks x y [] n one h own there goes = absurd (grind (arith, h))
round_known asks x y (z ∷ zs) n one h own there goes =
    round_by asks x y z zs n (is_same x.it z.it && same_way x.full z.full) (is_known x zs) refl h one own there.0 goes (λ r. round_known asks x y zs n one r own there.1 goes)

-- ---- all rounds

known_rounds : (asks : List Asked) (k : ℕ) (x : Needed) (xs : List Needed) → is_known x xs ≡ true → is_known x (all_needed asks k xs) ≡ true
known_rounds asks zero x xs h = h
known_rounds asks (suc k) x xs h = known_rounds asks k x (with_all (needs_of asks xs) xs) (known_all x (needs_of asks xs) xs h)

some_is : (x y : Needed) → ◌≡◌ {A = Option Needed} (Some x) (Some y) → x ≡ y
some_is x y e = cc

-- what a walk goes on from, if it leads anywhere
from_there : (asks : List Asked) (o : Option Needed) (ns : List ℕ) (y : Needed) → walked asks o ns ≡ Some y → (v : Needed) × (o ≡ Some v)
from_there asks None ns y e = absurd (no_end (sym (lost asks ns) ∙ e))
  where
    no_end : ◌≡◌ {A = Option Needed} None (Some y) → ⊥
    no_end h = cc
from_there asks (Some v) ns y e = (v, refl)

-- what a walk of at most k steps leads to is needed after k rounds
walk_known : (asks : List Asked) (k : ℕ) (ns : List ℕ) (x y : Needed) (xs : List Needed) → AreAlike asks → length ns ≤ k → walked asks (Some x) ns ≡ Some y → is_known x xs ≡ true → IsCalled asks x → Each (IsCalled asks) xs → is_known y (all_needed asks k xs) ≡ true
walk_known asks k [] x y xs h short goes known own there = subst (λ z. is_known z (all_needed asks k xs) ≡ true) (some_is x y goes) (known_rounds asks k x xs known)
walk_known asks zero (n ∷ ns) x y xs h short goes known own there = absurd (omega (arith, short))
walk_known asks (suc k) (n ∷ ns) x y xs h short goes known own there =
    let next = from_there asks (step asks (Some x) n) ns y goes in
    let more : walked asks (Some next.0) ns ≡ Some y = ap (λ o. walked asks o ns) (sym next.1) ∙ goes in
    let added : is_known next.0 (with_all (needs_of asks xs) xs) ≡ true = known_added next.0 (needs_of asks xs) xs (round_known asks x next.0 xs n h known own there next.1) in
    let low : length ns ≤ k = omega (arith, short) in
    walk_known asks k ns next.0 y (with_all (needs_of asks xs) xs) h low more added record { called = step_called asks x next.0 n next.1 }
    (each_all (IsCalled asks) (needs_of asks xs) xs (round_called asks xs) there)

-- ---- the declaration itself

same_along : (d x z : Found) → is_same d x ≡ true → x.file ≡ z.file → x.it.name ≡ z.it.name → is_same d z ≡ true
same_along d x z e file name = ap (λ n. nat_eq d.file n && nat_eq d.it.name z.it.name) (sym file) ∙ ap (λ t. nat_eq d.file x.file && nat_eq d.it.name t) (sym name) ∙ e

among_by : (d : Found) (y z : Needed) (b rest : Bool) → (is_same y.it z.it && same_way y.full z.full) ≡ b → (b || rest) ≡ true → is_same d y.it ≡ true → (among : Bool) → (rest ≡ true → among ≡ true) → (is_same d z.it || among) ≡ true
among_by d y z true rest e h k among f = ap (λ b. b || among) (same_along d y.it z.it k (alike y z e).file (alike y z e).name)
among_by d y z false rest e h k among f = or_last (is_same d z.it) among (f h)

among : (d : Found) (y : Needed) (zs : List Needed) → is_same d y.it ≡ true → is_known y zs ≡ true → is_among d zs ≡ true
among d y [] k h = absurd (grind (arith, h))
among d y (z ∷ zs) k h = among_by d y z (is_same y.it z.it && same_way y.full z.full) (is_known y zs) refl h k (is_among d zs) (λ r. among d y zs k r)

back : (d : Found) (o : Option Needed) → comes_back d o ≡ true → (y : Needed) × (o ≡ Some y) × (is_same d y.it ≡ true)
back d None e = absurd (grind (arith, e))
back d (Some y) e = (y, refl, e)

short_by : (m k : ℕ) (b : Bool) → (nat_le m k && b) ≡ true → m ≤ k
short_by m k b e = grind (arith, e)

pub circle_needs : (asks : List Asked) (k : ℕ) (d : Found) (ns : List ℕ) → AreAlike asks → is_circle asks k d ns ≡ true → needs_itself asks k d ≡ true
circle_needs asks k d [] h e = absurd (grind (arith, e))
circle_needs asks k d (n ∷ ns) h e =
    let first : Needed = record { it = d; full = false } in
    let start = with_all (needs asks first) [] in
    let end = walked asks (step asks (Some first) n) ns in
    let back_at = back d end (both_right (nat_le (length ns) k) (comes_back d end) e) in
    let next = from_there asks (step asks (Some first) n) ns back_at.0 back_at.1 in
    let more : walked asks (Some next.0) ns ≡ Some back_at.0 = ap (λ o. walked asks o ns) (sym next.1) ∙ back_at.1 in
    let known : is_known next.0 start ≡ true = known_added next.0 (needs asks first) [] (step_known asks first next.0 n next.1) in
    among d back_at.0 (all_needed asks k start) back_at.2
    (walk_known asks k ns next.0 back_at.0 start h (short_by (length ns) k (comes_back d end) e) more known record { called = step_called asks first next.0 n next.1 }
    (each_all (IsCalled asks) (needs asks first) [] (needs_called asks first) tt))
