-- What is needed by what is needed is needed, in full and in part.
use Rattle.std.proofs.Common.{◌≡◌, ◌∙◌, ℕ, zero, suc, Bool, true, false, ◌&&◌, ◌||◌, nat_eq, List, [], ◌∷◌, ◌++◌, Option, Some, None, inl, inr, refl, sym, ap, subst, arith}
use Rattle.std.specs.Prelude.{if◌then◌else◌}
use Rattle.std.specs.List.{AllByRecursion}
use Rattle.go_tree.specs.declared.context.Site.{Site}
use Rattle.go_tree.specs.declared.context.Site.TheVariants as site
use Rattle.go_tree.specs.Declarations.{Found}
use Rattle.go_tree.specs.Lookups.{Asked}
use Rattle.go_tree.specs.Needs.{Needed, is_same, is_among, is_known, way_by, way, if_so, is_source, right_way, needed_meaning, with_one, with_all, needs, needs_of, all_needed}
use Rattle.go_scopes_cycles.specs.Closure.{rounds}
use Rattle.go_scopes_cycles.specs.Columns.{IsSource, AreAlike}
use Rattle.go_scopes_cycles.specs.Needs.{source_of, way_of, needed_in, needed_by}
use Rattle.go_scopes_cycles.proofs.Public.{or_last, AllKnown, needs_none, needs_some}
use Rattle.go_package_defs.specs.Sources.{Package, number_at, number_before, needed_numbers}
use Rattle.go_package_defs.specs.Verdicts.{is_in}
use Rattle.go_package_settled.specs.Closure.{needed_wholly}
use Rattle.go_package_settled.proofs.Closure.{IsAlike, known_by, known_alike, closed, at_first}
use Rattle.go_package_settled.proofs.Lists.{one_or, one_first, one_later}

some_is : (x y : Needed) → ◌≡◌ {A = Option Needed} (Some x) (Some y) → x ≡ y
some_is x y e = cc

-- ---- lists

module _ (P : Needed → Type 0) where
  abbrev All : List Needed → Type 0
  All xs = AllByRecursion P xs

  append_all : (xs ys : List Needed) → All xs → All ys → All (xs ++ ys)
  append_all [] ys h k = k
  append_all (x ∷ xs) ys h k = (h.0, append_all xs ys h.1 k)

  one_more : (b : Bool) (x : Needed) (xs : List Needed) → P x → All xs → All (if b then xs else xs ++ x ∷ [])
  one_more true x xs h w = w
  one_more false x xs h w = append_all xs (x ∷ []) w (h, tt)

  pub with_more : (ys xs : List Needed) → All ys → All xs → All (with_all ys xs)
  with_more [] xs h w = w
  with_more (y ∷ ys) xs h w = with_more ys (with_one y xs) h.1 (one_more (is_known y xs) y xs h.0 w)

  module _ (asks : List Asked) (next : (x : Needed) → P x → All (needs asks x)) where
    needs_all : (xs : List Needed) → All xs → All (needs_of asks xs)
    needs_all [] w = tt
    needs_all (x ∷ xs) w = append_all (needs asks x) (needs_of asks xs) (next x w.0) (needs_all xs w.1)

    pub rounds_all : (k : ℕ) (xs : List Needed) → All xs → All (all_needed asks k xs)
    rounds_all zero xs w = w
    rounds_all (suc k) xs w = rounds_all k (with_all (needs_of asks xs) xs) (with_more (needs_of asks xs) xs (needs_all xs w) w)

all_more : (P Q : Needed → Type 0) → ((x : Needed) → P x → Q x) → (xs : List Needed) → AllByRecursion P xs → AllByRecursion Q xs
all_more P Q f [] h = tt
all_more P Q f (x ∷ xs) h = (f x h.0, all_more P Q f xs h.1)

-- ---- what names call for

pub record IsCalled (asks : List Asked) (x : Needed) : Type 0 where
  pub called : IsSource x.it asks

source_is : (w : Option Bool) (s : Option Found) (y : Needed) → needed_in w s ≡ Some y → s ≡ Some y.it
source_is None s y e = absurd cc
source_is (Some f) None y e = absurd cc
source_is (Some f) (Some d) y e = ap (λ (z : Needed). Some z.it) (some_is (record { it = d; full = f }) y e)

called_by : (a : Asked) (asks : List Asked) (x : Needed) (o : Option Needed) → needed_by a x ≡ o → AllByRecursion (IsCalled asks) (needs asks x) → AllByRecursion (IsCalled (a ∷ asks)) (needs (a ∷ asks) x)
called_by a asks x None e h =
    subst (AllByRecursion (IsCalled (a ∷ asks))) (sym (needs_none a asks x e)) (all_more (IsCalled asks) (IsCalled (a ∷ asks)) (λ y q. record { called = inr q.called }) (needs asks x) h)
called_by a asks x (Some y) e h =
    subst (AllByRecursion (IsCalled (a ∷ asks))) (sym (needs_some a asks x y e))
    (record { called = inl (source_is (way_of a x) (source_of a.meaning) y e) }, all_more (IsCalled asks) (IsCalled (a ∷ asks)) (λ z q. record { called = inr q.called }) (needs asks x) h)

pub needs_called : (asks : List Asked) (x : Needed) → AllByRecursion (IsCalled asks) (needs asks x)
needs_called [] x = tt
needs_called (a ∷ asks) x = called_by a asks x (needed_by a x) refl (needs_called asks x)

abbrev pub start : List Asked → Needed → List Needed
start asks x = with_all (needs asks x) []

pub start_called : (asks : List Asked) (x : Needed) → AllByRecursion (IsCalled asks) (start asks x)
start_called asks x = with_more (IsCalled asks) (needs asks x) [] (needs_called asks x) tt

pub rounds_called : (asks : List Asked) (k : ℕ) (x : Needed) → AllByRecursion (IsCalled asks) (all_needed asks k (start asks x))
rounds_called asks k x = rounds_all (IsCalled asks) asks (λ y h. needs_called asks y) k (start asks x) (start_called asks x)

-- ---- what declarations need that are alike

pub needs_same : (asks : List Asked) (x y : Needed) → x.it.file ≡ y.it.file → x.it.it.source ≡ y.it.it.source → x.it.it.column ≡ y.it.it.column → x.full ≡ y.full → needs asks x ≡ needs asks y
needs_same [] x y f s c g = refl
needs_same (a ∷ asks) x y f s c g =
    ap (λ n. needed_meaning (if_so (nat_eq a.file n) (way_by x.it.it.source x.it.it.column x.full a.it.site)) a.meaning (needs asks x)) f
    ∙ ap (λ z. needed_meaning (if_so (nat_eq a.file y.it.file) (way_by z x.it.it.column x.full a.it.site)) a.meaning (needs asks x)) s
    ∙ ap (λ z. needed_meaning (if_so (nat_eq a.file y.it.file) (way_by y.it.it.source z x.full a.it.site)) a.meaning (needs asks x)) c
    ∙ ap (λ z. needed_meaning (if_so (nat_eq a.file y.it.file) (way_by y.it.it.source y.it.it.column z a.it.site)) a.meaning (needs asks x)) g
    ∙ ap (needed_meaning (if_so (nat_eq a.file y.it.file) (way_by y.it.it.source y.it.it.column y.full a.it.site)) a.meaning) (needs_same asks x y f s c g)

test_same : (m n : ℕ) → m ≡ n → nat_eq m n ≡ true
test_same m n e = grind (arith, e)

same_is : (d e : Found) → d.file ≡ e.file → d.it.name ≡ e.it.name → is_same d e ≡ true
same_is d e f g = ap (λ b. b && nat_eq d.it.name e.it.name) (test_same d.file e.file f) ∙ test_same d.it.name e.it.name g

module _ (asks : List Asked) (all : AreAlike asks) where
  alike_needs : (x y : Needed) → IsAlike x y → IsSource x.it asks → IsSource y.it asks → needs asks x ≡ needs asks y
  alike_needs x y a h k =
      let same = same_is x.it y.it a.file a.name in
      needs_same asks x y a.file (all.specification x.it y.it h k same) (all.column x.it y.it h k same) a.full

  -- what is known is of a list that has all that its members need
  known_split : (xs ys zs : List Needed) → AllKnown (xs ++ ys) zs → AllKnown xs zs × AllKnown ys zs
  known_split [] ys zs h = (tt, h)
  known_split (x ∷ xs) ys zs h = let r = known_split xs ys zs h.1 in ((h.0, r.0), r.1)

  next_known : (ys c : List Needed) → AllKnown (needs_of asks ys) c → AllByRecursion (IsCalled asks) ys → (z : Needed) → IsSource z.it asks → is_known z ys ≡ true → AllKnown (needs asks z) c
  next_known [] c h w z s k = absurd cc
  next_known (y ∷ ys) c h w z s k =
      let r = known_split (needs asks y) (needs_of asks ys) c h in
      let more : is_known z ys ≡ true → AllKnown (needs asks z) c = λ q. next_known ys c r.1 w.1 z s q in
      known_by z y ys k (λ a. subst (λ ns. AllKnown ns c) (sym (alike_needs z y a s w.0.called)) r.0) more

  pub wholly_next : (x z : Needed) → IsSource z.it asks → is_known z (needed_wholly asks x) ≡ true → AllKnown (needs asks z) (needed_wholly asks x)
  wholly_next x z s k = next_known (needed_wholly asks x) (needed_wholly asks x) (closed asks x) (rounds_called asks (rounds asks) x) z s k

  -- known in the list, and called for
  pub record IsThere (c : List Needed) (y : Needed) : Type 0 where
    pub known : is_known y c ≡ true
    pub called : IsSource y.it asks

  there_all : (c ys : List Needed) → AllKnown ys c → AllByRecursion (IsCalled asks) ys → AllByRecursion (IsThere c) ys
  there_all c [] h w = tt
  there_all c (y ∷ ys) h w = (record { known = h.0; called = w.0.called }, there_all c ys h.1 w.1)

  known_all : (c ys : List Needed) → AllByRecursion (IsThere c) ys → AllKnown ys c
  known_all c [] h = tt
  known_all c (y ∷ ys) h = (h.0.known, known_all c ys h.1)

  module _ (x : Needed) where
    abbrev c : List Needed
    c = needed_wholly asks x

    there_next : (z : Needed) → IsThere c z → AllByRecursion (IsThere c) (needs asks z)
    there_next z h = there_all c (needs asks z) (wholly_next x z h.called h.known) (needs_called asks z)

    rounds_there : (k : ℕ) (z : Needed) → AllKnown (needs asks z) c → AllKnown (all_needed asks k (start asks z)) c
    rounds_there k z h =
        known_all c (all_needed asks k (start asks z))
        (rounds_all (IsThere c) asks there_next k (start asks z) (with_more (IsThere c) (needs asks z) [] (there_all c (needs asks z) h (needs_called asks z)) tt))

    -- any number of rounds
    pub rounds_inside : (k : ℕ) → AllKnown (all_needed asks k (start asks x)) c
    rounds_inside k = rounds_there k x (at_first asks x)

    -- all that one of these needs
    pub wholly_inside : (z : Needed) → IsSource z.it asks → is_known z c ≡ true → AllKnown (needed_wholly asks z) c
    wholly_inside z s k = rounds_there (rounds asks) z (wholly_next x z s k)

-- ---- in full

full_way : (source : Option ℕ) (own : ℕ) (s : Site) (f : Bool) → way_by source own true s ≡ Some f → f ≡ true
full_way source own site.Elsewhere f e = absurd cc
full_way source own (site.Type t) f e = so (is_source t source) e
  where
    so : (b : Bool) → if_so b (Some true) ≡ Some f → f ≡ true
    so true q = cc
    so false q = absurd cc
full_way source own (site.Value t column alone) f e = so (is_source t source && (nat_eq column own || alone)) e
  where
    so : (b : Bool) → if_so b (Some true) ≡ Some f → f ≡ true
    so true q = cc
    so false q = absurd cc
full_way source own (site.Right t r) f e = so (is_source t source) e
  where
    so : (b : Bool) → if_so b (right_way true r) ≡ Some f → f ≡ true
    so true q = cc
    so false q = absurd cc

full_in : (b : Bool) (w : Option Bool) (s : Option Found) (y : Needed) → ((f : Bool) → w ≡ Some f → f ≡ true) → needed_in (if_so b w) s ≡ Some y → y.full ≡ true
full_in true (Some f) (Some d) y h e = sym (ap (λ (z : Needed). z.full) (some_is (record { it = d; full = f }) y e)) ∙ h f refl
full_in true (Some f) None y h e = absurd cc
full_in true None s y h e = absurd cc
full_in false w s y h e = absurd cc

full_by : (a : Asked) (asks : List Asked) (x : Needed) → x.full ≡ true → (o : Option Needed) → needed_by a x ≡ o → AllByRecursion (λ y. y.full ≡ true) (needs asks x) → AllByRecursion (λ y. y.full ≡ true) (needs (a ∷ asks) x)
full_by a asks x t None e h = subst (AllByRecursion (λ y. y.full ≡ true)) (sym (needs_none a asks x e)) h
full_by a asks x t (Some y) e h =
    subst (AllByRecursion (λ y. y.full ≡ true)) (sym (needs_some a asks x y e)) (
      full_in (nat_eq a.file x.it.file) (way x.it.it x.full a.it.site) (source_of a.meaning) y
          (λ f q. full_way x.it.it.source x.it.it.column a.it.site f (sym (ap (λ b. way_by x.it.it.source x.it.it.column b a.it.site) t) ∙ q)) e,
      h,
    )

needs_full : (asks : List Asked) (x : Needed) → x.full ≡ true → AllByRecursion (λ y. y.full ≡ true) (needs asks x)
needs_full [] x t = tt
needs_full (a ∷ asks) x t = full_by a asks x t (needed_by a x) refl (needs_full asks x t)

pub wholly_full : (asks : List Asked) (x : Needed) → x.full ≡ true → AllByRecursion (λ y. y.full ≡ true) (needed_wholly asks x)
wholly_full asks x t =
    rounds_all (λ y. y.full ≡ true) asks (λ y q. needs_full asks y q) (rounds asks) (start asks x) (with_more (λ y. y.full ≡ true) (needs asks x) [] (needs_full asks x t) tt)

pub known_full : (y : Needed) (ys : List Needed) → AllByRecursion (λ z. z.full ≡ true) ys → is_known y ys ≡ true → y.full ≡ true
known_full y [] h k = absurd cc
known_full y (z ∷ zs) h k = let more : is_known y zs ≡ true → y.full ≡ true = λ q. known_full y zs h.1 q in known_by y z zs k (λ a. a.full ∙ h.0) more

-- ---- what is needed in part is needed in full

abbrev pub up : Needed → Needed
up y = record { it = y.it; full = true }

up_way : (source : Option ℕ) (own : ℕ) (s : Site) (f g : Bool) → way_by source own f s ≡ Some g → way_by source own true s ≡ Some true
up_way source own site.Elsewhere f g e = absurd cc
up_way source own (site.Type t) f g e = so (is_source t source) e
  where
    so : (b : Bool) → if_so b (Some true) ≡ Some g → if_so b (Some true) ≡ Some true
    so true q = refl
    so false q = absurd cc
up_way source own (site.Value t column alone) f g e = so (is_source t source && (nat_eq column own || alone)) e
  where
    so : (b : Bool) → if_so b (Some true) ≡ Some g → if_so b (Some true) ≡ Some true
    so true q = refl
    so false q = absurd cc
up_way source own (site.Right t r) f g e = so (is_source t source) e
  where
    so : (b : Bool) → if_so b (right_way f r) ≡ Some g → if_so b (Some true) ≡ Some true
    so true q = refl
    so false q = absurd cc

up_in : (b : Bool) (w v : Option Bool) (s : Option Found) (y : Needed) → ((g : Bool) → w ≡ Some g → v ≡ Some true) → needed_in (if_so b w) s ≡ Some y → needed_in (if_so b v) s ≡ Some (up y)
up_in true (Some g) v (Some d) y h e = ap (λ z. needed_in z (Some d)) (h g refl) ∙ ap (λ (z : Needed). Some (up z)) (some_is (record { it = d; full = g }) y e)
up_in true (Some g) v None y h e = absurd cc
up_in true None v s y h e = absurd cc
up_in false w v s y h e = absurd cc

up_needed : (a : Asked) (x y : Needed) → needed_by a x ≡ Some y → needed_by a (up x) ≡ Some (up y)
up_needed a x y e =
    up_in (nat_eq a.file x.it.file) (way x.it.it x.full a.it.site) (way x.it.it true a.it.site) (source_of a.meaning) y (λ g q. up_way x.it.it.source x.it.it.column a.it.site x.full g q) e

-- the rest of what is needed
rest_by : (a : Asked) (asks : List Asked) (x : Needed) (c : List Needed) (o : Option Needed) → needed_by a x ≡ o → AllKnown (needs (a ∷ asks) x) c → AllKnown (needs asks x) c
rest_by a asks x c None e h = subst (λ ns. AllKnown ns c) (needs_none a asks x e) h
rest_by a asks x c (Some y) e h = (subst (λ ns. AllKnown ns c) (needs_some a asks x y e) h).1

first_by : (a : Asked) (asks : List Asked) (x y : Needed) (c : List Needed) → needed_by a x ≡ Some y → AllKnown (needs (a ∷ asks) x) c → is_known y c ≡ true
first_by a asks x y c e h = (subst (λ ns. AllKnown ns c) (needs_some a asks x y e) h).0

ups_by : (a : Asked) (asks : List Asked) (x : Needed) (c : List Needed) (o : Option Needed) → needed_by a x ≡ o → AllKnown (needs (a ∷ asks) (up x)) c → AllByRecursion (λ y. is_known (up y) c ≡ true) (needs asks x)
    → AllByRecursion (λ y. is_known (up y) c ≡ true) (needs (a ∷ asks) x)
ups_by a asks x c None e h w = subst (AllByRecursion (λ y. is_known (up y) c ≡ true)) (sym (needs_none a asks x e)) w
ups_by a asks x c (Some y) e h w =
    subst (AllByRecursion (λ z. is_known (up z) c ≡ true)) (sym (needs_some a asks x y e)) (first_by a asks (up x) (up y) c (up_needed a x y e) h, w)

ups : (asks : List Asked) (x : Needed) (c : List Needed) → AllKnown (needs asks (up x)) c → AllByRecursion (λ y. is_known (up y) c ≡ true) (needs asks x)
ups [] x c h = tt
ups (a ∷ asks) x c h = ups_by a asks x c (needed_by a x) refl h (ups asks x c (rest_by a asks (up x) c (needed_by a (up x)) refl h))

module _ (asks : List Asked) (all : AreAlike asks) where
  -- in full it is known in the list, and called for
  record IsUp (c : List Needed) (y : Needed) : Type 0 where
    known : is_known (up y) c ≡ true
    called : IsSource y.it asks

  ups_all : (c ys : List Needed) → AllByRecursion (λ y. is_known (up y) c ≡ true) ys → AllByRecursion (IsCalled asks) ys → AllByRecursion (IsUp c) ys
  ups_all c [] h w = tt
  ups_all c (y ∷ ys) h w = (record { known = h.0; called = w.0.called }, ups_all c ys h.1 w.1)

  known_ups : (c ys : List Needed) → AllByRecursion (IsUp c) ys → AllByRecursion (λ y. is_known (up y) c ≡ true) ys
  known_ups c [] h = tt
  known_ups c (y ∷ ys) h = (h.0.known, known_ups c ys h.1)

  -- what a declaration needs that is needed so, or in full
  pub wholly_up : (x : Needed) → AllByRecursion (λ y. is_known (up y) (needed_wholly asks (up x)) ≡ true) (needed_wholly asks x)
  wholly_up x =
      let c = needed_wholly asks (up x) in
      let first = ups_all c (needs asks x) (ups asks x c (at_first asks (up x))) (needs_called asks x) in
      known_ups c (needed_wholly asks x)
      (rounds_all (IsUp c) asks (λ y h. ups_all c (needs asks y) (ups asks y c (wholly_next asks all (up x) (up y) h.called h.known)) (needs_called asks y)) (rounds asks) (start asks x)
      (with_more (IsUp c) (needs asks x) [] first tt))

  pub known_up : (c : List Needed) (y : Needed) (ys : List Needed) → AllByRecursion (λ z. is_known (up z) c ≡ true) ys → is_known y ys ≡ true → is_known (up y) c ≡ true
  known_up c y [] h k = absurd cc
  known_up c y (z ∷ zs) h k =
      let more : is_known y zs ≡ true → is_known (up y) c ≡ true = λ q. known_up c y zs h.1 q in
      known_by y z zs k (λ a. sym (known_alike (up y) (up z) c (record { file = a.file; name = a.name; full = refl })) ∙ h.0) more

-- ---- numbers

module _ (p : Package) where
  abbrev number : Needed → Option ℕ
  number y = number_at p y.it.file y.it.it.name

  -- One with this number is known in the list.
  pub record HasNumber (ys : List Needed) (m : ℕ) : Type 0 where
    pub it : Needed
    pub known : is_known it ys ≡ true
    pub called : IsSource it.it p.asked
    pub number : number_at p it.it.file it.it.it.name ≡ Some m

  known_first : (y : Needed) (ys : List Needed) → is_known y (y ∷ ys) ≡ true
  known_first y ys = grind arith

  has_more : (y : Needed) (ys : List Needed) (m : ℕ) → HasNumber ys m → HasNumber (y ∷ ys) m
  has_more y ys m h = record { it = h.it; known = or_last _ (is_known h.it ys) h.known; called = h.called; number = h.number }

  number_by : (y : Needed) (ys : List Needed) (m : ℕ) (o : Option ℕ) → number y ≡ o → IsSource y.it p.asked → is_in (number_before o (needed_numbers p ys)) m ≡ true → (is_in (needed_numbers p ys) m ≡ true → HasNumber ys m)
      → HasNumber (y ∷ ys) m
  number_by y ys m None e s h f = has_more y ys m (f h)
  number_by y ys m (Some n) e s h f =
      one_or m n (is_in (needed_numbers p ys) m) h (λ q. record { it = y; known = known_first y ys; called = s; number = e ∙ ap (λ k. Some k) (sym q) }) (λ q. has_more y ys m (f q))

  pub number_known : (ys : List Needed) (m : ℕ) → AllByRecursion (IsCalled p.asked) ys → is_in (needed_numbers p ys) m ≡ true → HasNumber ys m
  number_known [] m w h = absurd cc
  number_known (y ∷ ys) m w h = number_by y ys m (number y) refl w.0.called h (λ q. number_known ys m w.1 q)

  in_first : (o : Option ℕ) (ns : List ℕ) (m : ℕ) → o ≡ Some m → is_in (number_before o ns) m ≡ true
  in_first None ns m e = absurd cc
  in_first (Some n) ns m e = subst (λ k. is_in (k ∷ ns) m ≡ true) (same m n e) (one_first m (is_in ns m))
    where
      same : (a b : ℕ) → ◌≡◌ {A = Option ℕ} (Some b) (Some a) → a ≡ b
      same a b q = cc

  in_later : (o : Option ℕ) (ns : List ℕ) (m : ℕ) → is_in ns m ≡ true → is_in (number_before o ns) m ≡ true
  in_later None ns m h = h
  in_later (Some n) ns m h = one_later m n (is_in ns m) h

  pub known_number : (ys : List Needed) (y : Needed) (m : ℕ) → is_known y ys ≡ true → number y ≡ Some m → is_in (needed_numbers p ys) m ≡ true
  known_number [] y m k e = absurd cc
  known_number (z ∷ zs) y m k e =
      let more : is_known y zs ≡ true → is_in (needed_numbers p zs) m ≡ true = λ q. known_number zs y m q e in
      known_by y z zs k
      (λ a. in_first (number z) (needed_numbers p zs) m (sym (ap (λ f. number_at p f y.it.it.name) a.file ∙ ap (number_at p z.it.file) a.name) ∙ e))
      (λ q. in_later (number z) (needed_numbers p zs) m (more q))

-- ---- a declaration itself

pub among_known : (d : Found) (y : Needed) (ys : List Needed) → is_known y ys ≡ true → is_same d y.it ≡ true → is_among d ys ≡ true
among_known d y [] k s = absurd cc
among_known d y (z ∷ zs) k s =
    let more : is_known y zs ≡ true → is_among d zs ≡ true = λ q. among_known d y zs q s in
    known_by y z zs k
    (λ a. first (is_same d z.it) (is_among d zs) (sym (ap (λ f. nat_eq d.file f && nat_eq d.it.name y.it.it.name) a.file ∙ ap (λ n. nat_eq d.file z.it.file && nat_eq d.it.name n) a.name) ∙ s))
    (λ q. or_last (is_same d z.it) (is_among d zs) (more q))
  where
    first : (b e : Bool) → b ≡ true → (b || e) ≡ true
    first true e h = refl
    first false e h = absurd cc
