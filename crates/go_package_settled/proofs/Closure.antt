-- All that a declaration needs through others has all that it needs in turn.
use Rattle.std.proofs.Common.{◌≡◌, ◌∙◌, ◌≤◌, ◌<◌, ◌+◌, ℕ, zero, suc, Bool, true, false, ◌&&◌, ◌||◌, nat_eq, List, [], ◌∷◌, ◌++◌, length, ap, sym, subst, refl, arith, Option, Some, None, ◌⊎◌, inl, inr}
use Rattle.go_tree.specs.Declarations.{Found}
use Rattle.go_tree.specs.Lookups.{Asked}
use Rattle.go_tree.specs.Needs.{Needed, is_same, same_way, is_known, with_all, needs, needs_of, all_needed}
use Rattle.go_scopes_cycles.specs.Closure.{rounds}
use Rattle.go_scopes_cycles.specs.Needs.{source_of, way_of, needed_in, needed_by}
use Rattle.go_scopes_cycles.proofs.Public.{or_last, itself, known_all, AllKnown, each_known, there_all, all_same, needs_none, needs_some}
use Rattle.go_package_settled.specs.Closure.{needed_wholly}

or_first : (b c : Bool) → b ≡ true → (b || c) ≡ true
or_first true c h = refl
or_first false c h = absurd (grind (arith, h))

-- ---- declarations of one name, needed in one way

both_left : (b c : Bool) → (b && c) ≡ true → b ≡ true
both_left true c e = refl
both_left false c e = e

both_right : (b c : Bool) → (b && c) ≡ true → c ≡ true
both_right true c e = e
both_right false c e = absurd (grind (arith, e))

same_number : (x y : ℕ) → nat_eq x y ≡ true → x ≡ y
same_number x y e = grind (arith, e)

pub same_file : (d e : Found) → is_same d e ≡ true → d.file ≡ e.file
same_file d e h = same_number d.file e.file (both_left (nat_eq d.file e.file) (nat_eq d.it.name e.it.name) h)

pub same_name : (d e : Found) → is_same d e ≡ true → d.it.name ≡ e.it.name
same_name d e h = same_number d.it.name e.it.name (both_right (nat_eq d.file e.file) (nat_eq d.it.name e.it.name) h)

same_way_is : (f g : Bool) → same_way f g ≡ true → f ≡ g
same_way_is true true e = refl
same_way_is true false e = sym e
same_way_is false true e = e
same_way_is false false e = refl

pub record IsAlike (x z : Needed) : Type 0 where
  pub file : x.it.file ≡ z.it.file
  pub name : x.it.it.name ≡ z.it.it.name
  pub full : x.full ≡ z.full

abbrev pub is_alike : Needed → Needed → Bool
is_alike x z = is_same x.it z.it && same_way x.full z.full

pub alike : (x z : Needed) → is_alike x z ≡ true → IsAlike x z
alike x z e =
    let same : is_same x.it z.it ≡ true = both_left (is_same x.it z.it) (same_way x.full z.full) e in
    record {
      file = same_file x.it z.it same;
      name = same_name x.it z.it same;
      full = same_way_is x.full z.full (both_right (is_same x.it z.it) (same_way x.full z.full) e);
    }

pub known_alike : (x z : Needed) (xs : List Needed) → IsAlike x z → is_known z xs ≡ is_known x xs
known_alike x z [] h = refl
known_alike x z (y ∷ ys) h =
    ap (λ n. (nat_eq n y.it.file && nat_eq z.it.it.name y.it.it.name && same_way z.full y.full) || is_known z ys) (sym h.file)
    ∙ ap (λ t. (nat_eq x.it.file y.it.file && nat_eq t y.it.it.name && same_way z.full y.full) || is_known z ys) (sym h.name)
    ∙ ap (λ f. (nat_eq x.it.file y.it.file && nat_eq x.it.it.name y.it.it.name && same_way f y.full) || is_known z ys) (sym h.full)
    ∙ ap (λ b. (is_same x.it y.it && same_way x.full y.full) || b) (known_alike x z ys h)

-- what is known is one of the list, or alike one
pub known_by : {P : Type 0} (x y : Needed) (ys : List Needed) → is_known x (y ∷ ys) ≡ true → (IsAlike x y → P) → (is_known x ys ≡ true → P) → P
known_by {P} x y ys h f g = by (is_alike x y) refl h
  where
    by : (b : Bool) → is_alike x y ≡ b → (b || is_known x ys) ≡ true → P
    by true e k = f (alike x y e)
    by false e k = g k

pub through : (x : Needed) (ys zs : List Needed) → is_known x ys ≡ true → AllKnown ys zs → is_known x zs ≡ true
through x [] zs h k = absurd (grind (arith, h))
through x (y ∷ ys) zs h k =
    let more : is_known x ys ≡ true → is_known x zs ≡ true = λ r. through x ys zs r k.1 in
    known_by x y ys h (λ a. sym (known_alike x y zs a) ∙ k.0) more

pub known_append : (xs ys zs : List Needed) → AllKnown xs zs → AllKnown ys zs → AllKnown (xs ++ ys) zs
known_append [] ys zs h k = k
known_append (x ∷ xs) ys zs h k = (h.0, known_append xs ys zs h.1 k)

-- ---- those that aren't there yet

abbrev one_unless : Bool → ℕ → ℕ
one_unless true n = n
one_unless false n = suc n

abbrev unknown : List Needed → List Needed → ℕ
unknown [] c = 0
unknown (u ∷ us) c = one_unless (is_known u c) (unknown us c)

at_most : (b : Bool) (m n : ℕ) → m ≤ n → one_unless b m ≤ suc n
at_most true m n h = omega (arith, h)
at_most false m n h = omega (arith, h)

unknown_length : (us c : List Needed) → unknown us c ≤ length us
unknown_length [] c = omega arith
unknown_length (u ∷ us) c = at_most (is_known u c) (unknown us c) (length us) (unknown_length us c)

less : (b d : Bool) (m n : ℕ) → (b ≡ true → d ≡ true) → m ≤ n → one_unless d m ≤ one_unless b n
less true true m n f h = h
less true false m n f h = absurd (grind (arith, f refl))
less false true m n f h = omega (arith, h)
less false false m n f h = omega (arith, h)

fewer : (b d : Bool) (m n : ℕ) → (b ≡ true → d ≡ true) → m < n → one_unless d m < one_unless b n
fewer true true m n f h = h
fewer true false m n f h = absurd (grind (arith, f refl))
fewer false true m n f h = omega (arith, h)
fewer false false m n f h = omega (arith, h)

new_one : (b d : Bool) (m n : ℕ) → b ≡ false → d ≡ true → m ≤ n → one_unless d m < one_unless b n
new_one true d m n e h k = absurd (grind (arith, e))
new_one false true m n e h k = omega (arith, k)
new_one false false m n e h k = absurd (grind (arith, h))

unknown_less : (us ys c : List Needed) → unknown us (with_all ys c) ≤ unknown us c
unknown_less [] ys c = omega arith
unknown_less (u ∷ us) ys c = less (is_known u c) (is_known u (with_all ys c)) (unknown us (with_all ys c)) (unknown us c) (known_all u ys c) (unknown_less us ys c)

unknown_fewer : (us ys c : List Needed) (y : Needed) → is_known y us ≡ true → is_known y c ≡ false → is_known y (with_all ys c) ≡ true → unknown us (with_all ys c) < unknown us c
unknown_fewer [] ys c y h new there = absurd (grind (arith, h))
unknown_fewer (u ∷ us) ys c y h new there =
    let more : is_known y us ≡ true → unknown us (with_all ys c) < unknown us c = λ r. unknown_fewer us ys c y r new there in
    known_by y u us h
    (λ a. new_one (is_known u c) (is_known u (with_all ys c)) (unknown us (with_all ys c)) (unknown us c) (known_alike y u c a ∙ new) (known_alike y u (with_all ys c) a ∙ there) (unknown_less us ys c))
    (λ r. fewer (is_known u c) (is_known u (with_all ys c)) (unknown us (with_all ys c)) (unknown us c) (known_all u ys c) (more r))

-- ---- a round adds something, or nothing is missing

record IsNew (ns c : List Needed) : Type 0 where
  it : Needed
  new : is_known it c ≡ false
  there : is_known it ns ≡ true

news_by : (n : Needed) (ns c : List Needed) (b : Bool) → is_known n c ≡ b → AllKnown ns c ⊎ IsNew ns c → AllKnown (n ∷ ns) c ⊎ IsNew (n ∷ ns) c
news_by n ns c true e (inl h) = inl (e, h)
news_by n ns c true e (inr h) = inr record { it = h.it; new = h.new; there = or_last (is_alike h.it n) (is_known h.it ns) h.there }
news_by n ns c false e h = inr record { it = n; new = e; there = ap (λ b. b || is_known n ns) (itself n) }

news : (ns c : List Needed) → AllKnown ns c ⊎ IsNew ns c
news [] c = inl tt
news (n ∷ ns) c = news_by n ns c (is_known n c) refl (news ns c)

-- ---- all that names call for, in both ways

abbrev both_ways : Option Found → List Needed → List Needed
both_ways None us = us
both_ways (Some d) us = record { it = d; full = true } ∷ record { it = d; full = false } ∷ us

abbrev every : List Asked → List Needed
every [] = []
every (a ∷ asks) = both_ways (source_of a.meaning) (every asks)

both_length : (o : Option Found) (us : List Needed) (n : ℕ) → length us ≤ n + n → length (both_ways o us) ≤ suc n + suc n
both_length None us n h = omega (arith, h)
both_length (Some d) us n h = omega (arith, h)

every_length : (asks : List Asked) → length (every asks) ≤ length asks + length asks
every_length [] = omega arith
every_length (a ∷ asks) = both_length (source_of a.meaning) (every asks) (length asks) (every_length asks)

known_more : (y u : Needed) (us : List Needed) → is_known y us ≡ true → is_known y (u ∷ us) ≡ true
known_more y u us h = or_last (is_alike y u) (is_known y us) h

known_both : (o : Option Found) (y : Needed) (us : List Needed) → is_known y us ≡ true → is_known y (both_ways o us) ≡ true
known_both None y us h = h
known_both (Some d) y us h = known_more y (record { it = d; full = true }) (record { it = d; full = false } ∷ us) (known_more y (record { it = d; full = false }) us h)

one_known : (d : Found) (f : Bool) (us : List Needed) → is_known (record { it = d; full = f }) (both_ways (Some d) us) ≡ true
one_known d true us = or_first (is_alike (record { it = d; full = true }) (record { it = d; full = true })) (is_known (record { it = d; full = true }) (record { it = d; full = false } ∷ us)) (itself (record { it = d; full = true }))
one_known d false us =
    known_more (record { it = d; full = false }) (record { it = d; full = true }) (record { it = d; full = false } ∷ us)
    (or_first (is_alike (record { it = d; full = false }) (record { it = d; full = false })) (is_known (record { it = d; full = false }) us) (itself (record { it = d; full = false })))

in_known : (w : Option Bool) (s : Option Found) (y : Needed) (us : List Needed) → needed_in w s ≡ Some y → is_known y (both_ways s us) ≡ true
in_known None s y us e = absurd cc
in_known (Some f) None y us e = absurd cc
in_known (Some f) (Some d) y us e = subst (λ z. is_known z (both_ways (Some d) us) ≡ true) (some_is (record { it = d; full = f }) y e) (one_known d f us)
  where
    some_is : (a b : Needed) → ◌≡◌ {A = Option Needed} (Some a) (Some b) → a ≡ b
    some_is a b q = cc

all_both : (o : Option Found) (ys us : List Needed) → AllKnown ys us → AllKnown ys (both_ways o us)
all_both o [] us h = tt
all_both o (y ∷ ys) us h = (known_both o y us h.0, all_both o ys us h.1)

needs_among_by : (a : Asked) (asks : List Asked) (x : Needed) (o : Option Needed) → needed_by a x ≡ o → AllKnown (needs asks x) (every asks) → AllKnown (needs (a ∷ asks) x) (every (a ∷ asks))
needs_among_by a asks x None e h = subst (λ ys. AllKnown ys (every (a ∷ asks))) (sym (needs_none a asks x e)) (all_both (source_of a.meaning) (needs asks x) (every asks) h)
needs_among_by a asks x (Some y) e h =
    subst (λ ys. AllKnown ys (every (a ∷ asks))) (sym (needs_some a asks x y e))
    (in_known (way_of a x) (source_of a.meaning) y (every asks) e, all_both (source_of a.meaning) (needs asks x) (every asks) h)

needs_among : (asks : List Asked) (x : Needed) → AllKnown (needs asks x) (every asks)
needs_among [] x = tt
needs_among (a ∷ asks) x = needs_among_by a asks x (needed_by a x) refl (needs_among asks x)

round_among : (asks : List Asked) (us xs : List Needed) → ((x : Needed) → AllKnown (needs asks x) us) → AllKnown (needs_of asks xs) us
round_among asks us [] h = tt
round_among asks us (x ∷ xs) h = known_append (needs asks x) (needs_of asks xs) us (h x) (round_among asks us xs h)

-- ---- enough rounds

settled : (asks : List Asked) (k : ℕ) (c : List Needed) → AllKnown (needs_of asks c) c → AllKnown (needs_of asks (all_needed asks k c)) (all_needed asks k c)
settled asks k c h = subst (λ z. AllKnown (needs_of asks z) z) (sym (all_same asks k c (there_all (needs_of asks c) c h))) h

round_fewer : (asks : List Asked) (us c : List Needed) → ((x : Needed) → AllKnown (needs asks x) us) → IsNew (needs_of asks c) c → unknown us (with_all (needs_of asks c) c) < unknown us c
round_fewer asks us c all n =
    unknown_fewer us (needs_of asks c) c n.it (through n.it (needs_of asks c) us n.there (round_among asks us c all)) n.new
    (through n.it (needs_of asks c) (with_all (needs_of asks c) c) n.there (each_known (needs_of asks c) c))

settled_by : (asks : List Asked) (k : ℕ) (c : List Needed) → AllKnown (needs_of asks c) c ⊎ IsNew (needs_of asks c) c → (IsNew (needs_of asks c) c → AllKnown (needs_of asks (all_needed asks k c)) (all_needed asks k c))
    → AllKnown (needs_of asks (all_needed asks k c)) (all_needed asks k c)
settled_by asks k c (inl h) f = settled asks k c h
settled_by asks k c (inr n) f = f n

enough : (asks : List Asked) (us : List Needed) (k : ℕ) (c : List Needed) → ((x : Needed) → AllKnown (needs asks x) us) → unknown us c ≤ k → AllKnown (needs_of asks (all_needed asks k c)) (all_needed asks k c)
enough asks us zero c all low = settled_by asks zero c (news (needs_of asks c) c) (λ n. let f = round_fewer asks us c all n in absurd (omega (arith, low, f)))
enough asks us (suc k) c all low =
    settled_by asks (suc k) c (news (needs_of asks c) c)
    (λ n. let f = round_fewer asks us c all n in enough asks us k (with_all (needs_of asks c) c) all (omega (arith, low, f)))

pub closed : (asks : List Asked) (x : Needed) → AllKnown (needs_of asks (needed_wholly asks x)) (needed_wholly asks x)
closed asks x =
    let start = with_all (needs asks x) [] in
    let l = unknown_length (every asks) start in
    let m = every_length asks in
    enough asks (every asks) (rounds asks) start (needs_among asks) (omega (arith, l, m))

-- ---- what is there stays

known_rounds : (asks : List Asked) (k : ℕ) (x : Needed) (xs : List Needed) → is_known x xs ≡ true → is_known x (all_needed asks k xs) ≡ true
known_rounds asks zero x xs h = h
known_rounds asks (suc k) x xs h = known_rounds asks k x (with_all (needs_of asks xs) xs) (known_all x (needs_of asks xs) xs h)

all_rounds : (asks : List Asked) (k : ℕ) (ys xs : List Needed) → AllKnown ys xs → AllKnown ys (all_needed asks k xs)
all_rounds asks k [] xs h = tt
all_rounds asks k (y ∷ ys) xs h = (known_rounds asks k y xs h.0, all_rounds asks k ys xs h.1)

-- what it needs at once
pub at_first : (asks : List Asked) (x : Needed) → AllKnown (needs asks x) (needed_wholly asks x)
at_first asks x = all_rounds asks (rounds asks) (needs asks x) (with_all (needs asks x) []) (each_known (needs asks x) [])
