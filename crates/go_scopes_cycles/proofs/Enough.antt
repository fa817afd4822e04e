-- Rounds that are enough: further ones add nothing.
use Rattle.std.proofs.Common.{◌≡◌, ◌∙◌, ◌≤◌, ◌<◌, ◌+◌, ℕ, zero, suc, Bool, true, false, ◌&&◌, ◌||◌, List, [], ◌∷◌, ◌++◌, length, ap, sym, subst, refl, arith, Option, Some, None, ◌⊎◌, inl, inr}
use Rattle.go_tree.specs.Declarations.{Found}
use Rattle.go_tree.specs.Lookups.{Asked}
use Rattle.go_tree.specs.Needs.{Needed, is_same, same_way, is_among, is_known, with_all, needs, needs_of, all_needed, needs_itself}
use Rattle.go_scopes_cycles.specs.Closure.{rounds, any_itself, IsDeclared, AreDeclared}
use Rattle.go_scopes_cycles.proofs.AllNeeded.{or_last, or_more, both_true, itself, known_all, AllKnown, each_known, there_all, all_same, grown}
use Rattle.go_scopes_cycles.proofs.Alike.{IsAlike, alike, known_alike, through}
use Rattle.go_scopes_cycles.proofs.Each.{Each, needs_called, IsCalled, all_known_append}

or_first : (b c : Bool) → b ≡ true → (b || c) ≡ true
or_first true c h = refl
or_first false c h = absurd (grind (arith, h))

-- ---- those that aren't there yet

abbrev one_unless : Bool → ℕ → ℕ
one_unless true n = n
one_unless false n = suc n

abbrev unknown : List Needed → List Needed → ℕ
unknown [] c = 0
unknown (u ∷ us) c = one_unless (is_known u c) (unknown us c)

at_most : (b : Bool) (m n : ℕ) → m ≤ n → one_unless b m ≤ suc n
at_most true m n h = omega (arith, h)
at_most false m n h = omega (arith, h)

unknown_length : (us c : List Needed) → unknown us c ≤ length us
unknown_length [] c = omega arith
unknown_length (u ∷ us) c = at_most (is_known u c) (unknown us c) (length us) (unknown_length us c)

less : (b b' : Bool) (m n : ℕ) → (b ≡ true → b' ≡ true) → m ≤ n → one_unless b' m ≤ one_unless b n
less true true m n f h = h
less true false m n f h = absurd (grind (arith, f refl))
less false true m n f h = omega (arith, h)
less false false m n f h = omega (arith, h)

fewer : (b b' : Bool) (m n : ℕ) → (b ≡ true → b' ≡ true) → m < n → one_unless b' m < one_unless b n
fewer true true m n f h = h
fewer true false m n f h = absurd (grind (arith, f refl))
fewer false true m n f h = omega (arith, h)
fewer false false m n f h = omega (arith, h)

new_one : (b b' : Bool) (m n : ℕ) → b ≡ false → b' ≡ true → m ≤ n → one_unless b' m < one_unless b n
new_one true b' m n e h k = absurd (grind (arith, e))
new_one false true m n e h k = omega (arith, k)
new_one false false m n e h k = absurd (grind (arith, h))

unknown_less : (us ys c : List Needed) → unknown us (with_all ys c) ≤ unknown us c
unknown_less [] ys c = omega arith
unknown_less (u ∷ us) ys c = less (is_known u c) (is_known u (with_all ys c)) (unknown us (with_all ys c)) (unknown us c) (known_all u ys c) (unknown_less us ys c)

fewer_by : (u : Needed) (us ys c : List Needed) (y : Needed) (b rest : Bool) → (is_same y.it u.it && same_way y.full u.full) ≡ b → (b || rest) ≡ true → is_known y c ≡ false → is_known y (with_all ys c) ≡ true → (rest ≡ true → unknown us (with_all ys c) < unknown us c) → unknown (u ∷ us) (with_all ys c) < unknown (u ∷ us) c
fewer_by u us ys c y true rest e h new there f =
    let one : IsAlike y u = alike y u e in
    new_one (is_known u c) (is_known u (with_all ys c)) (unknown us (with_all ys c)) (unknown us c) (known_alike y u c one ∙ new) (known_alike y u (with_all ys c) one ∙ there) (unknown_less us ys c)
fewer_by u us ys c y false rest e h new there f = fewer (is_known u c) (is_known u (with_all ys c)) (unknown us (with_all ys c)) (unknown us c) (known_all u ys c) (f h)

unknown_fewer : (us ys c : List Needed) (y : Needed) → is_known y us ≡ true → is_known y c ≡ false → is_known y (with_all ys c) ≡ true → unknown us (with_all ys c) < unknown us c
unknown_fewer [] ys c y h new there = absurd (grind (arith, h))
unknown_fewer (u ∷ us) ys c y h new there = fewer_by u us ys c y (is_same y.it u.it && same_way y.full u.full) (is_known y us) refl h new there (λ r. unknown_fewer us ys c y r new there)

-- ---- a round adds something, or nothing is missing

record IsNew (ns c : List Needed) : Type 0 where
  it : Needed
  new : is_known it c ≡ false
  there : is_known it ns ≡ true

news_by : (n : Needed) (ns c : List Needed) (b : Bool) → is_known n c ≡ b → AllKnown ns c ⊎ IsNew ns c → AllKnown (n ∷ ns) c ⊎ IsNew (n ∷ ns) c
news_by n ns c true e (inl h) = inl (e, h)
news_by n ns c true e (inr h) = inr record { it = h.it; new = h.new; there = or_last (is_same h.it.it n.it && same_way h.it.full n.full) (is_known h.it ns) h.there }
news_by n ns c false e h = inr record { it = n; new = e; there = ap (λ b. b || is_known n ns) (itself n) }

news : (ns c : List Needed) → AllKnown ns c ⊎ IsNew ns c
news [] c = inl tt
news (n ∷ ns) c = news_by n ns c (is_known n c) refl (news ns c)

-- ---- all that names call for, in both ways

abbrev both_ways : Option Found → List Needed → List Needed
both_ways None us = us
both_ways (Some d) us = record { it = d; full = true } ∷ record { it = d; full = false } ∷ us

both_length : (o : Option Found) (us : List Needed) (n : ℕ) → length us ≤ n + n → length (both_ways o us) ≤ suc n + suc n
both_length None us n h = omega (arith, h)
both_length (Some d) us n h = omega (arith, h)

known_more : (y u : Needed) (us : List Needed) → is_known y us ≡ true → is_known y (u ∷ us) ≡ true
known_more y u us h = or_last (is_same y.it u.it && same_way y.full u.full) (is_known y us) h

known_both : (o : Option Found) (y : Needed) (us : List Needed) → is_known y us ≡ true → is_known y (both_ways o us) ≡ true
known_both None y us h = h
known_both (Some d) y us h = known_more y (record { it = d; full = true }) (record { it = d; full = false } ∷ us) (known_more y (record { it = d; full = false }) us h)

round_among : (asks : List Asked) (us xs : List Needed) → ((x : Needed) → AllKnown (needs asks x) us) → AllKnown (needs_of asks xs) us
round_among asks us [] h = tt
round_among asks us (x ∷ xs) h = all_known_append (needs asks x) (needs_of asks xs) us (h x) (round_among asks us xs h)

-- ---- enough rounds

settled : (asks : List Asked) (k : ℕ) (c : List Needed) → AllKnown (needs_of asks c) c → AllKnown (needs_of asks (all_needed asks k c)) (all_needed asks k c)
settled asks k c h = subst (λ z. AllKnown (needs_of asks z) z) (sym (all_same asks k c (there_all (needs_of asks c) c h))) h

round_fewer : (asks : List Asked) (us c : List Needed) → ((x : Needed) → AllKnown (needs asks x) us) → IsNew (needs_of asks c) c → unknown us (with_all (needs_of asks c) c) < unknown us c
round_fewer asks us c all n =
    unknown_fewer us (needs_of asks c) c n.it (through n.it (needs_of asks c) us n.there (round_among asks us c all)) n.new
    (through n.it (needs_of asks c) (with_all (needs_of asks c) c) n.there (each_known (needs_of asks c) c))

settled_by : (asks : List Asked) (k : ℕ) (c : List Needed) → AllKnown (needs_of asks c) c ⊎ IsNew (needs_of asks c) c → (IsNew (needs_of asks c) c → AllKnown (needs_of asks (all_needed asks k c)) (all_needed asks k c)) → AllKnown (needs_of asks (all_needed asks k c)) (all_needed asks k c)
settled_by asks k c (inl h) f = settled asks k c h
settled_by asks k c (inr n) f = f n

enough : (asks : List Asked) (us : List Needed) (k : ℕ) (c : List Needed) → ((x : Needed) → AllKnown (needs asks x) us) → unknown us c ≤ k → AllKnown (needs_of asks (all_needed asks k c)) (all_needed asks k c)
enough asks us zero c all low = settled_by asks zero c (news (needs_of asks c) c) (λ n. absurd (omega (arith, low, round_fewer asks us c all n)))
enough asks us (suc k) c all low =
    settled_by asks (suc k) c (news (needs_of asks c) c)
    (λ n. enough asks us k (with_all (needs_of asks c) c) all (omega (arith, low, round_fewer asks us c all n)))

abbrev pub start_of : List Asked → Found → List Needed
start_of asks d = with_all (needs asks (record { it = d; full = false })) []

-- ---- further rounds

among_append : (x : Found) (xs ys : List Needed) → is_among x xs ≡ true → is_among x (xs ++ ys) ≡ true
among_append x [] ys h = absurd (grind (arith, h))
among_append x (z ∷ zs) ys h = or_more (is_same x z.it) (is_among x zs) (is_among x (zs ++ ys)) h (among_append x zs ys)

among_all : (x : Found) (ys xs : List Needed) → is_among x xs ≡ true → is_among x (with_all ys xs) ≡ true
among_all x ys xs h = let more = grown ys xs in subst (λ z. is_among x z ≡ true) (sym more.1) (among_append x xs more.0 h)

among_rounds : (asks : List Asked) (k : ℕ) (x : Found) (xs : List Needed) → is_among x xs ≡ true → is_among x (all_needed asks k xs) ≡ true
among_rounds asks zero x xs h = h
among_rounds asks (suc k) x xs h = among_rounds asks k x (with_all (needs_of asks xs) xs) (among_all x (needs_of asks xs) xs h)

rounds_on : (asks : List Asked) (j k : ℕ) (xs : List Needed) → all_needed asks (j + k) xs ≡ all_needed asks k (all_needed asks j xs)
rounds_on asks zero k xs = let none : 0 + k ≡ k = omega arith in ap (λ n. all_needed asks n xs) none
rounds_on asks (suc j) k xs =
    let more : suc j + k ≡ suc (j + k) = omega arith in
    ap (λ n. all_needed asks n xs) more ∙ rounds_on asks j k (with_all (needs_of asks xs) xs)

-- Where all that is needed is there after n rounds, what is needed after any number of rounds is.
in_closed : (asks : List Asked) (n k : ℕ) (x : Found) (start : List Needed) → AllKnown (needs_of asks (all_needed asks n start)) (all_needed asks n start) → is_among x (all_needed asks k start) ≡ true → is_among x (all_needed asks n start) ≡ true
in_closed asks n k x start closed h =
    let all = all_needed asks n start in
    let turned : k + n ≡ n + k = omega arith in
    let still : all_needed asks k all ≡ all = all_same asks k all (there_all (needs_of asks all) all closed) in
    let same : all_needed asks n (all_needed asks k start) ≡ all = sym (rounds_on asks k n start) ∙ ap (λ m. all_needed asks m start) turned ∙ rounds_on asks n k start ∙ still in
    subst (λ z. is_among x z ≡ true) same (among_rounds asks n x (all_needed asks k start) h)

-- ---- twice as many rounds as there are declarations

abbrev ways_of : List Found → List Needed
ways_of [] = []
ways_of (d ∷ ds) = both_ways (Some d) (ways_of ds)

ways_length : (ds : List Found) → length (ways_of ds) ≤ length ds + length ds
ways_length [] = omega arith
ways_length (d ∷ ds) = both_length (Some d) (ways_of ds) (length ds) (ways_length ds)

same_ways : (e d : Found) (f : Bool) (us : List Needed) → is_same e d ≡ true → is_known (record { it = e; full = f }) (both_ways (Some d) us) ≡ true
same_ways e d true us h = or_first (is_same e d && true) (is_known (record { it = e; full = true }) (record { it = d; full = false } ∷ us)) (both_true (is_same e d) true h refl)
same_ways e d false us h = known_more (record { it = e; full = false }) (record { it = d; full = true }) (record { it = d; full = false } ∷ us) (or_first (is_same e d && true) (is_known (record { it = e; full = false }) us) (both_true (is_same e d) true h refl))

declared_known : (e : Found) (f : Bool) (ds : List Found) → IsDeclared e ds → is_known (record { it = e; full = f }) (ways_of ds) ≡ true
declared_known e f [] h = absurd h
declared_known e f (d ∷ ds) (inl h) = same_ways e d f (ways_of ds) h
declared_known e f (d ∷ ds) (inr h) = known_both (Some d) (record { it = e; full = f }) (ways_of ds) (declared_known e f ds h)

all_declared : (asks : List Asked) (ds : List Found) (ys : List Needed) → AreDeclared asks ds → Each (IsCalled asks) ys → AllKnown ys (ways_of ds)
all_declared asks ds [] all h = tt
all_declared asks ds (y ∷ ys) all h = (declared_known y.it y.full ds (all y.it h.0.called), all_declared asks ds ys all h.1)

in_twice : (asks : List Asked) (ds : List Found) (k : ℕ) (d x : Found) → AreDeclared asks ds → is_among x (all_needed asks k (start_of asks d)) ≡ true → is_among x (all_needed asks (length ds + length ds) (start_of asks d)) ≡ true
in_twice asks ds k d x all h =
    in_closed asks (length ds + length ds) k x (start_of asks d)
    (enough asks (ways_of ds) (length ds + length ds) (start_of asks d) (λ y. all_declared asks ds (needs asks y) all (needs_called asks y)) (omega (arith, unknown_length (ways_of ds) (start_of asks d), ways_length ds))) h

or_both : (b b' c c' : Bool) → (b ≡ true → b' ≡ true) → (c ≡ true → c' ≡ true) → (b || c) ≡ true → (b' || c') ≡ true
or_both true b' c c' f g h = or_first b' c' (f refl)
or_both false b' c c' f g h = or_last b' c' (g h)

any_twice : (asks : List Asked) (all ds : List Found) (k : ℕ) → AreDeclared asks all → any_itself asks k ds ≡ true → any_itself asks (length all + length all) ds ≡ true
any_twice asks all [] k h e = absurd (grind (arith, e))
any_twice asks all (d ∷ ds) k h e =
    or_both (needs_itself asks k d) (needs_itself asks (length all + length all) d) (any_itself asks k ds) (any_itself asks (length all + length all) ds) (in_twice asks all k d d h) (any_twice asks all ds k h) e

pub any_declared : (asks : List Asked) (ds : List Found) → AreDeclared asks ds → any_itself asks (rounds asks) ds ≡ true → any_itself asks (length ds + length ds) ds ≡ true
any_declared asks ds all h = any_twice asks ds ds (rounds asks) all h
