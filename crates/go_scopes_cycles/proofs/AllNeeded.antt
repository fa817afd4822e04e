-- Rounds of what declarations need: a round that adds nothing is the last one that does.
use Rattle.std.proofs.Common.{◌≡◌, ◌≤◌, ◌<◌, ◌+◌, ◌-◌, ◌∙◌, ℕ, zero, suc, Bool, true, false, List, [], ◌∷◌, ◌++◌, length, refl, ap, sym, arith, Option, Some, None, drop, get_or, add-one, ◌&&◌, ◌||◌, if◌then◌else◌, nat_eq, append-nil, append_assoc}
use Rattle.std.proofs.Math.Seq.{drop-cons, drop-append_seam}
use Rattle.std.proofs.lemmas.Grind.{common_steps}
use Rattle.go_tree.specs.Declarations.{Found}
use Rattle.go_tree.specs.Meanings.{Meaning}
use Rattle.go_tree.specs.Lookups.{Asked}
use Rattle.go_tree.specs.Needs.{Needed, is_same, same_way, is_known, with_one, with_all, needed_source, needed_meaning, needs, needs_of, all_needed}
use Rattle.go_scopes_cycles.specs.Needs.{way_of, needed_by}

pub longer_one : (x : Needed) (xs : List Needed) → length xs ≤ length (with_one x xs)
longer_one x xs = grind (arith, common_steps)

pub longer_all : (ys xs : List Needed) → length xs ≤ length (with_all ys xs)
longer_all [] xs = omega arith
longer_all (y ∷ ys) xs = omega (arith, longer_all ys (with_one y xs), longer_one y xs)

pub same_one : (x : Needed) (xs : List Needed) → length (with_one x xs) ≤ length xs → with_one x xs ≡ xs
same_one x xs h = grind (arith, common_steps)

pub same_all : (ys xs : List Needed) → length (with_all ys xs) ≤ length xs → with_all ys xs ≡ xs
same_all [] xs h = refl
same_all (y ∷ ys) xs h =
    let one : with_one y xs ≡ xs = same_one y xs (omega (arith, h, longer_all ys (with_one y xs))) in
    same_all ys (with_one y xs) (omega (arith, h, longer_one y xs)) ∙ one

-- where a round adds nothing, no further one does
pub all_same : (asks : List Asked) (k : ℕ) (xs : List Needed) → with_all (needs_of asks xs) xs ≡ xs → all_needed asks k xs ≡ xs
all_same asks zero xs h = refl
all_same asks (suc k) xs h = ap (all_needed asks k) h ∙ all_same asks k xs h

pub with_append : (ys zs xs : List Needed) → with_all (ys ++ zs) xs ≡ with_all zs (with_all ys xs)
with_append [] zs xs = refl
with_append (y ∷ ys) zs xs = with_append ys zs (with_one y xs)

pub needs_some : (a : Asked) (asks : List Asked) (x y : Needed) → needed_by a x ≡ Some y → needs (a ∷ asks) x ≡ y ∷ needs asks x
needs_some a asks x y h = grind (arith, common_steps)

pub needs_none : (a : Asked) (asks : List Asked) (x : Needed) → needed_by a x ≡ None → needs (a ∷ asks) x ≡ needs asks x
needs_none a asks x h = grind (arith, common_steps)

source_more : (f : Bool) (s : Option Found) (ns zs : List Needed) → with_all (needed_source f s ns) zs ≡ with_all ns (with_all (needed_source f s []) zs)
source_more f None ns zs = refl
source_more f (Some d) ns zs = refl

meaning_more : (w : Option Bool) (m : Option Meaning) (ns zs : List Needed) → with_all (needed_meaning w m ns) zs ≡ with_all ns (with_all (needed_meaning w m []) zs)
meaning_more None m ns zs = refl
meaning_more (Some f) None ns zs = refl
meaning_more (Some f) (Some m) ns zs = source_more f m.source ns zs

pub needs_more : (a : Asked) (asks : List Asked) (x : Needed) (zs : List Needed) → with_all (needs (a ∷ asks) x) zs ≡ with_all (needs asks x) (with_all (needs (a ∷ []) x) zs)
needs_more a asks x zs = meaning_more (way_of a x) a.meaning (needs asks x) zs

pub round_more : (asks : List Asked) (x : Needed) (xs zs : List Needed) → with_all (needs_of asks (x ∷ xs)) zs ≡ with_all (needs_of asks xs) (with_all (needs asks x) zs)
round_more asks x xs zs = with_append (needs asks x) (needs_of asks xs) zs

-- where a round adds nothing, what is there is all that is needed
pub last_round : (asks : List Asked) (k : ℕ) (xs ys all : List Needed) → all_needed asks k xs ≡ all → ys ≡ with_all (needs_of asks xs) xs → length ys ≡ length xs → ys ≡ all
last_round asks k xs ys all h e n =
    let short : length (with_all (needs_of asks xs) xs) ≤ length xs = omega (arith, n, ap length e) in
    let same = same_all (needs_of asks xs) xs short in
    e ∙ same ∙ sym (all_same asks k xs same) ∙ h

-- what is left at a place begins with what stands there
pub drop_read : {A : Type 0} (xs : List A) (i : ℕ) (x : A) → i < length xs → x ≡ get_or xs i x → drop i xs ≡ x ∷ drop (i + 1) xs
drop_read xs i x h e = drop-cons xs i x h ∙ ap (λ n. get_or xs i x ∷ drop n xs) (sym (add-one i)) ∙ ap (λ y. y ∷ drop (i + 1) xs) (sym e)

pub next_round : (asks : List Asked) (rounds round : ℕ) (xs ys all : List Needed) → round < rounds → all_needed asks (rounds - round) xs ≡ all → ys ≡ with_all (needs_of asks xs) xs → all_needed asks (rounds - (round + 1)) ys ≡ all
next_round asks rounds round xs ys all low h e =
    let more : rounds - round ≡ suc (rounds - (round + 1)) = omega (arith, low) in
    ap (all_needed asks (rounds - (round + 1))) e ∙ sym (ap (λ k. all_needed asks k xs) more) ∙ h

-- ---- only what is new is looked at

pub or_more : (b c e : Bool) → (b || c) ≡ true → (c ≡ true → e ≡ true) → (b || e) ≡ true
or_more true c e h f = refl
or_more false c e h f = f h

pub or_last : (b c : Bool) → c ≡ true → (b || c) ≡ true
or_last true c h = refl
or_last false c h = h

pub both_true : (b c : Bool) → b ≡ true → c ≡ true → (b && c) ≡ true
both_true true c h k = k
both_true false c h k = h

way_itself : (b : Bool) → same_way b b ≡ true
way_itself true = refl
way_itself false = refl

pub known_append : (x : Needed) (xs ys : List Needed) → is_known x xs ≡ true → is_known x (xs ++ ys) ≡ true
known_append x [] ys h = absurd (grind (arith, h))
known_append x (z ∷ zs) ys h = or_more (is_same x.it z.it && same_way x.full z.full) (is_known x zs) (is_known x (zs ++ ys)) h (known_append x zs ys)

known_if : (x : Needed) (b : Bool) (xs ys : List Needed) → is_known x xs ≡ true → is_known x ys ≡ true → is_known x (if b then xs else ys) ≡ true
known_if x true xs ys h k = h
known_if x false xs ys h k = k

known_one : (x y : Needed) (xs : List Needed) → is_known x xs ≡ true → is_known x (with_one y xs) ≡ true
known_one x y xs h = known_if x (is_known y xs) xs (xs ++ y ∷ []) h (known_append x xs (y ∷ []) h)

pub known_all : (x : Needed) (ys xs : List Needed) → is_known x xs ≡ true → is_known x (with_all ys xs) ≡ true
known_all x [] xs h = h
known_all x (y ∷ ys) xs h = known_all x ys (with_one y xs) (known_one x y xs h)

pub itself : (x : Needed) → (is_same x.it x.it && same_way x.full x.full) ≡ true
itself x = both_true (nat_eq x.it.file x.it.file && nat_eq x.it.it.name x.it.it.name) (same_way x.full x.full) (grind arith) (way_itself x.full)

known_last : (x : Needed) (xs : List Needed) → is_known x (xs ++ x ∷ []) ≡ true
known_last x [] = ap (λ b. b || false) (itself x)
known_last x (z ∷ zs) = or_last (is_same x.it z.it && same_way x.full z.full) (is_known x (zs ++ x ∷ [])) (known_last x zs)

known_by : (x : Needed) (xs : List Needed) (b : Bool) → is_known x xs ≡ b → is_known x (if b then xs else xs ++ x ∷ []) ≡ true
known_by x xs true h = h
known_by x xs false h = known_last x xs

known_new : (x : Needed) (xs : List Needed) → is_known x (with_one x xs) ≡ true
known_new x xs = known_by x xs (is_known x xs) refl

abbrev pub AllKnown : List Needed → List Needed → Type 0
AllKnown [] zs = Unit {0}
AllKnown (y ∷ ys) zs = (is_known y zs ≡ true) × AllKnown ys zs

pub each_known : (ys xs : List Needed) → AllKnown ys (with_all ys xs)
each_known [] xs = tt
each_known (y ∷ ys) xs = (known_all y ys (with_one y xs) (known_new y xs), each_known ys (with_one y xs))

there_one : (y : Needed) (zs : List Needed) → is_known y zs ≡ true → with_one y zs ≡ zs
there_one y zs h = ap (λ b. if b then zs else zs ++ y ∷ []) h

pub there_all : (ys zs : List Needed) → AllKnown ys zs → with_all ys zs ≡ zs
there_all [] zs h = refl
there_all (y ∷ ys) zs h = ap (with_all ys) (there_one y zs h.0) ∙ there_all ys zs h.1

pub again : (ys xs : List Needed) → with_all ys (with_all ys xs) ≡ with_all ys xs
again ys xs = there_all ys (with_all ys xs) (each_known ys xs)

grown_if : (b : Bool) (y : Needed) (xs : List Needed) → (n : List Needed) × ((if b then xs else xs ++ y ∷ []) ≡ xs ++ n)
grown_if true y xs = ([], sym (append-nil xs))
grown_if false y xs = (y ∷ [], refl)

pub grown : (ys xs : List Needed) → (n : List Needed) × (with_all ys xs ≡ xs ++ n)
grown [] xs = ([], sym (append-nil xs))
grown (y ∷ ys) xs =
    let one = grown_if (is_known y xs) y xs in
    let more = grown ys (with_one y xs) in
    (one.0 ++ more.0, more.1 ∙ ap (λ z. z ++ more.0) one.1 ∙ append_assoc xs one.0 more.0)

needs_append : (asks : List Asked) (xs ys : List Needed) → needs_of asks (xs ++ ys) ≡ needs_of asks xs ++ needs_of asks ys
needs_append asks [] ys = refl
needs_append asks (x ∷ xs) ys = ap (λ z. needs asks x ++ z) (needs_append asks xs ys) ∙ sym (append_assoc (needs asks x) (needs_of asks xs) (needs_of asks ys))

-- behind a round, the next one adds what the new ones need
pub fresh_round : (asks : List Asked) (xs zs : List Needed) → zs ≡ with_all (needs_of asks xs) xs → with_all (needs_of asks zs) zs ≡ with_all (needs_of asks (drop (length xs) zs)) zs
fresh_round asks xs zs e =
    let more = grown (needs_of asks xs) xs in
    let whole : zs ≡ xs ++ more.0 = e ∙ more.1 in
    let new : drop (length xs) zs ≡ more.0 = ap (drop (length xs)) whole ∙ drop-append_seam xs more.0 in
    let same : with_all (needs_of asks xs) zs ≡ zs = ap (with_all (needs_of asks xs)) e ∙ again (needs_of asks xs) xs ∙ sym e in
    ap (λ ns. with_all ns zs) (ap (needs_of asks) whole ∙ needs_append asks xs more.0)
    ∙ with_append (needs_of asks xs) (needs_of asks more.0) zs
    ∙ ap (with_all (needs_of asks more.0)) same
    ∙ ap (λ n. with_all (needs_of asks n) zs) (sym new)
