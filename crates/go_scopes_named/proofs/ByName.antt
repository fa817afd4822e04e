-- The local meanings of a name, and the innermost of them.
use Rattle.std.proofs.Common.{◌≡◌, ℕ, zero, suc, ◌<◌, Bool, true, false, ◌&&◌, if◌then◌else◌, nat_eq, List, [], ◌∷◌, ◌++◌, Option, refl, sym, ap, ◌∙◌, arith, length, map, subst, take}
use Rattle.std.proofs.lemmas.Bool.{false≢true}
use Rattle.std.proofs.lemmas.List.{append-nil}
use Rattle.std.specs.Prelude.{slice_index_or}
use Rattle.std.specs.Cmp.Lexicographic.{pointwise}
use Rattle.std.proofs.lemmas.Bool.Decides.{nat_tests}
use Rattle.go_tokens.specs.Spellings.{same_text}
use Rattle.go_tree.specs.declared.object.Extent.{Extent}
use Rattle.go_tree.specs.Extents.{covers}
use Rattle.go_tree.specs.Meanings.{Meaning}
use Rattle.go_scopes_events.specs.Orders.{Nests}
use Rattle.go_scopes_events.specs.Scopes.{is_local, inner, inmost, locals_of, scope_of, AreNested, Each}
use Rattle.go_scopes_lookup.specs.declared.meaning.Meaning as own
use Rattle.go_scopes_lookup.specs.Views.{meaning_view}
use Rattle.go_scopes_named.specs.declared.segments.Segment.{Segment}
use Rattle.go_scopes_named.specs.Named.{named_locals}
use Rattle.go_scopes_named.specs.Segments.{AreSegments, over_covering, inmost_among}

named_append : (n : ℕ) (w : List ℕ) (ms : List Meaning) (m : Meaning) → named_locals n w (ms ++ m ∷ []) ≡ named_locals n w ms ++ (if is_local n m.extent && same_text m.name w then m ∷ [] else [])
named_append n w [] m = refl
named_append n w (x ∷ ms) m = by (is_local n x.extent && same_text x.name w) (named_append n w ms m)
  where
    by : (b : Bool) → named_locals n w (ms ++ m ∷ []) ≡ named_locals n w ms ++ (if is_local n m.extent && same_text m.name w then m ∷ [] else []) → (if b then x ∷ named_locals n w (ms ++ m ∷ []) else named_locals n w (ms ++ m ∷ [])) ≡ (if b then x ∷ named_locals n w ms else named_locals n w ms) ++ (if is_local n m.extent && same_text m.name w then m ∷ [] else [])
    by true e = ap (λ l. x ∷ l) e
    by false e = e

-- one more meaning
pub named_step : (n : ℕ) (w : List ℕ) (m : Meaning) (ms : List Meaning) (olds news : List Segment) (b : Bool) → is_local n m.extent && same_text m.name w ≡ b → AreSegments n olds (named_locals n w ms) → (b ≡ true → AreSegments n news (named_locals n w ms ++ m ∷ [])) → (b ≡ false → news ≡ olds) → AreSegments n news (named_locals n w (ms ++ m ∷ []))
named_step n w m ms olds news true e h f g =
    subst (AreSegments n news) (ap (λ c. named_locals n w ms ++ (if c then m ∷ [] else [])) (sym e) ∙ sym (named_append n w ms m)) (f refl)
named_step n w m ms olds news false e h f g =
    subst (AreSegments n news) (sym (append-nil (named_locals n w ms)) ∙ ap (λ c. named_locals n w ms ++ (if c then m ∷ [] else [])) (sym e) ∙ sym (named_append n w ms m)) (subst (λ l. AreSegments n l (named_locals n w ms)) (sym (g refl)) h)

pub not_named : (n : ℕ) (e : Extent) (b : Bool) → is_local n e ≡ false → is_local n e && b ≡ false
not_named n e b h = ap (λ c. c && b) h

-- how scopes nest
pub each_named : (Q : Meaning → Type 0) (n : ℕ) (w : List ℕ) (ms : List Meaning) → Each Q (locals_of n ms) → Each Q (named_locals n w ms)
each_named Q n w [] h = tt
each_named Q n w (m ∷ ms) h = by (is_local n m.extent) (same_text m.name w) (each_named Q n w ms) h
  where
    by : (b s : Bool) → (Each Q (locals_of n ms) → Each Q (named_locals n w ms)) → Each Q (if b then m ∷ locals_of n ms else locals_of n ms) → Each Q (if b && s then m ∷ named_locals n w ms else named_locals n w ms)
    by true true rest h = (h.0, rest h.1)
    by true false rest h = rest h.1
    by false s rest h = rest h

local_at : (Q : Meaning → Type 0) (n : ℕ) (all : List own.Meaning) (i : ℕ) (d : own.Meaning) → i < length all → is_local n (meaning_view (slice_index_or all i d)).extent ≡ true → Each Q (locals_of n (map meaning_view all)) → Q (meaning_view (slice_index_or all i d))
local_at Q n [] i d l e h = absurd (omega (arith, l))
local_at Q n (x ∷ all) zero d l e h = (subst (λ b. Each Q (if b then meaning_view x ∷ locals_of n (map meaning_view all) else locals_of n (map meaning_view all))) e h).0
local_at Q n (x ∷ all) (suc i) d l e h = local_at Q n all i d (omega (arith, l)) e (by (is_local n (meaning_view x).extent) h)
  where
    by : (b : Bool) → Each Q (if b then meaning_view x ∷ locals_of n (map meaning_view all) else locals_of n (map meaning_view all)) → Each Q (locals_of n (map meaning_view all))
    by true h = h.1
    by false h = h

pub nested_at : (n : ℕ) (all : List own.Meaning) (i : ℕ) (d : own.Meaning) → i < length all → AreNested (locals_of n (map meaning_view all)) → is_local n (meaning_view (slice_index_or all i d)).extent ≡ true
    → Each (λ a. Nests (scope_of a.extent) (scope_of (meaning_view (slice_index_or all i d)).extent)) (locals_of n (map meaning_view (take i all)))
nested_at n [] i d l h e = absurd (omega (arith, l))
nested_at n (x ∷ all) zero d l h e = tt
nested_at n (x ∷ all) (suc i) d l h e =
    let less : i < length all = omega (arith, l) in
    by (is_local n (meaning_view x).extent) (local_at (λ y. Nests (scope_of x.entry.now.extent) (scope_of y.extent)) n all i d less e) (λ g. nested_at n all i d less g e) h
  where
    by : (b : Bool)
        → (Each (λ y. Nests (scope_of x.entry.now.extent) (scope_of y.extent)) (locals_of n (map meaning_view all)) → Nests (scope_of x.entry.now.extent) (scope_of (meaning_view (slice_index_or all i d)).extent))
        → (AreNested (locals_of n (map meaning_view all)) → Each (λ a. Nests (scope_of a.extent) (scope_of (meaning_view (slice_index_or all i d)).extent)) (locals_of n (map meaning_view (take i all))))
        → AreNested (if b then meaning_view x ∷ locals_of n (map meaning_view all) else locals_of n (map meaning_view all))
        → Each (λ a. Nests (scope_of a.extent) (scope_of (meaning_view (slice_index_or all i d)).extent)) (if b then meaning_view x ∷ locals_of n (map meaning_view (take i all)) else locals_of n (map meaning_view (take i all)))
    by true one rest h = (one h.0, rest h.1)
    by false one rest h = rest h

-- the innermost of those of a name is that of all locals
pub inmost_named : (n t : ℕ) (w : List ℕ) (a : Option Meaning) (ms : List Meaning) → inmost_among n t a (named_locals n w ms) ≡ inmost n t w a (locals_of n ms)
inmost_named n t w a [] = refl
inmost_named n t w a (m ∷ ms) = by (is_local n m.extent) (same_text m.name w) refl (λ a. inmost_named n t w a ms)
  where
    by : (b s : Bool) → same_text m.name w ≡ s → ((a : Option Meaning) → inmost_among n t a (named_locals n w ms) ≡ inmost n t w a (locals_of n ms)) → inmost_among n t a (if b && s then m ∷ named_locals n w ms else named_locals n w ms) ≡ inmost n t w a (if b then m ∷ locals_of n ms else locals_of n ms)
    by true true e rest = rest (over_covering n t a m) ∙ ap (λ x. inmost n t w x (locals_of n ms)) (sym (ap (λ c. if c && covers m.extent n t then inner a m else a) e))
    by true false e rest = rest a ∙ ap (λ x. inmost n t w x (locals_of n ms)) (sym (ap (λ c. if c && covers m.extent n t then inner a m else a) e))
    by false s e rest = rest a

-- equal names of one file have equal locals
text_equal : (a b : List ℕ) → pointwise nat_eq a b ≡ true → a ≡ b
text_equal [] [] e = refl
text_equal [] (y ∷ b) e = cc
text_equal (x ∷ a) [] e = cc
text_equal (x ∷ a) (y ∷ b) e =
    let p = and_true (nat_eq x y) (pointwise nat_eq a b) e in
    let heads : x ≡ y = grind (arith, nat_tests, p.0) in
    ap (λ h. h ∷ a) heads ∙ ap (λ l. y ∷ l) (text_equal a b p.1)
  where
    and_true : (p q : Bool) → p && q ≡ true → (p ≡ true) × (q ≡ true)
    and_true true q e = (refl, e)
    and_true false q e = absurd cc

pub named_equal : (f n : ℕ) (v w : List ℕ) (ms : List Meaning) → nat_eq f n && pointwise nat_eq v w ≡ true → (f ≡ n) × (named_locals f v ms ≡ named_locals n w ms)
named_equal f n v w ms e = by (nat_eq f n) refl e
  where
    by : (b : Bool) → nat_eq f n ≡ b → b && pointwise nat_eq v w ≡ true → (f ≡ n) × (named_locals f v ms ≡ named_locals n w ms)
    by true p q = let files : f ≡ n = grind (arith, nat_tests, p) in (files, ap (λ k. named_locals k v ms) files ∙ ap (λ u. named_locals n u ms) (text_equal v w q))
    by false p q = absurd (false≢true q)

pub file_own : (n : ℕ) → nat_eq n n ≡ true
file_own n = grind (arith, nat_tests)
