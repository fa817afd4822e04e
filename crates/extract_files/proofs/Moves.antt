-- Where places move to that are outside of all changes.
use Rattle.std.proofs.Common.{◌≡◌, ℕ, ◌+◌, ◌-◌, ◌<◌, ◌≤◌, ◌⊎◌, inl, inr, true, false, List, [], ◌∷◌, ◌++◌, length, take, drop, map, refl, ap, arith}
use Rattle.std.specs.Prelude.{nat_le, if◌then◌else◌}
use Rattle.std.proofs.lemmas.Bool.{le-leb, leb-true}
use Rattle.std.proofs.lemmas.List.{length-append, length-take-le, length-drop}
use Rattle.go_tokens.specs.declared.token.Token.{Token}
use Rattle.go_tokens.specs.declared.token.TokenKind.{TokenKind}
use Rattle.go_tokens.specs.Lexing.{width}
use Rattle.go_tokens.specs.Tokens.{AreOrdered, span_of}
use Rattle.go_tokens.proofs.Public.{width-append}
use Rattle.go_rewriting.specs.Places.{Ascending, Change, changed, moved_by, ranges}
use Rattle.go_rewriting.specs.Replacing.{moved}
use Rattle.go_rewriting.specs.Rewriting.{IsRange}
use Rattle.extract_files.specs.Holes.{Hole, whole_text, named}
use Rattle.extract_files.proofs.Filled.{TextHoles}
use Rattle.extract_files.proofs.Numbers.{earlier}

not_le : (a b : ℕ) → b < a → nat_le a b ≡ false
not_le a b lt = by (nat_le a b) refl
  where
    by : (x : _) → nat_le a b ≡ x → x ≡ false
    by true e = absurd (let le : a ≤ b = leb-true a b e in omega (arith, le, lt))
    by false e = refl

-- a place in front of all stays
pub moved_start : (xs : List Change) (i n : ℕ) → Ascending i (ranges xs) n → moved_by xs i ≡ i
moved_start [] i n a = refl
moved_start (x ∷ xs) i n a = ap (λ b. if b then i else moved x.upto (x.from + length x.words) (moved_by xs i)) (le-leb i x.from a.0)

moved_past : (x : Change) (xs : List Change) (n : ℕ) → x.from < n → moved_by (x ∷ xs) n ≡ moved x.upto (x.from + length x.words) (moved_by xs n)
moved_past x xs n lt = ap (λ b. if b then n else moved x.upto (x.from + length x.words) (moved_by xs n)) (not_le n x.from lt)

-- a place behind all stays behind
moved_above : (xs : List Change) (i u : ℕ) → Ascending i (ranges xs) u → i ≤ moved_by xs u
moved_above [] i u a = a
moved_above (x ∷ xs) i u a =
    let rest = moved_above xs x.upto u a.2 in
    let far = far_enough xs x.upto u a.2 in
    let is = moved_past x xs u (omega (arith, a.1, far)) in
    omega (arith, is, a.0, rest)
  where
    far_enough : (xs : List Change) (i u : ℕ) → Ascending i (ranges xs) u → i ≤ u
    far_enough [] i u a = a
    far_enough (x ∷ xs) i u a = let rest = far_enough xs x.upto u a.2 in omega (arith, a.0, a.1, rest)

pub reaches : (xs : List Change) (i u : ℕ) → Ascending i (ranges xs) u → i ≤ u
reaches [] i u a = a
reaches (x ∷ xs) i u a = let rest = reaches xs x.upto u a.2 in omega (arith, a.0, a.1, rest)

-- places behind all move alike
pub moved_add : (xs : List Change) (i u k : ℕ) → Ascending i (ranges xs) u → moved_by xs (u + k) ≡ moved_by xs u + k
moved_add [] i u k a = refl
moved_add (x ∷ xs) i u k a =
    let rest = moved_add xs x.upto u k a.2 in
    let above = moved_above xs x.upto u a.2 in
    let far = reaches xs x.upto u a.2 in
    let one = moved_past x xs u (omega (arith, a.1, far)) in
    let two = moved_past x xs (u + k) (omega (arith, a.1, far)) in
    omega (arith, rest, above, one, two)

-- the place behind all tokens moves behind all
pub moved_end : (xs : List Change) (i : ℕ) (ks : List TokenKind) → Ascending i (ranges xs) (length ks) → moved_by xs (length ks) ≡ length (changed xs ks)
moved_end [] i ks a = refl
moved_end (x ∷ xs) i ks a =
    let all : List TokenKind = changed xs ks in
    let rest : moved_by xs (length ks) ≡ length (changed xs ks) = moved_end xs x.upto ks a.2 in
    let above = moved_above xs x.upto (length ks) a.2 in
    let far = reaches xs x.upto (length ks) a.2 in
    let one = moved_past x xs (length ks) (omega (arith, a.1, far)) in
    let front : length (take x.from (changed xs ks)) ≡ x.from = length-take-le x.from (changed xs ks) (omega (arith, a.1, rest, above)) in
    let behind : length (drop x.upto (changed xs ks)) ≡ length (changed xs ks) - x.upto = length-drop x.upto (changed xs ks) in
    omega (arith, one, rest, above, front, behind, length-append (take x.from (changed xs ks)) (x.words ++ drop x.upto (changed xs ks)), length-append x.words (drop x.upto (changed xs ks)))

-- ---- within a range of tokens

-- a range whose text ends inside another one ends there by its numbers too
inside : (n : ℕ) (ts : List Token) (from upto start end from' upto' start' end' : ℕ) → AreOrdered 0 (map span_of ts) n → IsRange ts from upto start end → IsRange ts from' upto' start' end' → end' ≤ end → upto' ≤ upto
inside n ts from upto start end from' upto' start' end' o r s le = elim (two upto' upto) [
  | inl is ↦ is
  | inr lt ↦
      let e = earlier 0 n ts (upto - 1) (upto' - 1) r.last s.last o (omega (arith, lt, r.order)) r.has_last s.has_last in
      absurd (omega (arith, e, r.ends, s.ends, s.last_written, le))
]
  where
    two : (a b : ℕ) → (a ≤ b) ⊎ (b < a)
    two a b = grind arith

pub narrow : (n : ℕ) (ts : List Token) (from upto start end : ℕ) → AreOrdered 0 (map span_of ts) n → IsRange ts from upto start end → (hs : List Hole) (at i far : ℕ) (rest : List ℕ) → TextHoles ts at hs → at + width (whole_text hs rest) ≡ end → i ≤ upto
    → Ascending i (ranges (named hs)) far → Ascending i (ranges (named hs)) upto
narrow n ts from upto start end o r [] at i far rest t w le a = le
narrow n ts from upto start end o r (h ∷ hs) at i far rest t w le a =
    let long : at + width h.kept + width h.old + width (whole_text hs rest) ≡ end = omega (arith, w, width-append h.kept (h.old ++ whole_text hs rest), width-append h.old (whole_text hs rest)) in
    let here = inside n ts from upto start end h.from h.upto (at + width h.kept) (at + width h.kept + width h.old) o r t.0.range (omega (arith, long)) in
    (a.0, a.1, narrow n ts from upto start end o r hs (at + width h.kept + width h.old) h.upto far rest t.1 long here a.2)
