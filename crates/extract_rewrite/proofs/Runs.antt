-- Runs of tokens, of which one ends where another begins or before, are apart in bytes.
use Rattle.std.proofs.Common.{◌≡◌, ◌∙◌, ℕ, zero, suc, ◌+◌, ◌-◌, ◌<◌, ◌≤◌, true, List, [], ◌∷◌, ◌++◌, length, map, Option, Some, None, slice_get, refl, sym, ap, arith, inl, inr}
use Rattle.std.proofs.lemmas.Bool.{both_ways, cases_lt}
use Rattle.std.proofs.lemmas.Bool.Decides.{nat_tests}
use Rattle.std.specs.Prelude.{◌⊎◌}
use Rattle.std.specs.List.{AllByRecursion}
use Rattle.std.specs.Option.{option_map, option_to_list}
use Rattle.go_tokens.specs.declared.token.Token.{Token}
use Rattle.go_tokens.specs.Tokens.{AreOrdered, TokenList, span_of}
use Rattle.go_tree.specs.File.{FileTree}
use Rattle.go_tree.specs.Units.{end_in, start_in}
use Rattle.go_tree.specs.Units as units
use Rattle.go_tree.specs.Uses.{functions_among}
use Rattle.go_types.specs.Trees.{TypeTree}
use Rattle.go_typed.specs.declared.window.Window.{Window}
use Rattle.go_typed.specs.Contents.{Content, FuncContent}
use Rattle.param_choose.specs.Members.{Member, first_token, member_over, members_of, template_of}
use Rattle.escape_check.specs.Apart as tokens
use Rattle.escape_check.specs.Places.{Sources, bytes_in, file_of, sources_of, window_place}
use Rattle.escape_check.specs.Refusals.{refused}
use Rattle.escape_check.specs.Tokens.{has_token}
use Rattle.extract_texts.specs.Texts.{window_bytes}
use Rattle.extract_rewrite.specs.Apart.{AreApart}
use Rattle.extract_rewrite.specs.Edits.{window_edit}
use Rattle.extract_rewrite.specs.Windows.{EachTwo, StandsIn}

-- ---- tokens in order

from_at : (ts : List Token) (at end : ℕ) → AreOrdered at (map span_of ts) end → (j : ℕ) → j < length ts → at ≤ start_in (slice_get ts j)
from_at [] at end h j lt = absurd (omega (arith, lt))
from_at (t ∷ ts) at end h zero lt = h.0
from_at (t ∷ ts) at end h (suc j) lt = let rest = from_at ts t.span.end end h.2 j (omega (arith, lt)) in omega (arith, h.0, h.1, rest)

pub before : (ts : List Token) (at end : ℕ) → AreOrdered at (map span_of ts) end → (i j : ℕ) → i < j → j < length ts → end_in (slice_get ts i) ≤ start_in (slice_get ts j)
before [] at end h i j lt in_list = absurd (omega (arith, in_list))
before (t ∷ ts) at end h i zero lt in_list = absurd (omega (arith, lt))
before (t ∷ ts) at end h zero (suc j) lt in_list = from_at ts t.span.end end h.2 j (omega (arith, in_list))
before (t ∷ ts) at end h (suc i) (suc j) lt in_list = before ts t.span.end end h.2 i j (omega (arith, lt)) (omega (arith, in_list))

pub forward : (ts : List Token) (at end : ℕ) → AreOrdered at (map span_of ts) end → (i : ℕ) → i < length ts → start_in (slice_get ts i) ≤ end_in (slice_get ts i)
forward [] at end h i in_list = absurd (omega (arith, in_list))
forward (t ∷ ts) at end h zero in_list = h.1
forward (t ∷ ts) at end h (suc i) in_list = forward ts t.span.end end h.2 i (omega (arith, in_list))

runs_apart : (n : ℕ) (l : TokenList) (a b c d : ℕ) → AreOrdered 0 (map span_of l.tokens) (length l.text) → a < b → b ≤ c → c < d → d ≤ length l.tokens → (units.bytes_of n l a b).end ≤ (units.bytes_of n l c d).start
runs_apart n l a b c d h ab bc cd inside =
    let ts = l.tokens in
    let low = before ts 0 (length l.text) h (b - 1) c (omega (arith, ab, bc)) (omega (arith, cd, inside)) in
    let front = before ts 0 (length l.text) h a c (omega (arith, ab, bc)) (omega (arith, cd, inside)) in
    let own = forward ts 0 (length l.text) h a (omega (arith, ab, bc, cd, inside)) in
    omega (arith, low, front, own)

-- ---- windows of one function

module _ {T : Type 0} where
  has : (m : Member T) (func u : ℕ) → func ≡ m.window.func → m.from ≤ u → u < m.upto → has_token func u m ≡ true
  has m func u same low high = grind (arith, nat_tests)

  shared : (m n : Member T) → m.window.func ≡ n.window.func → (u : ℕ) → m.from ≤ u → u < m.upto → n.from ≤ u → u < n.upto → tokens.AreApart m n → ⊥
  shared m n same u a b c d apart =
      both_ways (has_token m.window.func u n) (apart m.window.func u (has m m.window.func u refl a b)) (has n m.window.func u same c d)

  separate : (m n : Member T) → m.window.func ≡ n.window.func → m.from < m.upto → n.from < n.upto → tokens.AreApart m n → (m.upto ≤ n.from) ⊎ (n.upto ≤ m.from)
  separate m n same p q apart = elim (cases_lt n.from m.upto) [
    | inr behind ↦ inl behind
    | inl a ↦ elim (cases_lt m.from n.upto) [
      | inr front ↦ inr front
      | inl b ↦ elim (cases_lt n.from m.from) [
        | inl c ↦ absurd (shared m n same m.from (omega arith) p (omega (arith, c)) b apart)
        | inr c ↦ absurd (shared m n same n.from c a (omega arith) q apart)
      ]
    ]
  ]

  -- the bytes of a member's window, by its file
  pub shown : (s : Sources) (file : FileTree) (m : Member T) → slice_get s.files (file_of s m) ≡ Some file → window_bytes s m ≡ units.bytes_of (file_of s m) file.tokens (m.first + m.from) (m.first + m.upto)
  shown s file m there = ap (bytes_in (window_place s m)) there

  pub ranges : (s : Sources) (file : FileTree) (m n : Member T) → m.first ≡ n.first → m.window.func ≡ n.window.func → StandsIn s file m → StandsIn s file n → tokens.AreApart m n →
      ((window_bytes s m).end ≤ (window_bytes s n).start) ⊎ ((window_bytes s n).end ≤ (window_bytes s m).start)
  ranges s file m n first same a b apart =
      let l = file.tokens in
      let order = a.ordered in
      let own = shown s file m a.there in
      let other = shown s file n b.there in
      let p = a.some in
      let q = b.some in
      let in_own = a.tokens in
      let in_other = b.tokens in
      elim (separate m n same p q apart) [
        | inl front ↦
            let le = runs_apart 0 l (m.first + m.from) (m.first + m.upto) (n.first + n.from) (n.first + n.upto) order (omega arith) (omega (arith, first, front)) (omega arith) in_other in
            inl (omega (arith, le, ap (λ x. x.end) own, ap (λ x. x.start) other))
        | inr behind ↦
            let le = runs_apart 0 l (n.first + n.from) (n.first + n.upto) (m.first + m.from) (m.first + m.upto) order (omega arith) (omega (arith, first, behind)) (omega arith) in_own in
            inr (omega (arith, le, ap (λ x. x.start) own, ap (λ x. x.end) other))
      ]

-- ---- all of them

module _ (c : Content) where
  abbrev Counted : Member TypeTree → Type 0
  Counted m = m.first ≡ first_token (slice_get (functions_among c.uses.package_level) m.window.func)

  one_counted : (w : Window) (o : Option FuncContent) (ms : List (Member TypeTree)) → AllByRecursion Counted ms → AllByRecursion Counted (option_to_list (option_map (λ f. member_over c.uses w f.locals f.tokens f.tree) o) ++ ms)
  one_counted w None ms h = h
  one_counted w (Some f) ms h = (refl, h)

  counted : (ws : List Window) → AllByRecursion Counted (members_of c ws)
  counted [] = tt
  counted (w ∷ ws) = one_counted w (slice_get c.functions w.func) (members_of c ws) (counted ws)

  module _ (name : List ℕ) (ws : List Window) where
    abbrev pub Separate : Member TypeTree → Member TypeTree → Type 0
    Separate m n = m.window.func ≡ n.window.func → (file : FileTree) → StandsIn (sources_of c) file m → StandsIn (sources_of c) file n → AreApart (window_edit c name ws m) (window_edit c name ws n)

    one : (m n : Member TypeTree) → Counted m → Counted n → tokens.AreApart m n → Separate m n
    one m n p q apart same file a b files =
        ranges (sources_of c) file m n (p ∙ ap (λ k. first_token (slice_get (functions_among c.uses.package_level) k)) same ∙ sym q) same a b apart

    each : (m : Member TypeTree) (ns : List (Member TypeTree)) → Counted m → AllByRecursion Counted ns → AllByRecursion (tokens.AreApart m) ns → AllByRecursion (Separate m) ns
    each m [] p q h = tt
    each m (n ∷ ns) p q h = (one m n p q.0 h.0, each m ns p q.1 h.1)

    all : (ms : List (Member TypeTree)) → AllByRecursion Counted ms → tokens.AllApart ms → EachTwo Separate ms
    all [] p h = tt
    all (m ∷ ms) p h = (each m ms p.0 p.1 h.0, all ms p.1 h.1)

    pub windows_apart : tokens.UnrefusedAreApart → (t : Member TypeTree) → template_of c ws ≡ Some t → refused c name ws ≡ None → EachTwo Separate (members_of c ws)
    windows_apart law t there none = all (members_of c ws) (counted ws) (law c name ws t there none)
