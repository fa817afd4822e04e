-- The names that a list of events looks up, and what they mean.
use Rattle.std.proofs.Common.{◌≡◌, ℕ, ◌<◌, ◌≤◌, ◌⊎◌, inl, Bool, true, false, List, [], ◌∷◌, ◌++◌, Option, Some, None, refl, ap}
use Rattle.std.specs.Prelude.{if◌then◌else◌, ◌&&◌, nat_eq}
use Rattle.go_tokens.specs.Spellings.{same_text}
use Rattle.go_tokens.specs.Tokens.{TokenList}
use Rattle.go_tree.specs.declared.event.Event.{Event}
use Rattle.go_tree.specs.declared.event.Event.TheVariants as event
use Rattle.go_tree.specs.declared.object.Extent.{Extent}
use Rattle.go_tree.specs.Extents.{covers, lies_inside}
use Rattle.go_tree.specs.Lookups.{asked, asked_in}
use Rattle.go_tree.specs.Meanings.{Meaning, covering, is_innermost, innermost_of, meaning_at}
use Rattle.go_tree.specs.Units.{word, is_blank}
use Rattle.go_scopes_events.specs.Scopes.{is_local, locals_of, first_by, inner, over, inmost}
use Rattle.go_scopes_events.specs.Sited.{EachUsed}
use Rattle.go_heads.proofs.Public.{Every, NamesIn}

pub asked_both : (ms : List Meaning) (n : ℕ) (l : TokenList) (es fs : List Event) → asked_in ms n l (es ++ fs) ≡ asked_in ms n l es ++ asked_in ms n l fs
asked_both ms n l [] fs = refl
asked_both ms n l (event.Use u ∷ es) fs = by (is_blank (word l u.name)) (asked_both ms n l es fs)
  where
    by : (b : Bool) → asked_in ms n l (es ++ fs) ≡ asked_in ms n l es ++ asked_in ms n l fs
        → (if b then asked_in ms n l (es ++ fs) else asked ms n l u ∷ asked_in ms n l (es ++ fs)) ≡ (if b then asked_in ms n l es else asked ms n l u ∷ asked_in ms n l es) ++ asked_in ms n l fs
    by true e = e
    by false e = ap (λ xs. asked ms n l u ∷ xs) e
asked_both ms n l (e ∷ es) fs = asked_both ms n l es fs

-- ---- names outside of a part of a file

-- outside of the tokens from a up to z of the file n
abbrev pub IsOutOf : ℕ → ℕ → ℕ → ℕ → ℕ → Type 0
IsOutOf n a z j y = (nat_eq n j ≡ false) ⊎ ((y < a) ⊎ (z ≤ y))

module _ (n a z : ℕ) where
  pub other_out : (j : ℕ) (es : List Event) → nat_eq n j ≡ false → EachUsed (λ u. IsOutOf n a z j u.name) es
  other_out j [] e = tt
  other_out j (event.Use u ∷ es) e = (inl e, other_out j es e)
  other_out j (event.Declaration d ∷ es) e = other_out j es e
  other_out j (event.Import i ∷ es) e = other_out j es e
  other_out j (event.Member m o i ∷ es) e = other_out j es e
  other_out j (event.Bodiless i k ∷ es) e = other_out j es e
  other_out j (event.Statement i k ∷ es) e = other_out j es e
  other_out j (event.Misplaced i k ∷ es) e = other_out j es e
  other_out j (event.SecondDefault i ∷ es) e = other_out j es e

  pub names_out : (lo hi : ℕ) (es : List Event) → ((y : ℕ) → lo ≤ y → y < hi → IsOutOf n a z n y) → NamesIn lo hi es → EachUsed (λ u. IsOutOf n a z n u.name) es
  names_out lo hi [] q g = tt
  names_out lo hi (event.Use u ∷ es) q g = (q u.name g.0 g.1, names_out lo hi es q g.2)
  names_out lo hi (event.Declaration d ∷ es) q g = names_out lo hi es q g.2
  names_out lo hi (event.Import i ∷ es) q g = names_out lo hi es q g
  names_out lo hi (event.Member m o i ∷ es) q g = names_out lo hi es q g
  names_out lo hi (event.Bodiless i k ∷ es) q g = names_out lo hi es q g
  names_out lo hi (event.Statement i k ∷ es) q g = names_out lo hi es q g
  names_out lo hi (event.Misplaced i k ∷ es) q g = names_out lo hi es q g
  names_out lo hi (event.SecondDefault i ∷ es) q g = names_out lo hi es q g

-- ---- what holds of each meaning, holds of the one that a name has

abbrev pub Holds : (Meaning → Type 0) → Option Meaning → Type 0
Holds Q None = Unit {0}
Holds Q (Some m) = Q m

module _ (Q : Meaning → Type 0) where
  covering_each : (n t : ℕ) (w : List ℕ) (ms : List Meaning) → Every Q ms → Every (λ m. Q m × (covers m.extent n t ≡ true)) (covering n t w ms)
  covering_each n t w [] h = tt
  covering_each n t w (m ∷ ms) h = by (same_text m.name w) (covers m.extent n t) refl (covering_each n t w ms h.1)
    where
      by : (b c : Bool) → covers m.extent n t ≡ c → Every (λ m. Q m × (covers m.extent n t ≡ true)) (covering n t w ms) → Every (λ m. Q m × (covers m.extent n t ≡ true)) (if b && c then m ∷ covering n t w ms else covering n t w ms)
      by true true e g = ((h.0, e), g)
      by true false e g = g
      by false c e g = g

  innermost_each : (all ms : List Meaning) → Every Q ms → Holds Q (innermost_of all ms)
  innermost_each all [] h = tt
  innermost_each all (m ∷ ms) h = by (is_innermost m.extent all) (innermost_each all ms h.1)
    where
      by : (b : Bool) → Holds Q (innermost_of all ms) → Holds Q (if b then Some m else innermost_of all ms)
      by true g = h.0
      by false g = g

  pub first_each : (f : Extent → Bool) (w : List ℕ) (ms : List Meaning) → Every Q ms → Holds (λ m. Q m × (f m.extent ≡ true)) (first_by f w ms)
  first_each f w [] h = tt
  first_each f w (m ∷ ms) h = by (same_text m.name w) (f m.extent) refl (first_each f w ms h.1)
    where
      by : (b c : Bool) → f m.extent ≡ c → Holds (λ m. Q m × (f m.extent ≡ true)) (first_by f w ms) → Holds (λ m. Q m × (f m.extent ≡ true)) (if b && c then Some m else first_by f w ms)
      by true true e g = (h.0, e)
      by true false e g = g
      by false c e g = g

  pub over_each : (n t : ℕ) (w : List ℕ) (o : Option Meaning) (m : Meaning) → Holds Q o → Q m → Holds Q (over n t w o m)
  over_each n t w o m h g = by (same_text m.name w && covers m.extent n t) o h
    where
      choose : (b : Bool) (a : Meaning) → Q a → Holds Q (if b then Some a else Some m)
      choose true a h = h
      choose false a h = g

      by : (b : Bool) (o : Option Meaning) → Holds Q o → Holds Q (if b then inner o m else o)
      by true None h = g
      by true (Some a) h = choose (lies_inside a.extent m.extent) a h
      by false o h = h

  pub inmost_each : (n t : ℕ) (w : List ℕ) (o : Option Meaning) (ms : List Meaning) → Holds Q o → Every Q ms → Holds Q (inmost n t w o (locals_of n ms))
  inmost_each n t w o [] h g = h
  inmost_each n t w o (m ∷ ms) h g = by (is_local n m.extent) (inmost_each n t w o ms h g.1) (inmost_each n t w (over n t w o m) ms (over_each n t w o m h g.0) g.1)
    where
      by : (b : Bool) → Holds Q (inmost n t w o (locals_of n ms)) → Holds Q (inmost n t w (over n t w o m) (locals_of n ms)) → Holds Q (inmost n t w o (if b then m ∷ locals_of n ms else locals_of n ms))
      by true x y = y
      by false x y = x

pub meaning_each : (Q : Meaning → Type 0) (n t : ℕ) (w : List ℕ) (ms : List Meaning) → Every Q ms → Holds (λ m. Q m × (covers m.extent n t ≡ true)) (meaning_at ms n t w)
meaning_each Q n t w ms h = innermost_each (λ m. Q m × (covers m.extent n t ≡ true)) (covering n t w ms) (covering n t w ms) (covering_each Q n t w ms h)
