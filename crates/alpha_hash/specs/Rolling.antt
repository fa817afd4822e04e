-- Steps of the rolling number.
use Rattle.std.specs.Prelude.{◌≡◌, ℕ, suc, List, [], ◌∷◌, Option}
use Rattle.alpha_hash_defs.specs.Hash.{term}
use Rattle.alpha_hash_defs.specs.Numbers.{place_before}
use Rattle.alpha_hash_defs.specs.Words.{Word, number, named}

-- what one word adds to the sum of terms, by the locals and places so far
abbrev pub term_at : List (ℕ × ℕ) → ℕ → Word → ℕ
term_at seen p (number n) = 0
term_at seen p (named l) = term p (place_before seen l)

-- the locals and places behind a word
abbrev pub seen_at : List (ℕ × ℕ) → ℕ → Word → List (ℕ × ℕ)
seen_at seen p (number n) = seen
seen_at seen p (named l) = (l, p) ∷ seen

-- and behind words, the first of which has the place p
abbrev pub seen_after : List (ℕ × ℕ) → ℕ → List Word → List (ℕ × ℕ)
seen_after seen p [] = seen
seen_after seen p (w ∷ ws) = seen_after (seen_at seen p w) (suc p) ws

-- a map has the last places of locals
abbrev pub HasPlaces : (ℕ → Option ℕ) → List (ℕ × ℕ) → Type 0
HasPlaces places seen = (l : ℕ) → places l ≡ place_before seen l
