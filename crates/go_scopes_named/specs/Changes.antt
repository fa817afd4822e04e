-- Where in a file the meaning of a name changes.
use Rattle.std.specs.Prelude.{◌≡◌, ℕ, ◌<◌, ◌≤◌, ◌⊎◌, List, [], ◌∷◌}
use Rattle.std.specs.List.{AllByRecursion}
use Rattle.go_tree.specs.Meanings as names

-- Tokens in order, some of them twice.
abbrev pub AreAscending : List ℕ → Type 0
AreAscending [] = Unit
AreAscending (b ∷ bs) = AllByRecursion (λ c. b ≤ c) bs × AreAscending bs

-- The name w means the same at two tokens of the file n unless one of the changes lies behind the first of them and not behind the second.
abbrev pub AreChanges : ℕ → List ℕ → List names.Meaning → List ℕ → Type 0
AreChanges n w ms bs = (s t : ℕ) → s ≤ t → AllByRecursion (λ b. (b ≤ s) ⊎ (t < b)) bs → names.meaning_at ms n s w ≡ names.meaning_at ms n t w
