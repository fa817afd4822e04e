-- Pairs of which no first one has two second ones.
use Rattle.std.specs.Prelude.{ℕ, Bool, ◌||◌, not, nat_eq, List}
use Rattle.std.specs.List.{list_all}

-- Where two pairs have one first local they have one second local.
abbrev pub settles : (ℕ × ℕ) → (ℕ × ℕ) → Bool
settles p q = not (nat_eq p.0 q.0) || nat_eq p.1 q.1

abbrev pub is_settled : List (ℕ × ℕ) → Bool
is_settled pairs = list_all (λ p. list_all (settles p) pairs) pairs
