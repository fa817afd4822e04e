-- The rolling hash. All numbers are those of 64 bits.
use Rattle.std.specs.Prelude.{ℕ, ◌-◌, ◌*◌, ◌%◌, ◌^◌, List, [], ◌∷◌, Option, Some, None}
use Rattle.std.specs.Int.Bits.{bit_xor}

abbrev pub mix : ℕ → ℕ → ℕ
mix h w = bit_xor h w * 1099511628211 % 2 ^ 64

abbrev pub basis : ℕ
basis = 14695981039346656037

-- numbers mixed one after the other into one
abbrev pub fold_from : ℕ → List ℕ → ℕ
fold_from h [] = h
fold_from h (w ∷ ws) = fold_from (mix h w) ws

abbrev pub fold : List ℕ → ℕ
fold ws = fold_from basis ws

-- the fold of a text is that of its bytes
abbrev pub text_fold : List ℕ → ℕ
text_fold bytes = fold bytes

-- how far a place lies behind the one before, if there is one
abbrev pub gap : ℕ → Option ℕ → ℕ
gap p None = 0
gap p (Some q) = p - q

-- a name of a local at a place, by the place of the name of the same local before
abbrev pub term : ℕ → Option ℕ → ℕ
term p before = mix (mix basis p) (gap p before)
