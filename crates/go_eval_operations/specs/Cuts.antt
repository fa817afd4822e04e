-- The parts of strings and slices.
use Rattle.std.specs.Prelude.{ℕ, ◌+◌, ◌-◌, length, take, drop}
use Rattle.go_meaning.specs.Values.{Value, Text, Slice, NilSlice}

-- how far a part may reach
abbrev pub limit_of : Value → ℕ
limit_of (Text bytes) = length bytes
limit_of (Slice a s n c) = c
limit_of v = 0

-- the part between two places that are in range
abbrev pub part_of : Value → (low high : ℕ) → Value
part_of (Text bytes) low high = Text (take (high - low) (drop low bytes))
part_of (Slice a s n c) low high = Slice a (s + low) (high - low) (c - low)
part_of v low high = NilSlice
