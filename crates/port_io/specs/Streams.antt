-- What a read takes and a write appends, where the bytes are told.
use Rattle.std.specs.Prelude.{◌≡◌, ℕ, ◌↔◌, List, [], ◌++◌, length, min, take, drop, Option, Some}

-- Of the bytes that were left, the first n are now at the front of the buffer, and the rest is left. None were
-- taken exactly where none were left.
pub record TakesFront (left : List ℕ) (after : Option (List ℕ)) (buffer : List ℕ) (n : ℕ) : Type 0 where
  pub taken : take n buffer ≡ take n left
  pub rest : after ≡ Some (drop n left)
  pub end : (n ≡ 0) ↔ (left ≡ [])

-- A read of memory filled the buffer as far as bytes were left, and the buffer's rest is as it was.
pub record FillsFront (left before after : List ℕ) (n : ℕ) : Type 0 where
  pub count : n ≡ min (length left) (length before)
  pub bytes : after ≡ take n left ++ drop n before
