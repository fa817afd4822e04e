-- The bits of a whole number in two's complement, as many as it takes: those of n are the digits of n, and those
-- of -1 - n are the same ones turned. So each operator is given by the words of natural numbers.
use Rattle.std.specs.Prelude.{ℕ, ◌-◌, ℤ, pos, negsuc}
use Rattle.std.specs.Int.Bits.{bit_and, bit_or, bit_xor}
use Rattle.std.specs.Int.{bit_at}

-- bit i of a whole number, 0 or 1
abbrev pub bit_of : ℤ → ℕ → ℕ
bit_of (pos n) i = bit_at n i
bit_of (negsuc n) i = 1 - bit_at n i

-- -1 - z, which has each bit turned
abbrev pub complement : ℤ → ℤ
complement (pos n) = negsuc n
complement (negsuc n) = pos n

abbrev pub bitwise_and : ℤ → ℤ → ℤ
bitwise_and (pos a) (pos b) = pos (bit_and a b)
bitwise_and (pos a) (negsuc b) = pos (a - bit_and a b)
bitwise_and (negsuc a) (pos b) = pos (b - bit_and b a)
bitwise_and (negsuc a) (negsuc b) = negsuc (bit_or a b)

abbrev pub bitwise_or : ℤ → ℤ → ℤ
bitwise_or a b = complement (bitwise_and (complement a) (complement b))

abbrev pub bitwise_xor : ℤ → ℤ → ℤ
bitwise_xor (pos a) (pos b) = pos (bit_xor a b)
bitwise_xor (pos a) (negsuc b) = negsuc (bit_xor a b)
bitwise_xor (negsuc a) (pos b) = negsuc (bit_xor a b)
bitwise_xor (negsuc a) (negsuc b) = pos (bit_xor a b)

-- the bits of a that b lacks
abbrev pub bitwise_and_not : ℤ → ℤ → ℤ
bitwise_and_not a b = bitwise_and a (complement b)
