-- Wrapping into a kind.
use Rattle.std.proofs.Common.{◌≡◌, ℤ, lit<}
use Rattle.go_ints.specs.declared.kinds.Kind.{Kind}
use Rattle.go_ints.specs.declared.kinds.Kind.TheVariants.{Int8, Int16, Int32, Int64, Uint8, Uint16, Uint32, Uint64, Int, Uint}
use Rattle.go_ints.specs.Wrapping.{IsCongruent}
use Rattle.go_ints.specs.Kinds.{wrapped_into}
use Rattle.go_ints.proofs.Wrapped.{congruent_wrapped}
use Rattle.go_ints.proofs.Words.{narrow}

-- numbers that agree in 64 bits wrap to one value of each kind
pub wrapped_word : (kind : Kind) (x y : ℤ) → IsCongruent 64 x y → wrapped_into kind x ≡ wrapped_into kind y
wrapped_word Int8 x y h = congruent_wrapped 8 _ x y (lit< tt) (narrow 56 8 x y h)
wrapped_word Int16 x y h = congruent_wrapped 16 _ x y (lit< tt) (narrow 48 16 x y h)
wrapped_word Int32 x y h = congruent_wrapped 32 _ x y (lit< tt) (narrow 32 32 x y h)
wrapped_word Int64 x y h = congruent_wrapped 64 _ x y (lit< tt) h
wrapped_word Uint8 x y h = congruent_wrapped 8 _ x y (lit< tt) (narrow 56 8 x y h)
wrapped_word Uint16 x y h = congruent_wrapped 16 _ x y (lit< tt) (narrow 48 16 x y h)
wrapped_word Uint32 x y h = congruent_wrapped 32 _ x y (lit< tt) (narrow 32 32 x y h)
wrapped_word Uint64 x y h = congruent_wrapped 64 _ x y (lit< tt) h
wrapped_word Int x y h = congruent_wrapped 64 _ x y (lit< tt) h
wrapped_word Uint x y h = congruent_wrapped 64 _ x y (lit< tt) h
