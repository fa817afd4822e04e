-- Numbers that are wrapped into a kind.
use Rattle.std.proofs.Common.{◌≡◌, ℕ, ◌<◌, Bool, true, false, ℤ, pos, neg_ℤ, ◌-ℤ◌, refl, ap, ◌∙◌, arith, lit<}
use Rattle.std.proofs.lemmas.Int.{ints}
use Rattle.go_ints.specs.declared.kinds.Kind.{Kind}
use Rattle.go_ints.specs.declared.kinds.Kind.TheVariants.{Int8, Int16, Int32, Int64, Uint8, Uint16, Uint32, Uint64, Int, Uint}
use Rattle.go_ints.specs.Kinds.{IsWord, wrapped_into}
use Rattle.go_ints.specs.Wrapping.{InRange, wrapped}
use Rattle.go_ints.proofs.Public.{wrapped_in_range, wrapped_congruent, congruent_wrapped, congruent_same, congruent-sub}

in_64 : (z : ℤ) → InRange 64 true z → IsWord z
in_64 z h = (omega (arith, ints, h.0), omega (arith, ints, h.1))

in_32 : (z : ℤ) → InRange 32 true z → IsWord z
in_32 z h = (omega (arith, ints, h.0), omega (arith, ints, h.1))

in_16 : (z : ℤ) → InRange 16 true z → IsWord z
in_16 z h = (omega (arith, ints, h.0), omega (arith, ints, h.1))

in_8 : (z : ℤ) → InRange 8 true z → IsWord z
in_8 z h = (omega (arith, ints, h.0), omega (arith, ints, h.1))

above_64 : (z : ℤ) → InRange 64 false z → IsWord z
above_64 z h = (omega (arith, ints, h.0), omega (arith, ints, h.1))

above_32 : (z : ℤ) → InRange 32 false z → IsWord z
above_32 z h = (omega (arith, ints, h.0), omega (arith, ints, h.1))

above_16 : (z : ℤ) → InRange 16 false z → IsWord z
above_16 z h = (omega (arith, ints, h.0), omega (arith, ints, h.1))

above_8 : (z : ℤ) → InRange 8 false z → IsWord z
above_8 z h = (omega (arith, ints, h.0), omega (arith, ints, h.1))

pub word : (kind : Kind) (z : ℤ) → IsWord (wrapped_into kind z)
word Int8 z = in_8 _ (wrapped_in_range 8 true z (lit< tt))
word Int16 z = in_16 _ (wrapped_in_range 16 true z (lit< tt))
word Int32 z = in_32 _ (wrapped_in_range 32 true z (lit< tt))
word Int64 z = in_64 _ (wrapped_in_range 64 true z (lit< tt))
word Uint8 z = above_8 _ (wrapped_in_range 8 false z (lit< tt))
word Uint16 z = above_16 _ (wrapped_in_range 16 false z (lit< tt))
word Uint32 z = above_32 _ (wrapped_in_range 32 false z (lit< tt))
word Uint64 z = above_64 _ (wrapped_in_range 64 false z (lit< tt))
word Int z = in_64 _ (wrapped_in_range 64 true z (lit< tt))
word Uint z = above_64 _ (wrapped_in_range 64 false z (lit< tt))

pub zero_less : (z : ℤ) → pos 0 -ℤ z ≡ neg_ℤ z
zero_less z = omega (arith, ints)

opposite : (bits : ℕ) (signed : Bool) (z : ℤ) → 0 < bits → wrapped bits signed (pos 0 -ℤ wrapped bits signed z) ≡ wrapped bits signed (neg_ℤ z)
opposite bits signed z h =
    congruent_wrapped bits signed _ _ h (congruent-sub {x = pos 0} {x' = pos 0} (congruent_same refl) (wrapped_congruent bits signed z)) ∙ ap (wrapped bits signed) (zero_less z)

pub negated : (kind : Kind) (z : ℤ) → wrapped_into kind (pos 0 -ℤ wrapped_into kind z) ≡ wrapped_into kind (neg_ℤ z)
negated Int8 z = opposite 8 true z (lit< tt)
negated Int16 z = opposite 16 true z (lit< tt)
negated Int32 z = opposite 32 true z (lit< tt)
negated Int64 z = opposite 64 true z (lit< tt)
negated Uint8 z = opposite 8 false z (lit< tt)
negated Uint16 z = opposite 16 false z (lit< tt)
negated Uint32 z = opposite 32 false z (lit< tt)
negated Uint64 z = opposite 64 false z (lit< tt)
negated Int z = opposite 64 true z (lit< tt)
negated Uint z = opposite 64 false z (lit< tt)
