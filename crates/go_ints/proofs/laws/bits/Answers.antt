use Rattle.go_ints.proofs.BitLaws.{bit-complement, bit-and, bit-or, bit-xor, bit-and_not}
use Rattle.go_ints.proofs.laws.bits.Goals as goal

pub returns : goal.returns
returns c = record { turned = bit-complement; both = bit-and; either = bit-or; differing = bit-xor; lacking = bit-and_not }
