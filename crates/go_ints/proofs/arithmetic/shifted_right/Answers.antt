use Rattle.std.proofs.Common.{arith, ◌∙◌, unsigned_abs}
use Rattle.std.specs.Int.{w128, int_shr}
use Rattle.std.proofs.lemmas.Int.{ints, to_z-of_z}
use Rattle.go_ints.proofs.Words.{shifted_far, shifted_fits}
use Rattle.go_ints.proofs.arithmetic.shifted_right.Goals as goal

pub returns-else-count-lt64 : goal.returns-else-count-lt64
returns-else-count-lt64 c = rw (to_z-of_z w128 c.args.a c.ranges.a) (to_z-of_z w128 (int_shr c.args.a 64) (shifted_fits c.args.a 64 c.ranges.a) ∙ shifted_far c.args.a (unsigned_abs c.args.count) c.requires.word (omega (arith, ints)))
