use Rattle.std.proofs.Common.{arith, ◌∙◌, unsigned_abs}
use Rattle.std.specs.Int.{w128, int_shr}
use Rattle.std.proofs.lemmas.Int.{ints, to_z-of_z}
use Rattle.go_ints.proofs.Public.{shifted_fits}
use Rattle.go_values.proofs.Quotients.{shifted_far}
use Rattle.go_values.proofs.arithmetic.shifted_right.Goals as goal

pub returns-else-count-lt127 : goal.returns-else-count-lt127
returns-else-count-lt127 c = rw (to_z-of_z w128 c.args.a c.ranges.a) (to_z-of_z w128 (int_shr c.args.a 127) (shifted_fits c.args.a 127 c.ranges.a) ∙ shifted_far c.args.a (unsigned_abs c.args.count) c.ranges.a (omega (arith, ints)))
