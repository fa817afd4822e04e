use Rattle.std.proofs.Common.{arith, unsigned_abs}
use Rattle.std.specs.Int.{w128}
use Rattle.std.proofs.lemmas.Int.{ints, to_z-of_z}
use Rattle.go_ints.proofs.Public.{narrow, shifted_word, shifted_out}
use Rattle.go_values.proofs.arithmetic.shifted_left.Goals as goal

pub returns-then-count-lt64 : goal.returns-then-count-lt64
returns-then-count-lt64 c = rw (to_z-of_z w128 c.args.count c.ranges.count) (narrow 64 64 _ _ (shifted_word c.args.a (unsigned_abs c.args.count) c.ranges.a))

pub returns-else-count-lt64 : goal.returns-else-count-lt64
returns-else-count-lt64 c = shifted_out 64 (unsigned_abs c.args.count) c.args.a (omega (arith, ints))
