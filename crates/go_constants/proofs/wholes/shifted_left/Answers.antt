use Rattle.std.proofs.Common.{arith, unsigned_abs}
use Rattle.std.specs.Int.{w128}
use Rattle.std.proofs.lemmas.Int.{ints, to_z-of_z}
use Rattle.go_constants.proofs.Numbers.{power_word, power_given, beyond}
use Rattle.go_constants.proofs.wholes.shifted_left.Goals as goal

pub returns-then-count-lt127 : goal.returns-then-count-lt127
returns-then-count-lt127 c =
    let a = to_z-of_z w128 c.args.a c.ranges.a in
    let n = to_z-of_z w128 c.args.count c.ranges.count in
    power_given c.checked_mul.result c.args.a _ (unsigned_abs c.args.count) (power_word (unsigned_abs c.args.count) (omega (arith, ints))) (simp (a, n) at c.checked_mul.ensures)

pub returns-else-a-eq0 : goal.returns-else-a-eq0
returns-else-a-eq0 c = beyond c.args.a (unsigned_abs c.args.count) (λ e. c.if-a-eq0.false (omega (arith, ints))) (omega (arith, ints))
