use Rattle.std.proofs.Common.{ap, of_z}
use Rattle.std.specs.Int.{w128}
use Rattle.std.proofs.lemmas.Int.{quot_is}
use Rattle.go_ints.proofs.Public.{congruent_same}
use Rattle.go_values.proofs.Quotients.{quotient_fits, near_word, near_opposite}
use Rattle.go_values.proofs.arithmetic.quotient.Goals as goal

pub returns-then-b-eqminus1 : goal.returns-then-b-eqminus1
returns-then-b-eqminus1 c =
    near_opposite c.within_word.result c.args.a c.args.b c.ranges.b c.if-b-eqminus1.true c.within_word.ensures.word (near_word c.within_word.result c.args.a c.ranges.a c.within_word.ensures.value)

pub returns-else-b-eqminus1 : goal.returns-else-b-eqminus1
returns-else-b-eqminus1 c = congruent_same (quot_is w128 c.args.a c.args.b c.ranges.a c.ranges.b (quotient_fits c.args.a c.args.b c.ranges.a (λ e. c.if-b-eqminus1.false (ap (of_z w128) e))))
