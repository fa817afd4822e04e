use Rattle.go_ints.proofs.Public.{and_word, or_word, xor_word, complement_word, complement_fits}
use Rattle.go_ints.specs.Bitwise.{complement}
use Rattle.go_constants.proofs.Numbers.{given, word_fits}
use Rattle.go_constants.proofs.wholes.within_width.Goals as goal

pub returns-in-And : goal.returns-in-And
returns-in-And c = rw c.in-And.is (given _ _ (and_word c.args.a c.args.b c.ranges.a c.ranges.b) (word_fits _))

pub returns-in-Or : goal.returns-in-Or
returns-in-Or c = rw c.in-Or.is (given _ _ (or_word c.args.a c.args.b c.ranges.a c.ranges.b) (word_fits _))

pub returns-in-Xor : goal.returns-in-Xor
returns-in-Xor c = rw c.in-Xor.is (given _ _ (xor_word c.args.a c.args.b c.ranges.a c.ranges.b) (word_fits _))

pub returns-in-AndNot : goal.returns-in-AndNot
returns-in-AndNot c =
    let turned = complement_word c.args.b c.ranges.b in
    rw c.in-AndNot.is (rw turned (given _ _ (and_word c.args.a (complement c.args.b) c.ranges.a (complement_fits c.args.b c.ranges.b)) (word_fits _)))
