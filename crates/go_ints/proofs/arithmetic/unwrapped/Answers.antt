use Rattle.std.proofs.Common.{arith, ap}
use Rattle.std.specs.Int.{w128}
use Rattle.std.proofs.lemmas.Int.{ints, quot_is, rem_is}
use Rattle.go_ints.specs.Kinds.{IsWord}
use Rattle.go_ints.specs.Bitwise.{complement}
use Rattle.go_ints.specs.Arithmetic.{is_shift}
use Rattle.go_ints.proofs.Wrapped.{congruent_same}
use Rattle.go_ints.proofs.Words.{narrow, product_word, and_word, or_word, xor_word, complement_word, complement_fits, quotient_fits}
use Rattle.go_ints.proofs.arithmetic.unwrapped.Goals as goal

pub returns-in-Add : goal.returns-in-Add
returns-in-Add c =
    let word : IsWord c.args.b = c.requires.operand (ap is_shift c.in-Add.is) in
    rw c.in-Add.is (congruent_same (omega (arith, ints, c.requires.word)))

pub returns-in-Sub : goal.returns-in-Sub
returns-in-Sub c =
    let word : IsWord c.args.b = c.requires.operand (ap is_shift c.in-Sub.is) in
    rw c.in-Sub.is (congruent_same (omega (arith, ints, c.requires.word)))

pub returns-in-Mul : goal.returns-in-Mul
returns-in-Mul c = rw c.in-Mul.is (narrow 64 64 _ _ (product_word c.args.a c.args.b c.ranges.a c.ranges.b))

pub returns-in-Div : goal.returns-in-Div
returns-in-Div c = rw c.in-Div.is (congruent_same (quot_is w128 c.args.a c.args.b c.ranges.a c.ranges.b (quotient_fits c.args.a c.args.b c.requires.word)))

pub returns-in-Rem : goal.returns-in-Rem
returns-in-Rem c = rw c.in-Rem.is (congruent_same (rem_is w128 c.args.a c.args.b c.ranges.a c.ranges.b))

pub returns-in-And : goal.returns-in-And
returns-in-And c = rw c.in-And.is (congruent_same (and_word c.args.a c.args.b c.ranges.a c.ranges.b))

pub returns-in-Or : goal.returns-in-Or
returns-in-Or c = rw c.in-Or.is (congruent_same (or_word c.args.a c.args.b c.ranges.a c.ranges.b))

pub returns-in-Xor : goal.returns-in-Xor
returns-in-Xor c = rw c.in-Xor.is (congruent_same (xor_word c.args.a c.args.b c.ranges.a c.ranges.b))

pub returns-in-AndNot : goal.returns-in-AndNot
returns-in-AndNot c =
    let turned = complement_word c.args.b c.ranges.b in
    rw c.in-AndNot.is (rw turned (congruent_same (and_word c.args.a (complement c.args.b) c.ranges.a (complement_fits c.args.b c.ranges.b))))
