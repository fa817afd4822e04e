use Rattle.go_ints.specs.Bitwise.{complement}
use Rattle.go_ints.proofs.Public.{congruent_same, narrow, product_word, and_word, or_word, xor_word, complement_word, complement_fits}
use Rattle.go_values.proofs.Quotients.{near_word, near_sum, near_difference}
use Rattle.go_values.proofs.arithmetic.unwrapped.Goals as goal

pub returns-in-Add : goal.returns-in-Add
returns-in-Add c =
    let x = c.within_word in
    let y = c.within_word-in-Add in
    rw c.in-Add.is (near_sum x.result y.result c.args.a c.args.b x.ensures.word y.ensures.word (near_word x.result c.args.a c.ranges.a x.ensures.value) (near_word y.result c.args.b c.ranges.b y.ensures.value))

pub returns-in-Sub : goal.returns-in-Sub
returns-in-Sub c =
    let x = c.within_word-in-Sub in
    let y = c.within_word-in-Sub-2 in
    rw c.in-Sub.is (near_difference x.result y.result c.args.a c.args.b x.ensures.word y.ensures.word (near_word x.result c.args.a c.ranges.a x.ensures.value) (near_word y.result c.args.b c.ranges.b y.ensures.value))

pub returns-in-Mul : goal.returns-in-Mul
returns-in-Mul c = rw c.in-Mul.is (narrow 64 64 _ _ (product_word c.args.a c.args.b c.ranges.a c.ranges.b))

pub returns-in-And : goal.returns-in-And
returns-in-And c = rw c.in-And.is (congruent_same (and_word c.args.a c.args.b c.ranges.a c.ranges.b))

pub returns-in-Or : goal.returns-in-Or
returns-in-Or c = rw c.in-Or.is (congruent_same (or_word c.args.a c.args.b c.ranges.a c.ranges.b))

pub returns-in-Xor : goal.returns-in-Xor
returns-in-Xor c = rw c.in-Xor.is (congruent_same (xor_word c.args.a c.args.b c.ranges.a c.ranges.b))

pub returns-in-AndNot : goal.returns-in-AndNot
returns-in-AndNot c =
    let turned = complement_word c.args.b c.ranges.b in
    rw c.in-AndNot.is (rw turned (congruent_same (and_word c.args.a (complement c.args.b) c.ranges.a (complement_fits c.args.b c.ranges.b))))
