use Rattle.std.proofs.Common.{◌≡◌}
use Rattle.std.specs.Int.{w128}
use Rattle.std.proofs.lemmas.Int.{to_z-of_z}
use Rattle.go_ints.specs.Kinds.{wrapped_into}
use Rattle.go_values.proofs.Wrapping.{word}
use Rattle.go_values.proofs.integers.within_word.Goals as goal

pub returns-clause-word : goal.returns-clause-word
returns-clause-word c =
    let x = to_z-of_z w128 c.args.x c.ranges.x in
    let told = to_z-of_z w128 c.wrap_into.result (record { sfits = c.wrap_into.type_inv }) in
    let is : c.wrap_into.result ≡ wrapped_into c.args.kind c.args.x = simp x at c.wrap_into.ensures in
    rw told (rw is (word c.args.kind c.args.x))
