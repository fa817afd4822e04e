-- What `unwrapped` answers agrees with the exact result in 64 bits, so both wrap to one value.
use Rattle.std.proofs.Common.{◌≡◌, ◌∙◌, sym, ap, Ok, None}
use Rattle.std.specs.Int.{w128}
use Rattle.std.proofs.lemmas.Int.{to_z-of_z}
use Rattle.go_ints.specs.Wrapping.{IsCongruent}
use Rattle.go_ints.specs.Arithmetic.{exact, trap_of}
use Rattle.go_ints.proofs.Public.{wrapped_word}
use Rattle.go_values.proofs.arithmetic.arith.Goals as goal

pub returns-in-None : goal.returns-in-None
returns-in-None c =
    let a = to_z-of_z w128 c.args.a c.ranges.a in
    let b = to_z-of_z w128 c.args.b c.ranges.b in
    let none : trap_of c.args.op c.args.b ≡ None = sym (simp b at c.trap.ensures) ∙ c.in-None.is in
    let near : IsCongruent 64 c.unwrapped.result (exact c.args.op c.args.a c.args.b) = simp (a, b) at c.unwrapped.ensures in
    let told = to_z-of_z w128 c.unwrapped.result (record { sfits = c.unwrapped.type_inv }) in
    let same = wrapped_word c.args.kind c.unwrapped.result (exact c.args.op c.args.a c.args.b) near in
    rw none (ap Ok (to_z-of_z w128 c.wrap_into.result (record { sfits = c.wrap_into.type_inv }) ∙ simp told at c.wrap_into.ensures ∙ same))
