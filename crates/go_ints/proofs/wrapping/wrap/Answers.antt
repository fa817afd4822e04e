-- The bits of `x` at the modulus, read by whether they lie in the upper half.
use Rattle.std.proofs.Common.{arith, ◌≡◌, ◌^◌, ◌≤ℤ◌, ◌*ℤ◌, ◌-ℤ◌, pos, ℕ, true, subst, ◌∙◌, nat_eq, to_z, of_z}
use Rattle.std.proofs.lemmas.Int.{ints, to_z-of_z}
use Rattle.std.proofs.lemmas.Bool.Decides.{nat_tests}
use Rattle.std.specs.Int.{int_rem_euclid, w128}
use mathlib.Core.Bool.{not}
use Rattle.go_ints.specs.Wrapping.{wrapped}
use Rattle.go_ints.proofs.Wrapped.{high_bits, low_bits, width_bound}
use Rattle.go_ints.proofs.wrapping.wrap.Goals as goal
use Rattle.go_ints.proofs.wrapping.wrap.Goals.{else-this-ne0-via-then-this-ne0+else-modulus-rest, else-this-ne0-via-else-this-ne0}

set : (n : ℕ) → (n ≡ 0 → ⊥) → true ≡ not (nat_eq n 0)
set n h = grind (arith, nat_tests)

pub returns-then-modulus-rest : goal.returns-then-modulus-rest
returns-then-modulus-rest g c =
    let r = c.rem_euclid-rest.result in
    let m = pos (2 ^ g.row.BITS) in
    let rest : r ≡ int_rem_euclid c.args.x m = grind (arith, to_z-of_z, c.rem_euclid-rest.ensures.value) in
    let bound = width_bound g.row.BITS c.requires in
    let upper : m ≤ℤ (pos 2 *ℤ r) = omega (arith, ints) in
    let is : to_z w128 (of_z w128 (to_z w128 (of_z w128 r) -ℤ to_z w128 (of_z w128 c.power_of_two-modulus.result))) ≡ r -ℤ m = omega (arith, ints) in
    subst (λ s. to_z w128 (of_z w128 (to_z w128 (of_z w128 r) -ℤ to_z w128 (of_z w128 c.power_of_two-modulus.result))) ≡ wrapped g.row.BITS s c.args.x) (set g.row.SIGNED c.if-this-ne0.true) (is ∙ high_bits g.row.BITS c.args.x r c.requires rest upper)

pub returns-else-this-ne0 : goal.returns-else-this-ne0
returns-else-this-ne0 g c =
    let r = c.rem_euclid-rest.result in
    let m = pos (2 ^ g.row.BITS) in
    let rest : r ≡ int_rem_euclid c.args.x m = grind (arith, to_z-of_z, c.rem_euclid-rest.ensures.value) in
    let bound = width_bound g.row.BITS c.requires in
    let is : to_z w128 (of_z w128 r) ≡ r = omega (arith, ints) in
    is ∙ low_bits g.row.BITS (not (nat_eq g.row.SIGNED 0)) c.args.x r c.requires rest
    (λ s. elim c.else-this-ne0.branch [ else-this-ne0-via-then-this-ne0+else-modulus-rest w ↦ omega (arith, ints) | else-this-ne0-via-else-this-ne0 w ↦ grind (arith, nat_tests) ])
