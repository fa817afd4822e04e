use Rattle.std.proofs.Common.{◌∙◌, sym, refl}
use Rattle.std.specs.Int.{w128}
use Rattle.std.proofs.lemmas.Int.{to_z-of_z}
use Rattle.go_ints.specs.Arithmetic.{exact, trap_of}
use Rattle.go_constants.proofs.Numbers.{answered, no_trap}
use Rattle.go_constants.proofs.wholes.exact.Goals as goal

pub returns-in-None : goal.returns-in-None
returns-in-None c =
    let a = to_z-of_z w128 c.args.a c.ranges.a in
    let b = to_z-of_z w128 c.args.b c.ranges.b in
    let told = answered c.within_width.result (exact c.args.op c.args.a c.args.b) (simp (a, b) at c.within_width.ensures) in
    let none = no_trap (trap_of c.args.op c.args.b) (sym (simp b at c.refusal.ensures) ∙ c.in-None.is) in
    c.ok_or.ensures.value ∙ told ∙ rw none refl
