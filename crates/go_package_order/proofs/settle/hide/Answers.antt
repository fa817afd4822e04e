use Rattle.std.proofs.Common.{sym, subst}
use Rattle.go_package_rounds.specs.World.{KnownStandings}
use Rattle.go_package_order.proofs.settle.hide.Goals as goal

pub returns : goal.returns
returns c = λ n a. c.put_standing.ensures n a (c.in_ok-hidden.ensures n (subst (KnownStandings n) (sym c.deref.ensures.value) a c.args.number c.in-Some.standing.now c.in-Some.ensures))
