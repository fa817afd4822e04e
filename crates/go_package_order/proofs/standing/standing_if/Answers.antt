use Rattle.std.proofs.Common.{sym, subst}
use Rattle.go_typed.specs.Views.{KnownSort}
use Rattle.go_package_order.proofs.standing.standing_if.Goals as goal

pub returns : goal.returns
returns c = λ n k. record { in_full = c.in_ok-sort_if.ensures n k; at_once = c.in_ok-sort_if-2.ensures n k; loosely = subst (KnownSort n) (sym c.in_ok-shared.ensures) k }
