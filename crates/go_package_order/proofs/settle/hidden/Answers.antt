use Rattle.std.proofs.Common.{sym, subst}
use Rattle.go_typed.specs.Views.{KnownSort}
use Rattle.go_package_order.proofs.settle.hidden.Goals as goal

pub returns : goal.returns
returns c = λ n k. record { in_full = tt; at_once = subst (KnownSort n) (sym c.in_ok-shared.ensures) k.at_once; loosely = subst (KnownSort n) (sym c.in_ok-shared-2.ensures) k.loosely }
