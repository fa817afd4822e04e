use Rattle.go_package_settled.proofs.Needing.{needs_are_named}
use Rattle.go_package_settled.proofs.laws.faultless_packages_need_what_they_name.Goals as goal

pub returns : goal.returns
returns c ss f = needs_are_named (λ ts t r. c.names_are_in_order.ensures ts t r) ss f.trees (c.faultless_packages_are_resolved.ensures ss f)
