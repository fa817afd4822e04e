use Rattle.go_package_settled.proofs.Telling.{specifications_tell}
use Rattle.go_package_settled.proofs.laws.faultless_packages_settle.Goals as goal

pub returns : goal.returns
returns c ss f =
    c.resolved_packages_settle.ensures ss (c.faultless_packages_are_resolved.ensures ss f)
    (specifications_tell (λ ts t r. c.names_are_in_order.ensures ts t r) ss f.trees (c.faultless_packages_need_what_they_name.ensures ss f))
