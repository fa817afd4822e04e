use Rattle.go_package_settled.proofs.Reading.{are_resolved}
use Rattle.go_package_settled.proofs.laws.faultless_packages_are_resolved.Goals as goal

pub returns : goal.returns
returns c ss f =
    are_resolved (λ ts t h. c.files_are_orderly.ensures ts t h) (λ ts t h. c.names_are_in_order.ensures ts t h) (λ ts t h. c.locals_stand_inside_functions.ensures ts t h)
    (λ us o r. c.resolved_packages_have_an_order.ensures us o r) ss f
