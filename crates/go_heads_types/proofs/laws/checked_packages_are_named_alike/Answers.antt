use Rattle.go_heads_types.specs.WindowPackages.{package_read, package_files}
use Rattle.go_heads_types.proofs.Alike.{alike}
use Rattle.go_heads_types.proofs.laws.checked_packages_are_named_alike.Goals as goal

pub returns : goal.returns
returns c p q h k e =
    let x = c.checked_packages_are_resolved.ensures.resolved p h in
    let y = c.checked_packages_are_resolved.ensures.resolved q k in
    alike p q h.numbers k.numbers x y c.functions_declare_by_themselves.ensures
    (c.locals_follow_from_functions.ensures (package_files p) x.read x.functions)
    (c.locals_follow_from_functions.ensures (package_files q) y.read y.functions)
    (c.checked_names_stay.ensures (package_read p) (package_read q) p.names q.names x y e)
    (c.functions_keep_their_numbers.ensures (package_files p) (package_files q) x.read y.read e)
    (c.names_tell_the_numbers_of_functions.ensures (package_files p) (package_files q) x.read y.read e (c.checked_packages_are_resolved.ensures.faultless p h))
