use Rattle.std.specs.Prelude.{map}
use Rattle.go_tree.specs.declared.context.Entity.TheVariants as entity
use Rattle.go_tree.specs.Uses.{uses}
use Rattle.go_package_defs.specs.Answer.{specifications}
use Rattle.go_package_defs.specs.Bodies.{those_of}
use Rattle.go_package_defs.specs.Checked.{surroundings_of}
use Rattle.go_package_defs.specs.Sources.{unit_of}
use Rattle.go_package_added.specs.Appended.{function_specification, package_in}
use Rattle.go_package_added.specs.OneMore.{with_function}
use Rattle.clone_window_added.proofs.Joined.{joined}
use Rattle.clone_window_added.proofs.laws.windows_of_appended_packages_stay.Goals as goal

pub returns : goal.returns
returns c k ss us h keeps old new bytes x answer s y typed z longer =
    let kept = c.unchanged_functions_keep_their_fault.ensures k ss us h keeps old bytes x answer s in
    joined (package_in ss) (package_in us) keeps.gap (surroundings_of (uses (map unit_of ss)) x) (surroundings_of (uses (map unit_of us)) (with_function keeps.gap.shared s x)) (function_specification k ss us h)
    (those_of entity.Function (specifications 0 ss)) (those_of entity.Function (specifications 0 us)) kept (c.functions_in_front_are_counted.ensures k ss us h keeps old new kept.front kept.rest kept.was kept.is)
    (c.appended_functions_add_no_right_sides.ensures k ss us h keeps old new (surroundings_of (uses (map unit_of us)) (with_function keeps.gap.shared s x))) x.rights y z typed longer
