use Rattle.std.specs.Prelude.{map}
use Rattle.go_tree.specs.Uses.{uses}
use Rattle.go_package_defs.specs.Answer.{specifications}
use Rattle.go_package_defs.specs.Checked.{surroundings_of}
use Rattle.go_package_defs.specs.Sources.{unit_of}
use Rattle.go_package_added.specs.Appended.{package_in}
use Rattle.go_package_added.specs.OneMore.{with_function}
use Rattle.clone_window_added.proofs.Placed.{all_keep}
use Rattle.clone_window_added.proofs.laws.unchanged_functions_keep_their_bodies.Goals as goal

pub returns : goal.returns
returns c k ss us h keeps faultless x e s =
    all_keep (package_in ss) (package_in us) keeps.gap (surroundings_of (uses (map unit_of ss)) x) (surroundings_of (uses (map unit_of us)) (with_function keeps.gap.shared s x)) (specifications 0 ss)
    (c.unchanged_functions_keep_their_types.ensures k ss us h keeps faultless x e s)
