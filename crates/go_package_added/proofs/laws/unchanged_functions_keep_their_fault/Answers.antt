use Rattle.go_tree.specs.Uses.{uses}
use Rattle.std.specs.Prelude.{map}
use Rattle.go_package_defs.specs.Checked.{surroundings_of}
use Rattle.go_package_defs.specs.Sources.{unit_of}
use Rattle.go_package_added.specs.OneMore.{with_function}
use Rattle.go_package_added.proofs.BodyFaults.{keeps_bodies}
use Rattle.go_package_added.proofs.Reporting.{stay_there}
use Rattle.go_package_added.proofs.laws.unchanged_functions_keep_their_fault.Goals as goal

pub returns : goal.returns
returns c k ss us h keeps faultless bytes x e s =
    keeps_bodies c.functions_are_typed_elsewhere.ensures c.trees_spelled_the_same_keep_it.ensures k ss us h keeps faultless
    (stay_there k ss us h keeps faultless (λ ts t f. c.files_are_orderly.ensures ts t f)
    (λ m t d. c.shared_needs_are_closed.ensures.token ss (c.shared_declarations_need_no_locals.ensures ss faultless) m t d) bytes)
    (surroundings_of (uses (map unit_of ss)) x) (surroundings_of (uses (map unit_of us)) (with_function keeps.gap.shared s x)) (c.unchanged_functions_keep_their_types.ensures k ss us h keeps faultless x e s)
