use Rattle.std.proofs.Common.{◌∙◌}
use Rattle.go_eval_operations.proofs.Building.{if_each, places_behind}
use Rattle.go_eval_operations.proofs.builds.places.Goals as goal

pub returns-in-len1-up : goal.returns-in-len1-up
returns-in-len1-up c = if_each c.places_of_elements.result _ _ (λ v h f. h f ∙ places_behind f c.args.parts.now c.in-len1-up.len_at_least) c.places_of_elements.ensures
