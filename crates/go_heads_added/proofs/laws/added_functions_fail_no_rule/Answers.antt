use Rattle.go_heads_added.proofs.Faultless.{faultless}
use Rattle.go_heads_added.proofs.laws.added_functions_fail_no_rule.Goals as goal

pub returns : goal.returns
returns c k n name old new h i q w f z = faultless k n name old new h i q w f c.declarations_bound_rounds.ensures z
