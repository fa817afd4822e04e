use Rattle.go_heads_types.proofs.Checked.{faultless, resolved}
use Rattle.go_heads_types.proofs.laws.checked_packages_are_resolved.Goals as goal

pub returns-clause-resolved : goal.returns-clause-resolved
returns-clause-resolved c = λ p h. resolved p h c.functions_have_names.ensures

pub returns-clause-faultless : goal.returns-clause-faultless
returns-clause-faultless c = faultless
