use Rattle.go_meaning_simulation.proofs.Matched.{packages_run_alike}
use Rattle.go_meaning_simulation.proofs.laws.matched_packages_have_the_same_runs.Goals as goal

pub returns : goal.returns
returns c = packages_run_alike
