use Rattle.go_meaning_numbers.proofs.Renumbered.{renumbered_run_same}
use Rattle.go_meaning_numbers.proofs.laws.renumbered_packages_have_the_same_runs.Goals as goal

pub returns : goal.returns
returns c = renumbered_run_same
