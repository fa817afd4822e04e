use Rattle.extract_runs.proofs.Packages.{trees_run_alike}
use Rattle.extract_runs.proofs.laws.extracted_trees_run_alike.Goals as goal

pub returns : goal.returns
returns c = trees_run_alike c.extracted_packages_run_alike.ensures
