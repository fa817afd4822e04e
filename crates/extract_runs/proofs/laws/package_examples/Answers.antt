use Rattle.extract_runs.proofs.PackageExamples.{package_examples}
use Rattle.extract_runs.proofs.laws.package_examples.Goals as goal

pub returns : goal.returns
returns c = package_examples
