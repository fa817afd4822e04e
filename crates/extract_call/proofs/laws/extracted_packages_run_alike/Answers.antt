use Rattle.extract_call.proofs.Extraction.{extraction_runs_alike}
use Rattle.extract_call.proofs.laws.extracted_packages_run_alike.Goals as goal

pub returns : goal.returns
returns c = extraction_runs_alike
