use Rattle.extract_names_derived.proofs.Ranges.{function_patched}
use Rattle.extract_names_derived.proofs.laws.runs_at_paths_are_patched.Goals as goal

pub returns : goal.returns
returns c = function_patched
