use Rattle.extract_names_derived.proofs.Changed.{rewrites}
use Rattle.extract_names_derived.proofs.laws.changed_functions_are_rewritten.Goals as goal

pub returns : goal.returns
returns c = rewrites c.changed_sites.ensures
