use Rattle.extract_names_derived.proofs.SiteDerives.{calls_derive}
use Rattle.extract_names_derived.proofs.laws.calls_are_derived_at_sites.Goals as goal

pub returns : goal.returns
returns c = calls_derive
