use Rattle.extract_names_derived.proofs.SiteRuns.{calls_stand}
use Rattle.extract_names_derived.proofs.laws.calls_stand_at_sites.Goals as goal

pub returns : goal.returns
returns c = calls_stand
