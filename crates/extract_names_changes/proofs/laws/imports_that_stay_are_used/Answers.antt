use Rattle.extract_names_changes.proofs.Imported.{site_names}
use Rattle.extract_names_changes.proofs.laws.imports_that_stay_are_used.Goals as goal

pub returns : goal.returns
returns c = site_names c.replaced_runs_tell.ensures c.sites_are_faultless.ensures
