use Rattle.extract_names_derived.proofs.DerivedSites.{is_site}
use Rattle.extract_names_derived.proofs.laws.sites_are_derived.Goals as goal

pub returns : goal.returns
returns c ts us a new outer gaps h x = is_site c.lists_tell_each_statement.ensures ts us a gaps new h outer x
