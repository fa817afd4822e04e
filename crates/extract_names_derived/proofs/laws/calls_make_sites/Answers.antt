use Rattle.extract_names_derived.proofs.CallSites.{call_site}
use Rattle.extract_names_derived.proofs.laws.calls_make_sites.Goals as goal

pub returns : goal.returns
returns c = λ ts us a outer gaps new h calls. call_site c.lists_tell_each_statement.ensures c.replaced_runs_tell.ensures ts us a outer gaps new h calls
