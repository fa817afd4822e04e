use Rattle.extract_names_derived.proofs.PrintedCalls.{printed_site}
use Rattle.extract_names_derived.proofs.laws.printed_calls_make_sites.Goals as goal

pub returns : goal.returns
returns c = printed_site c.lists_tell_each_statement.ensures c.replaced_runs_tell.ensures c.changed_sites.ensures
