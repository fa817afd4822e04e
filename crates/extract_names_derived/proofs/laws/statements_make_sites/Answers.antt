use Rattle.extract_names_derived.proofs.News.{asked_site}
use Rattle.extract_names_derived.proofs.laws.statements_make_sites.Goals as goal

pub returns : goal.returns
returns c = asked_site c.lists_tell_each_statement.ensures
