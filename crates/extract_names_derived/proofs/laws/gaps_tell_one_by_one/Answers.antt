use Rattle.extract_names_derived.proofs.DerivedSites.{gaps_tell}
use Rattle.extract_names_derived.proofs.laws.gaps_tell_one_by_one.Goals as goal

pub returns : goal.returns
returns c = gaps_tell c.lists_tell_each_statement.ensures
