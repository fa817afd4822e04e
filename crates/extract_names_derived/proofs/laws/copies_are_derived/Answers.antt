use Rattle.extract_names_derived.proofs.DerivedCopies.{is_copy}
use Rattle.extract_names_derived.proofs.laws.copies_are_derived.Goals as goal

pub returns : goal.returns
returns c = is_copy c.lists_tell_each_statement.ensures
