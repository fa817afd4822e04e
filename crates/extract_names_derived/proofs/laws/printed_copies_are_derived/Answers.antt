use Rattle.extract_names_derived.proofs.PrintedCopies.{printed_copy}
use Rattle.extract_names_derived.proofs.laws.printed_copies_are_derived.Goals as goal

pub returns : goal.returns
returns c = printed_copy c.lists_tell_each_statement.ensures
