use Rattle.extract_texts_named.proofs.Free.{chosen_named}
use Rattle.extract_texts_named.proofs.laws.chosen_locals_are_named.Goals as goal

pub returns : goal.returns
returns c = chosen_named
