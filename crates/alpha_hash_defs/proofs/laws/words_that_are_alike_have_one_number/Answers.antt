use Rattle.alpha_hash_defs.proofs.Terms.{same-number}
use Rattle.alpha_hash_defs.proofs.laws.words_that_are_alike_have_one_number.Goals as goal

pub returns : goal.returns
returns c = same-number
