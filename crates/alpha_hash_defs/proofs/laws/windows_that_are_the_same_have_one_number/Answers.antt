use Rattle.alpha_hash_defs.proofs.Windows.{same-windows}
use Rattle.alpha_hash_defs.proofs.laws.windows_that_are_the_same_have_one_number.Goals as goal

pub returns : goal.returns
returns c = λ identical n m here there names left right ps qs h fields. same-windows identical n m here there names left right ps qs h fields
