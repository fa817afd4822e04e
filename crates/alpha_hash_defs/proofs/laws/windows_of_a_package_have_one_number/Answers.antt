use Rattle.alpha_hash_defs.proofs.Windows.{lawful-alone}
use Rattle.alpha_hash_defs.proofs.laws.windows_of_a_package_have_one_number.Goals as goal

pub returns : goal.returns
returns c = lawful-alone
