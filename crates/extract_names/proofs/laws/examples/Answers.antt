use Rattle.std.proofs.Common.{refl}
use Rattle.extract_names.proofs.laws.examples.Goals as goal

pub returns : goal.returns
returns c = record { tree = refl; places = refl; before = refl; behind = refl; faultless = refl; still = refl; meant = refl; kept = refl; said = refl }
