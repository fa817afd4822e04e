use Rattle.std.proofs.Common.{refl}
use Rattle.alpha_hash_defs.proofs.laws.examples.Goals as goal

pub returns : goal.returns
returns c = record {
  text = refl;
  two_calls = refl;
  three_calls = refl;
  four_calls = refl;
  plain_case = refl;
  other_names_and_constants = refl;
  turned = refl;
  one_local = refl;
  twice = refl;
}
