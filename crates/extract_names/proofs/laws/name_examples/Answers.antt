use Rattle.std.proofs.Common.{refl}
use Rattle.extract_names.proofs.laws.name_examples.Goals as goal

pub returns : goal.returns
returns c = record {
  none_new = refl;
  callee = refl;
  type_hidden = refl;
  result_hides = refl;
  value_hidden = refl;
  type_declared = refl;
  inner_faultless = refl;
  inner_names = refl;
  reused_faultless = refl;
  reused_names = refl;
  needed_faultless = refl;
  needed_names = refl;
  blank_faultless = refl;
  blank_names = refl;
}
