use Rattle.std.proofs.Common.{◌∷◌, ◌++◌, codes, refl, ap, arith}
use Rattle.go_types.specs.Trees.{slice, declared}
use Rattle.go_print.specs.Texts.{type_text}
use Rattle.go_print.specs.Examples.{name}
use Rattle.std.proofs.lemmas.Fmt.{decimal_digit}
use Rattle.go_print.proofs.laws.examples.Goals as goal

pub returns : goal.returns
returns c = record {
  text_of_bytes = refl;
  text_of_backslash = refl;
  empty_text = refl;
  negative = ap (λ ds. 45 ∷ ds) (decimal_digit 3 (omega arith));
  zero = decimal_digit 0 (omega arith);
  truth = refl;
  fields = refl;
  no_fields = refl;
  one_result = refl;
  procedure = refl;
  arrays = ap (λ ds. codes "[" ++ ds ++ codes "]" ++ type_text name (slice (declared 7))) (decimal_digit 8 (omega arith));
}
