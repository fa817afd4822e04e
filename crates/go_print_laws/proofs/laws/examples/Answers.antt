use Rattle.std.proofs.Common.{[], ◌∷◌, codes, refl, ap, arith}
use Rattle.std.specs.Char.{encode_utf8}
use Rattle.std.proofs.lemmas.Fmt.{decimal_digit}
use Rattle.go_tokens.specs.declared.token.TokenKind.TheVariants as token
use Rattle.go_tokens.specs.Literals.{is_digit_of, letter_base, letter_escape}
use Rattle.go_types_relations.specs.Questions.{answers}
use Rattle.go_types_relations.specs.Tests.{is_assignable}
use Rattle.go_exprs_rules.specs.Faults.{sooner}
use Rattle.go_print_laws.specs.Examples.{item}
use Rattle.go_print_laws.proofs.laws.examples.Goals as goal

pub returns : goal.returns
unfolding sooner answers is_assignable is_digit_of letter_base letter_escape encode_utf8
returns c = record {
  text_bytes = refl;
  text_tokens = refl;
  text_tree = refl;
  text_read = refl;
  number_bytes = ap (λ ds. 45 ∷ ds) (decimal_digit 3 (omega arith));
  number_tokens = ap (λ ds. item token.Minus (codes "-") ∷ item token.Integer ds ∷ []) (decimal_digit 3 (omega arith));
  number_tree = refl;
  number_read = refl;
  type_bytes = refl;
  type_tokens = refl;
  type_tree_is = refl;
  type_read = refl;
  call_bytes = refl;
  call_trees_are = refl;
  header_bytes = refl;
  header_tree_is = refl;
}
