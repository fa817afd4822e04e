-- The worked examples, by computing.
use Rattle.std.proofs.Common.{refl}
use Rattle.std.specs.Fmt.{digits}
use Rattle.go_tokens.specs.Lexing.{span}
use Rattle.go_tokens.specs.Spellings.{keywords}
use Rattle.go_tree.specs.Predeclared.{known_names, unknown_names}
use Rattle.extract_rewrite.specs.Examples.{Examples}

pub examples : Examples
unfolding span keywords digits known_names unknown_names
examples = record {
  places = λ r. refl;
  other_template = λ r. refl;
  numbers = λ r. refl;
  grows = λ r. refl;
  kept = λ r. refl;
  lost = λ r. refl;
  ordered = refl;
  done = refl;
}
