use Rattle.std.specs.Prelude.{◌≡◌, true}
use Rattle.std.proofs.Common.{subst}
use Rattle.std.specs.Str.{IsUtf8, chars}
use Rattle.go_tokens.specs.Literals.{is_integer, is_one, rune_elements}
use Rattle.go_tokens.proofs.Spelled.{integer_text, integer_token, rune_token, text_token}
use Rattle.go_tokens.proofs.laws.literals.Goals as goal

pub returns : goal.returns
returns c = record {
  integer = λ bytes spelled h. subst (λ s. is_integer s ≡ true) h.spelled_is (integer_token h.file bytes h.tokens h.comments h.number h.found h.lexing h.is_found h.kind_is);
  rune = λ bytes spelled h. subst (λ s. IsUtf8 s × (is_one (rune_elements (chars s)) ≡ true)) h.spelled_is (rune_token h.file bytes h.tokens h.comments h.number h.found h.lexing h.is_found h.kind_is);
  text = λ bytes spelled h. subst (λ s. IsUtf8 s) h.spelled_is (text_token h.file bytes h.tokens h.comments h.number h.found h.lexing h.is_found h.kind_is);
  ascii = integer_text;
}
