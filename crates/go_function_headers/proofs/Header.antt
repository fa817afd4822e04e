-- A header without parameters and results.
use Rattle.std.proofs.Common.{◌≡◌, ℕ, List, [], codes, refl, sym, subst}
use Rattle.std.specs.Char.{encode_utf8}
use Rattle.std.specs.Str.{chars}
use Rattle.std.proofs.lemmas.Str.{chars-encodes}
use Rattle.ucd_category.specs.GeneralCategory.{general_category}
use Rattle.ucd_category.specs.GeneralCategoryRows.{general_category_rows}
use Rattle.ucd_table.specs.Rows.{value_in}
use Rattle.go_tokens.specs.declared.token.TokenKind.TheVariants as token
use Rattle.go_tokens.specs.Characters.{is_white, is_letter, is_digit, is_in_word, is_in_run, is_exponent, is_power, is_sign, is_x}
use Rattle.go_tokens.specs.Pieces.{begun_by, goes}
use Rattle.go_tokens.specs.Spellings.{keywords, punctuation, outside_operators, operators}
use Rattle.go_types.specs.Trees as types
use Rattle.go_print_laws.specs.Headers.{Header, HeaderCanBeWritten}
use Rattle.go_print_laws.specs.Lexemes.{IsName, IsWord}

name_word : IsWord token.Identifier (codes "x") (codes "x")
unfolding begun_by is_white is_letter is_digit is_in_word is_in_run is_exponent is_power is_sign is_x goes operators punctuation outside_operators keywords general_category value_in general_category_rows encode_utf8
name_word = record { piece = refl; good = refl; token = refl; kind = refl; scalars = refl; plain = refl; encoded = refl }

name_same : chars (codes "x") ≡ codes "x"
unfolding encode_utf8
name_same = chars-encodes (codes "x") refl

name_is : IsName (codes "x")
name_is = subst (IsWord token.Identifier (codes "x")) (sym name_same) name_word

-- `func x()`
abbrev pub short : Header
short = record { function = codes "x"; parameters = []; types = types.none; results = types.none }

pub short_written : (name : ℕ → List ℕ) → HeaderCanBeWritten name short
short_written name = record { function = name_is; parameters = tt; types = tt; results = tt }
