-- The words that types, constants and calls are written with.
use Rattle.std.proofs.Common.{ℕ, List, codes, refl}
use Rattle.std.specs.Char.{encode_utf8}
use Rattle.ucd_category.specs.GeneralCategory.{general_category}
use Rattle.ucd_category.specs.GeneralCategoryRows.{general_category_rows}
use Rattle.ucd_table.specs.Rows.{value_in}
use Rattle.go_ints.specs.declared.kinds.Kind.{Kind}
use Rattle.go_ints.specs.declared.kinds.Kind.TheVariants as ints
use Rattle.go_tokens.specs.declared.token.TokenKind.{TokenKind}
use Rattle.go_tokens.specs.declared.token.TokenKind.TheVariants as token
use Rattle.go_tokens.specs.Characters.{is_white, is_letter, is_digit, is_in_word, is_in_run, is_exponent, is_power, is_sign, is_x}
use Rattle.go_tokens.specs.Spellings.{keywords, punctuation, outside_operators, operators}
use Rattle.go_tokens.specs.Pieces.{begun_by, goes}
use Rattle.go_print.specs.Texts.{kind_text}
use Rattle.go_print_laws.specs.Lexemes.{IsWord}

-- a token whose characters are its bytes
abbrev pub IsMark : TokenKind → List ℕ → Type 0
IsMark k text = IsWord k text text

pub record Marks : Type 0 where
  pub bool : IsMark token.Identifier (codes "bool")
  pub string : IsMark token.Identifier (codes "string")
  pub struct : IsMark token.Struct (codes "struct")
  pub func : IsMark token.Func (codes "func")
  pub left_bracket : IsMark token.LeftBracket (codes "[")
  pub right_bracket : IsMark token.RightBracket (codes "]")
  pub left_brace : IsMark token.LeftBrace (codes "{")
  pub right_brace : IsMark token.RightBrace (codes "}")
  pub left_parenthesis : IsMark token.LeftParenthesis (codes "(")
  pub right_parenthesis : IsMark token.RightParenthesis (codes ")")
  pub comma : IsMark token.Comma (codes ",")
  pub semicolon : IsMark token.Semicolon (codes ";")
  pub truth : IsMark token.Identifier (codes "true")
  pub falsehood : IsMark token.Identifier (codes "false")
  pub minus : IsMark token.Minus (codes "-")
  pub equals : IsMark token.Assign (codes "=")
  pub variable : IsMark token.Var (codes "var")
  pub ignored : IsMark token.Identifier (codes "_")

pub marks : Marks
unfolding begun_by is_white is_letter is_digit is_in_word is_in_run is_exponent is_power is_sign is_x goes operators punctuation outside_operators keywords general_category value_in general_category_rows encode_utf8
marks = record {
  bool = record { piece = refl; good = refl; token = refl; kind = refl; scalars = refl; plain = refl; encoded = refl };
  string = record { piece = refl; good = refl; token = refl; kind = refl; scalars = refl; plain = refl; encoded = refl };
  struct = record { piece = refl; good = refl; token = refl; kind = refl; scalars = refl; plain = refl; encoded = refl };
  func = record { piece = refl; good = refl; token = refl; kind = refl; scalars = refl; plain = refl; encoded = refl };
  left_bracket = record { piece = refl; good = refl; token = refl; kind = refl; scalars = refl; plain = refl; encoded = refl };
  right_bracket = record { piece = refl; good = refl; token = refl; kind = refl; scalars = refl; plain = refl; encoded = refl };
  left_brace = record { piece = refl; good = refl; token = refl; kind = refl; scalars = refl; plain = refl; encoded = refl };
  right_brace = record { piece = refl; good = refl; token = refl; kind = refl; scalars = refl; plain = refl; encoded = refl };
  left_parenthesis = record { piece = refl; good = refl; token = refl; kind = refl; scalars = refl; plain = refl; encoded = refl };
  right_parenthesis = record { piece = refl; good = refl; token = refl; kind = refl; scalars = refl; plain = refl; encoded = refl };
  comma = record { piece = refl; good = refl; token = refl; kind = refl; scalars = refl; plain = refl; encoded = refl };
  semicolon = record { piece = refl; good = refl; token = refl; kind = refl; scalars = refl; plain = refl; encoded = refl };
  truth = record { piece = refl; good = refl; token = refl; kind = refl; scalars = refl; plain = refl; encoded = refl };
  falsehood = record { piece = refl; good = refl; token = refl; kind = refl; scalars = refl; plain = refl; encoded = refl };
  minus = record { piece = refl; good = refl; token = refl; kind = refl; scalars = refl; plain = refl; encoded = refl };
  equals = record { piece = refl; good = refl; token = refl; kind = refl; scalars = refl; plain = refl; encoded = refl };
  variable = record { piece = refl; good = refl; token = refl; kind = refl; scalars = refl; plain = refl; encoded = refl };
  ignored = record { piece = refl; good = refl; token = refl; kind = refl; scalars = refl; plain = refl; encoded = refl };
}

pub kind_word : (k : Kind) → IsMark token.Identifier (kind_text k)
unfolding begun_by is_white is_letter is_digit is_in_word is_in_run is_exponent is_power is_sign is_x goes operators punctuation outside_operators keywords general_category value_in general_category_rows encode_utf8
kind_word ints.Int = record { piece = refl; good = refl; token = refl; kind = refl; scalars = refl; plain = refl; encoded = refl }
kind_word ints.Int8 = record { piece = refl; good = refl; token = refl; kind = refl; scalars = refl; plain = refl; encoded = refl }
kind_word ints.Int16 = record { piece = refl; good = refl; token = refl; kind = refl; scalars = refl; plain = refl; encoded = refl }
kind_word ints.Int32 = record { piece = refl; good = refl; token = refl; kind = refl; scalars = refl; plain = refl; encoded = refl }
kind_word ints.Int64 = record { piece = refl; good = refl; token = refl; kind = refl; scalars = refl; plain = refl; encoded = refl }
kind_word ints.Uint = record { piece = refl; good = refl; token = refl; kind = refl; scalars = refl; plain = refl; encoded = refl }
kind_word ints.Uint8 = record { piece = refl; good = refl; token = refl; kind = refl; scalars = refl; plain = refl; encoded = refl }
kind_word ints.Uint16 = record { piece = refl; good = refl; token = refl; kind = refl; scalars = refl; plain = refl; encoded = refl }
kind_word ints.Uint32 = record { piece = refl; good = refl; token = refl; kind = refl; scalars = refl; plain = refl; encoded = refl }
kind_word ints.Uint64 = record { piece = refl; good = refl; token = refl; kind = refl; scalars = refl; plain = refl; encoded = refl }
