-- The tokens of printed types, each list in front of a rest.
use Rattle.std.specs.Prelude.{ℕ, ◌<◌, ◌^◌, List, [], ◌∷◌, codes}
use Rattle.std.specs.Fmt.{decimal}
use Rattle.go_tokens.specs.declared.token.TokenKind.TheVariants as token
use Rattle.go_types.specs.Trees.{TypeTree, TypeRow, boolean, text, integer, array, slice, structure, function, declared, none, more}
use Rattle.go_print.specs.Texts.{kind_text}
use Rattle.go_print_laws.specs.Lexemes.{Lexeme, mark, identifier, blank, IsName, AreNames}

abbrev pub comma : Lexeme
comma = mark token.Comma (codes ",")

abbrev pub semicolon : Lexeme
semicolon = mark token.Semicolon (codes ";")

abbrev pub opening : Lexeme
opening = mark token.LeftParenthesis (codes "(")

abbrev pub closing : Lexeme
closing = mark token.RightParenthesis (codes ")")

abbrev pub left_bracket : Lexeme
left_bracket = mark token.LeftBracket (codes "[")

abbrev pub right_bracket : Lexeme
right_bracket = mark token.RightBracket (codes "]")

abbrev pub right_brace : Lexeme
right_brace = mark token.RightBrace (codes "}")

abbrev mutual
  pub type_lexemes : (ℕ → List ℕ) → TypeTree → List Lexeme → List Lexeme
  type_lexemes name boolean rest = mark token.Identifier (codes "bool") ∷ rest
  type_lexemes name text rest = mark token.Identifier (codes "string") ∷ rest
  type_lexemes name (integer k) rest = mark token.Identifier (kind_text k) ∷ rest
  type_lexemes name (array n t) rest = left_bracket ∷ mark token.Integer (decimal n) ∷ right_bracket ∷ type_lexemes name t rest
  type_lexemes name (slice t) rest = left_bracket ∷ right_bracket ∷ type_lexemes name t rest
  type_lexemes name (structure ns ts) rest =
      mark token.Struct (codes "struct") ∷ blank ∷ mark token.LeftBrace (codes "{") ∷ field_lexemes name ns ts (right_brace ∷ rest)
  type_lexemes name (function ps rs) rest =
      mark token.Func (codes "func") ∷ opening ∷ list_lexemes name ps (closing ∷ result_lexemes name rs rest)
  type_lexemes name (declared n) rest = identifier (name n) ∷ rest

  -- types with commas between
  pub list_lexemes : (ℕ → List ℕ) → TypeRow → List Lexeme → List Lexeme
  list_lexemes name none rest = rest
  list_lexemes name (more t ts) rest = type_lexemes name t (behind_lexemes name ts rest)

  -- types behind another one
  pub behind_lexemes : (ℕ → List ℕ) → TypeRow → List Lexeme → List Lexeme
  behind_lexemes name none rest = rest
  behind_lexemes name (more t ts) rest = comma ∷ blank ∷ type_lexemes name t (behind_lexemes name ts rest)

  -- nothing, one type, or types in parentheses
  pub result_lexemes : (ℕ → List ℕ) → TypeRow → List Lexeme → List Lexeme
  result_lexemes name none rest = rest
  result_lexemes name (more t none) rest = blank ∷ type_lexemes name t rest
  result_lexemes name (more t (more u us)) rest =
      blank ∷ opening ∷ type_lexemes name t (comma ∷ blank ∷ type_lexemes name u (behind_lexemes name us (closing ∷ rest)))

  pub field_lexemes : (ℕ → List ℕ) → List (List ℕ) → TypeRow → List Lexeme → List Lexeme
  field_lexemes name [] ts rest = rest
  field_lexemes name (n ∷ ns) none rest = rest
  field_lexemes name (n ∷ ns) (more t ts) rest = blank ∷ identifier n ∷ blank ∷ type_lexemes name t (later_lexemes name ns ts rest)

  -- fields behind another one, and a blank
  pub later_lexemes : (ℕ → List ℕ) → List (List ℕ) → TypeRow → List Lexeme → List Lexeme
  later_lexemes name [] ts rest = blank ∷ rest
  later_lexemes name (n ∷ ns) none rest = blank ∷ rest
  later_lexemes name (n ∷ ns) (more t ts) rest =
      semicolon ∷ blank ∷ identifier n ∷ blank ∷ type_lexemes name t (later_lexemes name ns ts rest)

abbrev mutual
  -- The names of declared types and of fields are names, and the lengths of arrays have at most 64 digits.
  pub CanBeWritten : (ℕ → List ℕ) → TypeTree → Type 0
  CanBeWritten name boolean = Unit {0}
  CanBeWritten name text = Unit {0}
  CanBeWritten name (integer k) = Unit {0}
  CanBeWritten name (array n t) = (n < 10 ^ 64) × CanBeWritten name t
  CanBeWritten name (slice t) = CanBeWritten name t
  CanBeWritten name (structure ns ts) = AreNames ns × RowCanBeWritten name ts
  CanBeWritten name (function ps rs) = RowCanBeWritten name ps × RowCanBeWritten name rs
  CanBeWritten name (declared n) = IsName (name n)

  pub RowCanBeWritten : (ℕ → List ℕ) → TypeRow → Type 0
  RowCanBeWritten name none = Unit {0}
  RowCanBeWritten name (more t ts) = CanBeWritten name t × RowCanBeWritten name ts
