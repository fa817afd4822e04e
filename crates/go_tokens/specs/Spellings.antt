-- How keywords, operators and punctuation are spelled (Go specification: Keywords, Operators and punctuation).
use Rattle.std.specs.Prelude.{ℕ, Bool, true, false, ◌&&◌, ◌||◌, ◌==◌, List, [], ◌∷◌, ◌++◌, map, Option, Some, None, if◌then◌else◌, codes, unwrap_or}
use Rattle.go_tokens.specs.declared.token.TokenKind.{TokenKind}
use Rattle.go_tokens.specs.declared.token.TokenKind.TheVariants.{Identifier, Integer, Rune, Text, Break, Case, Chan, Const, Continue, Default, Defer, Else, Fallthrough, For, Func, Go, Goto, If, Import, Interface, Map, Package, Range, Return, Select, Struct, Switch, «Type», Var, Plus, Minus, Star, Slash, Percent, Ampersand, Bar, Caret, ShiftLeft, ShiftRight, AndNot, PlusAssign, MinusAssign, StarAssign, SlashAssign, PercentAssign, AmpersandAssign, BarAssign, CaretAssign, ShiftLeftAssign, ShiftRightAssign, AndNotAssign, LogicalAnd, LogicalOr, Increment, Decrement, Equal, NotEqual, Less, LessEqual, Greater, GreaterEqual, Assign, Not, Define, LeftParenthesis, RightParenthesis, LeftBracket, RightBracket, LeftBrace, RightBrace, Comma, Semicolon, Period, Colon}

abbrev pub same_text : List ℕ → List ℕ → Bool
same_text [] [] = true
same_text [] (y ∷ ys) = false
same_text (x ∷ xs) [] = false
same_text (x ∷ xs) (y ∷ ys) = (x == y) && same_text xs ys

-- whether a text is in a table
abbrev pub listed : List (List ℕ) → List ℕ → Bool
listed [] xs = false
listed (w ∷ ws) xs = same_text w xs || listed ws xs

-- The token that is spelled so, by a table of spellings.
abbrev pub spelled : List (List ℕ × TokenKind) → List ℕ → Option TokenKind
spelled [] xs = None
spelled (s ∷ rest) xs = if same_text s.0 xs then Some s.1 else spelled rest xs

unfoldable pub keywords : List (List ℕ × TokenKind)
keywords =
    (codes "break", Break) ∷
    (codes "case", Case) ∷
    (codes "chan", Chan) ∷
    (codes "const", Const) ∷
    (codes "continue", Continue) ∷
    (codes "default", Default) ∷
    (codes "defer", Defer) ∷
    (codes "else", Else) ∷
    (codes "fallthrough", Fallthrough) ∷
    (codes "for", For) ∷
    (codes "func", Func) ∷
    (codes "go", Go) ∷
    (codes "goto", Goto) ∷
    (codes "if", If) ∷
    (codes "import", Import) ∷
    (codes "interface", Interface) ∷
    (codes "map", Map) ∷
    (codes "package", Package) ∷
    (codes "range", Range) ∷
    (codes "return", Return) ∷
    (codes "select", Select) ∷
    (codes "struct", Struct) ∷
    (codes "switch", Switch) ∷
    (codes "type", «Type») ∷
    (codes "var", Var) ∷
    []

-- what a word is: a keyword or an identifier
abbrev pub word_kind : List ℕ → TokenKind
word_kind w = unwrap_or (spelled keywords w) Identifier

-- keywords of Go that are outside the profile
abbrev pub is_outside : TokenKind → Bool
is_outside Chan = true
is_outside Defer = true
is_outside Go = true
is_outside Goto = true
is_outside Interface = true
is_outside Map = true
is_outside Select = true
is_outside k = false

-- those that stand most often come first
unfoldable pub punctuation : List (List ℕ × TokenKind)
punctuation =
    (codes "(", LeftParenthesis) ∷
    (codes ")", RightParenthesis) ∷
    (codes ",", Comma) ∷
    (codes ".", Period) ∷
    (codes "=", Assign) ∷
    (codes ":=", Define) ∷
    (codes "{", LeftBrace) ∷
    (codes "}", RightBrace) ∷
    (codes "[", LeftBracket) ∷
    (codes "]", RightBracket) ∷
    (codes "+", Plus) ∷
    (codes "-", Minus) ∷
    (codes "*", Star) ∷
    (codes "/", Slash) ∷
    (codes "%", Percent) ∷
    (codes "&", Ampersand) ∷
    (codes "|", Bar) ∷
    (codes "^", Caret) ∷
    (codes "<<", ShiftLeft) ∷
    (codes ">>", ShiftRight) ∷
    (codes "&^", AndNot) ∷
    (codes "+=", PlusAssign) ∷
    (codes "-=", MinusAssign) ∷
    (codes "*=", StarAssign) ∷
    (codes "/=", SlashAssign) ∷
    (codes "%=", PercentAssign) ∷
    (codes "&=", AmpersandAssign) ∷
    (codes "|=", BarAssign) ∷
    (codes "^=", CaretAssign) ∷
    (codes "<<=", ShiftLeftAssign) ∷
    (codes ">>=", ShiftRightAssign) ∷
    (codes "&^=", AndNotAssign) ∷
    (codes "&&", LogicalAnd) ∷
    (codes "||", LogicalOr) ∷
    (codes "++", Increment) ∷
    (codes "--", Decrement) ∷
    (codes "==", Equal) ∷
    (codes "!=", NotEqual) ∷
    (codes "<", Less) ∷
    (codes "<=", LessEqual) ∷
    (codes ">", Greater) ∷
    (codes ">=", GreaterEqual) ∷
    (codes "!", Not) ∷
    (codes ";", Semicolon) ∷
    (codes ":", Colon) ∷
    []

-- operators of Go that are outside the profile
unfoldable pub outside_operators : List (List ℕ)
outside_operators = codes "<-" ∷ codes "..." ∷ codes "~" ∷ []

-- all operators and punctuation
unfoldable pub operators : List (List ℕ)
operators = map (λ s. s.0) punctuation ++ outside_operators

-- what an operator of the profile is
abbrev pub operator_kind : List ℕ → TokenKind
operator_kind w = unwrap_or (spelled punctuation w) Semicolon

-- Whether a semicolon is inserted behind a token, where it is the last of its line (Go specification: Semicolons).
abbrev pub ends_statement_kind : TokenKind → Bool
ends_statement_kind Identifier = true
ends_statement_kind Integer = true
ends_statement_kind Rune = true
ends_statement_kind Text = true
ends_statement_kind Break = true
ends_statement_kind Continue = true
ends_statement_kind Fallthrough = true
ends_statement_kind Return = true
ends_statement_kind Increment = true
ends_statement_kind Decrement = true
ends_statement_kind RightParenthesis = true
ends_statement_kind RightBracket = true
ends_statement_kind RightBrace = true
ends_statement_kind k = false
