-- A worked example: a function that begins with a copy of the two statements of the first example, with its free local as a parameter, and
-- another one in place of the number that is added.
use Rattle.std.specs.Prelude.{suc, List, [], ◌∷◌, codes}
use Rattle.go_tokens.specs.declared.token.TokenKind.TheVariants as token
use Rattle.go_heads.specs.Functions.{Alone}
use Rattle.extract_names.specs.Sentences.{Word, name, number, mark, function_of}
use Rattle.extract_names.specs.Copies.{Copy}

-- func h(a int, p int) (int) { b := a + p; b = b * 2; return b }
abbrev pub taken_words : List Word
taken_words =
    mark token.Func ∷ name (codes "h") ∷ mark token.LeftParenthesis ∷ name (codes "a") ∷ name (codes "int") ∷ mark token.Comma ∷ name (codes "p") ∷ name (codes "int") ∷ mark token.RightParenthesis ∷
    mark token.LeftParenthesis ∷ name (codes "int") ∷ mark token.RightParenthesis ∷ mark token.LeftBrace ∷
    name (codes "b") ∷ mark token.Define ∷ name (codes "a") ∷ mark token.Plus ∷ name (codes "p") ∷ mark token.Semicolon ∷
    name (codes "b") ∷ mark token.Assign ∷ name (codes "b") ∷ mark token.Star ∷ number (codes "2") ∷ mark token.Semicolon ∷
    mark token.Return ∷ name (codes "b") ∷ mark token.Semicolon ∷ mark token.RightBrace ∷ mark token.Semicolon ∷ []

abbrev pub taken : Alone
taken = function_of taken_words

-- Each token stands five behind its old place.
abbrev pub copy : Copy
copy = record {
  from = 8;
  upto = 19;
  around = 7;
  end = 24;
  place = λ x. suc (suc (suc (suc (suc x))));
  body = 12;
  close = 29;
  holes = record { from = 12; upto = 13; parameter = 6 } ∷ [];
  free = record { old = 3; parameter = 3 } ∷ [];
  parameters = 3 ∷ 6 ∷ [];
}
