-- The forms of productions.
use Rattle.std.specs.Prelude.{Bool, List}
use Rattle.go_tokens.specs.declared.token.TokenKind.{TokenKind}
use Rattle.go_grammar.specs.declared.kind.Category.{Category}

-- Any number of items of a category.
pub data Items : Type 0 where
  -- Each item is followed by the separator, which may be left out before the closing word, and then the closing word. If the
  -- first argument is true, the separator may also stand alone.
  Lines : Bool → Category → TokenKind → TokenKind → Items
  -- Each item is followed by the separator, which may also stand alone, and may be left out before a closing brace. The brace
  -- is no part of the text.
  Open : Category → TokenKind → Items
  -- each item is followed by words; behind all of them stand the last words
  Each : Category → List TokenKind → List TokenKind → Items
  -- the separator stands before each item
  Again : Category → TokenKind → Items

-- The right side of a production.
pub data Rule : Type 0 where
  -- these words
  End : List TokenKind → Rule
  -- these words, a part, and the rest
  Then : List TokenKind → Category → Rule → Rule
  -- these words, a part or nothing, and the rest
  Maybe : List TokenKind → Category → Rule → Rule
  -- The same, where the part is left out only before none of the words of the second list.
  Unless : List TokenKind → Category → List TokenKind → Rule → Rule
  -- these words, and then items
  Many : List TokenKind → Items → Rule

-- the category of the items
abbrev pub item : Items → Category
item (Lines b c s e) = c
item (Open c s) = c
item (Each c us vs) = c
item (Again c s) = c
