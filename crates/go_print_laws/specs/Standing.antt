-- Texts that stand: their tokens, alone and beside others, and their trees.
use Rattle.std.specs.Prelude.{◌≡◌, ℕ, true, false, List, [], ◌++◌, length, map, slice_get}
use Rattle.go_tokens.specs.declared.token.TokenKind.{TokenKind}
use Rattle.go_tokens.specs.Tokens.{kinds}
use Rattle.go_tokens.specs.Spellings.{ends_statement_kind}
use Rattle.go_tokens.specs.Encoding.{IsText}
use Rattle.go_tokens.specs.Replacing.{read}
use Rattle.go_tokens.specs.Editing.{Stands}
use Rattle.go_grammar.specs.declared.kind.Category.{Category}
use Rattle.go_grammar.specs.declared.kind.Category.TheVariants as category
use Rattle.go_grammar.specs.Rules.{Items}
use Rattle.go_grammar.specs.Trees.{Tree, Trees, first, last}
use Rattle.go_grammar.specs.Words.{is_among}
use Rattle.go_grammar.specs.Grammar.{result_words, Derives}
use Rattle.go_rewriting.specs.Replacing.{Run}
use Rattle.go_rewriting.specs.Rewriting.{own}
use Rattle.go_types.specs.Trees.{TypeTree}
use Rattle.go_print.specs.Texts.{type_text}
use Rattle.go_print_laws.specs.Lexemes.{Lexeme, words, tokens_of}
use Rattle.go_print_laws.specs.Types.{type_lexemes, CanBeWritten}
use Rattle.go_print_laws.specs.Trees.{type_tree}

-- The bytes are a text that stands alone, its own tokens are those of the lexemes, and a semicolon is inserted behind it at a
-- line's end.
pub record TextStands (file : ℕ) (bytes : List ℕ) (ls : List Lexeme) : Type 0 where
  pub text : List ℕ
  pub is_text : IsText text bytes
  pub stands : Stands file text
  pub tokens_are : map (read text) (own stands.tokens) ≡ tokens_of ls
  pub kinds_are : kinds (own stands.tokens) ≡ words ls
  pub closes : ends_statement_kind stands.spans.last.kind ≡ true

-- tokens that don't go on with a result
abbrev pub EndsHere : List TokenKind → Type 0
EndsHere next = is_among (slice_get next 0) result_words ≡ false

-- Besides, the text has this tree as one of the category, with other tokens behind it.
pub record StandsAs (file : ℕ) (bytes : List ℕ) (ls : List Lexeme) (c : Category) (t : Tree) : Type 0 where
  pub alone : TextStands file bytes ls
  pub derives : (next : List TokenKind) → EndsHere next → Derives (words ls ++ next) c t
  pub begins : first t ≡ 0
  pub ends : last t ≡ length (words ls)

-- Or it is a run of items with these trees.
pub record StandsAsRun (file : ℕ) (bytes : List ℕ) (ls : List Lexeme) (items : Items) (ts : Trees) : Type 0 where
  pub alone : TextStands file bytes ls
  pub run : (next : List TokenKind) → EndsHere next → Run (words ls ++ next) items ts 0 (length (words ls))

-- A printed type is a text of these tokens, and a type with this tree.
abbrev pub TypesStand : Type 0
TypesStand = (file : ℕ) (name : ℕ → List ℕ) (t : TypeTree) → CanBeWritten name t
    → StandsAs file (type_text name t) (type_lexemes name t []) category.Type (type_tree 0 t)
