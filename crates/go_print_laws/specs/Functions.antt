-- A function: its header, its statements by their text, and the names of what it returns.
use Rattle.std.specs.Prelude.{◌≡◌, ℕ, suc, ◌-◌, ◌≤◌, true, List, [], ◌∷◌, ◌++◌, length, take, drop, codes}
use Rattle.std.specs.List.{list_all}
use Rattle.std.specs.Str.{encode_utf8_all, all_scalars}
use Rattle.go_tokens.specs.declared.token.Token.{Token}
use Rattle.go_tokens.specs.declared.token.TokenKind.{TokenKind}
use Rattle.go_tokens.specs.declared.token.TokenKind.TheVariants as token
use Rattle.go_tokens.specs.Encoding.{IsText}
use Rattle.go_tokens.specs.Encoding as encoding
use Rattle.go_tokens.specs.Editing.{Stands}
use Rattle.go_tokens.specs.Spellings.{ends_statement_kind}
use Rattle.go_tokens.specs.Tokens.{kinds}
use Rattle.go_grammar.specs.declared.kind.Kind.TheVariants as kind
use Rattle.go_grammar.specs.Rules.{Items}
use Rattle.go_grammar.specs.Trees.{Tree, node, Trees, none, more, last, depth, onto}
use Rattle.go_rewriting.specs.Excerpts.{is_plain, Part, IsPart}
use Rattle.go_rewriting.specs.Lists.{in_block}
use Rattle.go_rewriting.specs.Places.{carries, IsDeclaration}
use Rattle.go_rewriting.specs.Replacing.{moved, Run}
use Rattle.go_rewriting.specs.Rewriting.{own, IsTail}
use Rattle.go_print.specs.Texts.{listed}
use Rattle.go_print_laws.specs.Lexemes.{Lexeme, mark, identifier, blank, words, AreNames}
use Rattle.go_print_laws.specs.Types.{semicolon, right_brace}
use Rattle.go_print_laws.specs.Trees.{name_at}
use Rattle.go_print_laws.specs.Calls.{AreStatements, behind_name, names_behind, names_end}
use Rattle.go_print_laws.specs.Headers.{Header, header_text, header_lexemes, header_tree, signature_tree, HeaderCanBeWritten}

pub record Function : Type 0 where
  pub header : Header
  pub body : List ℕ
  pub returned : List (List ℕ)

-- ---- the text

-- `return x, y` and a newline, or nothing
abbrev pub returning_text : List (List ℕ) → List ℕ
returning_text [] = []
returning_text (x ∷ xs) = codes "return " ++ listed (x ∷ xs) ++ codes "\n"

-- a newline, and the function
abbrev pub function_text : (ℕ → List ℕ) → Function → List ℕ
function_text name f = codes "\n" ++ header_text name f.header ++ codes " {\n" ++ f.body ++ codes "\n" ++ returning_text f.returned ++ codes "}\n"

-- ---- its tokens

abbrev pub returning_lexemes : List (List ℕ) → List Lexeme → List Lexeme
returning_lexemes [] rest = rest
returning_lexemes (x ∷ xs) rest = mark token.Return (codes "return") ∷ blank ∷ identifier x ∷ behind_name xs (semicolon ∷ rest)

-- those of the statements are given
abbrev pub function_words : (ℕ → List ℕ) → Function → List TokenKind → List TokenKind
function_words name f ws = words (header_lexemes name f.header []) ++ (token.LeftBrace ∷ (ws ++ (token.Semicolon ∷ words (returning_lexemes f.returned (right_brace ∷ semicolon ∷ [])))))

-- ---- its tree

-- `return x, y` from a token on
abbrev pub return_tree : ℕ → List (List ℕ) → Tree
return_tree i xs =
    let e = names_end (suc (suc i)) xs in
    node kind.Return i e (more (node kind.ExpressionList (suc i) e (more (name_at (suc i)) (names_behind (suc (suc i)) xs))) none)

abbrev pub returning_trees : ℕ → List (List ℕ) → Trees
returning_trees i [] = none
returning_trees i (x ∷ xs) = more (return_tree i xs) none

-- where the closing brace stands
abbrev pub returning_end : ℕ → List (List ℕ) → ℕ
returning_end i [] = i
returning_end i (x ∷ xs) = suc (names_end (suc (suc i)) xs)

-- with statements of so many tokens, from the opening brace on
abbrev pub block_tree : ℕ → ℕ → Trees → List (List ℕ) → Tree
block_tree k n new xs =
    let i = suc (moved 0 (suc k) n) in
    node kind.Block k (suc (returning_end i xs)) (onto (carries (moved 0 (suc k)) new) (returning_trees i xs))

abbrev pub function_tree : Function → ℕ → Trees → Tree
function_tree f n new =
    let block = block_tree (last (header_tree 0 f.header)) n new f.returned in
    node kind.FunctionDeclaration 0 (last block) (more (signature_tree 2 f.header) (more block none))

-- ---- the law

-- The bytes are a text that stands alone, its own tokens are these, and a semicolon is inserted behind it at a line's end. In front of
-- what doesn't change it, it is a run of statements with these trees.
pub record Statements (file : ℕ) (bytes : List ℕ) (ws : List TokenKind) (new : Trees) : Type 0 where
  pub text : List ℕ
  pub scalars : all_scalars text ≡ true
  pub plain : list_all encoding.is_plain text ≡ true
  pub encoded : encode_utf8_all text ≡ bytes
  pub stands : Stands file text
  pub kinds_are : kinds (own stands.tokens) ≡ ws
  pub closes : ends_statement_kind stands.spans.last.kind ≡ true
  pub run : (next : List TokenKind) → is_plain next ≡ true → Run (ws ++ next) in_block new 0 (length ws)

-- Statements of a block or a clause that are all of a part of a text stand by themselves, with the comments among them.
abbrev pub CopiesStand : Type 0
CopiesStand = (p : Part) → IsPart p → (l : Items) → AreStatements l → (new : Trees) → p.from ≤ p.upto → Run (kinds p.tokens) l new p.from p.upto → all_scalars p.inner ≡ true → list_all encoding.is_plain p.inner ≡ true
    → Statements p.file (encode_utf8_all p.inner) (take (p.upto - p.from) (drop p.from (kinds p.tokens))) (carries (moved p.from 0) new)

-- The bytes may be appended to a file, and are a declaration with these tokens and this tree.
pub record FunctionStands (file : ℕ) (bytes : List ℕ) (ws : List TokenKind) (d : Tree) : Type 0 where
  pub text : List ℕ
  pub is_text : IsText text bytes
  pub tokens : List Token
  pub tail : IsTail file text tokens
  pub kinds_are : kinds tokens ≡ ws
  pub declaration : IsDeclaration ws d

-- The text of a function is a declaration, whatever its statements are.
abbrev pub FunctionsStand : Type 0
FunctionsStand = (file : ℕ) (name : ℕ → List ℕ) (f : Function) (ws : List TokenKind) (new : Trees) → HeaderCanBeWritten name f.header → AreNames f.returned → Statements file f.body ws new
    → depth (function_tree f (length ws) new) ≤ 100 → FunctionStands file (function_text name f) (function_words name f ws) (function_tree f (length ws) new)
