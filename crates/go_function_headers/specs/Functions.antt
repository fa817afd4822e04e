-- Functions as declarations at the end of a file, whatever levels their headers have.
use Rattle.std.specs.Prelude.{◌≡◌, ℕ, suc, ◌≤◌, List, [], ◌∷◌, length, Some}
use Rattle.go_tokens.specs.declared.token.Token.{Token}
use Rattle.go_tokens.specs.declared.token.TokenKind.{TokenKind}
use Rattle.go_tokens.specs.declared.token.TokenKind.TheVariants as token
use Rattle.go_tokens.specs.Encoding.{IsText}
use Rattle.go_tokens.specs.Tokens.{kinds}
use Rattle.go_grammar.specs.declared.kind.Category.TheVariants as category
use Rattle.go_grammar.specs.Grammar.{Derives, IsAt}
use Rattle.go_grammar.specs.Trees.{Tree, Trees, depth, depths, first, last}
use Rattle.go_rewriting.specs.Replacing.{subtree_at}
use Rattle.go_rewriting.specs.Rewriting.{IsTail}
use Rattle.go_print_laws.specs.Functions.{Function, Statements, function_text, function_words}
use Rattle.go_print_laws.specs.Headers.{HeaderCanBeWritten, signature_tree}
use Rattle.go_print_laws.specs.Lexemes.{AreNames}

-- The tree of a declaration that is all of these tokens, with a semicolon behind it, of whatever depth.
pub record IsWholeDeclaration (ws : List TokenKind) (d : Tree) : Type 0 where
  pub derives : Derives ws category.Declaration d
  pub begins : first d ≡ 0
  pub closed : IsAt ws (last d) token.Semicolon
  pub all : length ws ≡ suc (last d)

-- The bytes may be appended to a file, and are a declaration with these tokens, of which this signature is the first part.
pub record FunctionReads (file : ℕ) (bytes : List ℕ) (ws : List TokenKind) (signature : Tree) : Type 0 where
  pub text : List ℕ
  pub is_text : IsText text bytes
  pub tokens : List Token
  pub tail : IsTail file text tokens
  pub kinds_are : kinds tokens ≡ ws
  pub tree : Tree
  pub whole : IsWholeDeclaration ws tree
  pub part : subtree_at (0 ∷ []) tree ≡ Some signature
  -- so it has a level more
  pub above : suc (depth signature) ≤ depth tree

-- The text of a function is a declaration, whatever its header is.
abbrev pub FunctionsRead : Type 0
FunctionsRead = (file : ℕ) (name : ℕ → List ℕ) (f : Function) (ws : List TokenKind) (new : Trees) → HeaderCanBeWritten name f.header → AreNames f.returned → Statements file f.body ws new
    → depths new ≤ 98 → FunctionReads file (function_text name f) (function_words name f ws) (signature_tree 2 f.header)
