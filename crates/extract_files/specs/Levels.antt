-- The tree of a file with calls, of whatever depth.
use Rattle.std.specs.Prelude.{◌≡◌, ℕ, suc, ◌++◌, ◌<◌, ◌≤◌, length, List}
use Rattle.std.specs.Str.{encode_utf8_all}
use Rattle.go_base.specs.declared.Span.{Span}
use Rattle.go_tokens.specs.declared.token.Token.{Token}
use Rattle.go_tokens.specs.declared.token.TokenKind.{TokenKind}
use Rattle.go_tokens.specs.Encoding.{IsText}
use Rattle.go_tokens.specs.Files.{IsLexing}
use Rattle.go_tokens.specs.Tokens.{kinds}
use Rattle.go_grammar.specs.declared.kind.Category.TheVariants as category
use Rattle.go_grammar.specs.Grammar.{Derives, IsFile}
use Rattle.go_grammar.specs.Trees.{Tree, first, last, depth}
use Rattle.go_function_headers.specs.Functions.{FunctionReads}
use Rattle.extract_files.specs.Files.{Called, IsCalled, called_text, file_text}

-- A derivation of a file over all its tokens, of whatever depth.
pub record IsFileTree (ts : List TokenKind) (t : Tree) : Type 0 where
  pub derives : Derives ts category.File t
  pub begins : first t ≡ 0
  pub ends : last t ≡ length ts

-- The bytes have a lexing and one derivation over all its tokens.
pub record HasOneTree (file : ℕ) (bytes : List ℕ) : Type 0 where
  pub tokens : List Token
  pub comments : List Span
  pub lexing : IsLexing file bytes tokens comments
  pub tree : Tree
  pub is_tree : IsFileTree (kinds tokens) tree
  pub only : (t : Tree) → IsFileTree (kinds tokens) t → t ≡ tree

-- A file with calls at its windows, and a function behind it, has one derivation over all its tokens.
abbrev pub CalledFilesHaveOneTree : Type 0
CalledFilesHaveOneTree = (w : Called) → IsCalled w → IsFileTree (kinds w.tokens) w.tree → (before behind : List ℕ) → IsText (file_text w.windows w.rest) before → IsText w.tail behind
    → HasOneTree w.file (encode_utf8_all (called_text w.name w.windows (w.rest ++ w.tail)))

-- Where that isn't the tree of a file within the limit on levels, it has more levels.
abbrev pub FilesWithoutTreesAreDeep : Type 0
FilesWithoutTreesAreDeep = (file : ℕ) (bytes : List ℕ) (h : HasOneTree file bytes) → ((t : Tree) → IsFile (kinds h.tokens) t → ⊥) → 101 < depth h.tree

-- The bytes have a lexing and one derivation, which has two levels more than this signature.
pub record HasSignature (file : ℕ) (bytes : List ℕ) (signature : Tree) : Type 0 where
  pub one_tree : HasOneTree file bytes
  pub above : suc (suc (depth signature)) ≤ depth one_tree.tree

-- A function that is read behind bytes with one derivation is a declaration more of it, whatever levels it has.
abbrev pub FunctionsMayBeAppended : Type 0
FunctionsMayBeAppended = (file : ℕ) (front : List ℕ) → HasOneTree file front → (behind : List ℕ) (ws : List TokenKind) (signature : Tree) → FunctionReads file behind ws signature → HasSignature file (front ++ behind) signature
