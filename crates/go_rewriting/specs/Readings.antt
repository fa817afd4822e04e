-- Trees that the reader finds in words, as the worked examples name them.
use Rattle.std.specs.Prelude.{ℕ, zero, suc, List, Option, Some, None}
use Rattle.go_tokens.specs.declared.token.TokenKind.{TokenKind}
use Rattle.go_grammar.specs.declared.kind.Kind.TheVariants as kind
use Rattle.go_grammar.specs.declared.kind.Category.{Category}
use Rattle.go_grammar.specs.declared.kind.Category.TheVariants as category
use Rattle.go_grammar.specs.Trees.{Tree, node, Trees, none, more, last}
use Rattle.go_grammar.specs.Reader.{read}

-- the tree that a reading finds
abbrev pub tree_in : Option Tree → Tree
tree_in None = node kind.File 0 0 none
tree_in (Some t) = t

-- a statement that begins here
abbrev pub statement_at : List TokenKind → ℕ → Option Tree
statement_at ts i = read 60 ts 60 category.Statement i

-- this statement and so many more, each behind one semicolon
abbrev pub statements : ℕ → Option Tree → List TokenKind → Trees
statements zero None ts = none
statements (suc n) None ts = none
statements zero (Some p) ts = more p none
statements (suc n) (Some p) ts = more p (statements n (statement_at ts (suc (last p))) ts)

-- a text that is read
abbrev pub read_at : List TokenKind → Category → Option Tree
read_at ts c = read 60 ts 60 c 0
