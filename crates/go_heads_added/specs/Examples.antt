-- A worked example: a file with a type and a function, and one function more.
use Rattle.std.specs.Prelude.{◌≡◌, ◌+◌, List, [], ◌∷◌, ◌++◌, length, map, drop, Option, Some, None}
use Rattle.go_tokens.specs.declared.token.TokenKind.{TokenKind}
use Rattle.go_tokens.specs.declared.token.TokenKind.TheVariants as token
use Rattle.go_grammar.specs.declared.kind.Kind.TheVariants as kind
use Rattle.go_grammar.specs.declared.kind.Category.TheVariants as category
use Rattle.go_grammar.specs.Trees.{Tree, node, none}
use Rattle.go_grammar.specs.Reader.{read}
use Rattle.go_rewriting.specs.Places.{carry, with_declaration}
use Rattle.go_tree.specs.Contexts.{file_context}
use Rattle.go_tree.specs.declared.event.Event.{Event}
use Rattle.go_tree.specs.Events.{events}
use Rattle.go_heads_added.specs.Added.{reaching}

abbrev pub tree_in : Option Tree → Tree
tree_in None = node kind.File 0 0 none
tree_in (Some t) = t

-- package p; type T int; func f() {}
abbrev pub old_kinds : List TokenKind
old_kinds = (
    token.Package ∷ token.Identifier ∷ token.Semicolon ∷ token.Type ∷ token.Identifier ∷ token.Identifier ∷ token.Semicolon ∷ token.Func ∷
    token.Identifier ∷ token.LeftParenthesis ∷ token.RightParenthesis ∷ token.LeftBrace ∷ token.RightBrace ∷ token.Semicolon ∷ [])

-- func addmul(x int, p0 int) int {}
abbrev pub new_kinds : List TokenKind
new_kinds = (
    token.Func ∷ token.Identifier ∷ token.LeftParenthesis ∷ token.Identifier ∷ token.Identifier ∷ token.Comma ∷ token.Identifier ∷ token.Identifier ∷
    token.RightParenthesis ∷ token.Identifier ∷ token.LeftBrace ∷ token.RightBrace ∷ token.Semicolon ∷ [])

abbrev pub old_tree : Tree
old_tree = tree_in (read 60 old_kinds 101 category.File 0)

abbrev pub new_tree : Tree
new_tree = with_declaration old_tree (carry (λ i. 14 + i) (tree_in (read 60 new_kinds 100 category.Declaration 0))) 27

abbrev pub told_before : List Event
told_before = events (file_context 14) old_tree

abbrev pub told : List Event
told = events (file_context 27) new_tree

pub record Examples : Type 0 where
  -- The tree with the function behind it is that of the longer file.
  pub tree : read 60 (old_kinds ++ new_kinds) 101 category.File 0 ≡ Some new_tree
  -- The file tells what it told, to another end, and then more.
  pub more : told ≡ map (reaching 27) told_before ++ drop (length told_before) told
  -- the function, two parameters, each of them as one of the list and as one of the body, and three types that are looked up
  pub count : length told ≡ length told_before + 8
