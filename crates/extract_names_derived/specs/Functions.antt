-- Functions by themselves that are derived from the grammar.
use Rattle.std.specs.Prelude.{◌≡◌, false, List, length, drop}
use Rattle.go_tokens.specs.declared.token.TokenKind.{TokenKind}
use Rattle.go_tokens.specs.Tokens.{kinds}
use Rattle.go_grammar.specs.declared.kind.Category.TheVariants as category
use Rattle.go_grammar.specs.declared.kind.Kind.TheVariants as kind
use Rattle.go_grammar.specs.Grammar.{Derives}
use Rattle.go_grammar.specs.Trees.{kind_of, first, last}
use Rattle.go_tree.specs.Units.{is_blank}
use Rattle.go_heads.specs.Functions.{Alone, Function}
use Rattle.go_heads.specs.Names.{own_text}

-- The tree is that of a function declaration over all tokens of the function, which have these kinds; and the function's name, its second
-- token, isn't blank (Go specification: Function declarations).
pub record IsDerivedFunction (ts : List TokenKind) (a : Alone) : Type 0 where
  pub derives : Derives ts category.Declaration a.tree
  pub function : kind_of a.tree ≡ kind.FunctionDeclaration
  pub begins : first a.tree ≡ 0
  pub ends : last a.tree ≡ length a.texts
  pub named : is_blank (own_text a 1) ≡ false

-- the kinds of a function's tokens and of those behind it in its file, from its first one on
abbrev pub own_kinds : Function → List TokenKind
own_kinds f = drop (first f.tree) (kinds f.file.tokens.tokens)
