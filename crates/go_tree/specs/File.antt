-- A file as contracts see it.
use Rattle.go_tokens.specs.Tokens.{TokenList, IsTokenList, kinds}
use Rattle.go_grammar.specs.Grammar.{IsFile}
use Rattle.go_tree.specs.declared.node.Node.{Node}
use Rattle.go_tree.specs.Views.{view}

-- its tokens with its text, and the node that stands over all of them
pub record FileTree : Type 0 where
  pub tokens : TokenList
  pub root : Node

-- What every File meets: its tree is the derivation over its tokens, and they stand in order within its text.
pub record IsFileTree (f : FileTree) : Type 0 where
  pub tree : IsFile (kinds f.tokens.tokens) (view f.root)
  pub tokens : IsTokenList f.tokens
