-- Files with their trees.
use Rattle.std.specs.Prelude.{◌≡◌, List, map, None}
use Rattle.std.specs.List.{AllByRecursion}
use Rattle.go_grammar.specs.Grammar.{IsFile}
use Rattle.go_tokens.specs.Tokens.{kinds}
use Rattle.go_tree.specs.Faults.{reported}
use Rattle.go_package_defs.specs.Sources.{Source, unit_of}

-- Each file has a tree over its tokens, and the names of the package are free of faults.
pub record IsFaultless (ss : List Source) : Type 0 where
  pub trees : AllByRecursion (λ s. IsFile (kinds s.tokens.tokens) s.tree) ss
  pub names : reported (map unit_of ss) ≡ None
