-- Trees further on.
use Rattle.std.proofs.Common.{ℕ, ◌+◌, ◌<◌, arith}
use Rattle.go_grammar.specs.declared.kind.Kind.{Kind}
use Rattle.go_grammar.specs.declared.kind.Kind.TheVariants as kind
use Rattle.go_grammar.specs.Trees.{Tree, node, Trees, none, more, skip, last}
use Rattle.go_rewriting.specs.Lists.{InOrder, Ordered}
use Rattle.go_elsewhere.specs.Elsewhere.{NameKept, KeepsLast, AllKeepLast}

module _ (n : ℕ) where
  name_further : (k : Kind) (i j : ℕ) → i < j → NameKept (λ x. n + x) k j
  name_further kind.Selector i j lt = omega (arith, lt)
  name_further k i j lt = tt

  mutual
    pub tree_further : (t : Tree) → InOrder t → KeepsLast (λ x. n + x) t
    tree_further (node k i j ps) h = (name_further k i j h.0, row_further ps i j h.1)

    row_further : (ps : Trees) (i j : ℕ) → Ordered i ps j → AllKeepLast (λ x. n + x) ps
    row_further none i j h = tt
    row_further (more t ts) i j h = (tree_further t h.1, row_further ts (last t) j h.2)
    row_further (skip ts) i j h = row_further ts i j h
