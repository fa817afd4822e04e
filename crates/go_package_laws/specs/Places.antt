-- Where the nodes of a tree stand, and where rules fail.
use Rattle.std.specs.Prelude.{◌≡◌, ℕ, Bool, true, List}
use Rattle.std.specs.List.{AllByRecursion}
use Rattle.go_grammar.specs.Trees.{Tree, node, Trees, none, more, skip}
use Rattle.go_exprs_rules.specs.declared.fault.TypeFault.{TypeFault}

-- The test holds of the tokens from the first one of each node up to its last.
abbrev mutual
  pub EachNode : (ℕ → ℕ → Bool) → Tree → Type 0
  EachNode q (node k i j ps) = (q i j ≡ true) × EachPart q ps

  pub EachPart : (ℕ → ℕ → Bool) → Trees → Type 0
  EachPart q none = Unit {0}
  EachPart q (more p ps) = EachNode q p × EachPart q ps
  EachPart q (skip ps) = EachPart q ps

-- and of those of each fault
abbrev pub EachFault : (ℕ → ℕ → Bool) → List TypeFault → Type 0
EachFault q fs = AllByRecursion (λ f. q f.first f.last ≡ true) fs

abbrev pub EachOf : (ℕ → ℕ → Bool) → List (List TypeFault) → Type 0
EachOf q fss = AllByRecursion (EachFault q) fss
