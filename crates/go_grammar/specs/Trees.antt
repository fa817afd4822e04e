-- Syntax trees as definitions see them.
--
-- The parts of a node stand in order; a part that may be left out and is has a place of its own in the row, so that what a
-- part is for follows from its number.
use Rattle.std.specs.Prelude.{ℕ, ◌+◌, max}
use Rattle.go_grammar.specs.declared.kind.Kind.{Kind}
use Rattle.go_grammar.specs.declared.kind.Kind.TheVariants as kind

mutual
  -- a kind; the number of its first token, and that of the token behind its last one; and its parts
  pub data Tree : Type 0 where
    node : Kind → ℕ → ℕ → Trees → Tree

  -- parts in order
  pub data Trees : Type 0 where
    none : Trees
    more : Tree → Trees → Trees
    -- a part that is left out
    skip : Trees → Trees

abbrev pub kind_of : Tree → Kind
kind_of (node k i j ps) = k

abbrev pub first : Tree → ℕ
first (node k i j ps) = i

abbrev pub last : Tree → ℕ
last (node k i j ps) = j

abbrev pub parts : Tree → Trees
parts (node k i j ps) = ps

-- What a node of the kind adds to the levels of a tree: nothing where the node only holds others together.
abbrev pub weight : Kind → ℕ
weight kind.Imports = 0
weight kind.ImportPath = 0
weight kind.ImportGroup = 0
weight (kind.Group s) = 0
weight kind.NameList = 0
weight kind.DeclaredName = 0
weight kind.TypedValues = 0
weight kind.Values = 0
weight kind.Parameters = 0
weight kind.Results = 0
weight kind.Bounds = 0
weight kind.BoundsFrom = 0
weight kind.Keyed = 0
weight kind.ExpressionList = 0
weight kind.Targets = 0
weight kind.NewNames = 0
weight kind.Else = 0
weight kind.LateCondition = 0
weight kind.InitializedCondition = 0
weight kind.LateTag = 0
weight kind.InitializedTag = 0
weight kind.ForClause = 0
weight kind.InitializedForClause = 0
weight kind.Range = 0
weight kind.AssigningRange = 0
weight kind.DefiningRange = 0
weight k = 1

abbrev mutual
  -- the levels of a tree, its own included
  pub depth : Tree → ℕ
  depth (node k i j ps) = weight k + depths ps

  -- the levels below a node with these parts
  pub depths : Trees → ℕ
  depths none = 0
  depths (more p ps) = max (depth p) (depths ps)
  depths (skip ps) = depths ps

-- one row of parts behind another
abbrev pub onto : Trees → Trees → Trees
onto none qs = qs
onto (more p ps) qs = more p (onto ps qs)
onto (skip ps) qs = skip (onto ps qs)
