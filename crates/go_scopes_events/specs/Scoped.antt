-- Where the names that a tree declares are in scope (Go specification: Blocks, Declarations and scope).
use Rattle.std.specs.Prelude.{◌≡◌, ℕ, suc, ◌<◌, ◌≤◌, ◌⊎◌, if◌then◌else◌}
use Rattle.go_grammar.specs.declared.kind.Kind.TheVariants as kind
use Rattle.go_grammar.specs.declared.kind.Sort.TheVariants as sort
use Rattle.go_grammar.specs.Trees.{Tree, node, Trees, none, more, skip, first, last}
use Rattle.go_tree.specs.declared.event.Declaration.{Declaration}
use Rattle.go_tree.specs.Contexts.{opens}

-- It names one of the tokens from i up to j, and is in scope behind them up to the token e.
abbrev pub IsBehind : ℕ → ℕ → ℕ → Declaration → Type 0
IsBehind e i j d = (i ≤ d.name) × (d.name < j) × (d.scope ≡ record { from = j; to = e })

-- A declaration stands in a tree, in a block that ends in front of the token e, and has the scope that the specification of Go
-- gives it. A constant or variable is in scope behind its specification or its `:=` statement, and the names of a range behind
-- the range's operand, up to the end of the innermost block; a type from its name on, up to there; and a parameter in the body
-- of its function. Of a function the scope has the tokens of its declaration.
abbrev mutual
  pub IsScoped : ℕ → Tree → Declaration → Type 0
  IsScoped e (node (kind.Specification sort.Constant) i j ps) d = IsBehind e i j d
  IsScoped e (node (kind.Specification sort.Variable) i j ps) d = IsBehind e i j d
  IsScoped e (node (kind.Specification sort.Type) i j ps) d = (d.name ≡ i) × (d.scope ≡ record { from = i; to = e })
  IsScoped e (node kind.Define i j ps) d = IsBehind e i j d
  IsScoped e (node kind.DefiningRange i j ps) d = IsBehind e i j d
  IsScoped e (node kind.FunctionDeclaration i j ps) d = ((d.name ≡ suc i) × (d.scope ≡ record { from = i; to = j })) ⊎ IsInFunction j ps d
  IsScoped e (node k i j ps) d = IsAmong (if opens k then j else e) ps d

  -- it stands in one of the parts
  pub IsAmong : ℕ → Trees → Declaration → Type 0
  IsAmong e none d = ⊥
  IsAmong e (more p ps) d = IsScoped e p d ⊎ IsAmong e ps d
  IsAmong e (skip ps) d = IsAmong e ps d

  -- it stands in a function that ends in front of the token j: in its signature, or in its body
  pub IsInFunction : ℕ → Trees → Declaration → Type 0
  IsInFunction j none d = ⊥
  IsInFunction j (more p ps) d = IsBehind j (first p) (last p) d ⊎ IsAmong j ps d
  IsInFunction j (skip ps) d = IsAmong j ps d
