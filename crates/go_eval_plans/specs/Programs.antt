-- The program of the meaning that a package is, and what its nodes can be asked to do.
use Rattle.std.specs.Prelude.{ℕ, List, map, length, slice_get, Option}
use Rattle.go_types.specs.Trees.{TypeTree}
use Rattle.go_types.specs.Tables.{Table, rights_of}
use Rattle.go_typed.specs.declared.node.TypedNode.{TypedNode}
use Rattle.go_typed.specs.Trees.{Typed, typed}
use Rattle.go_typed.specs.Funcs.{FuncView}
use Rattle.go_typed.specs.Packages.{PackageView, counts}
use Rattle.go_typed.specs.Views.{seen, all_seen}
use Rattle.go_meaning.specs.Values.{Value}
use Rattle.go_meaning.specs.Computations.{Comp}
use Rattle.go_meaning.specs.Doings.{Doing}
use Rattle.go_meaning.specs.Meaning.{Code, Program, turned, meaning, meanings, called, bounded}

unfoldable pub code_of : Table → FuncView → Code
code_of t f = record { parameters = f.parameters; locals = length f.locals; body = seen t f.root }

-- with the function of this number as `main`
unfoldable pub program_of : PackageView → ℕ → Program
program_of p main = record {
  rights = rights_of p.types;
  variables = map (seen p.types) p.variables;
  count = (counts p).variables;
  functions = map (code_of p.types) p.functions;
  main = main;
}

-- ---- under a bound on what is inside one another

unfoldable pub calls : PackageView → ℕ → ℕ → List Value → Comp
calls p n g vs = called (bounded (program_of p 0) n) vs (slice_get (program_of p 0).functions g)

-- what a node can be asked to do
unfoldable pub doing : PackageView → ℕ → TypedNode → Doing
doing p n x = meaning (rights_of p.types) (calls p n) (bounded (program_of p 0) n) (seen p.types x)

-- and what each of these parts can be asked
unfoldable pub doings : PackageView → ℕ → List (Option TypedNode) → List Doing
doings p n xs = meanings (rights_of p.types) (calls p n) (bounded (program_of p 0) n) (all_seen p.types xs)

abbrev pub further : Typed TypeTree → Typed TypeTree
further (typed f i j l ps) = typed f i j l (turned f ps)

-- what a loop does once a turn is spent
unfoldable pub again : PackageView → ℕ → TypedNode → Comp
again p n x = bounded (program_of p 0) n (further (seen p.types x))
