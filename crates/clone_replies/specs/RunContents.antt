-- The program of the meaning that a package is, over the types themselves.
use Rattle.std.specs.Prelude.{ℕ, List, map, length}
use Rattle.go_types.specs.Relations.{Rights}
use Rattle.go_types.specs.Trees.{TypeTree}
use Rattle.go_tree.specs.Uses.{UsesView}
use Rattle.go_typed.specs.Contents.{FuncContent, Content}
use Rattle.go_typed.specs.Packages.{counts_from, no_counts}
use Rattle.go_typed.specs.Trees.{Typed}
use Rattle.go_meaning.specs.Meaning.{Code, Program}

abbrev pub code_in : FuncContent → Code
code_in f = record { parameters = f.parameters; locals = length f.locals; body = f.tree }

-- The program of right sides, specifications of variables and functions, where names mean this.
abbrev pub program_by : Rights → List (Typed TypeTree) → UsesView → List FuncContent → ℕ → Program
program_by rights variables uses functions main = record {
  rights = rights;
  variables = variables;
  count = (counts_from no_counts uses.package_level).variables;
  functions = map code_in functions;
  main = main;
}

-- with the function of this number as `main`
abbrev pub program_in : Content → ℕ → Program
program_in c main = program_by c.rights c.variables c.uses c.functions main
