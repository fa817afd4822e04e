-- The answers of a check, phase by phase, as the program holds them.
use Rattle.std.specs.Prelude.{◌≡◌, ℕ, Bool, false, List, map, Option, Some, None, Result, Ok}
use Rattle.go_base.specs.Gives.{◌>>=◌}
use Rattle.go_tree.specs.declared.context.Entity.TheVariants as entity
use Rattle.go_tree.specs.Failures.{Failure}
use Rattle.go_tree.specs.File.{FileTree}
use Rattle.go_tree.specs.Uses.{UsesView}
use Rattle.go_types.specs.declared.shape.Shape.{Shape}
use Rattle.go_types.specs.Tables.{Table, rights_of, is_declaration}
use Rattle.go_typed.specs.Contents.{Content}
use Rattle.go_typed.specs.Scopes.{EnvView}
use Rattle.go_typed.specs.Views.{seen}
use Rattle.go_package_defs.specs.Answer.{Environment, package_answer}
use Rattle.go_package_defs.specs.Bodies.{Functions, functions_from, those_of, variables_of}
use Rattle.go_package_defs.specs.Checked.{names_answer, bodies_answer, content_of}
use Rattle.go_package_defs.specs.Sources.{Source, source_of}
use Rattle.go_package_types.specs.Answers.{environment_seen}
use Rattle.go_package.specs.Functions.{package_in, around_in, specified, functions_seen}
use Rattle.go_scopes.specs.Resolve.{units_of}
use Rattle.go_package.specs.declared.bodies.Bodies.{Bodies}
use Rattle.go_package.specs.declared.phases.Declarations.{Declarations}

abbrev pub sources_in : List FileTree → List Source
sources_in files = map source_of files

-- the functions of a package, where the table is this one in front of them
abbrev pub functions_behind : Table → List FileTree → UsesView → EnvView → Result Functions Failure
functions_behind t files uses env = functions_from (package_in files uses) (around_in t env) (rights_of t) 0 (those_of entity.Function (specified files))

-- The functions and the variables are those of the package; the first table is the one in front of them, the second the one behind them.
pub record ShowsBodies (old new : Table) (files : List FileTree) (uses : UsesView) (env : EnvView) (b : Bodies) : Type 0 where
  pub functions : functions_behind old files uses env ≡ Ok (functions_seen new b.functions.items)
  pub variables : variables_of (package_in files uses) (around_in old env) (rights_of new) (those_of entity.Variable (specified files)) ≡ map (seen new) b.variables.items

-- the package behind its names and its declarations
abbrev pub bodies_behind : List (List ℕ) → List FileTree → UsesView → Environment → Result Content Failure
bodies_behind names files uses e = bodies_answer (sources_in files) (specified files) uses e >>= λ t. Ok (content_of names files (sources_in files) t)

-- what the names of a package mean and what its declarations come to, behind its names, and of its files
abbrev pub declarations_behind : List FileTree → UsesView → Result (UsesView × Environment) Failure
declarations_behind files uses = package_answer (sources_in files) uses >>= λ e. Ok (uses, e)

abbrev pub declarations_answer : List FileTree → Result (UsesView × Environment) Failure
declarations_answer files = names_answer (units_of files) >>= λ u. declarations_behind files u

-- the same as the program holds it
abbrev pub declared : Declarations → UsesView × Environment
declared d = (d.uses, environment_seen d.types d.env)

-- whether it is the shape of a declared type
abbrev pub declared_at : Option Shape → Bool
declared_at None = false
declared_at (Some s) = is_declaration s
