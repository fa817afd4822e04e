-- What the names of a package's functions stand for, where the functions are read.
use Rattle.std.specs.Prelude.{◌≡◌, ℕ, suc, ◌++◌, List, [], ◌∷◌, length, map, replicate, Option, Some, None, Ok, false}
use Rattle.go_grammar.specs.Trees.{Tree}
use Rattle.go_tree.specs.declared.context.Entity.TheVariants as entity
use Rattle.go_tree.specs.Uses.{UsesView}
use Rattle.go_types.specs.Relations.{Rights}
use Rattle.go_typed.specs.Contents.{FuncContent}
use Rattle.go_exprs_rules.specs.Scopes.{Scope, free}
use Rattle.go_stmts_defs.specs.Bodies.{start}
use Rattle.go_package_defs.specs.Answer.{Environment, specifications, package_answer}
use Rattle.go_package_defs.specs.Bodies.{Surroundings, Behind, scope_of, types_in, count_types, local_type, portion_of, those_of, typed_function}
use Rattle.go_package_defs.specs.Checked.{names_answer, surroundings_of}
use Rattle.go_package_defs.specs.Declarations.{Specification}
use Rattle.go_package_defs.specs.Sources.{Source, Package, unit_of, package_of}
use Rattle.go_stmts_final_types.specs.Holes.{HolesTyped}
use Rattle.go_stmts_final_types.specs.Names.{NamesAreKnown}

abbrev pub TreeIsNamed : Scope → ℕ → (ℕ → ℕ) → Option Tree → Type 0
TreeIsNamed s locals types None = Unit {0}
TreeIsNamed s locals types (Some t) = NamesAreKnown (start s locals types) free t

-- the names of the function of this number, behind these right sides
abbrev pub FunctionIsNamed : Package → Surroundings → Rights → ℕ → Specification → Type 0
FunctionIsNamed p a rights n d =
    let bs = types_in p n in TreeIsNamed (scope_of a (rights ++ replicate (count_types bs) None) (portion_of p d)) (length bs) (local_type (length rights) bs) (portion_of p d).tree

-- those of all functions from that number on
abbrev pub FunctionsAreNamed : Package → Surroundings → Rights → ℕ → List Specification → Type 0
FunctionsAreNamed p a rights n [] = Unit {0}
FunctionsAreNamed p a rights n (d ∷ ds) = FunctionIsNamed p a rights n d × ((b : Behind) → typed_function p a rights n d ≡ Ok b → FunctionsAreNamed p a b.rights (suc n) ds)

-- In a package whose names and declarations have no faults the names of its functions stand for something known.
abbrev pub PackageIsNamed : List Source → Type 0
PackageIsNamed ss = (u : UsesView) (e : Environment) → names_answer (map unit_of ss) ≡ Ok u → package_answer ss u ≡ Ok e → FunctionsAreNamed (package_of ss u) (surroundings_of u e) e.rights 0 (those_of entity.Function (specifications 0 ss))

-- the holes of all functions have final types
abbrev pub AllFinal : List FuncContent → Type 0
AllFinal [] = Unit {0}
AllFinal (f ∷ fs) = HolesTyped false f.tree × AllFinal fs
