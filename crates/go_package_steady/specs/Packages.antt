-- Functions of packages whose types are locals in order.
use Rattle.std.specs.Prelude.{◌≡◌, ℕ, ◌<◌, ◌≤◌, List, length, Some}
use Rattle.std.specs.List.{AllByRecursion}
use Rattle.go_grammar.specs.declared.kind.Category.TheVariants as category
use Rattle.go_grammar.specs.declared.kind.Kind.TheVariants as kind
use Rattle.go_grammar.specs.Trees.{Tree, node, none, more}
use Rattle.go_tree.specs.Uses.{IsComplete}
use Rattle.go_types.specs.Relations.{Rights}
use Rattle.go_exprs_rules.specs.Scopes.{value}
use Rattle.go_stmts_defs.specs.Bodies.{based}
use Rattle.go_exprs_variables.specs.Shapes.{IsShaped}
use Rattle.go_package_defs.specs.Bodies.{Surroundings, portion_of, types_in}
use Rattle.go_package_defs.specs.Declarations.{Specification}
use Rattle.go_package_defs.specs.Sources.{Package}
use Rattle.go_renumbering.specs.Functions.{AreBelow}
use Rattle.go_package_steady.specs.Begun.{function_begins, body_begins, IsOrderedBody}
use Rattle.go_package_steady.specs.Declared.{Ascend, DeclaresAt}
use Rattle.go_package_steady.specs.Rising.{type_places}

-- The tokens are among those from i up to j.
abbrev pub AreAmong : ℕ → ℕ → List ℕ → Type 0
AreAmong i j ts = AllByRecursion (λ t. (i ≤ t) × (t < j)) ts

-- The function of this number, with this signature and this body, declares its types as locals, at rising tokens of its own.
pub record DeclaresInOrder (p : Package) (d : Specification) (number : ℕ) (g b : Tree) : Type 0 where
  pub first : ℕ
  pub last : ℕ
  pub tree : d.tree ≡ Some (node kind.FunctionDeclaration first last (more g (more b none)))
  pub signature : IsShaped category.Signature (based d.first g)
  pub body : IsShaped category.Block (based d.first b)
  pub complete : IsComplete p.uses
  pub among : AreAmong d.first d.last (type_places b)
  pub ascend : Ascend 0 (type_places b)
  pub declared : AllByRecursion (DeclaresAt p.uses d.file number) (type_places b)

-- So its body is ordered where it is typed, behind right sides that name no declared types but those in front of it.
abbrev pub FunctionsAreOrdered : Type 0
FunctionsAreOrdered = (p : Package) (a : Surroundings) (rights : Rights) (number : ℕ) (d : Specification) (g b : Tree) → DeclaresInOrder p d number g b → AreBelow (length rights) a rights
    → IsOrderedBody (length rights) (body_begins (function_begins a rights (types_in p number) (portion_of p d)) (based d.first g)) value (based d.first b)
