-- What is known of the trees of specifications, which are derived.
use Rattle.std.proofs.Common.{◌≡◌, ◌<◌, Bool, true, false, List, [], length, Option, Some, None}
use Rattle.std.specs.Prelude.{is_some}
use Rattle.std.specs.List.{AllByRecursion}
use Rattle.go_grammar.specs.declared.kind.Category.{Category}
use Rattle.go_grammar.specs.declared.kind.Category.TheVariants as category
use Rattle.go_grammar.specs.declared.kind.Place.TheVariants as place
use Rattle.go_grammar.specs.Grammar.{any}
use Rattle.go_grammar.specs.Trees.{Tree}
use Rattle.go_tree.specs.declared.context.Entity.{Entity}
use Rattle.go_tree.specs.declared.context.Entity.TheVariants as entity
use Rattle.go_package_defs.specs.Declarations.{Specification}
use Rattle.go_stmts_final_types.specs.Shapes.{IsShaped}

-- a function has a signature, anything else a type
abbrev pub type_category : Entity → Category
type_category entity.Function = category.Signature
type_category e = category.Type

abbrev pub MaybeShaped : Category → Option Tree → Type 0
MaybeShaped c None = Unit {0}
MaybeShaped c (Some t) = IsShaped c t

abbrev pub is_parameter : Entity → Bool
is_parameter entity.Parameter = true
is_parameter e = false

-- A function has a signature, and a variable a type or values.
abbrev pub HasParts : Entity → Option Tree → List Tree → Type 0
HasParts entity.Function o ts = is_some o ≡ true
HasParts entity.Variable o ts = ts ≡ [] → is_some o ≡ true
HasParts e o ts = Unit {0}

-- Its type and its values are derived as such.
pub record IsDerived (d : Specification) : Type 0 where
  pub sort : is_parameter d.entity ≡ false
  pub of : MaybeShaped (type_category d.entity) d.type_tree
  pub values : AllByRecursion (IsShaped (any place.Free)) d.values
  pub parts : HasParts d.entity d.type_tree d.values

-- where it has a name
abbrev pub IsDerivedIfNamed : Specification → Type 0
IsDerivedIfNamed d = 0 < length d.names → IsDerived d
