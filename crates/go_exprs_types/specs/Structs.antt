-- Struct types.
use Rattle.std.specs.Prelude.{ℕ, Option, Some, None, List, map}
use Rattle.go_types.specs.declared.shape.Field.{Field}
use Rattle.go_types.specs.Trees.{TypeTree, structure, row}
use Rattle.go_types.specs.Relations.{Rights}
use Rattle.go_types.specs.Tables.{Table, type_of}
use Rattle.go_types_relations.specs.Tests.{underlying_of}
use Rattle.go_exprs_rules.specs.Scopes.{Hint, member}
use Rattle.go_exprs_rules.specs.Tables.{field_count}
use Rattle.go_exprs_rules.specs.TypeNodes.{Fields}

-- the type, where it is a struct
abbrev pub struct_of : Option TypeTree → Option TypeTree
struct_of (Some (structure ns ts)) = Some (structure ns ts)
struct_of u = None

-- the struct type of these fields in a table
abbrev pub struct_seen : Table → List Field → TypeTree
struct_seen t fs = structure (map (λ f. f.name) fs) (row (map (λ f. type_of t.shapes f.ty) fs))

-- how many fields the struct type has that an element is told to be of
abbrev pub member_count : Rights → Hint → ℕ
member_count rights (member t) = field_count (underlying_of rights t)
member_count rights h = 0

-- the fields with their types in a table
abbrev pub field_seen : Table → Field → List ℕ × TypeTree
field_seen t f = (f.name, type_of t.shapes f.ty)

abbrev pub fields_seen : Table → List Field → Fields
fields_seen t fs = map (field_seen t) fs
