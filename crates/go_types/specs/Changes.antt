-- How calls change a table, and what the program keeps of it.
use Rattle.std.specs.Prelude.{◌≡◌, ℕ, ◌<◌, List, [], ◌∷◌, ◌++◌, Option, Some, None, map, take, length, slice_get, slice_set, count_by}
use Rattle.std.specs.Option.{option_map}
use Rattle.go_types.specs.declared.shape.Shape.{Shape}
use Rattle.go_types.specs.declared.shape.Shape.TheVariants as shape
use Rattle.go_types.specs.declared.types.Definition.{Definition}
use Rattle.go_types.specs.declared.verdict.Verdict.{Verdict}
use Rattle.go_types.specs.Shapes.{IsInterned}
use Rattle.go_types.specs.Tables.{Table, IsTable, HasShape, HasRightId, is_declaration}
use Rattle.go_types.specs.Verdicts.{AreVerdicts}

abbrev pub empty : Table
empty = record { shapes = []; rights = [] }

-- ---- declare

-- A new declared type comes last; its number is that of the declared types before it.
pub record IsDeclared (old new : Table) (i : ℕ) : Type 0 where
  pub last : i ≡ length old.shapes
  pub table : new ≡ record { shapes = old.shapes ++ shape.Named (length old.rights) ∷ []; rights = old.rights ++ None ∷ [] }

-- ---- define

-- It is a declared type without a right side.
abbrev pub IsOpen : Table → ℕ → Type 0
IsOpen t i = (n : ℕ) × HasShape t i (shape.Named n) × (slice_get t.rights n ≡ Some None)

-- the right sides, with this one for the declared type of a shape
abbrev pub rights_with : Option Shape → ℕ → List (Option ℕ) → List (Option ℕ)
rights_with (Some (shape.Named n)) right rights = slice_set rights n (Some right)
rights_with _ right rights = rights

-- the table in which the declared type has the right side
abbrev pub defined : Table → ℕ → ℕ → Table
defined t named right = record { shapes = t.shapes; rights = rights_with (slice_get t.shapes named) right t.rights }

-- ---- intern

-- The shape has the number: it is there and nothing changes, or it isn't there and comes last.
abbrev pub IsInternedIn : Table → Table → Shape → ℕ → Type 0
IsInternedIn old new s i = IsInterned old.shapes new.shapes s i × (new.rights ≡ old.rights)

-- ---- cut

-- the first types, and the right sides of the declared ones among them
abbrev pub first_types : ℕ → Table → Table
first_types count t = record { shapes = take count t.shapes; rights = take (count_by is_declaration (take count t.shapes)) t.rights }

-- No declared type below the number has a right side from that number on.
abbrev pub IsClosedBelow : ℕ → Table → Type 0
IsClosedBelow count t = (i n r : ℕ) → i < count → HasShape t i (shape.Named n) → HasRightId t n r → r < count

-- ---- what the program keeps

-- the number that a declared type has among the declared ones
abbrev pub declaration : Option Shape → Option ℕ
declaration (Some (shape.Named n)) = Some n
declaration _ = None

-- by right sides alone, from a type to one that isn't declared
pub data Leads (t : Table) : ℕ → ℕ → Type 0 where
  stays : (i : ℕ) → declaration (slice_get t.shapes i) ≡ None → Leads t i i
  goes : (i n r u : ℕ) → HasShape t i (shape.Named n) → HasRightId t n r → Leads t r u → Leads t i u

abbrev pub table_of : List Shape → List (Option Definition) → Table
table_of shapes definitions = record { shapes = shapes; rights = map (option_map (λ d. d.right)) definitions }

-- The table is one, and each definition has the underlying type of its right side.
pub record IsResolved (shapes : List Shape) (definitions : List (Option Definition)) : Type 0 where
  pub table : IsTable (table_of shapes definitions)
  pub leads : (n : ℕ) (d : Definition) → slice_get definitions n ≡ Some (Some d) → Leads (table_of shapes definitions) d.right d.underlying × (d.underlying < length shapes)

-- So is it, and there is a place for the verdict of each type, with a right verdict or none.
pub record IsKept (shapes : List Shape) (definitions : List (Option Definition)) (verdicts : List (Option Verdict)) : Type 0 where
  pub resolved : IsResolved shapes definitions
  pub places : length verdicts ≡ length shapes
  pub right : AreVerdicts (table_of shapes definitions) verdicts
