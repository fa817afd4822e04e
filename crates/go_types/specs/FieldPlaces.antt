-- Where the fields of a struct stand by their names.
use Rattle.std.specs.Prelude.{◌≡◌, ℕ, suc, if◌then◌else◌, nat_eq, List, [], ◌∷◌, Option, Some, None, map}
use Rattle.std.specs.Cmp.Lexicographic.{pointwise}
use Rattle.std.specs.Map.{lookup}
use Rattle.go_types.specs.declared.shape.Field.{Field}
use Rattle.go_types.specs.declared.shape.Shape.{Shape}
use Rattle.go_types.specs.declared.shape.Shape.TheVariants as shape

-- the number of the first of the names that is this one, where they are counted from n on
abbrev pub place_from : ℕ → List (List ℕ) → List ℕ → Option ℕ
place_from n [] name = None
place_from n (x ∷ xs) name = if pointwise nat_eq name x then Some n else place_from (suc n) xs name

-- the names of fields, in order
abbrev pub field_names : List Field → List (List ℕ)
field_names fs = map (λ f. f.name) fs

-- the number of the first field of this name; other shapes than structs have no fields
abbrev pub field_place : Shape → List ℕ → Option ℕ
field_place (shape.Struct fs) name = place_from 0 (field_names fs) name
field_place _ name = None

module _ {K : Type 0} (items : K → List ℕ) where
  -- what entries have under a name
  abbrev pub entry_of : List (K × ℕ) → List ℕ → Option ℕ
  entry_of es name = lookup (λ k. pointwise nat_eq name (items k)) es

  -- the entries give each name the place of its field
  abbrev pub HavePlaces : List (K × ℕ) → Shape → Type 0
  HavePlaces es s = (name : List ℕ) → entry_of es name ≡ field_place s name
