-- A table of types: a shape for each number, and the right sides of the declared types.
use Rattle.std.specs.Prelude.{◌≡◌, ℕ, zero, suc, ◌<◌, Bool, true, false, List, [], ◌∷◌, ◌++◌, Option, Some, None, map, take, length, slice_get, count_by}
use Rattle.std.specs.List.{AllByRecursion}
use Rattle.std.specs.Option.{option_map}
use Rattle.go_types.specs.declared.shape.Shape.{Shape}
use Rattle.go_types.specs.declared.shape.Shape.TheVariants as shape
use Rattle.go_types.specs.Trees.{TypeTree, boolean, text, integer, array, slice, structure, function, declared, row}
use Rattle.go_types.specs.Relations.{Rights}

pub record Table : Type 0 where
  -- the shapes, by the numbers of types
  pub shapes : List Shape
  -- the numbers of the right sides, by the numbers of declared types
  pub rights : List (Option ℕ)

abbrev pub HasShape : Table → ℕ → Shape → Type 0
HasShape t i s = slice_get t.shapes i ≡ Some s

-- the declared type n has this right side
abbrev pub HasRightId : Table → ℕ → ℕ → Type 0
HasRightId t n r = slice_get t.rights n ≡ Some (Some r)

-- ---- the types that the numbers stand for

-- the type of a shape, whose parts have these types
abbrev pub tree_of : (ℕ → TypeTree) → Shape → TypeTree
tree_of type_of shape.Bool = boolean
tree_of type_of shape.Text = text
tree_of type_of (shape.Int k) = integer k
tree_of type_of (shape.Array n e) = array n (type_of e)
tree_of type_of (shape.Slice e) = slice (type_of e)
tree_of type_of (shape.Struct fs) = structure (map (λ f. f.name) fs) (row (map (λ f. type_of f.ty) fs))
tree_of type_of (shape.Func ps rs) = function (row (map type_of ps)) (row (map type_of rs))
tree_of type_of (shape.Named n) = declared n

abbrev pub tree_at : (ℕ → TypeTree) → Option Shape → TypeTree
tree_at type_of None = boolean
tree_at type_of (Some s) = tree_of type_of s

-- the type of a number below n; parts have smaller numbers than what they are parts of
unfoldable pub type_below : ℕ → List Shape → ℕ → TypeTree
type_below zero shapes i = boolean
type_below (suc n) shapes i = tree_at (type_below n shapes) (slice_get shapes i)

-- the type of a number of the table
unfoldable pub type_of : List Shape → ℕ → TypeTree
type_of shapes i = type_below (suc i) shapes i

-- the right sides of the declared types
unfoldable pub rights_of : Table → Rights
rights_of t = map (option_map (type_of t.shapes)) t.rights

-- ---- what stands in a shape

-- the numbers of its parts
abbrev pub parts : Shape → List ℕ
parts (shape.Array n e) = e ∷ []
parts (shape.Slice e) = e ∷ []
parts (shape.Struct fs) = map (λ f. f.ty) fs
parts (shape.Func ps rs) = ps ++ rs
parts _ = []

abbrev pub is_declaration : Shape → Bool
is_declaration (shape.Named n) = true
is_declaration _ = false

-- the parts have numbers below this
abbrev pub HasPartsBelow : ℕ → Shape → Type 0
HasPartsBelow n s = AllByRecursion (λ p. p < n) (parts s)

-- If it is a declared type, it was declared.
abbrev pub WasDeclared : Table → Shape → Type 0
WasDeclared t (shape.Named n) = n < length t.rights
WasDeclared t _ = Unit {0}

-- ---- what a type holds

abbrev pub option_list : Option (Option ℕ) → List ℕ
option_list (Some (Some r)) = r ∷ []
option_list _ = []

-- Array elements, struct fields, and of a declared type its right side.
abbrev pub held : Table → Shape → List ℕ
held t (shape.Array n e) = e ∷ []
held t (shape.Struct fs) = map (λ f. f.ty) fs
held t (shape.Named n) = option_list (slice_get t.rights n)
held t _ = []

pub record Holds (t : Table) (i j : ℕ) : Type 0 where
  pub its_shape : Shape
  pub shape_is : HasShape t i its_shape
  pub place : ℕ
  pub held_is : slice_get (held t its_shape) place ≡ Some j

-- i contains j through array elements, struct fields and right sides
pub data Contains (t : Table) : ℕ → ℕ → Type 0 where
  at_once : (i j : ℕ) → Holds t i j → Contains t i j
  through : (i k j : ℕ) → Holds t i k → Contains t k j → Contains t i j

-- No declared type contains itself through array elements and struct fields alone.
abbrev pub NoneContainsItself : Table → Type 0
NoneContainsItself t = (i n : ℕ) → HasShape t i (shape.Named n) → Contains t i i → ⊥

-- ---- declared types that have a right side

-- It isn't a declared type without a right side.
abbrev pub IsDefined : Table → ℕ → Type 0
IsDefined t i = (n : ℕ) → HasShape t i (shape.Named n) → (r : ℕ) × HasRightId t n r

-- So are all that it contains.
pub record IsSettled (t : Table) (i : ℕ) : Type 0 where
  pub itself : IsDefined t i
  pub contained : (j : ℕ) → Contains t i j → IsDefined t j

-- ---- the invariant

pub record IsTable (t : Table) : Type 0 where
  pub parts_below : (i : ℕ) (s : Shape) → HasShape t i s → HasPartsBelow i s
  -- no two numbers have one shape
  pub distinct : (i j : ℕ) (s : Shape) → HasShape t i s → HasShape t j s → i ≡ j
  -- declared types are numbered in order
  pub numbered : (i n : ℕ) → HasShape t i (shape.Named n) → n ≡ count_by is_declaration (take i t.shapes)
  pub declarations : length t.rights ≡ count_by is_declaration t.shapes
  pub right_sides : (n r : ℕ) → HasRightId t n r → (r < length t.shapes) × IsDefined t r
  pub finite : NoneContainsItself t
