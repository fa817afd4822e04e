-- Shapes as rows of numbers, by which equal shapes are found.
use Rattle.std.specs.Prelude.{ℕ, List, [], ◌∷◌, ◌++◌, length}
use Rattle.go_ints.specs.declared.kinds.Kind.{Kind}
use Rattle.go_ints.specs.declared.kinds.Kind.TheVariants as kind
use Rattle.go_types.specs.declared.shape.Field.{Field}
use Rattle.go_types.specs.declared.shape.Shape.{Shape}
use Rattle.go_types.specs.declared.shape.Shape.TheVariants as shape

abbrev pub kind_number : Kind → ℕ
kind_number kind.Int8 = 0
kind_number kind.Int16 = 1
kind_number kind.Int32 = 2
kind_number kind.Int64 = 3
kind_number kind.Uint8 = 4
kind_number kind.Uint16 = 5
kind_number kind.Uint32 = 6
kind_number kind.Uint64 = 7
kind_number kind.Int = 8
kind_number kind.Uint = 9

abbrev pub name_key : List ℕ → List ℕ
name_key name = length name ∷ name

abbrev pub fields_key : List Field → List ℕ
fields_key [] = []
fields_key (f ∷ fs) = f.ty ∷ (name_key f.name ++ fields_key fs)

-- shapes that differ have keys that differ
unfoldable pub key : Shape → List ℕ
key shape.Bool = 0 ∷ []
key shape.Text = 1 ∷ []
key (shape.Int k) = 2 ∷ kind_number k ∷ []
key (shape.Array n e) = 3 ∷ n ∷ e ∷ []
key (shape.Slice e) = 4 ∷ e ∷ []
key (shape.Struct fs) = 5 ∷ fields_key fs
key (shape.Func ps rs) = 6 ∷ length ps ∷ (ps ++ rs)
key (shape.Named n) = 7 ∷ n ∷ []
