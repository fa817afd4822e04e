-- The texts of the types of a package, by their numbers.
use Rattle.std.specs.Prelude.{ℕ, List, ◌++◌, codes}
use Rattle.go_types.specs.declared.shape.Field.{Field}
use Rattle.go_types.specs.Tables.{type_of}
use Rattle.go_typed.specs.Packages.{PackageView}
use Rattle.go_print.specs.Texts.{type_text}
use Rattle.go_print.specs.Names.{declared_name}

abbrev pub printed : PackageView → ℕ → List ℕ
printed p i = type_text (declared_name p) (type_of p.types.shapes i)

-- a field with its type
abbrev pub printed_field : PackageView → Field → List ℕ
printed_field p f = f.name ++ codes " " ++ printed p f.ty
