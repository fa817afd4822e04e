-- The names of declared types.
use Rattle.std.specs.Prelude.{ℕ, List, [], Option, Some, None, slice_get, unwrap_or}
use Rattle.go_tree.specs.declared.object.Declared.{Declared}
use Rattle.go_tree.specs.declared.object.Object.{Object}
use Rattle.go_tree.specs.declared.object.Object.TheVariants as object
use Rattle.go_tree.specs.File.{FileTree}
use Rattle.go_tree.specs.Spans.{token_text}
use Rattle.go_tree.specs.Uses.{declared_as}
use Rattle.go_typed.specs.declared.origin.Origin.{Origin}
use Rattle.go_typed.specs.declared.origin.Origin.TheVariants as origin
use Rattle.go_typed.specs.Packages.{PackageView}

abbrev pub object_at : Origin → Object
object_at (origin.Package n) = object.Package n
object_at (origin.Local f n) = object.Local f n

abbrev pub text_in : Option FileTree → ℕ → List ℕ
text_in None n = []
text_in (Some f) n = unwrap_or (token_text f.tokens n) []

abbrev pub name_of : PackageView → Option Declared → List ℕ
name_of p None = []
name_of p (Some d) = text_in (slice_get p.files d.file) d.name

abbrev pub name_at : PackageView → Option Origin → List ℕ
name_at p None = []
name_at p (Some o) = name_of p (declared_as p.uses (object_at o))

-- the name that a declared type has where it is declared
abbrev pub declared_name : PackageView → ℕ → List ℕ
declared_name p n = name_at p (slice_get p.origins n)
