-- The names that windows of a package show, and their hashes, over the types themselves.
use Rattle.std.specs.Prelude.{ℕ, if◌then◌else◌, nat_eq, List, [], ◌∷◌, codes, map, Option, Some, None, slice_get}
use Rattle.go_tree.specs.declared.object.Declared.{Declared}
use Rattle.go_tree.specs.File.{FileTree}
use Rattle.go_tree.specs.Predeclared.{known_names}
use Rattle.go_tree.specs.Uses.{declared_as}
use Rattle.go_types.specs.Trees.{TypeTree}
use Rattle.go_typed.specs.declared.form.Referent.{Referent}
use Rattle.go_typed.specs.declared.origin.Origin.{Origin}
use Rattle.go_typed.specs.declared.window.Window.{Window}
use Rattle.go_typed.specs.Contents.{Content}
use Rattle.go_typed.specs.Trees.{Sort}
use Rattle.go_print.specs.Names.{object_at, text_in}
use Rattle.go_print.specs.Texts.{type_text}
use Rattle.clone_window.specs.declared.bounds.Bounds.{Bounds}
use Rattle.clone_window.specs.declared.outline.Outline.{Outline}
use Rattle.clone_window.specs.Kinds.{referent_outline}
use Rattle.clone_window.specs.Sameness.{same_outline, sort_at}
use Rattle.clone_window.specs.Bodies.{locals_in, statements_at}
use Rattle.clone_window.specs.Fields.{field_by}
use Rattle.clone_classes.specs.Listing.{windows_of_all}
use Rattle.clone_replies.specs.Classes.{listed_content}
use Rattle.alpha_hash_defs.specs.Naming.{Naming}
use Rattle.alpha_hash_defs.specs.Numbers.{hash}
use Rattle.alpha_hash_defs.specs.Packages.{predeclared_text}

-- the name of an object where it is declared
abbrev pub name_of : List FileTree → Option Declared → List ℕ
name_of files None = []
name_of files (Some d) = text_in (slice_get files d.file) d.name

abbrev pub name_at : Content → Option Origin → List ℕ
name_at c None = []
name_at c (Some o) = name_of c.files (declared_as c.uses (object_at o))

-- the name that a declared type has where it is declared
abbrev pub declared_name : Content → ℕ → List ℕ
declared_name c n = name_at c (slice_get c.origins n)

-- the name of the object of the package that shows this
abbrev pub declared_text : List FileTree → Outline → List Referent → List Declared → List ℕ
declared_text files o [] ds = []
declared_text files o (r ∷ rs) [] = []
declared_text files o (r ∷ rs) (d ∷ ds) = if same_outline (referent_outline r) o then name_of files (Some d) else declared_text files o rs ds

-- the name of what shows this: predeclared, of the package `fmt`, or of the package
abbrev pub object_text : Content → Outline → List ℕ
object_text c o =
    if nat_eq o.operator 5 then predeclared_text o.count known_names else
    if nat_eq o.operator 6 then codes "fmt.Println" else
    declared_text c.files o c.referents c.uses.package_level

-- of a function of a package whose locals stand for this
abbrev pub naming_of : Content → List (Sort TypeTree) → Naming TypeTree
naming_of c sorts = record {
  type_text = type_text (declared_name c);
  object_text = object_text c;
  field_text = field_by c.rights;
  local_sort = sort_at sorts;
}

-- the hash of a window of a package
abbrev pub content_hash : Content → Window → ℕ
content_hash c w =
    hash (naming_of c (locals_in (slice_get (listed_content c).bodies w.func))) (statements_at (slice_get (listed_content c).bodies w.func) w)

-- the windows of a package, and the hash of each
abbrev pub windows_of : Bounds → Content → List Window
windows_of bounds c = windows_of_all bounds 0 (listed_content c).bodies

abbrev pub hashes_of : Bounds → Content → List ℕ
hashes_of bounds c = map (content_hash c) (windows_of bounds c)
