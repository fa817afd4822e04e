-- The clone classes of a package, and what a listing shows of them.
use Rattle.std.specs.Prelude.{ℕ, Bool, false, List, [], ◌∷◌, map, Option, unwrap_or, slice_get}
use Rattle.go_base.specs.Optional.{◌>>=◌}
use Rattle.go_tree.specs.File.{FileTree}
use Rattle.go_types.specs.Trees.{TypeTree}
use Rattle.go_types_relations.specs.Identity.{is_identical}
use Rattle.go_typed.specs.declared.window.Window.{Window}
use Rattle.go_typed.specs.Contents.{Content, FuncContent}
use Rattle.go_typed.specs.Packages.{PackageView}
use Rattle.go_typed.specs.Trees.{Typeds}
use Rattle.clone_window.specs.declared.bounds.Bounds.{Bounds}
use Rattle.clone_window.specs.Masses.{masses}
use Rattle.clone_window.specs.Spans.{ByteRange, nowhere, places_from, range_over, span_there}
use Rattle.clone_window.specs.Bodies.{Body, bodies_of, statements_at}
use Rattle.clone_window.specs.Fields.{FieldNames, field_by, field_text}
use Rattle.clone_classes.specs.Listing.{listing}

-- What a listing reads of a package: its files with their names, the names of the fields of its types, and its functions, over
-- whatever stands for types.
pub record Listed (T : Type 0) : Type 0 where
  pub names : List (List ℕ)
  pub files : List FileTree
  pub fields : FieldNames T
  pub bodies : List (Body T)

abbrev pub body_in : FuncContent → Body TypeTree
body_in f = record { locals = f.locals; root = f.tree }

-- over the types themselves
abbrev pub listed_content : Content → Listed TypeTree
listed_content c = record { names = c.names; files = c.files; fields = field_by c.rights; bodies = map body_in c.functions }

-- over the numbers of types
abbrev pub listed_package : PackageView → Listed ℕ
listed_package p = record { names = p.names; files = p.files; fields = field_text p.types; bodies = bodies_of p.functions }

-- the statements of a window
abbrev pub statements_in : {T : Type 0} → Listed T → Window → Typeds T
statements_in l w = statements_at (slice_get l.bodies w.func) w

-- the bytes of statements of the function of this number
abbrev pub bytes_over : {T : Type 0} → List FileTree → ℕ → Typeds T → Option ByteRange
bytes_over files func ps = range_over ps >>= λ r. slice_get (places_from 0 files) func >>= span_there files r

-- the bytes of a window: from the first byte of its first token to the last byte of its last one
abbrev pub window_bytes : {T : Type 0} → Listed T → Window → ByteRange
window_bytes l w = unwrap_or (bytes_over l.files w.func (statements_in l w)) nowhere

-- What is shown of a class: where its members stand, and how many statements each has, of which mass.
pub record ShownClass : Type 0 where
  pub members : List ByteRange
  pub statements : ℕ
  pub mass : ℕ

-- Members of a class have as many statements and one mass, so the first one tells both.
abbrev pub shown_class : {T : Type 0} → Listed T → List Window → ShownClass
shown_class l [] = record { members = []; statements = 0; mass = 0 }
shown_class l (w ∷ ws) = record { members = map (window_bytes l) (w ∷ ws); statements = w.count; mass = masses false (statements_in l w) }

-- what is shown of the clone classes, where a test tells which types are identical
abbrev pub shown_classes : {T : Type 0} → (T → T → Bool) → Bounds → Listed T → List ShownClass
shown_classes identical bounds l = map (shown_class l) (listing identical l.fields bounds l.bodies)

-- The clone classes of a package that type-checks: each of its windows by these bounds is compared with every other.
abbrev pub classes_in : Bounds → Content → List (List Window)
classes_in bounds c = listing is_identical (field_by c.rights) bounds (listed_content c).bodies
