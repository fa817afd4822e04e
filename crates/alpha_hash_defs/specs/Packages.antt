-- The names that windows of a package show, and their numbers.
use Rattle.std.specs.Prelude.{ℕ, List, [], ◌∷◌, codes, if◌then◌else◌, nat_eq, Some, slice_get}
use Rattle.go_tree.specs.declared.object.Declared.{Declared}
use Rattle.go_tree.specs.declared.object.Predeclared.{Predeclared}
use Rattle.go_tree.specs.Predeclared.{known_names}
use Rattle.go_typed.specs.declared.form.Referent.{Referent}
use Rattle.go_typed.specs.declared.window.Window.{Window}
use Rattle.go_typed.specs.Packages.{PackageView}
use Rattle.go_typed.specs.Trees.{Sort, Typeds}
use Rattle.go_print.specs.Names.{name_of}
use Rattle.go_print.specs.Printed.{printed}
use Rattle.clone_window.specs.declared.outline.Outline.{Outline}
use Rattle.clone_window.specs.Kinds.{predeclared_number, referent_outline}
use Rattle.clone_window.specs.Sameness.{same_outline, sort_at}
use Rattle.clone_window.specs.Bodies.{bodies_of, locals_in, statements_at}
use Rattle.clone_window.specs.Fields.{field_text}
use Rattle.alpha_hash_defs.specs.Naming.{Naming}
use Rattle.alpha_hash_defs.specs.Numbers.{hash}

-- the predeclared name of this number
abbrev pub predeclared_text : ℕ → List (List ℕ × Predeclared) → List ℕ
predeclared_text n [] = []
predeclared_text n (x ∷ xs) = if nat_eq (predeclared_number x.1) n then x.0 else predeclared_text n xs

-- the name of the object of the package that shows this
abbrev pub declared_text : PackageView → Outline → List Referent → List Declared → List ℕ
declared_text p o [] ds = []
declared_text p o (r ∷ rs) [] = []
declared_text p o (r ∷ rs) (d ∷ ds) = if same_outline (referent_outline r) o then name_of p (Some d) else declared_text p o rs ds

abbrev pub object_text : PackageView → Outline → List ℕ
object_text p o =
    if nat_eq o.operator 5 then predeclared_text o.count known_names else
    if nat_eq o.operator 6 then codes "fmt.Println" else
    declared_text p o p.env.referents p.uses.package_level

-- of a function of a package whose locals stand for this
abbrev pub naming_of : PackageView → List (Sort ℕ) → Naming ℕ
naming_of p sorts = record { type_text = printed p; object_text = object_text p; field_text = field_text p.types; local_sort = sort_at sorts }

abbrev pub window_naming : PackageView → Window → Naming ℕ
window_naming p w = naming_of p (locals_in (slice_get (bodies_of p.functions) w.func))

abbrev pub statements_in : PackageView → Window → Typeds ℕ
statements_in p w = statements_at (slice_get (bodies_of p.functions) w.func) w

-- the number of a window of a package
abbrev pub window_hash : PackageView → Window → ℕ
window_hash p w = hash (window_naming p w) (statements_in p w)
