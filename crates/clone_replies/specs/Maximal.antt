-- The maximal clone classes of a package and its covered statements, and the reply to `maximal`, as bytes.
use Rattle.std.specs.Prelude.{ℕ, zero, suc, Bool, List, [], ◌++◌, length, map, codes, unwrap_or, slice_get}
use Rattle.std.specs.Fmt.{decimal}
use Rattle.std.specs.List.{flat_map}
use Rattle.go_types_relations.specs.Identity.{is_identical}
use Rattle.go_typed.specs.declared.window.Window.{Window}
use Rattle.go_typed.specs.Contents.{Content}
use Rattle.clone_window.specs.declared.bounds.Bounds.{Bounds}
use Rattle.clone_classes.specs.Listing.{listing}
use Rattle.clone_report.specs.Maximal.{maximal}
use Rattle.clone_report.specs.Covered.{coverage, coverages}
use Rattle.clone_script.specs.declared.maximal.NumberedClass.{NumberedClass}
use Rattle.clone_script.specs.Maximal.{coverage_lines}
use Rattle.clone_replies.specs.Classes.{Listed, ShownClass, body_in, classes_in, listed_content, shown_class}
use Rattle.clone_replies.specs.Listing.{class_text, shown}

-- the numbers of the maximal clone classes of a package that type-checks, counted from 1
abbrev pub maximal_in : Bounds → Content → List ℕ
maximal_in bounds c = maximal (classes_in bounds c)

-- of the statements of the file of this number, how many are covered by members of its clone classes, and how many there are
abbrev pub covered_in : Bounds → Content → ℕ → ℕ × ℕ
covered_in bounds c file = coverage (classes_in bounds c) c.files (map body_in c.functions) file

-- ---- the reply

-- the members of the class of this number, counted from 1; none where there is no such class
abbrev pub members_at : List (List Window) → ℕ → List Window
members_at classes zero = []
members_at classes (suc n) = unwrap_or (slice_get classes n) []

-- the number, and what the listing shows of that class
abbrev pub class_at : {T : Type 0} → Listed T → List (List Window) → ℕ → ℕ × ShownClass
class_at l classes n = (n, shown_class l (members_at classes n))

-- a class, with its number in the listing of all
abbrev pub numbered_text : List (List ℕ) → ℕ × ShownClass → List ℕ
numbered_text names x = class_text names x.0 x.1

-- `maximal N` and a newline, then the classes, and `FILE covered S of T` and a newline for each file
abbrev pub maximal_text : List (List ℕ) → List (ℕ × ShownClass) → List (ℕ × ℕ) → List ℕ
maximal_text names xs covered = codes "maximal " ++ decimal (length xs) ++ codes "\n" ++ flat_map (numbered_text names) xs ++ coverage_lines names 0 covered

-- of the maximal ones among classes, and of what all of them cover
abbrev pub maximal_among : {T : Type 0} → Listed T → List (List Window) → List ℕ
maximal_among l classes = maximal_text l.names (map (class_at l classes) (maximal classes)) (coverages classes l.files l.bodies)

-- of the clone classes of a package, where a test tells which types are identical
abbrev pub maximal_by : {T : Type 0} → (T → T → Bool) → Bounds → Listed T → List ℕ
maximal_by identical bounds l = maximal_among l (listing identical l.fields bounds l.bodies)

-- the reply to `maximal` of a package that type-checks
abbrev pub maximal_reply : Bounds → Content → List ℕ
maximal_reply bounds c = maximal_by is_identical bounds (listed_content c)

-- what a class shows that the program lists with its number
abbrev pub numbered : NumberedClass → ℕ × ShownClass
numbered x = (x.number, shown x.class)
