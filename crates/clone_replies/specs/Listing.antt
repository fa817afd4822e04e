-- The listing of clone classes of a package, as bytes.
use Rattle.std.specs.Prelude.{ℕ, suc, Bool, List, [], ◌∷◌, ◌++◌, length, map, codes}
use Rattle.std.specs.Fmt.{decimal}
use Rattle.std.specs.List.{flat_map}
use Rattle.go_types_relations.specs.Identity.{is_identical}
use Rattle.go_typed.specs.Contents.{Content}
use Rattle.clone_window.specs.declared.bounds.Bounds.{Bounds}
use Rattle.clone_window.specs.Spans.{ByteRange, bytes_of}
use Rattle.clone_script.specs.declared.listing.ListedClass.{ListedClass}
use Rattle.clone_script.specs.Listing.{file_name}
use Rattle.clone_replies.specs.Classes.{Listed, ShownClass, listed_content, shown_classes}

-- `FILE:START-END` and a newline
abbrev pub member_text : List (List ℕ) → ByteRange → List ℕ
member_text names r = (file_name names r.file ++ codes ":" ++ decimal r.start ++ codes "-" ++ decimal r.end) ++ codes "\n"

-- `class K members M statements S mass W` and a newline, and a line for each member
abbrev pub class_text : List (List ℕ) → ℕ → ShownClass → List ℕ
class_text names number x =
    (codes "class " ++ decimal number ++ codes " members " ++ decimal (length x.members)
    ++ codes " statements " ++ decimal x.statements ++ codes " mass " ++ decimal x.mass ++ codes "\n") ++ flat_map (member_text names) x.members

-- the classes, numbered on from this number
abbrev pub classes_text : List (List ℕ) → ℕ → List ShownClass → List ℕ
classes_text names number [] = []
classes_text names number (x ∷ xs) = class_text names number x ++ classes_text names (suc number) xs

-- `classes N` and a newline, and then the classes, numbered from 1
abbrev pub listing_text : List (List ℕ) → List ShownClass → List ℕ
listing_text names xs = codes "classes " ++ decimal (length xs) ++ codes "\n" ++ classes_text names 1 xs

-- the listing of a package, where a test tells which types are identical
abbrev pub listing_by : {T : Type 0} → (T → T → Bool) → Bounds → Listed T → List ℕ
listing_by identical bounds l = listing_text l.names (shown_classes identical bounds l)

-- the listing of the clone classes of a package that type-checks
abbrev pub listing_reply : Bounds → Content → List ℕ
listing_reply bounds c = listing_by is_identical bounds (listed_content c)

-- what a class shows that the program lists
abbrev pub shown : ListedClass → ShownClass
shown x = record { members = map bytes_of x.members.items; statements = x.statements; mass = x.mass }
