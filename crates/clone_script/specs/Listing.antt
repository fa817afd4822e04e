-- The listing of clone classes, as bytes.
use Rattle.std.specs.Prelude.{ℕ, suc, List, [], ◌∷◌, ◌++◌, length, unwrap_or, slice_get, codes}
use Rattle.std.specs.Fmt.{decimal}
use Rattle.std.specs.List.{flat_map}
use Rattle.go_base.specs.declared.span.Span.{Span}
use Rattle.clone_script.specs.declared.listing.ListedClass.{ListedClass}
use Rattle.clone_script.specs.Replies.{place}

-- the name of the file with this number, or nothing where there are fewer names
abbrev pub file_name : List (List ℕ) → ℕ → List ℕ
file_name names file = unwrap_or (slice_get names file) []

-- `FILE:START-END` and a newline
abbrev pub member_line : List (List ℕ) → Span → List ℕ
member_line names span = place (file_name names span.file) span ++ codes "\n"

-- `class K members M statements S mass W` and a newline
abbrev pub class_head : ℕ → ListedClass → List ℕ
class_head number class =
    codes "class " ++ decimal number ++ codes " members " ++ decimal (length class.members.items)
    ++ codes " statements " ++ decimal class.statements ++ codes " mass " ++ decimal class.mass ++ codes "\n"

-- the head of a class, and a line for each member
abbrev pub class_text : List (List ℕ) → ℕ → ListedClass → List ℕ
class_text names number class = class_head number class ++ flat_map (member_line names) class.members.items

-- the classes, numbered on from this number
abbrev pub classes_text : List (List ℕ) → ℕ → List ListedClass → List ℕ
classes_text names number [] = []
classes_text names number (class ∷ classes) = class_text names number class ++ classes_text names (suc number) classes

-- `classes N` and a newline, and then the classes, numbered from 1
abbrev pub class_reply : List (List ℕ) → List ListedClass → List ℕ
class_reply names classes = codes "classes " ++ decimal (length classes) ++ codes "\n" ++ classes_text names 1 classes
