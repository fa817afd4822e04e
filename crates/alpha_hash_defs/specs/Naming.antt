-- What the words of a window are made of besides its trees.
use Rattle.std.specs.Prelude.{ℕ, List, [], codes, if◌then◌else◌, nat_eq}
use Rattle.go_typed.specs.Trees.{Sort}
use Rattle.clone_window.specs.declared.outline.Outline.{Outline}
use Rattle.clone_window.specs.Sameness.{Final, of_type, of_kind, of_none}
use Rattle.clone_window.specs.Fields.{FieldNames}

-- the printed texts of types; the texts of names of the package and of the universe, by what they show; the names of the fields of
-- struct types, by their places; and what the locals of the function stand for
pub record Naming (T : Type 0) : Type 0 where
  pub type_text : T → List ℕ
  pub object_text : Outline → List ℕ
  pub field_text : FieldNames T
  pub local_sort : ℕ → Sort T

-- untyped boolean, integer, rune and string
abbrev pub untyped_text : ℕ → List ℕ
untyped_text k =
    if nat_eq k 0 then codes "untyped bool" else
    if nat_eq k 1 then codes "untyped int" else
    if nat_eq k 2 then codes "untyped rune" else
    codes "untyped string"

abbrev pub final_text : {T : Type 0} → Naming T → Final T → List ℕ
final_text n (of_type t) = n.type_text t
final_text n (of_kind k) = untyped_text k
final_text n of_none = []
