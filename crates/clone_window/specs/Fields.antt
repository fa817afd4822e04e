-- The names of fields, and whether two trees name the same ones.
use Rattle.std.specs.Prelude.{ℕ, Bool, true, false, ◌&&◌, ◌||◌, not, nat_eq, if◌then◌else◌, List, [], ◌∷◌, Option, Some, None, slice_get}
use Rattle.std.specs.List.{list_any}
use Rattle.go_types.specs.Relations.{Rights}
use Rattle.go_types.specs.Tables.{Table, type_of, rights_of}
use Rattle.go_types.specs.Trees.{TypeTree, structure}
use Rattle.go_types_relations.specs.Identity.{same_name}
use Rattle.go_types_relations.specs.Tests.{underlying_of}
use Rattle.go_typed.specs.Trees.{Sort, Nothing, Typed, typed, Typeds, none, more, skip, sort_of}
use Rattle.clone_window.specs.declared.outline.Outline.{Outline}
use Rattle.clone_window.specs.Kinds.{outline}
use Rattle.clone_window.specs.Masses.{is_hole, is_inside}
use Rattle.clone_window.specs.Sameness.{Final, of_type, final}

-- ---- the fields of types

-- the names of the fields of types, by their places
abbrev pub FieldNames : Type 0 → Type 0
FieldNames T = T → ℕ → List ℕ

abbrev pub text_there : Option (List ℕ) → List ℕ
text_there None = []
text_there (Some t) = t

-- the name of the field of this place of an underlying type; a type that is no struct has none
abbrev pub field_in : Option TypeTree → ℕ → List ℕ
field_in (Some (structure ns ts)) k = text_there (slice_get ns k)
field_in _ k = []

-- of a type, where the declared types have these right sides
abbrev pub field_by : Rights → FieldNames TypeTree
field_by rights t k = field_in (underlying_of rights t) k

-- of a type of a table, by its number
abbrev pub field_text : Table → FieldNames ℕ
field_text types t k = field_by (rights_of types) (type_of types.shapes t) k

-- ---- the fields that nodes name

-- selectors, and keys of fields in composite literals
abbrev pub names_field : Outline → Bool
names_field o = list_any (nat_eq o.kind) (36 ∷ 51 ∷ [])

-- what the first part stands for
abbrev pub operand : {T : Type 0} → Typeds T → Sort T
operand none = Nothing
operand (more p ps) = sort_of p
operand (skip ps) = Nothing

-- the name of the field of this place of a value of a type
abbrev pub field_of : {T : Type 0} → FieldNames T → Final T → ℕ → List ℕ
field_of names (of_type t) k = names t k
field_of names _ k = []

-- whose field a node names: its first part's, or that of the composite literal in which it stands
abbrev pub owner_of : {T : Type 0} → Sort T → Outline → Typeds T → Sort T
owner_of owner o ps = if nat_eq o.kind 36 then operand ps else owner

-- the name of the field that a node names
abbrev pub field_name : {T : Type 0} → FieldNames T → Sort T → Outline → Typeds T → List ℕ
field_name names owner o ps = field_of names (final (owner_of owner o ps)) o.count

-- ---- when they have the same names

abbrev pub same_field : Bool → List ℕ → List ℕ → Bool
same_field names a b = not names || same_name a b

abbrev mutual
  -- Whether the fields that two trees name at corresponding places outside holes have the same names. Each tree may stand inside a
  -- constant expression, and in a composite literal that stands for s or t.
  pub fields_agree : {T : Type 0} → FieldNames T → FieldNames T → Bool → Bool → Sort T → Sort T → Typed T → Typed T → Bool
  fields_agree n m a b s t (typed f i j l ps) (typed g h k r qs) =
      is_hole a f l || (same_field (names_field (outline f)) (field_name n s (outline f) ps) (field_name m t (outline g) qs)
      && all_fields_agree n m (is_inside a f l) (is_inside b g r) l.sort r.sort ps qs)

  -- those of two rows of parts
  pub all_fields_agree : {T : Type 0} → FieldNames T → FieldNames T → Bool → Bool → Sort T → Sort T → Typeds T → Typeds T → Bool
  all_fields_agree n m a b s t (more p ps) (more q qs) = fields_agree n m a b s t p q && all_fields_agree n m a b s t ps qs
  all_fields_agree n m a b s t (skip ps) (skip qs) = all_fields_agree n m a b s t ps qs
  all_fields_agree n m a b s t _ _ = true

-- those of two runs of statements
abbrev pub window_fields_agree : {T : Type 0} → FieldNames T → FieldNames T → Typeds T → Typeds T → Bool
window_fields_agree n m ps qs = all_fields_agree n m false false Nothing Nothing ps qs
