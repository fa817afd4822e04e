-- The specification of a type over its right side.
use Rattle.std.specs.Prelude.{◌≡◌, ℕ, if◌then◌else◌, List, [], ◌∷◌, Option, Some, None}
use Rattle.go_grammar.specs.declared.kind.Kind.TheVariants as kind
use Rattle.go_grammar.specs.declared.kind.Sort.TheVariants as declaring
use Rattle.go_types.specs.Trees.{TypeTree, declared}
use Rattle.go_types.specs.Tables.{Table, type_of}
use Rattle.go_types.specs.Relations.{Rights}
use Rattle.go_typed.specs.declared.form.Form.TheVariants as form
use Rattle.go_typed.specs.Trees as sort
use Rattle.go_exprs_rules.specs.Settling.{Part}
use Rattle.go_exprs_rules.specs.Tables.{Parts, is_judged, made}
use Rattle.go_stmts_defs.specs.Frames.{Frame, placed}
use Rattle.go_stmts_defs.specs.Laying.{type_name}
use Rattle.go_stmts_parts.specs.Late.{LateArray, late_arrays}

-- the array types in the right side whose size can't be told, where it is judged
abbrev pub late_of : Rights → Parts → List LateArray
late_of before (Some x ∷ []) = late_arrays before x
late_of before xs = []

abbrev pub late_in : Rights → Parts → List LateArray
late_in before xs = if is_judged xs then late_of before xs else []

-- the name, and its right side
abbrev pub named_parts : Frame → ℕ → Parts → Parts
named_parts s i xs = Some (type_name s i) ∷ xs

abbrev pub type_over : Frame → ℕ → ℕ → Parts → Part
type_over s i j xs = made (form.Held (kind.Specification declaring.Type)) i j sort.Nothing (named_parts s i xs) (named_parts s i xs)

-- The number of a type in the table is that of this declared type, or there is neither.
abbrev pub AreNamed : Table → Option ℕ → Option ℕ → Type 0
AreNamed t (Some i) (Some m) = type_of t.shapes i ≡ declared m
AreNamed t None None = Unit {0}
AreNamed t i m = ⊥

-- the right sides with this one for the declared type, if there is one
abbrev pub placed_or : Option ℕ → Option TypeTree → Rights → Rights
placed_or (Some m) r rights = placed m r rights
placed_or None r rights = rights
