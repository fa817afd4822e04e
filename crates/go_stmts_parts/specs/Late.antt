-- Array types whose size can't be told before a local type has its right side: those of a typed tree, and which are too large.
use Rattle.std.specs.Prelude.{ℕ, Bool, true, false, ◌&&◌, not, if◌then◌else◌, List, [], ◌∷◌, ◌++◌, Option, Some, None, is_some}
use Rattle.go_base.specs.declared.fault.FaultCode.TheVariants as code
use Rattle.go_types.specs.Trees.{TypeTree, array}
use Rattle.go_types.specs.Relations.{Rights}
use Rattle.go_types.specs.Tables.{Table, type_of}
use Rattle.go_types.specs.declared.shape.Shape.{Shape}
use Rattle.go_types.specs.declared.shape.Shape.TheVariants as shape
use Rattle.go_types_relations.specs.Sizes.{scalars_of}
use Rattle.go_typed.specs.Trees.{typed, Typeds, none, more, skip}
use Rattle.go_exprs_rules.specs.declared.fault.TypeFault.{TypeFault}
use Rattle.go_exprs_rules.specs.Faults.{fault_at}
use Rattle.go_exprs_rules.specs.Settling.{Part}
use Rattle.go_exprs_rules.specs.Sorts.{Stands, named_type}
use Rattle.go_exprs_rules.specs.TypeNodes.{exceeds}
use Rattle.go_stmts_parts.specs.declared.late.LateArray as program

-- an array type, and the tokens that it stands at
pub record LateArray : Type 0 where
  pub first : ℕ
  pub last : ℕ
  pub of : TypeTree

abbrev pub is_array : TypeTree → Bool
is_array (array n t) = true
is_array t = false

abbrev pub is_array_shape : Shape → Bool
is_array_shape (shape.Array n e) = true
is_array_shape s = false

-- the type, where it is one of an array whose size can't be told
abbrev pub waiting_type : Rights → ℕ → ℕ → Option TypeTree → List LateArray
waiting_type before i j None = []
waiting_type before i j (Some t) = if is_array t && not (is_some (scalars_of before t)) then record { first = i; last = j; of = t } ∷ [] else []

abbrev pub waiting : Rights → ℕ → ℕ → Stands → List LateArray
waiting before i j x = waiting_type before i j (named_type x)

abbrev mutual
  -- those in a tree, from left to right and the inner ones first
  pub late_arrays : Rights → Part → List LateArray
  late_arrays before (typed f i j l ps) = all_late_arrays before ps ++ waiting before i j l.sort

  pub all_late_arrays : Rights → Typeds TypeTree → List LateArray
  all_late_arrays before none = []
  all_late_arrays before (more p ps) = late_arrays before p ++ all_late_arrays before ps
  all_late_arrays before (skip ps) = all_late_arrays before ps

-- the faults of those that are too large
abbrev pub too_large : Rights → LateArray → List TypeFault
too_large behind a = if exceeds (scalars_of behind a.of) then fault_at code.Limit a.first a.last else []

abbrev pub all_too_large : Rights → List LateArray → List TypeFault
all_too_large behind [] = []
all_too_large behind (a ∷ es) = too_large behind a ++ all_too_large behind es

-- ---- in a table of types

abbrev pub late_seen : Table → program.LateArray → LateArray
late_seen t a = record { first = a.place.first; last = a.place.last; of = type_of t.shapes a.of }
