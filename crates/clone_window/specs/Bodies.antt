-- Windows of the functions of a package, and when two of them are the same.
use Rattle.std.specs.Prelude.{ℕ, Bool, ◌&&◌, nat_eq, List, [], map, Option, Some, None, slice_get}
use Rattle.go_typed.specs.declared.window.Window.{Window}
use Rattle.go_typed.specs.Funcs.{FuncView, tree_of}
use Rattle.go_typed.specs.Packages.{PackageView}
use Rattle.go_typed.specs.Trees.{Sort, Typed, Typeds, none}
use Rattle.clone_window.specs.Windows.{window_statements}
use Rattle.clone_window.specs.Sameness.{is_same}
use Rattle.clone_window.specs.Fields.{FieldNames, field_text, window_fields_agree}

-- a function: what its locals stand for, and its tree
pub record Body (T : Type 0) : Type 0 where
  pub locals : List (Sort T)
  pub root : Typed T

abbrev pub body_of : FuncView → Body ℕ
body_of f = record { locals = f.locals; root = tree_of f }

abbrev pub bodies_of : List FuncView → List (Body ℕ)
bodies_of fs = map body_of fs

abbrev pub locals_in : {T : Type 0} → Option (Body T) → List (Sort T)
locals_in None = []
locals_in (Some b) = b.locals

-- the statements of a window, none where its function is not there
abbrev pub statements_at : {T : Type 0} → Option (Body T) → Window → Typeds T
statements_at None w = none
statements_at (Some b) w = window_statements b.root w

-- Two windows are the same, each of the functions of its package, whose types have fields of these names: their nodes agree one by
-- one, their locals are paired one to one, and the fields that they name at corresponding places have the same names.
abbrev pub are_same : {T : Type 0} → (T → T → Bool) → FieldNames T → FieldNames T → List (Body T) → List (Body T) → Window → Window → Bool
are_same identical n m here there w v =
    is_same identical (locals_in (slice_get here w.func)) (locals_in (slice_get there v.func)) (statements_at (slice_get here w.func) w) (statements_at (slice_get there v.func) v)
    && window_fields_agree n m (statements_at (slice_get here w.func) w) (statements_at (slice_get there v.func) v)

-- Two windows of a package are the same. Equal numbers stand for identical types.
abbrev pub same_in : PackageView → Window → Window → Bool
same_in p w v = are_same nat_eq (field_text p.types) (field_text p.types) (bodies_of p.functions) (bodies_of p.functions) w v
