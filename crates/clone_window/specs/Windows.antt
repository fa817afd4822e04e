-- The statements of windows, and the runs of statements that are windows.
use Rattle.std.specs.Prelude.{ℕ, suc, ◌+◌, ◌-◌, min, Bool, false, if◌then◌else◌, nat_le, List, [], ◌∷◌, ◌++◌, length, map, filter, take, drop, sum, Option, Some, None, slice_get}
use Rattle.std.specs.List.{range_with_len}
use Rattle.go_typed.specs.declared.window.Window.{Window}
use Rattle.go_typed.specs.Trees.{Typed, typed, Typeds, none, more, skip}
use Rattle.go_typed.specs.Forms.{is_statement_list, values_count}
use Rattle.go_typed.specs.Lists.{statement_lists, statements_of}
use Rattle.clone_window.specs.declared.bounds.Bounds.{Bounds}
use Rattle.clone_window.specs.Masses.{masses, each_mass}

-- ---- the statements of a window

-- a row of parts none of which is left out
abbrev pub row_of : {T : Type 0} → List (Typed T) → Typeds T
row_of [] = none
row_of (x ∷ xs) = more x (row_of xs)

-- the statements of a statement list, if there is one
abbrev pub statements_in : {T : Type 0} → Option (Typed T) → List (Typed T)
statements_in None = []
statements_in (Some l) = statements_of l

-- the statements of a window of a function with this tree
abbrev pub window_statements : {T : Type 0} → Typed T → Window → Typeds T
window_statements root w = row_of (take w.count (drop w.first (statements_in (slice_get (statement_lists root) w.list))))

abbrev pub window_mass : {T : Type 0} → Typed T → Window → ℕ
window_mass root w = masses false (window_statements root w)

-- ---- windows

abbrev pub run_at : ℕ → ℕ → ℕ → ℕ → Window
run_at func list at count = record { func = func; list = list; first = at; count = count }

-- by the masses of the statements from the first one of a run on
abbrev pub is_heavy : Bounds → List ℕ → ℕ → Bool
is_heavy bounds ms count = nat_le bounds.least (sum (take count ms))

-- The windows that begin with one statement, by the masses of the statements from there on: the runs of the fewest to 32
-- statements that have the least mass or more.
abbrev pub windows_at : Bounds → ℕ → ℕ → ℕ → List ℕ → List Window
windows_at bounds func list at ms =
    map (run_at func list at) (filter (is_heavy bounds ms) (range_with_len bounds.fewest (suc (min 32 (length ms)) - bounds.fewest)))

-- The windows that begin with a part of a statement list, where this many parts stand ahead of the statements.
abbrev pub windows_from : Bounds → ℕ → ℕ → ℕ → ℕ → List ℕ → List Window
windows_from bounds func list ahead index ms = if nat_le ahead index then windows_at bounds func list (index - ahead) ms else []

-- how many statement lists a tree has
abbrev pub list_count : {T : Type 0} → Typed T → ℕ
list_count t = length (statement_lists t)

abbrev mutual
  -- The windows of a function in a tree, whose first statement list has the number k. They stand in the order of their first
  -- statements and, where these are the same, of their last ones.
  pub windows_in : {T : Type 0} → Bounds → ℕ → ℕ → Typed T → List Window
  windows_in bounds func k (typed f i j l ps) =
      if is_statement_list f then windows_along bounds func k (values_count f) (suc k) 0 ps else windows_among bounds func k ps

  -- those in the parts of a node that is no statement list
  pub windows_among : {T : Type 0} → Bounds → ℕ → ℕ → Typeds T → List Window
  windows_among bounds func k none = []
  windows_among bounds func k (more p ps) = windows_in bounds func k p ++ windows_among bounds func (k + list_count p) ps
  windows_among bounds func k (skip ps) = windows_among bounds func k ps

  -- those in the parts of a statement list, from the part of some index on, where k is the number of the next list
  pub windows_along : {T : Type 0} → Bounds → ℕ → ℕ → ℕ → ℕ → ℕ → Typeds T → List Window
  windows_along bounds func list ahead k index none = []
  windows_along bounds func list ahead k index (more p ps) =
      windows_from bounds func list ahead index (each_mass (more p ps)) ++ windows_in bounds func k p ++ windows_along bounds func list ahead (k + list_count p) (suc index) ps
  windows_along bounds func list ahead k index (skip ps) = windows_along bounds func list ahead k index ps

-- the windows of the function of this number
abbrev pub windows : {T : Type 0} → Bounds → ℕ → Typed T → List Window
windows bounds func root = windows_in bounds func 0 root
