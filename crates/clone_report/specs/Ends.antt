-- The table of where members of classes end: of each statement the furthest end of those that begin with it.
use Rattle.std.specs.Prelude.{◌≡◌, ℕ, zero, suc, ◌+◌, max, Bool, ◌&&◌, nat_lt, List, length, count_by, Option, unwrap_or}
use Rattle.std.specs.List.{list_any}
use Rattle.go_typed.specs.declared.window.Window.{Window}
use Rattle.clone_report.specs.declared.ends.Start.{Start}
use Rattle.clone_report.specs.declared.tally.Tally.{Tally}
use Rattle.clone_report.specs.contracts.ends.StartPartialEq.TheImpl as start_eq

abbrev pub same_start : Start → Start → Bool
same_start = (start_eq.ghosts).eq

abbrev pub start_of : Window → Start
start_of w = record { func = w.func; list = w.list; first = w.first }

abbrev pub start_at : ℕ → ℕ → ℕ → Start
start_at func list first = record { func = func; list = list; first = first }

-- A window begins there and goes past this place.
abbrev pub goes_past : Start → ℕ → Window → Bool
goes_past s x w = same_start (start_of w) s && nat_lt x (w.first + w.count)

-- the place behind the last statement of those that begin there, 0 where none does
abbrev pub end_at : (Start → Option ℕ) → Start → ℕ
end_at ends s = unwrap_or (ends s) 0

-- The table has the furthest ends of the windows by their first statements.
abbrev pub Reaches : (Start → Option ℕ) → List Window → Type 0
Reaches ends ws = (s : Start) (x : ℕ) → nat_lt x (end_at ends s) ≡ list_any (goes_past s x) ws

-- the furthest end of the windows that begin with one of the first n statements of a list
abbrev pub furthest : (Start → Option ℕ) → ℕ → ℕ → ℕ → ℕ
furthest ends func list zero = 0
furthest ends func list (suc n) = max (furthest ends func list n) (end_at ends (start_at func list n))

-- By the table, a statement stands in a window where one that begins with it or before it ends behind it.
abbrev pub stands_by : (Start → Option ℕ) → ℕ → ℕ → ℕ → Bool
stands_by ends func list at = nat_lt at (furthest ends func list (suc at))

-- counts with these statements added
abbrev pub added : Tally → List Bool → Tally
added t statements = record { covered = t.covered + count_by (λ covered. covered) statements; statements = t.statements + length statements }
