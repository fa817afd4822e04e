-- The table of the classes of windows: what it tells of a run of statements.
use Rattle.std.specs.Prelude.{◌≡◌, ℕ, suc, Bool, false, nat_eq, List, [], ◌∷◌, ◌++◌, map, Option, Some, None}
use Rattle.std.specs.Option.{option_map}
use Rattle.go_typed.specs.declared.window.Window.{Window}
use Rattle.clone_classes.specs.Classes.{Among}
use Rattle.clone_report.specs.declared.run.Run.{Run}
use Rattle.clone_report.specs.declared.side.Side.{Side}
use Rattle.clone_report.specs.Maximal.{extension}
use Rattle.clone_report.specs.contracts.run.RunPartialEq.TheImpl as run_eq

abbrev pub same_run : Run → Run → Bool
same_run = (run_eq.ghosts).eq

abbrev pub run_of : Window → Run
run_of w = record { func = w.func; list = w.list; first = w.first; count = w.count }

-- ---- classes by number

abbrev pub with_number : ℕ → Window → Window × ℕ
with_number n w = (w, n)

-- the members of classes, each with the number of its class, where the first one has the number n
abbrev pub numbered : ℕ → List (List Window) → List (Window × ℕ)
numbered n [] = []
numbered n (c ∷ cs) = map (with_number n) c ++ numbered (suc n) cs

-- A table tells of each of these windows a number that one of the pairs has with it, and of no other run.
pub record Tells (number : Run → Option ℕ) (pairs : List (Window × ℕ)) : Type 0 where
  pub among : (w : Window) (n : ℕ) → number (run_of w) ≡ Some n → Among pairs (w, n)
  pub all : (w : Window) (n : ℕ) → Among pairs (w, n) → (m : ℕ) × (number (run_of w) ≡ Some m)

-- what the table tells of a run that may be there
abbrev pub number_of : (Run → Option ℕ) → Option Run → Option ℕ
number_of number None = None
number_of number (Some r) = number r

-- whether it is this number
abbrev pub says : ℕ → Option ℕ → Bool
says n None = false
says n (Some m) = nat_eq m n

-- whether it tells this number of the extension of a window on a side
abbrev pub is_in : (Run → Option ℕ) → Side → ℕ → Window → Bool
is_in number on n w = says n (number_of number (option_map run_of (extension on w)))
