-- Worked examples of maximal classes and of covered statements.
use Rattle.std.specs.Prelude.{◌≡◌, ℕ, Bool, true, false, List, [], ◌∷◌}
use Rattle.go_typed.specs.declared.form.Form.TheVariants as form
use Rattle.go_typed.specs.declared.window.Window.{Window}
use Rattle.go_typed.specs.Trees.{Typed}
use Rattle.clone_window.specs.Examples.{block, called, function, literal, statement}
use Rattle.clone_window.specs.Windows.{run_at}
use Rattle.clone_report.specs.Covered.{stands, statements_in}
use Rattle.clone_report.specs.Maximal.{maximal}

-- `f(); if .. { f(); f() }; f()`
abbrev pub nested : Typed ℕ
nested = function (called ∷ statement form.If (block (called ∷ called ∷ []) ∷ []) ∷ called ∷ [])

-- `switch { case 1: f() }`
abbrev pub clause : Typed ℕ
clause = function (statement form.Switch (statement (form.Case 1) (literal 1 ∷ called ∷ []) ∷ []) ∷ [])

-- of each statement of function 0 whether it is covered, where there is one class with these members
abbrev pub covered_by : List Window → Typed ℕ → List Bool
covered_by members root = statements_in (stands (members ∷ []) 0) false 0 root

pub record Examples : Type 0 where
  -- each member has one statement more behind it, or in front of it
  pub behind : maximal ((run_at 0 0 0 2 ∷ run_at 1 0 0 2 ∷ []) ∷ (run_at 0 0 0 3 ∷ run_at 1 0 0 3 ∷ []) ∷ []) ≡ 2 ∷ []
  pub in_front : maximal ((run_at 0 0 0 3 ∷ run_at 1 0 0 3 ∷ []) ∷ (run_at 0 0 1 2 ∷ run_at 1 0 1 2 ∷ []) ∷ []) ≡ 1 ∷ []
  -- four equal statements: the first member has nothing in front of it, the last one nothing behind it
  pub overlapping : maximal ((run_at 1 0 0 2 ∷ run_at 1 0 1 2 ∷ run_at 1 0 2 2 ∷ []) ∷ (run_at 1 0 0 3 ∷ run_at 1 0 1 3 ∷ []) ∷ []) ≡ 1 ∷ 2 ∷ []
  -- one member has its extension in front, the other one behind
  pub two_sides : maximal ((run_at 0 0 1 2 ∷ run_at 1 0 0 2 ∷ []) ∷ (run_at 0 0 0 3 ∷ run_at 1 0 0 3 ∷ []) ∷ []) ≡ 1 ∷ 2 ∷ []
  -- of three members two have an extension that is a member
  pub two_of_three : maximal ((run_at 0 0 0 2 ∷ run_at 1 0 0 2 ∷ run_at 2 0 0 2 ∷ []) ∷ (run_at 0 0 0 3 ∷ run_at 1 0 0 3 ∷ []) ∷ []) ≡ 1 ∷ 2 ∷ []
  -- extensions are members of two classes
  pub two_classes : maximal ((run_at 0 0 0 2 ∷ run_at 1 0 0 2 ∷ []) ∷ (run_at 0 0 0 3 ∷ []) ∷ (run_at 1 0 0 3 ∷ []) ∷ []) ≡ 1 ∷ 2 ∷ 3 ∷ []
  -- the statements within a covered one are covered, and are counted once where they stand in members too
  pub outer : covered_by (run_at 0 0 0 2 ∷ run_at 0 1 0 2 ∷ []) nested ≡ true ∷ true ∷ true ∷ true ∷ false ∷ []
  -- a statement isn't covered because one within it is
  pub inner : covered_by (run_at 0 1 0 2 ∷ []) nested ≡ false ∷ false ∷ true ∷ true ∷ false ∷ []
  pub nowhere : covered_by (run_at 1 0 0 3 ∷ []) nested ≡ false ∷ false ∷ false ∷ false ∷ false ∷ []
  -- the values of a clause are no statements
  pub values : covered_by (run_at 0 1 0 1 ∷ []) clause ≡ false ∷ true ∷ []
