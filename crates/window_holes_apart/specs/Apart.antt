-- The holes of a window lie one behind the other (Go specification: Constant expressions).
use Rattle.std.specs.Prelude.{◌≡◌, ℕ, ◌<◌, ◌≤◌, false, List, [], ◌∷◌, Some}
use Rattle.go_types.specs.Trees.{TypeTree}
use Rattle.go_typed.specs.declared.window.Window.{Window}
use Rattle.go_typed.specs.Trees.{Typed}
use Rattle.go_typed.specs.Windows.{Range}
use Rattle.clone_window.specs.Spans.{range_over}
use Rattle.clone_window.specs.Windows.{window_statements}
use Rattle.param_choose.specs.Holes.{Hole, holes_among}
use Rattle.go_stmts_tokens.specs.Lying.{Lies}

-- Holes lie one behind the other from i up to j, and each has a token.
abbrev pub LieApart : ℕ → List (Hole TypeTree) → ℕ → Type 0
LieApart i [] j = i ≤ j
LieApart i (h ∷ hs) j = (i ≤ h.from) × (h.from < h.upto) × LieApart h.upto hs j

-- So do those of a window of a function, the nodes of which lie in the order of their tokens, among the tokens of the window.
abbrev pub WindowHolesLie : Type 0
WindowHolesLie = (t : Typed TypeTree) (a b : ℕ) (w : Window) (r : Range) → Lies a b t → range_over (window_statements t w) ≡ Some r → LieApart r.from (holes_among 0 false (window_statements t w)) r.to
