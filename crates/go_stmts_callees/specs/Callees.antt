-- Expressions and functions in which no constant is called, and no field of one is selected (Go specification: Calls, Selectors, Constants).
use Rattle.std.specs.Prelude.{◌≡◌, ℕ, true, List, [], ◌∷◌, None, Ok}
use Rattle.go_grammar.specs.declared.kind.Category.{Category}
use Rattle.go_grammar.specs.declared.kind.Category.TheVariants as category
use Rattle.go_grammar.specs.Trees.{Tree}
use Rattle.go_types.specs.Trees.{TypeTree}
use Rattle.go_typed.specs.declared.window.Window.{Window}
use Rattle.go_typed.specs.Contents.{FuncContent}
use Rattle.go_typed.specs.Trees.{Typed}
use Rattle.clone_window.specs.Windows.{window_statements}
use Rattle.go_exprs_rules.specs.Faults.{reported}
use Rattle.go_exprs_rules.specs.Scopes.{in_full, Scope, Hint, free}
use Rattle.go_exprs_rules.specs.Typing.{typing, faults}
use Rattle.go_stmts_defs.specs.Bodies.{start, body_answer}
use Rattle.go_stmts_defs.specs.Frames.{Locals}
use Rattle.go_stmts_final_types.specs.Known.{IsKnown, AreKnown}
use Rattle.go_stmts_final_types.specs.Names.{Standing, NamesAreKnown}
use Rattle.go_stmts_final_types.specs.Placed.{ObjectsAreGood, LocalsAreGood, ExpressionIsPlaced}
use Rattle.go_stmts_final_types.specs.Shapes.{IsShaped}
use Rattle.go_function_holes.specs.Holes.{calls_no_constant, none_called}

-- in an expression without faults, whose names mean what is declared in front of them
abbrev pub PlacedExpressionsCallNoConstant : Type 0
PlacedExpressionsCallNoConstant = (count : ℕ) (ls : Locals) (r : Standing) (s : Scope) (h : Hint) (c : Category) (t : Tree) → IsShaped c t → s.needed ≡ in_full → ObjectsAreGood count s → LocalsAreGood ls s
    → ExpressionIsPlaced count ls r s h t → reported (faults s h t) ≡ None → calls_no_constant (typing s h t) ≡ true

-- in a function without faults, each of whose names stands for something known where it is read
abbrev pub FunctionsCallNoConstant : Type 0
FunctionsCallNoConstant = (s : Scope) (number locals : ℕ) (types : ℕ → ℕ) (t : Tree) (f : FuncContent) → IsShaped category.Declaration t → body_answer s number locals types t ≡ Ok f
    → NamesAreKnown (start s locals types) free t → calls_no_constant f.tree ≡ true

-- in all functions
abbrev pub AllCallNoConstant : List FuncContent → Type 0
AllCallNoConstant [] = Unit {0}
AllCallNoConstant (f ∷ fs) = (calls_no_constant f.tree ≡ true) × AllCallNoConstant fs

-- What the statements of a window of a function have of it: no constant is called, and what their nodes stand for is known.
abbrev pub WindowsCallNoConstant : Type 0
WindowsCallNoConstant = (t : Typed TypeTree) (w : Window) → calls_no_constant t ≡ true → none_called (window_statements t w) ≡ true

abbrev pub WindowsAreKnown : Type 0
WindowsAreKnown = (t : Typed TypeTree) (w : Window) → IsKnown t → AreKnown (window_statements t w)
