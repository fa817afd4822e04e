-- Statements and bodies with variables in place of constants, whose declared types have numbers in order.
use Rattle.std.specs.Prelude.{◌≡◌, ℕ, true, false}
use Rattle.go_grammar.specs.declared.kind.Category.TheVariants as category
use Rattle.go_grammar.specs.Trees.{Tree}
use Rattle.go_exprs_rules.specs.Scopes.{Hint}
use Rattle.go_package_laws.specs.Reach.{HintWithin}
use Rattle.go_stmts_defs.specs.Frames.{Frame}
use Rattle.go_stmts_defs.specs.Laying.{type_number}
use Rattle.go_stmts_defs.specs.Reading.{reading}
use Rattle.go_exprs_variables.specs.Shapes.{IsShaped}
use Rattle.go_exprs_variables.specs.Variables.{Standins, Proper, Fits, no_rule_fails}
use Rattle.go_stmts_variables.specs.Frames.{FramesStand}
use Rattle.go_stmts_variables.specs.Law.{IsReadWithVariables, IsBodyReadWithVariables}
use Rattle.go_stmts_variables.specs.Statements.{tree_in, found_in, Declares, Tagged}
use Rattle.go_stmts_steady.specs.Ordered.{below, Ordered, KnowsBelow}

-- Such a statement is read the same, with the variables in place of the holes.
abbrev pub OrderedStatementsRead : Type 0
OrderedStatementsRead = (k : ℕ) (w : Standins) (s t : Frame) (h : Hint) (x : Tree) → IsShaped category.Statement x → FramesStand w s t → Proper w x → Declares w x
    → no_rule_fails (found_in (reading s h x)) ≡ true → Fits w false (tree_in (reading s h x)) → Tagged (tree_in (reading s h x))
    → KnowsBelow k s → HintWithin (below k) h → Ordered (type_number s) k x → IsReadWithVariables w s t h x

-- So is the body of a function.
abbrev pub OrderedBodiesRead : Type 0
OrderedBodiesRead = (k : ℕ) (w : Standins) (s t : Frame) (h : Hint) (x : Tree) → IsShaped category.Block x → FramesStand w s t → Proper w x → Declares w x
    → no_rule_fails (found_in (reading s h x)) ≡ true → Fits w false (tree_in (reading s h x)) → Tagged (tree_in (reading s h x))
    → KnowsBelow k s → HintWithin (below k) h → Ordered (type_number s) k x → IsBodyReadWithVariables w s t h x
