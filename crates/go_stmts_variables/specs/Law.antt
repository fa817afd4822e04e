-- How statements and bodies are read with variables in place of constants: the laws.
use Rattle.std.specs.Prelude.{◌≡◌, ℕ, true, false}
use Rattle.go_grammar.specs.declared.kind.Category.TheVariants as category
use Rattle.go_grammar.specs.Trees.{Tree}
use Rattle.go_exprs_rules.specs.Scopes.{Hint}
use Rattle.go_stmts_defs.specs.Ending.{terminates}
use Rattle.go_stmts_defs.specs.Frames.{Frame}
use Rattle.go_stmts_defs.specs.Reading.{reading}
use Rattle.go_stmts_defs.specs.Rules.{function_failing}
use Rattle.go_exprs_variables.specs.Shapes.{IsShaped}
use Rattle.go_exprs_variables.specs.Variables.{Standins, with_variables, Proper, put, Fits, no_rule_fails}
use Rattle.go_stmts_variables.specs.Frames.{FramesStand}
use Rattle.go_stmts_variables.specs.Statements.{tree_in, found_in, frame_in, Declares, Tagged}
use Rattle.go_stmts_variables.specs.Steady.{Steady}

-- ---- the law on statements

-- With variables in place of constants the statement is read the same, with the variables in place of the holes; no rule fails; it
-- terminates where it did; and what is known behind it is the same.
pub record IsReadWithVariables (w : Standins) (s t : Frame) (h : Hint) (x : Tree) : Type 0 where
  pub tree : tree_in (reading t h (with_variables w x)) ≡ put w false (tree_in (reading s h x))
  pub failing : no_rule_fails (found_in (reading t h (with_variables w x))) ≡ true
  pub terminating : terminates (tree_in (reading t h (with_variables w x))) ≡ terminates (tree_in (reading s h x))
  pub frame : FramesStand w (frame_in (reading s h x)) (frame_in (reading t h (with_variables w x)))

abbrev pub StatementsRead : Type 0
StatementsRead = (w : Standins) (s t : Frame) (h : Hint) (x : Tree) → IsShaped category.Statement x → FramesStand w s t → Proper w x → Declares w x
    → no_rule_fails (found_in (reading s h x)) ≡ true → Fits w false (tree_in (reading s h x)) → Tagged (tree_in (reading s h x)) → Steady s h x → IsReadWithVariables w s t h x

-- ---- the law on bodies

-- So is a body in a function with the same results, in which the return that is missing, if one is, was missing before.
pub record IsBodyReadWithVariables (w : Standins) (s t : Frame) (h : Hint) (x : Tree) : Type 0 where
  pub body : IsReadWithVariables w s t h x
  pub missing : (j : ℕ) → function_failing t.results j (tree_in (reading t h (with_variables w x))) ≡ function_failing s.results j (tree_in (reading s h x))

abbrev pub BodiesRead : Type 0
BodiesRead = (w : Standins) (s t : Frame) (h : Hint) (x : Tree) → IsShaped category.Block x → FramesStand w s t → Proper w x → Declares w x
    → no_rule_fails (found_in (reading s h x)) ≡ true → Fits w false (tree_in (reading s h x)) → Tagged (tree_in (reading s h x)) → Steady s h x → IsBodyReadWithVariables w s t h x
