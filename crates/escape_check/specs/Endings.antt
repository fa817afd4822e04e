-- The refusal for a function that no longer ends in a terminating statement.
use Rattle.std.specs.Prelude.{ℕ, Bool, true, false, ◌&&◌, not, List, [], ◌∷◌, Option, Some, None, slice_get}
use Rattle.go_types.specs.Trees.{TypeTree, function}
use Rattle.go_typed.specs.declared.form.Form.TheVariants as form
use Rattle.go_typed.specs.Contents.{FuncContent}
use Rattle.go_typed.specs.Trees.{Nothing, Unknown, Typed, typed, Typeds, none, more}
use Rattle.go_exprs_rules.specs.Names.{is_row_empty}
use Rattle.go_stmts_defs.specs.Ending.{terminates}
use Rattle.extract_trees.specs.Filled.{Gap, filled}
use Rattle.extract_trees.specs.Numberings.{Numbering}
use Rattle.param_choose.specs.Members.{Member}
use Rattle.escape_check.specs.Places.{Sources, Place, window_place, place_if}

-- ---- 9: with the window replaced by a call statement, a function with results doesn't end in a terminating statement

abbrev pub has_results : TypeTree → Bool
has_results (function ps rs) = not (is_row_empty rs)
has_results t = false

-- a call over these tokens; nothing is said of what it calls
abbrev pub call_statement : ℕ → ℕ → Typed TypeTree
call_statement i j = typed form.Expression i j (record { sort = Nothing; varies = false; calls = true })
    (more (typed form.Call i j (record { sort = Unknown; varies = false; calls = true }) none) none)

-- all numbers stay, and no hole is a parameter
abbrev pub unchanged : Numbering
unchanged = record { token = λ n. n; local = λ n. n; referent = λ r. r; type = λ n. n; parameter = λ n. None }

-- the call in place of the window
abbrev pub call_gap : {T : Type 0} → Member T → Gap
call_gap m = record { from = m.from; upto = m.upto; statements = more (call_statement m.from m.upto) none }

abbrev pub with_call : {T : Type 0} → Member T → Typed TypeTree → Typed TypeTree
with_call m x = filled unchanged (call_gap m ∷ []) x

-- whether the body of a function, which is its first part, ends in a terminating statement
abbrev pub body_terminates : Typeds TypeTree → Bool
body_terminates (more b ps) = terminates b
body_terminates ps = false

abbrev pub tree_terminates : Typed TypeTree → Bool
tree_terminates (typed f i j l ps) = body_terminates ps

abbrev pub loses_end : {T : Type 0} → Member T → Option FuncContent → Bool
loses_end m None = false
loses_end m (Some f) = has_results f.signature && not (tree_terminates (with_call m f.tree))

-- of members of a package with these functions
abbrev pub lost_ends : {T : Type 0} → Sources → List FuncContent → Member T → List Place
lost_ends s fs m = place_if (loses_end m (slice_get fs m.window.func)) (window_place s m)
