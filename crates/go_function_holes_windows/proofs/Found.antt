-- The holes of a statement.
use Rattle.std.proofs.Common.{◌≡◌, ℕ, Bool, true, false, Some}
use Rattle.std.specs.Prelude.{slice_get}
use Rattle.go_grammar.specs.declared.kind.Category.TheVariants as category
use Rattle.go_grammar.specs.Trees.{Tree}
use Rattle.go_types.specs.Trees.{TypeTree}
use Rattle.go_exprs_rules.specs.Scopes.{Hint}
use Rattle.go_stmts_defs.specs.Frames.{Frame}
use Rattle.go_stmts_defs.specs.Reading.{reading}
use Rattle.param_choose.specs.Holes.{Hole, holes_in}
use Rattle.go_stmts_final_types.specs.Known.{IsKnown}
use Rattle.go_stmts_final_types.specs.Shapes.{IsShaped}
use Rattle.go_function_trees.specs.Lists.{Faultless, tree_in, found_in}
use Rattle.go_function_holes.specs.Holes.{calls_no_constant}
use Rattle.go_function_holes.proofs.Public.{At, Holes, OfHole, Sound, all-at, differ, holes-found, holes-weaker, sound}
use Rattle.go_function_holes_windows.specs.Statements.{StatementHole}
use Rattle.go_function_holes_windows.proofs.Rows.{fine-good}
use Rattle.go_function_holes_windows.proofs.Reading.{reading-as}
use Rattle.go_function_holes_windows.proofs.Within.{Within, below, alone}

within-statement : (t : Tree) (i j : ℕ) → Within false category.Statement t i j → StatementHole t i j
within-statement t i j (below h) =
    record { part = h.part; path = h.path; stood = h.stood; category = h.category; at_path = h.at_path; asked = h.asked; takes = h.takes; expression = h.expression; begins = h.begins; ends = h.ends; clear = h.clear; named = h.named }
within-statement t i j (alone e l f u) = absurd (differ l)

-- all holes of a statement that is sound
pub statement-holes : (s : Frame) (h : Hint) (t : Tree) → IsShaped category.Statement t → Faultless (found_in (reading s h t)) → Sound (tree_in (reading s h t)) → Holes (StatementHole t) (tree_in (reading s h t))
statement-holes s h t w f sd =
    let P : OfHole = Within false category.Statement t in
    let x = tree_in (reading s h t) in
    holes-weaker P (StatementHole t) (within-statement t) x (fine-good P x (reading-as false s h category.Statement t w f) sd)

pub each-hole : (s : Frame) (h : Hint) (t : Tree) → IsShaped category.Statement t → Faultless (found_in (reading s h t)) → IsKnown (tree_in (reading s h t)) → calls_no_constant (tree_in (reading s h t)) ≡ true
    → (k n : ℕ) (a : Bool) (hole : Hole TypeTree) → slice_get (holes_in k a (tree_in (reading s h t))) n ≡ Some hole → StatementHole t hole.from hole.upto
each-hole s h t w f known calls k n a hole there =
    let x = tree_in (reading s h t) in
    all-at (At (StatementHole t)) (holes_in k a x) n hole (holes-found (StatementHole t) k a x (statement-holes s h t w f (sound x known calls))) there
