-- A worked call: var b int; b = h(a, 1) in func f(a int) int, in a package with func h(a int, p0 int) int.
use Rattle.std.specs.Prelude.{◌≡◌, ℕ, List, [], ◌∷◌, ◌++◌, codes, pos, true, false}
use Rattle.go_constants.specs.declared.values.Const.TheVariants as const
use Rattle.go_types.specs.Trees.{TypeRow, row}
use Rattle.go_typed.specs.Trees as sort
use Rattle.go_exprs_rules.specs.Sorts.{int}
use Rattle.go_stmts_defs.specs.Frames.{Frame, local_stands}
use Rattle.go_print_laws.specs.Calls.{Argument, variable, constant, statement_trees}
use Rattle.go_stmts_defs.specs.Sentences.{one}
use Rattle.go_stmts_elsewhere.specs.Gaps.{run, parts_in, behind}
use Rattle.go_stmts_elsewhere.specs.Worked.{frame_of, declaration_words, call_words, return_words, behind_first, first_class, first_site, sum}
use Rattle.go_stmts_calls.specs.Calls.{CallReads, CallIsRead}
use Rattle.go_stmts_calls.specs.Places.{PlacedCall}
use Rattle.go_stmts_calls.specs.Taking.{CallFits}

-- in front of it
abbrev pub frame : Frame
frame = frame_of (declaration_words ++ call_words ++ return_words)

abbrev pub b_name : List ℕ
b_name = codes "b"

-- the arguments a and 1
abbrev pub arguments : List Argument
arguments = variable (codes "a") ∷ constant (const.Int (pos 1) false) ∷ []

abbrev pub parameters : TypeRow
parameters = row (int ∷ int ∷ [])

abbrev pub results : TypeRow
results = row (int ∷ [])

-- Its names mean what they have to; the call is read so, and b is an int behind it.
pub record WorkedCall : Type 0 where
  pub reads : CallReads frame 0 (b_name ∷ []) results (1 ∷ []) (b_name ∷ []) 0 arguments parameters results
  pub read : CallIsRead frame 0 (b_name ∷ []) results (1 ∷ []) (b_name ∷ []) 0 arguments parameters results reads
  pub declared : local_stands (behind frame (statement_trees 0 (b_name ∷ []) results (b_name ∷ []) arguments)).locals 1 ≡ sort.Value int

-- ---- the call in place of b := a + 1, behind which b is needed

abbrev pub placed_call : PlacedCall
placed_call = record {
  first = 0;
  declared = b_name ∷ [];
  types = results;
  targets = b_name ∷ [];
  function = 0;
  arguments = arguments;
  parameters = parameters;
  results = results;
}

-- It fits the statement, whose local b it declares.
abbrev pub WorkedPlace : Type 0
WorkedPlace = CallFits (behind_first 12 1) (λ k. true) (first_site.around) first_class (one (sum 0)) (parts_in (run first_class (one (sum 0)))) placed_call (1 ∷ [])
