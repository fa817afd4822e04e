-- A call as it is written from a token on, and what it is to read it.
use Rattle.std.specs.Prelude.{ℕ, Bool, false, ◌||◌, nat_eq, List, [], ◌∷◌}
use Rattle.go_grammar.specs.Trees.{Trees}
use Rattle.go_types.specs.Trees.{TypeRow}
use Rattle.go_print_laws.specs.Calls.{Argument, statement_trees}
use Rattle.go_stmts_defs.specs.Frames.{Frame}
use Rattle.go_stmts_calls.specs.Calls.{CallReads}

-- A call as it is written from a token on, with the function that it is of.
pub record PlacedCall : Type 0 where
  pub first : ℕ
  -- the variables that are declared in front of it, and their types
  pub declared : List (List ℕ)
  pub types : TypeRow
  -- the variables that its results are given to
  pub targets : List (List ℕ)
  pub function : ℕ
  pub arguments : List Argument
  pub parameters : TypeRow
  pub results : TypeRow

abbrev pub call_trees : PlacedCall → Trees
call_trees c = statement_trees c.first c.declared c.types c.targets c.arguments

-- In this frame the call is read, and these are the locals that it declares.
abbrev pub ReadsCall : Frame → PlacedCall → List ℕ → Type 0
ReadsCall g c ns = CallReads g c.first c.declared c.types ns c.targets c.function c.arguments c.parameters c.results

abbrev pub is_among : List ℕ → ℕ → Bool
is_among [] k = false
is_among (n ∷ ns) k = nat_eq n k || is_among ns k
