-- Which objects pass a test with all that they need.
use Rattle.std.specs.Prelude.{◌≡◌, ℕ, Bool, not, List, length, Some, slice_get}
use Rattle.go_exprs_rules.specs.Scopes.{at_once, in_full}
use Rattle.go_exprs_rules.specs.Tables.{no_faults}
use Rattle.go_package_defs.specs.Knowledge.{Outline, State, passes}
use Rattle.go_needs.specs.declared.needs.Passing.{Passing}

-- a rule fails in its type or in its expression
abbrev pub is_faulty : State → Bool
is_faulty s = not (no_faults s.faults)

-- a rule fails at its own assignment
abbrev pub is_misassigned : State → Bool
is_misassigned s = not (no_faults s.assigning)

-- There is an answer for each object: whether it passes with all that it needs, where it is needed in part and in full.
pub record ArePassing (test : State → Bool) (os : List Outline) (ss : List State) (xs : List Passing) : Type 0 where
  pub as_many : length xs ≡ length os
  pub at_once : (n : ℕ) (x : Passing) → slice_get xs n ≡ Some x → x.at_once ≡ passes test os ss at_once n
  pub in_full : (n : ℕ) (x : Passing) → slice_get xs n ≡ Some x → x.in_full ≡ passes test os ss in_full n
