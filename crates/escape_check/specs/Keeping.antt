-- Ends that stay wherever a call takes the place of a window that leaves some tokens.
use Rattle.std.specs.Prelude.{◌≡◌, ℕ, ◌<◌, ◌≤◌, ◌⊎◌, Bool, true, false, nat_eq, nat_le, List, [], ◌∷◌, Option, Some, None}
use Rattle.std.specs.HashSet.{HashSet}
use Rattle.std.specs.HashSet as set
use Rattle.go_types.specs.Tables.{Table}
use Rattle.go_typed.specs.declared.node.TypedNode.{TypedNode}
use Rattle.go_typed.specs.Funcs.{FuncView}
use Rattle.go_typed.specs.Trees.{first_of}
use Rattle.go_typed.specs.Views.{seen, view}
use Rattle.escape_check.specs.declared.ends.Gap.{Gap as Found}
use Rattle.escape_check.specs.Called.{called}
use Rattle.escape_check.specs.Endings.{tree_terminates}

-- the window has tokens, but not this one
pub record LeavesOut (g : Found) (t : ℕ) : Type 0 where
  pub some : g.from < g.upto
  pub out : (t < g.from) ⊎ (g.upto ≤ t)

-- the window has tokens, but none of the set
pub record Spares {S : Type 0} (g : Found) (tokens : HashSet ℕ S) : Type 0 where
  pub some : g.from < g.upto
  pub free : (t : ℕ) → g.from ≤ t → t < g.upto → set.contains nat_eq tokens t ≡ false

-- what is in the one set is in the other
abbrev pub Extends : {S : Type 0} → HashSet ℕ S → HashSet ℕ S → Type 0
Extends tokens more = (t : ℕ) → set.contains nat_eq tokens t ≡ true → set.contains nat_eq more t ≡ true

-- where b holds, so does the test of each window that spares the set
abbrev pub Keeps : {S : Type 0} → Bool → HashSet ℕ S → (Found → Bool) → Type 0
Keeps b tokens test = b ≡ true → (g : Found) → Spares g tokens → test g ≡ true

-- a part, if it is there, begins at the token or in front of it
abbrev pub begins_by : ℕ → Option TypedNode → Bool
begins_by t None = true
begins_by t (Some n) = nat_le (first_of (view n)) t

-- The function ends in a terminating statement wherever a call takes the place of a window that spares the set, if there is one.
abbrev pub KeepsEnd : {S : Type 0} → Table → FuncView → Option (HashSet ℕ S) → Type 0
KeepsEnd t f None = Unit
KeepsEnd t f (Some tokens) = (g : Found) → Spares g tokens → tree_terminates (called g (seen t f.root)) ≡ true

-- for each function in order
abbrev pub KeepEnds : {S : Type 0} → Table → List FuncView → List (Option (HashSet ℕ S)) → Type 0
KeepEnds t [] [] = Unit
KeepEnds t (f ∷ fs) (o ∷ os) = KeepsEnd t f o × KeepEnds t fs os
KeepEnds t fs os = ⊥
