-- Two windows that are the same, worked out by hand: what is asked of them is met.
use Rattle.std.specs.Prelude.{◌≡◌, ℕ, ◌+◌, ◌-◌, true, false, nat_eq, if◌then◌else◌, List, [], ◌∷◌, Option, Some, None}
use Rattle.go_grammar.specs.declared.kind.Arithmetic.TheVariants as arithmetic
use Rattle.go_grammar.specs.declared.kind.Comparison.TheVariants as comparison
use Rattle.go_grammar.specs.declared.kind.Operator.TheVariants as operator
use Rattle.go_grammar.specs.declared.kind.Step.TheVariants as step
use Rattle.go_tree.specs.declared.object.Predeclared.TheVariants as predeclared
use Rattle.go_types.specs.Trees.{TypeTree, boolean, slice, structure, function}
use Rattle.go_types.specs.Trees as types
use Rattle.go_types_relations.specs.Identity.{is_identical}
use Rattle.go_typed.specs.declared.form.Form.TheVariants as form
use Rattle.go_typed.specs.declared.form.Referent.TheVariants as referent
use Rattle.go_typed.specs.Trees.{Nothing, Unknown, IsType, Value, Typed, Typeds, row}
use Rattle.go_exprs_rules.specs.Sorts.{Stands}
use Rattle.clone_window.specs.Sameness.{is_same}
use Rattle.extract_trees.specs.Numberings.{Numbering}
use Rattle.extract_trees.specs.Examples.{int, node, number, operation}
use Rattle.extract_trees.specs.Standing.{Around, AreSettled, nothing_told}
use Rattle.extract_trees.specs.Windows.{all_constants_agree, AreNumberedAlike}

-- `struct{x int}` and a list of these; `func()`
abbrev pub point : TypeTree
point = structure ((120 ∷ []) ∷ []) (types.more int types.none)

abbrev pub points : TypeTree
points = slice point

abbrev pub action : TypeTree
action = function types.none types.none

-- the locals `a`, `b`, `f` and `s`
abbrev pub sorts : List Stands
sorts = Value int ∷ Value int ∷ Value action ∷ Value points ∷ []

abbrev pub local : ℕ → TypeTree → ℕ → Typed TypeTree
local n t i = node (form.Local n) i (i + 1) (Value t) true false []

-- `b := a + k`, where `a` has the number n
abbrev pub sum : ℕ → ℕ → Typed TypeTree
sum n k = node (form.Define 1) 0 5 Nothing true false (Some (node (form.New (n + 1)) 0 1 (Value int) true false []) ∷ Some (operation arithmetic.Add 2 (local n int 2) (number k 4)) ∷ [])

-- `if a < 2 { a++ }`
abbrev pub condition : ℕ → Typed TypeTree
condition n = node (form.Binary (operator.Compare comparison.Less)) 7 10 (Value boolean) true false (Some (local n int 7) ∷ Some (number 2 9) ∷ [])

abbrev pub branch : ℕ → Typed TypeTree
branch n = node form.If 6 14 Nothing true false (None ∷ Some (condition n) ∷ Some (node form.Block 10 14 Nothing true false (Some (node (form.Step step.Increment) 11 13 Nothing true false (Some (local n int 11) ∷ [])) ∷ [])) ∷ None ∷ [])

-- `f = nil`
abbrev pub cleared : ℕ → Typed TypeTree
cleared n = node (form.Assign 1) 15 18 Nothing true false (Some (local (n + 2) action 15) ∷ Some (node (form.Object (referent.Predeclared predeclared.Nil)) 17 18 (Value action) false false []) ∷ [])

-- `s = []struct{x int}{{3}}`
abbrev pub listed : ℕ → Typed TypeTree
listed n = node (form.Assign 1) 19 32 Nothing true false (
    Some (local (n + 3) points 19) ∷
    Some (node form.Composite 21 32 (Value points) false false (Some (node form.Type 21 28 (IsType points) false false []) ∷ Some (node form.Composite 28 31 (Value point) false false (None ∷ Some (number 3 29) ∷ [])) ∷ [])) ∷ [])

abbrev pub window : ℕ → ℕ → Typeds TypeTree
window n k = row (Some (sum n k) ∷ Some (branch n) ∷ Some (cleared n) ∷ Some (listed n) ∷ [])

abbrev pub around : Around
around = record { rights = []; objects = λ r. Unknown; results = [] }

-- In the second function two other locals come first.
abbrev pub other_sorts : List Stands
other_sorts = Value boolean ∷ Value boolean ∷ sorts

abbrev pub first_hole : ℕ → Option ℕ
first_hole t = if nat_eq t 4 then Some 9 else None

abbrev pub numbers : (ℕ → ℕ) → Numbering
numbers local = record { token = λ i. i; local = local; referent = λ r. r; type = λ n. n; parameter = first_hole }

pub record WindowExamples : Type 0 where
  pub settled : AreSettled around sorts nothing_told (window 0 1)
  pub other_settled : AreSettled around other_sorts nothing_told (window 2 7)
  pub same : is_same is_identical sorts other_sorts (window 0 1) (window 2 7) ≡ true
  pub constants : all_constants_agree is_identical (window 0 1) (window 2 7) ≡ true
  pub numbered : AreNumberedAlike (numbers (λ n. n)) (numbers (λ n. n - 2)) (window 0 1) (window 2 7)
