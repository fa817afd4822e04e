-- Rules of statements that fail of no operands with variables in them that they didn't fail of with constants: one statement for each.
use Rattle.std.specs.Prelude.{◌≡◌, ℕ, Bool, if◌then◌else◌, List, [], ◌∷◌, Option, Some, None}
use Rattle.std.specs.Option.{option_map}
use Rattle.go_types.specs.Trees.{TypeTree}
use Rattle.go_types.specs.Relations.{Rights}
use Rattle.go_typed.specs.Trees.{sort_of}
use Rattle.go_exprs_rules.specs.Settling.{Part}
use Rattle.go_exprs_rules.specs.Sorts.{Stands, open_kind, default_type, own_type}
use Rattle.go_stmts_defs.specs.Assigning.{Wanted, assignment_failing}
use Rattle.go_stmts_defs.specs.Reading.{tag_of}
use Rattle.go_stmts_defs.specs.Rules.{condition_failing, tag_failing, case_failing, range_failing, range_types, number_target, not_a_target, target_type, is_open_number}
use Rattle.go_exprs_variables.specs.Operands.{Operand}
use Rattle.go_exprs_variables.specs.Stood.{Stood}

-- the type that a value takes: that of the variable to which it is given, or else its default type
abbrev pub given_type : Option TypeTree → Part → Option TypeTree
given_type (Some t) x = Some t
given_type None x = option_map default_type (open_kind (sort_of x))

-- A condition is a truth value still.
abbrev pub ConditionKept : Type 0
ConditionKept = (rights : Rights) (o : Option TypeTree) (x y : Part) → Stood rights o (sort_of x) (sort_of y) → condition_failing rights (Some x) ≡ [] → condition_failing rights (Some y) ≡ []

-- A tag that takes its default type stands for a constant of it or for a value of it.
abbrev pub TagKept : Type 0
TagKept = (rights : Rights) (x y : Part) → Operand rights (given_type None x) x y → tag_failing rights (Some x) ≡ []
    → (tag_failing rights (Some y) ≡ []) × Stood rights None (tag_of (Some x)) (tag_of (Some y))

-- The value of a case takes the type of the tag, with which it is compared; equal constants are accepted.
abbrev pub CaseKept : Type 0
CaseKept = (rights : Rights) (a b : Stands) (t : TypeTree) (x y : Part) → Stood rights None a b → own_type a ≡ Some t → Operand rights (Some t) x y → case_failing rights a x ≡ [] → case_failing rights b y ≡ []

-- ---- values that are given to variables

-- each value takes the type of its variable, or its default type; so does one for which there is no variable
pub data AllGiven (rights : Rights) : Wanted → List Part → List Part → Type 0 where
  none_given : (ts : Wanted) → AllGiven rights ts [] []
  spare_given : (x y : Part) (xs ys : List Part) → Operand rights (given_type None x) x y → AllGiven rights [] xs ys → AllGiven rights [] (x ∷ xs) (y ∷ ys)
  next_given : (t : Option TypeTree) (ts : Wanted) (x y : Part) (xs ys : List Part) → Operand rights (given_type t x) x y → AllGiven rights ts xs ys → AllGiven rights (t ∷ ts) (x ∷ xs) (y ∷ ys)

-- As many values as variables are given to these, or one call's results.
abbrev pub ValuesKept : Type 0
ValuesKept = (rights : Rights) (i j : ℕ) (ts : Wanted) (xs ys : List Part) → AllGiven rights ts xs ys → assignment_failing rights i j ts xs ≡ [] → assignment_failing rights i j ts ys ≡ []

-- ---- range clauses

-- targets that have their types still, and are targets still
pub data Targets (rights : Rights) : List Part → List Part → Type 0 where
  no_target : Targets rights [] []
  a_target : (t u : Part) (ts us : List Part) → target_type u ≡ target_type t → (not_a_target rights t ≡ [] → not_a_target rights u ≡ []) → Targets rights ts us → Targets rights (t ∷ ts) (u ∷ us)

-- The type that the value of a range clause takes: an untyped integer constant that of the first target, if it has one, and all else its
-- default type.
abbrev pub ranged_type : List Part → Part → Option TypeTree
ranged_type ts x = if is_open_number (sort_of x) then given_type (number_target ts) x else given_type None x

-- Where its numbers don't have the type of a target, the value has the values that it had.
abbrev pub RangeKept : Type 0
RangeKept = (rights : Rights) (i j : ℕ) (defines : Bool) (ts us : List Part) (x y : Part) (xs ys : List Part) → Targets rights ts us → Operand rights (ranged_type ts x) x y
    → range_failing rights i j defines ts (x ∷ xs) ≡ [] → (range_failing rights i j defines us (y ∷ ys) ≡ []) × (number_target ts ≡ None → range_types rights y ≡ range_types rights x)
