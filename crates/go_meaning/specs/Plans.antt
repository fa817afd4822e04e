-- What a node does by itself, apart from its parts: all that its types tell is resolved here.
use Rattle.std.specs.Prelude.{ℕ, Bool}
use Rattle.go_types_relations.specs.Zeros.{Zero}
use Rattle.go_meaning.specs.Values.{Value}
use Rattle.go_meaning.specs.Operations.{Operation, Items}

pub data Plan : Type 0 where
  -- a constant, a function's name, nil; its parts aren't run
  Give : Value → Plan
  -- names: of a local, of a package variable, of a local that is declared, and the blank one
  Local : ℕ → Plan
  Variable : ℕ → Plan
  Declare : ℕ → Plan
  Ignore : Plan
  -- all that its first part is
  Inner : Plan
  -- a field, an element of an array of this length, an element of a slice: values, and places where their operands are
  FieldOf : ℕ → Plan
  ElementOf : ℕ → Plan
  CellOf : Plan
  -- the parts from left to right, then the operation on all that they give
  Perform : Operation → Plan
  Both : Plan
  Either : Plan
  -- a call of a function
  Apply : Plan
  -- `x++` and `x op= y`, by the operation
  StepBy : Operation → Plan
  OperateBy : Operation → Plan
  -- the first parts, so many, get what the others give, or each the zero value
  AssignTo : ℕ → Plan
  ZeroTo : ℕ → Zero → Plan
  Skip : Plan
  Returns : Plan
  Breaks : Plan
  Continues : Plan
  Falls : Plan
  Sequence : Plan
  Branch : Plan
  -- a switch: whether there is a tag, and the place of the default clause among the parts
  Select : Bool → ℕ → Plan
  -- a clause with so many expressions, and the default one
  CaseOf : ℕ → Plan
  Otherwise : Plan
  -- a loop over items, with so many parts on its left
  Iterate : ℕ → Items → Plan

-- Only a loop without items does something again.
pub data Course : Type 0 where
  Once : Plan → Course
  -- whether there is a condition
  Loop : Bool → Course
