-- What a node is told: the scope, and by the node above it.
use Rattle.std.specs.Prelude.{ℕ, Bool, List, Option}
use Rattle.go_tree.specs.declared.object.Object.{Object}
use Rattle.go_types.specs.Trees.{TypeTree}
use Rattle.go_types.specs.Relations.{Rights}
use Rattle.go_typed.specs.declared.form.Referent.{Referent}
use Rattle.go_exprs_rules.specs.Sorts.{Stands}

-- How a declaration needs what its names mean: with all that the types named need in turn; in the right side of a type, as it
-- is declared alone; or there in a slice's element or a function type, where nothing is needed but that it is declared.
pub data Needed : Type 0 where
  in_full : Needed
  at_once : Needed
  loosely : Needed

pub record Scope : Type 0 where
  -- the right sides of the declared types
  pub rights : Rights
  pub iota : ℕ
  -- what each token says: the bytes of a name or an integer, the characters of a rune or string literal
  pub texts : ℕ → List ℕ
  pub characters : ℕ → List ℕ
  -- what each token means
  pub objects : ℕ → Option Object
  -- what the objects stand for that are declared, where they are needed so
  pub sorts : Needed → Object → Stands
  -- the numbers of the objects of the package
  pub referents : ℕ → Referent
  pub needed : Needed
  -- whether the limit on scalars is judged
  pub limits : Bool

-- what a part is told by its node
pub data Hint : Type 0 where
  value : Hint
  -- a whole right side, which may be a call of several results
  several : Hint
  type_place : Hint
  -- a type's place in a slice's element or a function type
  loose : Hint
  -- inside parentheses, which are judged as a whole
  inside : Hint
  -- inside parentheses where one value is wanted: a call of several results is judged itself
  one_inside : Hint
  loose_inside : Hint
  callee : Hint
  statement : Hint
  target : Hint
  declares : Hint
  free : Hint
  -- an element of a literal: of an array or slice with this type of elements, of this struct type, or of no such type
  element : TypeTree → Hint
  member : TypeTree → Hint
  elided : Hint
