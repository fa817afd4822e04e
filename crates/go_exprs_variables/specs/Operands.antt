-- Operands with variables in them, in the rules that ask for a constant.
use Rattle.std.specs.Prelude.{◌≡◌, false, List, [], ◌∷◌, Option, Some, None}
use Rattle.go_types.specs.Trees.{TypeTree, TypeRow}
use Rattle.go_types.specs.Trees as types
use Rattle.go_types.specs.Relations.{Rights}
use Rattle.go_typed.specs.Trees.{sort_of, parts_of}
use Rattle.go_exprs_rules.specs.Literals.{key_of, is_keyed, keyed_type, first_part}
use Rattle.go_exprs_rules.specs.Operators.{Common, in_type, in_kind}
use Rattle.go_exprs_rules.specs.Settling.{Part, Take, stay, as_type, unrepresented}
use Rattle.go_exprs_rules.specs.Sorts.{Stands, is_constant, is_unknown, int}
use Rattle.go_exprs_variables.specs.Stood.{Stood, taken}

-- An operand of which the constants were in range has them in range still. The argument o is the type that it takes, if it takes one.
pub record Operand (rights : Rights) (o : Option TypeTree) (x y : Part) : Type 0 where
  pub stands : Stood rights o (sort_of x) (sort_of y)
  pub range : (t : TypeTree) → unrepresented rights t x ≡ [] → unrepresented rights t y ≡ []

-- the operation stands for a known value that isn't constant
pub record IsValue (x : Stands) : Type 0 where
  pub constant : is_constant x ≡ false
  pub known : is_unknown x ≡ false

-- what operands take that meet there, where they aren't both constant
abbrev pub meeting_take : Common → Take
meeting_take (in_type t) = as_type t
meeting_take (in_kind k) = stay

-- Operands x and y that meet in c, and z and v in their places, under a node that takes the type u, if it takes one.
pub record Both (rights : Rights) (u : Option TypeTree) (c : Common) (x y z v : Part) : Type 0 where
  pub left : Operand rights (taken (meeting_take c) u (sort_of x)) x z
  pub right : Operand rights (taken (meeting_take c) u (sort_of y)) y v
  pub later : (t : TypeTree) → u ≡ Some t → (unrepresented rights t x ≡ []) × (unrepresented rights t y ≡ [])

-- a bound that may be left out
pub data Bounded (rights : Rights) : Option Part → Option Part → Type 0 where
  no_bound : Bounded rights None None
  a_bound : (x y : Part) → Operand rights (Some int) x y → Bounded rights (Some x) (Some y)

-- arguments that each take this type
pub data Operands (rights : Rights) (t : TypeTree) : List Part → List Part → Type 0 where
  no_operand : Operands rights t [] []
  an_operand : (x y : Part) (xs ys : List Part) → Operand rights (Some t) x y → Operands rights t xs ys → Operands rights t (x ∷ xs) (y ∷ ys)

-- elements that each take this type; one with a key has one still
pub data Alike (rights : Rights) (t : TypeTree) : List Part → List Part → Type 0 where
  none_alike : Alike rights t [] []
  one_alike : (x y : Part) (xs ys : List Part) → is_keyed y ≡ is_keyed x → Operand rights (Some t) x y → Alike rights t xs ys → Alike rights t (x ∷ xs) (y ∷ ys)

-- values that each take the type at their place
pub data InOrder (rights : Rights) : TypeRow → List Part → List Part → Type 0 where
  none_in_order : (ts : TypeRow) → InOrder rights ts [] []
  next_in_order : (t : TypeTree) (ts : TypeRow) (x y : Part) (xs ys : List Part) → Operand rights (Some t) x y → InOrder rights ts xs ys → InOrder rights (types.more t ts) (x ∷ xs) (y ∷ ys)

-- An element with a key keeps it, and its value takes the type of the field of that key.
pub data Keyed (rights : Rights) (ts : TypeRow) : List Part → List Part → Type 0 where
  none_keyed : Keyed rights ts [] []
  one_keyed : (t : TypeTree) (x y v u : Part) (xs ys : List Part) → key_of y ≡ key_of x → keyed_type ts (key_of x) ≡ Some t → first_part (parts_of x) ≡ Some v → first_part (parts_of y) ≡ Some u
      → Operand rights (Some t) v u → Keyed rights ts xs ys
      → Keyed rights ts (x ∷ xs) (y ∷ ys)
