-- What a node stands for where variables stand in place of constants below it.
use Rattle.std.specs.Prelude.{◌≡◌, true, Option, Some}
use Rattle.std.specs.Option.{option_map}
use Rattle.go_constants.specs.declared.values.Const.{Const}
use Rattle.go_types.specs.Trees.{TypeTree}
use Rattle.go_types.specs.Relations.{Rights}
use Rattle.go_typed.specs.Trees.{Value, Constant}
use Rattle.go_exprs_rules.specs.declared.family.OpenKind.{OpenKind}
use Rattle.go_exprs_rules.specs.Sorts.{Stands, open_kind, suits, default_type}
use Rattle.go_exprs_rules.specs.Settling.{Take, stay, default, as_type}

-- A node stands for the same, or for a value in place of a constant of its type, or, in place of what is untyped and takes a type of
-- its kind from here on, for a value of that type. The argument o is the type that an untyped node takes from here on, if it takes one.
pub data Stood (rights : Rights) : Option TypeTree → Stands → Stands → Type 0 where
  as_before : (o : Option TypeTree) (a : Stands) → Stood rights o a a
  in_place : (o : Option TypeTree) (t : TypeTree) (v : Const) → Stood rights o (Constant t v) (Value t)
  early : (t : TypeTree) (a : Stands) (k : OpenKind) → open_kind a ≡ Some k → suits rights k t ≡ true → Stood rights (Some t) a (Value t)

-- the type that an operand takes of its node, which takes the type o itself
abbrev pub taken : Take → Option TypeTree → Stands → Option TypeTree
taken stay o a = o
taken default o a = option_map default_type (open_kind a)
taken (as_type t) o a = Some t
