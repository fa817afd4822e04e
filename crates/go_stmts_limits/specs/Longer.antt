-- Types whose array types are counted by the right sides of some declared types.
use Rattle.std.specs.Prelude.{◌≡◌, ℕ, Some}
use Rattle.go_types.specs.Trees.{TypeTree, TypeRow, boolean, text, integer, array, slice, structure, function, declared, none, more}
use Rattle.go_types.specs.Relations.{Rights}
use Rattle.go_types_relations.specs.Sizes.{scalars_of}

abbrev mutual
  -- the right sides tell how many scalars the elements of each array type have
  pub IsCounted : Rights → TypeTree → Type 0
  IsCounted rights boolean = Unit {0}
  IsCounted rights text = Unit {0}
  IsCounted rights (integer k) = Unit {0}
  IsCounted rights (array n t) = ((k : ℕ) × (scalars_of rights t ≡ Some k)) × IsCounted rights t
  IsCounted rights (slice t) = IsCounted rights t
  IsCounted rights (structure ns ts) = RowIsCounted rights ts
  IsCounted rights (function ps rs) = RowIsCounted rights ps × RowIsCounted rights rs
  IsCounted rights (declared n) = Unit {0}

  pub RowIsCounted : Rights → TypeRow → Type 0
  RowIsCounted rights none = Unit {0}
  RowIsCounted rights (more t ts) = IsCounted rights t × RowIsCounted rights ts
