-- The holes of a typed tree have final types.
use Rattle.std.specs.Prelude.{◌≡◌, Bool, true, false}
use Rattle.go_constants.specs.declared.values.Const.{Const}
use Rattle.go_types.specs.Trees.{TypeTree}
use Rattle.go_typed.specs.Trees.{Constant, typed, Typeds, none, more, skip}
use Rattle.go_exprs_rules.specs.Settling.{Part}
use Rattle.go_exprs_rules.specs.Sorts.{Stands}
use Rattle.clone_window.specs.Masses.{is_hole, is_inside}

-- a constant of a type
abbrev pub IsTyped : Stands → Type 0
IsTyped s = (t : TypeTree) × (c : Const) × (s ≡ Constant t c)

abbrev pub TypedOr : Bool → Stands → Type 0 → Type 0
TypedOr true s rest = IsTyped s
TypedOr false s rest = rest

abbrev mutual
  -- The holes of a tree, which may stand inside a constant expression, are constants of types.
  pub HolesTyped : Bool → Part → Type 0
  HolesTyped inside (typed f i j l ps) = TypedOr (is_hole inside f l) l.sort (AllHolesTyped (is_inside inside f l) ps)

  pub AllHolesTyped : Bool → Typeds TypeTree → Type 0
  AllHolesTyped inside none = Unit {0}
  AllHolesTyped inside (more p ps) = HolesTyped inside p × AllHolesTyped inside ps
  AllHolesTyped inside (skip ps) = AllHolesTyped inside ps
