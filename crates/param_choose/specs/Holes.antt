-- The holes of a window: constants that name no variable, as large as can be.
use Rattle.std.specs.Prelude.{ℕ, suc, ◌+◌, ◌-◌, ◌&&◌, Bool, true, false, not, nat_lt, if◌then◌else◌, List, [], ◌∷◌, ◌++◌, map, Option, Some, None, slice_get}
use Rattle.std.specs.List.{list_any}
use Rattle.go_constants.specs.declared.values.Const.{Const}
use Rattle.go_typed.specs.declared.walk.LocalUse.{LocalUse}
use Rattle.go_typed.specs.Funcs.{size, sizes}
use Rattle.go_typed.specs.Trees.{Sort, Constant, Typed, typed, Typeds, none, more, skip}
use Rattle.go_typed.specs.Windows.{uses_from}
use Rattle.clone_window.specs.Masses.{is_hole, is_inside}
use Rattle.clone_window.specs.Sameness.{standing, sort_at, same_value, value_of}
use Rattle.param_choose.specs.Members.{Member, is_declared_inside}

-- A hole: its number among the nodes of its window, its tokens, and what it stands for.
pub record Hole (T : Type 0) : Type 0 where
  pub node : ℕ
  pub from : ℕ
  pub upto : ℕ
  pub sort : Sort T

abbrev mutual
  -- the holes of a tree, whose node has the number k; it may stand inside a constant expression
  pub holes_in : {T : Type 0} → ℕ → Bool → Typed T → List (Hole T)
  holes_in k a (typed f i j l ps) = if is_hole a f l then record { node = k; from = i; upto = j; sort = l.sort } ∷ [] else holes_among (suc k) (is_inside a f l) ps

  -- those of a row of parts, the first of which has the number k
  pub holes_among : {T : Type 0} → ℕ → Bool → Typeds T → List (Hole T)
  holes_among k a none = []
  holes_among k a (more p ps) = holes_in k a p ++ holes_among (k + size p) a ps
  holes_among k a (skip ps) = holes_among k a ps

-- Those of a window's statements, in order of place; the numbers of nodes are counted from its first statement.
abbrev pub holes : {T : Type 0} → Member T → List (Hole T)
holes m = holes_among 0 false m.statements

abbrev pub hole_value : {T : Type 0} → Hole T → Option Const
hole_value h = value_of h.sort

abbrev pub hole_values : {T : Type 0} → List (Hole T) → List (Option Const)
hole_values hs = map hole_value hs

-- ---- which holes are parameters

abbrev pub differ : Option Const → Option Const → Bool
differ (Some a) (Some b) = not (same_value a b)
differ a b = false

abbrev pub differs_from : {T : Type 0} → Option Const → Option (Hole T) → Bool
differs_from v None = false
differs_from v (Some h) = differ v (hole_value h)

-- whether the hole of some number has another value in a member
abbrev pub differs_at : {T : Type 0} → Option Const → ℕ → Member T → Bool
differs_at v n m = differs_from v (slice_get (holes m) n)

-- a constant or a type
abbrev pub is_fixed : {T : Type 0} → Member T → ℕ → Bool
is_fixed m n = nat_lt 1 (standing (sort_at m.locals n))

-- a name of a constant or of a type of the function, which is declared outside the window
abbrev pub is_outer : {T : Type 0} → Member T → LocalUse → Bool
is_outer m u = is_fixed m u.local && not (is_declared_inside m u.local)

-- whether one is named in the hole
abbrev pub names_outer : {T : Type 0} → Member T → Hole T → Bool
names_outer m h = list_any (is_outer m) (uses_from m.tokens h.from (h.upto - h.from))
