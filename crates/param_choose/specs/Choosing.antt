-- The parameters and the results of windows that are the same, of which the first is the template.
use Rattle.std.specs.Prelude.{ℕ, suc, ◌+◌, Bool, ◌||◌, if◌then◌else◌, List, [], ◌∷◌, ◌++◌, Option, Some, None}
use Rattle.std.specs.List.{list_any}
use Rattle.go_types.specs.Trees.{TypeTree}
use Rattle.go_typed.specs.declared.window.Window.{Window}
use Rattle.go_typed.specs.Contents.{Content}
use Rattle.go_typed.specs.Trees.{Sort, Constant}
use Rattle.param_choose.specs.Members.{Member, members_of, template_of, occurs_later, local_at}
use Rattle.param_choose.specs.Locals.{Variable, variables_where, is_array, free_locals, assigned_of, declared_names}
use Rattle.param_choose.specs.Holes.{Hole, holes, hole_value, differs_at, names_outer}

-- ---- parameters: the free locals, then holes

-- A hole that is a parameter: its number among the holes, which is that of the hole at its place in each member, its number among
-- the nodes of the function, itself, and its type.
pub record HoleParameter (T : Type 0) : Type 0 where
  pub number : ℕ
  pub node : ℕ
  pub hole : Hole T
  pub type : T

-- The final type of a hole; in a function that type-checks each has one.
abbrev pub type_in : {T : Type 0} → Sort T → Option T
type_in (Constant t v) = Some t
type_in s = None

abbrev pub parameter_with : {T : Type 0} → ℕ → ℕ → Hole T → Option T → List (HoleParameter T)
parameter_with start n h None = []
parameter_with start n h (Some t) = record { number = n; node = start + h.node; hole = h; type = t } ∷ []

abbrev pub parameter_of : {T : Type 0} → ℕ → ℕ → Hole T → List (HoleParameter T)
parameter_of start n h = parameter_with start n h (type_in h.sort)

abbrev pub is_parameter : {T : Type 0} → List (Member T) → Member T → ℕ → Hole T → Bool
is_parameter ms t n h = list_any (differs_at (hole_value h) n) ms || names_outer t h

-- those of the holes that are parameters, the first of which has the number n
abbrev pub parameters_from : {T : Type 0} → List (Member T) → Member T → ℕ → List (Hole T) → List (HoleParameter T)
parameters_from ms t n [] = []
parameters_from ms t n (h ∷ hs) = (if is_parameter ms t n h then parameter_of t.start n h else []) ++ parameters_from ms t (suc n) hs

-- The template's holes that are parameters: those whose values differ among the members, and those that name a constant or a type
-- of its function that is declared outside the window.
abbrev pub hole_parameters : {T : Type 0} → List (Member T) → Member T → List (HoleParameter T)
hole_parameters ms t = parameters_from ms t 0 (holes t)

-- ---- results: the assigned free locals, then declared variables that occur later in some member

abbrev pub is_needed : {T : Type 0} → List (Member T) → Member T → ℕ → Bool
is_needed ms t n = list_any (λ m. occurs_later m (local_at t m n)) ms

abbrev pub declared_results : {T : Type 0} → List (Member T) → Member T → List (Variable T)
declared_results ms t = variables_where t.locals (is_needed ms t) (declared_names t)

-- ---- all of it

-- By numbers of the template: its free locals, its holes that are parameters, its assigned results, its declared results.
pub record Choice (T : Type 0) : Type 0 where
  pub free : List (Variable T)
  pub holes : List (HoleParameter T)
  pub assigned : List (Variable T)
  pub declared : List (Variable T)

abbrev pub choice : {T : Type 0} → (Sort T → Bool) → List (Member T) → Member T → Choice T
choice array ms t = record { free = free_locals t; holes = hole_parameters ms t; assigned = assigned_of array t (free_locals t); declared = declared_results ms t }

-- of members, one of which is the template; without one there is nothing
abbrev pub chosen_in : {T : Type 0} → (Sort T → Bool) → Option (Member T) → List (Member T) → Choice T
chosen_in array None ms = record { free = []; holes = []; assigned = []; declared = [] }
chosen_in array (Some t) ms = choice array ms t

-- of windows of a package, the first of which is the template
abbrev pub chosen_of : Content → List Window → Choice TypeTree
chosen_of c ws = chosen_in (is_array c.rights) (template_of c ws) (members_of c ws)
