-- What statements are told: what is known where they begin.
use Rattle.std.specs.Prelude.{ℕ, zero, suc, List, [], ◌∷◌, Option, Some, None, slice_get}
use Rattle.go_grammar.specs.Trees.{Tree}
use Rattle.go_tree.specs.declared.object.Object.{Object}
use Rattle.go_tree.specs.declared.object.Object.TheVariants as object
use Rattle.go_types.specs.Trees.{TypeTree}
use Rattle.go_types.specs.Relations.{Rights}
use Rattle.go_typed.specs.Trees as sort
use Rattle.go_exprs_rules.specs.Sorts.{Stands, own_type}
use Rattle.go_exprs_rules.specs.Scopes.{Needed, Scope}

-- What the locals stand for that are declared so far, by their numbers
abbrev pub Locals : Type 0
Locals = List (Option Stands)

pub record Frame : Type 0 where
  -- around the function: right sides, what tokens say and mean, and what the objects of the package stand for
  pub around : Scope
  pub locals : Locals
  -- the number of the declared type that a local is
  pub types : ℕ → ℕ
  -- the type and the values that a specification of constants without any repeats
  pub source : Option Tree
  -- the tag of the innermost switch
  pub tag : Stands
  -- the results of the function
  pub results : List TypeTree

-- a local that isn't declared so far stands for nothing known
abbrev pub known : Option (Option Stands) → Stands
known (Some (Some x)) = x
known x = sort.Unknown

abbrev pub local_stands : Locals → ℕ → Stands
local_stands ls n = known (slice_get ls n)

abbrev pub looked_up : Locals → (Needed → Object → Stands) → Needed → Object → Stands
looked_up ls others need (object.Local f n) = local_stands ls n
looked_up ls others need o = others need o

-- the scope of an expression
abbrev pub scope_of : Frame → Scope
scope_of s = record (s.around) { sorts = looked_up s.locals s.around.sorts }

abbrev pub rights_of : Frame → Rights
rights_of s = s.around.rights

-- ---- declarations

-- the list with x as the element of this number, if it is as long
abbrev pub placed : {A : Type 0} → ℕ → A → List A → List A
placed n x [] = []
placed zero x (y ∷ ys) = x ∷ ys
placed (suc n) x (y ∷ ys) = y ∷ placed n x ys

abbrev pub with_local : ℕ → Stands → Frame → Frame
with_local n x s = record s { locals = placed n (Some x) s.locals }

abbrev pub with_right : ℕ → Option TypeTree → Frame → Frame
with_right n t s = record s { around = record (s.around) { rights = placed n t s.around.rights } }

-- the same of a name that has a number
abbrev pub with_own_right : Option ℕ → Option TypeTree → Frame → Frame
with_own_right (Some n) t s = with_right n t s
with_own_right None t s = s

abbrev pub with_iota : ℕ → Frame → Frame
with_iota n s = record s { around = record (s.around) { iota = n } }

-- the type of a local that is declared already
abbrev pub declared_type : Locals → ℕ → Option TypeTree
declared_type ls n = own_type (local_stands ls n)
