-- The locals of a window: those that are free in it, those that it assigns, and those that it declares.
use Rattle.std.specs.Prelude.{ℕ, zero, suc, Bool, true, false, not, nat_eq, if◌then◌else◌, List, [], ◌∷◌, ◌++◌, map, Option, Some, None}
use Rattle.std.specs.List.{list_any}
use Rattle.std.specs.Option.{option_to_list}
use Rattle.go_types.specs.Relations.{Rights}
use Rattle.go_types.specs.Trees.{TypeTree, array}
use Rattle.go_types_relations.specs.Tests.{underlying_of}
use Rattle.go_typed.specs.declared.form.Form.{Form}
use Rattle.go_typed.specs.declared.form.Form.TheVariants as form
use Rattle.go_typed.specs.declared.walk.LocalUse.{LocalUse}
use Rattle.go_typed.specs.Trees.{Sort, Value, Typed, typed, Typeds, none, more, skip}
use Rattle.clone_window.specs.Fields.{operand}
use Rattle.clone_window.specs.Sameness.{sort_at}
use Rattle.param_choose.specs.Members.{Member, uses_within, is_declared_inside}

-- a local that is a variable or a parameter, and its type
pub record Variable (T : Type 0) : Type 0 where
  pub local : ℕ
  pub type : T

abbrev pub variable_of : {T : Type 0} → ℕ → Sort T → List (Variable T)
variable_of n (Value t) = record { local = n; type = t } ∷ []
variable_of n s = []

-- the local of this number, if it is a variable
abbrev pub variable_at : {T : Type 0} → List (Sort T) → ℕ → List (Variable T)
variable_at sorts n = variable_of n (sort_at sorts n)

-- the variables among some locals that pass a test
abbrev pub variables_where : {T : Type 0} → List (Sort T) → (ℕ → Bool) → List ℕ → List (Variable T)
variables_where sorts test [] = []
variables_where sorts test (n ∷ ns) = (if test n then variable_at sorts n else []) ++ variables_where sorts test ns

-- ---- free locals

abbrev pub has : List ℕ → ℕ → Bool
has ns n = list_any (nat_eq n) ns

-- each number once, at its first place, but for those that were there before
abbrev pub once : List ℕ → List ℕ → List ℕ
once ns [] = []
once ns (k ∷ ks) = if has ns k then once ns ks else k ∷ once (ns ++ k ∷ []) ks

abbrev pub each_local : List LocalUse → List ℕ
each_local us = map (λ u. u.local) us

abbrev pub is_outside : {T : Type 0} → Member T → ℕ → Bool
is_outside m n = not (is_declared_inside m n)

-- Variables and parameters that are declared outside the window and occur in it, by first occurrence.
abbrev pub free_locals : {T : Type 0} → Member T → List (Variable T)
free_locals m = variables_where m.locals (is_outside m) (once [] (each_local (uses_within m)))

-- ---- assigned locals

abbrev pub is_array_type : Option TypeTree → Bool
is_array_type (Some (array n e)) = true
is_array_type t = false

-- whether a value of this sort is an array, whose elements are parts of the variable that it is a part of
abbrev pub is_array : Rights → Sort TypeTree → Bool
is_array rights (Value t) = is_array_type (underlying_of rights t)
is_array rights s = false

-- whether it is a value that is no constant
abbrev pub is_value : {T : Type 0} → Sort T → Bool
is_value (Value t) = true
is_value s = false

-- The variable that a node is by itself, if it is a value, or of which it is a part because its first part is: in parentheses, a
-- field, or an element if the first part is an array.
abbrev pub root_by : Form → Bool → Bool → Option ℕ → Option ℕ
root_by (form.Local n) value holds r = if value then Some n else None
root_by form.Parenthesized value holds r = r
root_by (form.Selector n) value holds r = r
root_by form.Index value holds r = if holds then r else None
root_by f value holds r = None

abbrev mutual
  -- the local of which a node is a part, through array elements, fields and parentheses (Go specification: Assignment statements)
  pub root : {T : Type 0} → (Sort T → Bool) → Typed T → Option ℕ
  root holds (typed f i j l ps) = root_by f (is_value l.sort) (holds (operand ps)) (first_root holds ps)

  pub first_root : {T : Type 0} → (Sort T → Bool) → Typeds T → Option ℕ
  first_root holds none = None
  first_root holds (more p ps) = root holds p
  first_root holds (skip ps) = None

-- the roots of the first n parts
abbrev pub roots : {T : Type 0} → (Sort T → Bool) → ℕ → Typeds T → List ℕ
roots holds n none = []
roots holds zero (more p ps) = []
roots holds zero (skip ps) = []
roots holds (suc n) (more p ps) = option_to_list (root holds p) ++ roots holds n ps
roots holds (suc n) (skip ps) = roots holds n ps

-- How many of the first parts of a node are assigned; of a `:=` those that it declares have no root.
abbrev pub left_sides : Form → ℕ
left_sides (form.Assign n) = n
left_sides (form.Operate o) = 1
left_sides (form.Step s) = 1
left_sides (form.Define n) = n
left_sides (form.Range false n) = n
left_sides f = 0

abbrev mutual
  -- the locals that a statement assigns, with the statements inside it
  pub assigned_in : {T : Type 0} → (Sort T → Bool) → Typed T → List ℕ
  assigned_in holds (typed f i j l ps) = roots holds (left_sides f) ps ++ assigned_among holds ps

  pub assigned_among : {T : Type 0} → (Sort T → Bool) → Typeds T → List ℕ
  assigned_among holds none = []
  assigned_among holds (more p ps) = assigned_in holds p ++ assigned_among holds ps
  assigned_among holds (skip ps) = assigned_among holds ps

-- those of some variables whose locals pass a test
abbrev pub only : {T : Type 0} → (ℕ → Bool) → List (Variable T) → List (Variable T)
only test [] = []
only test (v ∷ vs) = (if test v.local then v ∷ [] else []) ++ only test vs

-- those of some variables that the window assigns
abbrev pub assigned_of : {T : Type 0} → (Sort T → Bool) → Member T → List (Variable T) → List (Variable T)
assigned_of holds m vs = only (has (assigned_among holds m.statements)) vs

-- ---- declared names

abbrev pub new_local : Form → List ℕ
new_local (form.New n) = n ∷ []
new_local (form.Declared n) = n ∷ []
new_local f = []

-- the local that a node declares, if it does so itself
abbrev pub new_in : {T : Type 0} → Typed T → List ℕ
new_in (typed f i j l ps) = new_local f

-- the locals that parts declare, as they stand there
abbrev pub names_among : {T : Type 0} → Typeds T → List ℕ
names_among none = []
names_among (more p ps) = new_in p ++ names_among ps
names_among (skip ps) = names_among ps

abbrev pub names_in : {T : Type 0} → Typed T → List ℕ
names_in (typed f i j l ps) = names_among ps

-- those of all specifications
abbrev pub names_specified : {T : Type 0} → Typeds T → List ℕ
names_specified none = []
names_specified (more p ps) = names_in p ++ names_specified ps
names_specified (skip ps) = names_specified ps

-- declarations whose parts are the names, with others behind them
abbrev pub holds_names : Form → Bool
holds_names (form.Define n) = true
holds_names form.Constants = true
holds_names form.TypeNames = true
holds_names f = false

-- declarations whose parts are specifications
abbrev pub holds_specifications : Form → Bool
holds_specifications form.Variables = true
holds_specifications f = false

-- what a statement declares in the block of its list
abbrev pub names_of : {T : Type 0} → Typed T → List ℕ
names_of (typed f i j l ps) = if holds_specifications f then names_specified ps else (if holds_names f then names_among ps else [])

abbrev pub names_declared : {T : Type 0} → Typeds T → List ℕ
names_declared none = []
names_declared (more p ps) = names_of p ++ names_declared ps
names_declared (skip ps) = names_declared ps

-- What the window's own statements declare, in order.
abbrev pub declared_names : {T : Type 0} → Member T → List ℕ
declared_names m = names_declared m.statements
