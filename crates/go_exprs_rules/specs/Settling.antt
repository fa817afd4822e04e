-- What an expression takes of its place, and what its place refuses.
--
-- An expression is untyped where it holds untyped operands. Where it takes a type, so do these: a node settles at once those
-- operands that its own type doesn't reach. `nil` takes a type as untyped values do, but has no default type.
use Rattle.std.specs.Prelude.{ℕ, if◌then◌else◌, List, [], ◌++◌, Option, Some, None}
use Rattle.go_base.specs.declared.fault.FaultCode.{FaultCode}
use Rattle.go_base.specs.declared.fault.FaultCode.TheVariants as code
use Rattle.go_constants.specs.declared.values.Const.{Const}
use Rattle.go_types.specs.Trees.{TypeTree}
use Rattle.go_types.specs.Relations.{Rights}
use Rattle.go_types_relations.specs.Tests.{underlying_of, is_assignable}
use Rattle.go_exprs_rules.specs.declared.fault.TypeFault.{TypeFault}
use Rattle.go_exprs_rules.specs.declared.family.OpenKind.{OpenKind}
use Rattle.go_exprs_rules.specs.Faults.{fault_at}
use Rattle.go_typed.specs.Trees.{Label, Typed, typed, Typeds, none, more, skip, sort_of}
use Rattle.go_typed.specs.Trees as sort
use Rattle.go_exprs_rules.specs.Sorts.{Stands, is_open, takes_type, open_kind, is_constant, constant_of, retyped, represents, default_type, suits, has_nil}

-- a typed node
abbrev pub Part : Type 0
Part = Typed TypeTree

-- a rule that fails at the place of a node
abbrev pub at_part : FaultCode → Part → List TypeFault
at_part c (typed f i j l ps) = fault_at c i j

abbrev mutual
  -- an untyped value, and its untyped operands, take the type t; so does `nil`, in parentheses too
  pub settled : TypeTree → Part → Part
  settled t (typed f i j l ps) = if takes_type l.sort then typed f i j (record l { sort = retyped t l.sort }) (all_settled t ps) else typed f i j l ps

  pub all_settled : TypeTree → Typeds TypeTree → Typeds TypeTree
  all_settled t none = none
  all_settled t (more p ps) = more (settled t p) (all_settled t ps)
  all_settled t (skip ps) = skip (all_settled t ps)

abbrev pub unrepresented_constant : Rights → TypeTree → ℕ → ℕ → Option Const → List TypeFault
unrepresented_constant rights t i j (Some c) = if represents rights t c then [] else fault_at code.Representable i j
unrepresented_constant rights t i j None = []

abbrev mutual
  -- the untyped constants in x that t, which is of their kind, doesn't represent, where x takes t
  pub unrepresented : Rights → TypeTree → Part → List TypeFault
  unrepresented rights t (typed f i j l ps) = if is_open l.sort then (if is_constant l.sort then unrepresented_constant rights t i j (constant_of l.sort) else all_unrepresented rights t ps) else []

  pub all_unrepresented : Rights → TypeTree → Typeds TypeTree → List TypeFault
  all_unrepresented rights t none = []
  all_unrepresented rights t (more p ps) = unrepresented rights t p ++ all_unrepresented rights t ps
  all_unrepresented rights t (skip ps) = all_unrepresented rights t ps

-- what an operand takes of its place: nothing yet, its default type, or a type
pub data Take : Type 0 where
  stay : Take
  default : Take
  as_type : TypeTree → Take

abbrev pub defaulted : Option OpenKind → Part → Part
defaulted (Some k) x = settled (default_type k) x
defaulted None x = x

abbrev pub given : Take → Part → Part
given stay x = x
given default x = defaulted (open_kind (sort_of x)) x
given (as_type t) x = settled t x

-- the constants in x that its default type doesn't represent
abbrev pub undefaulted_by : Rights → Option OpenKind → Part → List TypeFault
undefaulted_by rights (Some k) x = unrepresented rights (default_type k) x
undefaulted_by rights None x = []

abbrev pub undefaulted : Rights → Part → List TypeFault
undefaulted rights x = undefaulted_by rights (open_kind (sort_of x)) x

abbrev pub untyped_unassignable : Rights → TypeTree → Option OpenKind → Part → List TypeFault
untyped_unassignable rights t (Some k) x = if suits rights k t then unrepresented rights t x else at_part code.Assignable x
untyped_unassignable rights t None x = at_part code.Assignable x

-- A value of this sort is given to a variable of the type t (Go specification, "Assignability").
abbrev pub unassignable_by : Rights → TypeTree → Stands → Part → List TypeFault
unassignable_by rights t sort.Unknown x = []
unassignable_by rights t (sort.Value u) x = if is_assignable rights u t then [] else at_part code.Assignable x
unassignable_by rights t (sort.Constant u c) x = if is_assignable rights u t then [] else at_part code.Assignable x
unassignable_by rights t sort.Nil x = if has_nil (underlying_of rights t) then [] else at_part code.Assignable x
unassignable_by rights t s x = untyped_unassignable rights t (open_kind s) x

abbrev pub unassignable : Rights → TypeTree → Part → List TypeFault
unassignable rights t x = unassignable_by rights t (sort_of x) x
