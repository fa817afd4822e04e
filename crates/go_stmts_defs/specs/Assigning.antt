-- Values that are given to variables: assignments, declarations, returned values (Go specification: Assignment statements,
-- Variable declarations, Short variable declarations, Return statements).
use Rattle.std.specs.Prelude.{ℕ, ◌==◌, if◌then◌else◌, List, [], ◌∷◌, ◌++◌, length, map, Option, Some, None}
use Rattle.go_base.specs.declared.fault.FaultCode.TheVariants as code
use Rattle.go_types.specs.Trees.{TypeTree, TypeRow, none, more}
use Rattle.go_types.specs.Relations.{Rights}
use Rattle.go_types_relations.specs.Tests.{is_assignable, underlying_of}
use Rattle.go_typed.specs.Trees.{sort_of}
use Rattle.go_typed.specs.Trees as sort
use Rattle.go_exprs_rules.specs.declared.fault.TypeFault.{TypeFault}
use Rattle.go_exprs_rules.specs.Faults.{fault_at}
use Rattle.go_exprs_rules.specs.Sorts.{Stands, value_type, is_nil, is_constant}
use Rattle.go_exprs_rules.specs.Settling.{Part, Take, stay, default, as_type, at_part, undefaulted, unassignable}
use Rattle.go_exprs_rules.specs.Calls.{results_of}

-- For each variable its type, or None where it has none yet: it is `_`, or takes its type of the value.
abbrev pub Wanted : Type 0
Wanted = List (Option TypeTree)

abbrev pub types_in : TypeRow → List TypeTree
types_in none = []
types_in (more t ts) = t ∷ types_in ts

-- the results of a call, none or several
abbrev pub called_results : Rights → Stands → Option (List TypeTree)
called_results rights (sort.Results t) = Some (types_in (results_of (underlying_of rights t)))
called_results rights x = None

-- the results of a call that is the whole right side
abbrev pub whole_results : Rights → List Part → Option (List TypeTree)
whole_results rights (x ∷ []) = called_results rights (sort_of x)
whole_results rights xs = None

-- ---- the rules that fail

abbrev pub at_nil : Part → List TypeFault
at_nil x = if is_nil (sort_of x) then at_part code.Operands x else []

-- a value for a variable of this type, or of none: it isn't `nil`, and its default type has it
abbrev pub unassigned : Rights → Option TypeTree → Part → List TypeFault
unassigned rights (Some t) x = unassignable rights t x
unassigned rights None x = if is_nil (sort_of x) then at_part code.Operands x else undefaulted rights x

abbrev pub all_unassigned : Rights → Wanted → List Part → List TypeFault
all_unassigned rights (t ∷ ts) (x ∷ xs) = unassigned rights t x ++ all_unassigned rights ts xs
all_unassigned rights _ _ = []

-- a result of the call x
abbrev pub result_unassigned : Rights → Part → Option TypeTree → TypeTree → List TypeFault
result_unassigned rights x None r = []
result_unassigned rights x (Some t) r = if is_assignable rights r t then [] else at_part code.Assignable x

abbrev pub results_unassigned : Rights → Part → Wanted → List TypeTree → List TypeFault
results_unassigned rights x (t ∷ ts) (r ∷ rs) = result_unassigned rights x t r ++ results_unassigned rights x ts rs
results_unassigned rights x _ _ = []

-- the results of the call that is the only value
abbrev pub call_assigned : Rights → Wanted → List Part → List TypeTree → List TypeFault
call_assigned rights ts (x ∷ xs) rs = results_unassigned rights x ts rs
call_assigned rights ts [] rs = []

abbrev pub assignment_by : Rights → ℕ → ℕ → Wanted → List Part → Option (List TypeTree) → List TypeFault
assignment_by rights i j ts xs (Some rs) = if length ts == length rs then call_assigned rights ts xs rs else fault_at code.Count i j
assignment_by rights i j ts xs None = if length ts == length xs then all_unassigned rights ts xs else fault_at code.Count i j

-- As many values as variables, each assignable, or one call with as many results. The place is from i up to j.
abbrev pub assignment_failing : Rights → ℕ → ℕ → Wanted → List Part → List TypeFault
assignment_failing rights i j ts xs = assignment_by rights i j ts xs (whole_results rights xs)

-- a value of a constant: constant, and of the type, where there is one (Constant declarations)
abbrev pub constant_failing : Rights → Option TypeTree → Part → List TypeFault
constant_failing rights (Some t) x = if is_constant (sort_of x) then unassignable rights t x else at_part code.Operands x
constant_failing rights None x = if is_constant (sort_of x) then [] else at_part code.Operands x

abbrev pub constants_failing : Rights → Option TypeTree → List Part → List TypeFault
constants_failing rights t [] = []
constants_failing rights t (x ∷ xs) = constant_failing rights t x ++ constants_failing rights t xs

-- ---- what names stand for, and what values take

-- What a part takes of its place: a type as an expression does; or what it stands for, of a name that is declared.
pub data Taking : Type 0 where
  takes : Take → Taking
  stands : Stands → Taking

abbrev pub rests : Taking
rests = takes stay

abbrev pub type_or_default : Option TypeTree → Taking
type_or_default (Some t) = takes (as_type t)
type_or_default None = takes default

abbrev pub first_known : Option TypeTree → Option TypeTree → Option TypeTree
first_known (Some t) u = Some t
first_known None u = u

-- a variable of the type, if it has one
abbrev pub variable : Option TypeTree → Stands
variable (Some t) = sort.Value t
variable None = sort.Unknown

-- the types of values: of the results of a call, or of each value
abbrev pub value_types_by : List Part → Option (List TypeTree) → Wanted
value_types_by xs (Some rs) = map (λ r. Some r) rs
value_types_by xs None = map (λ x. value_type (sort_of x)) xs

-- names with these types, where they have one, and else with those of the values
abbrev pub names_take : Wanted → Wanted → List Taking
names_take [] us = []
names_take (t ∷ ts) [] = stands (variable t) ∷ names_take ts []
names_take (t ∷ ts) (u ∷ us) = stands (variable (first_known t u)) ∷ names_take ts us

-- each value takes the type of its variable, or its default type
abbrev pub values_take : Wanted → List Part → List Taking
values_take ts [] = []
values_take [] (x ∷ xs) = takes default ∷ values_take [] xs
values_take (t ∷ ts) (x ∷ xs) = type_or_default t ∷ values_take ts xs

abbrev pub declared_names : Rights → Wanted → List Part → List Taking
declared_names rights ts xs = names_take ts (value_types_by xs (whole_results rights xs))

-- a constant of this value and of the type, where there is one
abbrev pub constant_in : Option TypeTree → Stands → Stands
constant_in None x = if is_constant x then x else sort.Unknown
constant_in (Some t) (sort.Constant u c) = sort.Constant t c
constant_in (Some t) (sort.OpenConstant c) = sort.Constant t c
constant_in (Some t) x = sort.Unknown

-- as many names as there are, each with its value, where there is one
abbrev pub constants_take : {A : Type 0} → Option TypeTree → List A → List Part → List Taking
constants_take t [] xs = []
constants_take t (n ∷ ns) [] = stands sort.Unknown ∷ constants_take t ns []
constants_take t (n ∷ ns) (x ∷ xs) = stands (constant_in t (sort_of x)) ∷ constants_take t ns xs
