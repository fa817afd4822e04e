-- The rules on declarations: which fail in a type, in an expression, at an assignment, and at a specification as a whole.
use Rattle.std.specs.Prelude.{ℕ, zero, suc, ◌==◌, Bool, true, false, ◌&&◌, ◌||◌, not, if◌then◌else◌, max, nat_eq, List, [], ◌∷◌, ◌++◌, length, map, Option, Some, None, slice_get}
use Rattle.std.specs.List.{list_any}
use Rattle.go_base.specs.declared.fault.FaultCode.TheVariants as code
use Rattle.go_grammar.specs.Trees.{Tree}
use Rattle.go_tree.specs.declared.context.Entity.{Entity}
use Rattle.go_tree.specs.declared.context.Entity.TheVariants as entity
use Rattle.go_types.specs.Trees.{TypeTree, declared}
use Rattle.go_types.specs.Relations.{Rights}
use Rattle.go_typed.specs.declared.form.Referent.{Referent}
use Rattle.go_typed.specs.declared.form.Referent.TheVariants as referent
use Rattle.go_typed.specs.Trees.{sort_of}
use Rattle.go_typed.specs.Trees as sort
use Rattle.go_exprs_rules.specs.declared.fault.TypeFault.{TypeFault}
use Rattle.go_exprs_rules.specs.Faults.{fault_at, joined}
use Rattle.go_exprs_rules.specs.Scopes.{Scope, Hint, value, several, type_place, free}
use Rattle.go_exprs_rules.specs.Settling.{Part}
use Rattle.go_exprs_rules.specs.Sorts.{Stands, is_unknown, value_type}
use Rattle.go_exprs_rules.specs.Tables.{no_faults, is_lost}
use Rattle.go_exprs_rules.specs.TypeNodes.{part_type}
use Rattle.go_exprs_rules.specs.Typing.{typing, faults}
use Rattle.go_stmts_defs.specs.Assigning.{called_results, unassigned, result_unassigned, constant_failing, constants_failing, constant_in, first_known, variable}
use Rattle.go_stmts_defs.specs.Rules.{variables_failing}
use Rattle.go_package_defs.specs.Declarations.{Specification, is_alone}
use Rattle.go_package_defs.specs.Sources.{Package, number_before, number_at, needed_at}
use Rattle.go_package_defs.specs.Knowledge.{Outline, State, no_state, state_of, free_scope, told_scope, referent_at}

-- ---- the type and the values of a specification

-- a signature is asked nothing as a whole
abbrev pub type_hint : Entity → Hint
type_hint entity.Function = free
type_hint e = type_place

abbrev pub value_hint : Specification → Hint
value_hint s = if is_alone s then several else value

abbrev pub part_in : Scope → Hint → Option Tree → Option Part
part_in s h None = None
part_in s h (Some t) = Some (typing s h t)

abbrev pub faults_in : Scope → Hint → Option Tree → List TypeFault
faults_in s h None = []
faults_in s h (Some t) = joined (faults s h t)

abbrev pub typed_type : Scope → Specification → Option Part
typed_type s d = part_in s (type_hint d.entity) d.type_tree

abbrev pub type_faults : Scope → Specification → List TypeFault
type_faults s d = faults_in s (type_hint d.entity) d.type_tree

-- the value of the name of this number
abbrev pub own_value : Specification → ℕ → Option Tree
own_value d c = slice_get d.values (if is_alone d then 0 else c)

abbrev pub typed_values : Scope → Specification → List Part
typed_values s d = map (typing s (value_hint d)) d.values

abbrev pub values_faults : Scope → Hint → List Tree → List TypeFault
values_faults s h [] = []
values_faults s h (t ∷ ts) = joined (faults s h t) ++ values_faults s h ts

-- the rules that fail in its type and its expressions
abbrev pub expression_faults : Scope → Specification → List TypeFault
expression_faults s d = type_faults s d ++ values_faults s (value_hint d) d.values

-- ---- a name's own assignment

-- what a name stands for, and the rules that fail at its assignment
pub record Assigned : Type 0 where
  pub stands : Stands
  pub failing : List TypeFault

abbrev pub assigned : Stands → List TypeFault → Assigned
assigned x [] = record { stands = x; failing = [] }
assigned x (f ∷ fs) = record { stands = sort.Unknown; failing = f ∷ fs }

abbrev pub unassigned_name : Assigned
unassigned_name = assigned sort.Unknown []

-- a constant has a value, which is constant and of its type, where it has one
abbrev pub constant_assigned : Rights → Option TypeTree → Option Part → Assigned
constant_assigned rights t None = unassigned_name
constant_assigned rights t (Some x) = assigned (constant_in t (sort_of x)) (constant_failing rights t x)

-- the result of this number of a call that is the value of all names
abbrev pub result_assigned : Rights → Option TypeTree → Part → Option TypeTree → Assigned
result_assigned rights t x None = assigned (variable t) []
result_assigned rights t x (Some r) = assigned (variable (first_known t (Some r))) (result_unassigned rights x t r)

abbrev pub value_assigned : Rights → Option TypeTree → Part → Assigned
value_assigned rights t x = assigned (variable (first_known t (value_type (sort_of x)))) (unassigned rights t x)

-- of one value for several names the first name alone has it
abbrev pub shared_value : Rights → Option TypeTree → Part → Bool → ℕ → Assigned
shared_value rights t x true (suc c) = assigned (variable t) []
shared_value rights t x alone c = value_assigned rights t x

abbrev pub variable_by : Rights → Option TypeTree → Part → Bool → ℕ → Option (List TypeTree) → Assigned
variable_by rights t x alone c (Some rs) = result_assigned rights t x (slice_get rs c)
variable_by rights t x alone c None = shared_value rights t x alone c

abbrev pub variable_assigned : Rights → Option TypeTree → Option Part → Bool → ℕ → Assigned
variable_assigned rights t None alone c = assigned (variable t) []
variable_assigned rights t (Some x) alone c = variable_by rights t x alone c (called_results rights (sort_of x))

-- a function is a value of the type of its signature
abbrev pub function_assigned : Option TypeTree → Assigned
function_assigned (Some t) = assigned (sort.Value t) []
function_assigned None = unassigned_name

-- what a name of this sort stands for, by its type and its value
abbrev pub assigned_as : Entity → Rights → Specification → ℕ → Option TypeTree → Option Part → Assigned
assigned_as entity.Constant rights d c t x = constant_assigned rights t x
assigned_as entity.Function rights d c t x = function_assigned t
assigned_as entity.Type rights d c t x = unassigned_name
assigned_as e rights d c t x = variable_assigned rights t x (is_alone d) c

-- a name is judged where its type and its expression are free of faults
abbrev pub assigned_if : Bool → Assigned → Assigned
assigned_if true a = a
assigned_if false a = unassigned_name

abbrev pub are_judged : List TypeFault → Option Part → Option Part → Bool
are_judged fs t x = no_faults fs && not (is_lost t) && not (is_lost x)

abbrev pub assigned_of : Rights → Specification → ℕ → List TypeFault → Option Part → Option Part → Assigned
assigned_of rights d c fs t x = assigned_if (are_judged fs t x) (assigned_as d.entity rights d c (part_type t) x)

-- ---- rounds

abbrev pub number_of_type : Referent → ℕ
number_of_type (referent.Type k) = k
number_of_type r = 0

-- the declared type that the object of this number is
abbrev pub own_type : Package → ℕ → TypeTree
own_type p n = declared (number_of_type (referent_at p n))

abbrev pub right_found : List TypeFault → Option Part → Option TypeTree
right_found [] t = part_type t
right_found (f ∷ fs) t = None

abbrev pub type_state : TypeTree → Scope → Scope → Specification → State
type_state t told judging d = record { right = right_found (type_faults told d) (typed_type told d); stands = sort.IsType t; faults = type_faults judging d; assigning = [] }

abbrev pub state_with : List TypeFault → Assigned → State
state_with fs a = record { right = None; stands = a.stands; faults = fs; assigning = a.failing }

abbrev pub own_faults : Scope → Specification → ℕ → List TypeFault
own_faults s d c = type_faults s d ++ faults_in s (value_hint d) (own_value d c)

abbrev pub value_state : Scope → Specification → ℕ → List TypeFault → State
value_state s d c fs = state_with fs (assigned_of s.rights d c fs (typed_type s d) (part_in s (value_hint d) (own_value d c)))

abbrev pub state_by : Entity → Package → List Outline → List State → ℕ → Specification → ℕ → State
state_by entity.Type p os ss n d c = type_state (own_type p n) (told_scope p os ss d) (free_scope p os ss d) d
state_by e p os ss n d c = value_state (free_scope p os ss d) d c (own_faults (free_scope p os ss d) d c)

-- the objects from the number n on, by what was known before
abbrev pub next_states : Package → List Outline → List State → ℕ → List Outline → List State
next_states p os ss n [] = []
next_states p os ss n (x ∷ xs) = state_by x.specification.entity p os ss n x.specification x.column ∷ next_states p os ss (suc n) xs

abbrev pub first_state : Package → ℕ → Entity → State
first_state p n entity.Type = record no_state { stands = sort.IsType (own_type p n) }
first_state p n e = no_state

-- at first it is known which objects are types
abbrev pub first_states : Package → ℕ → List Outline → List State
first_states p n [] = []
first_states p n (x ∷ xs) = first_state p n x.specification.entity ∷ first_states p (suc n) xs

-- what is known after k rounds
abbrev pub known : Package → List Outline → ℕ → List State
known p os zero = first_states p 0 os
known p os (suc k) = next_states p os (known p os k) 0 os

-- ---- a specification as a whole

abbrev pub known_parts : List Part → List Part
known_parts [] = []
known_parts (x ∷ xs) = if is_unknown (sort_of x) then known_parts xs else x ∷ known_parts xs

abbrev pub counted : ℕ → ℕ → ℕ → ℕ → List TypeFault
counted i j n m = if n == m then [] else fault_at code.Count i j

abbrev pub constants_failing_in : Rights → Specification → Option TypeTree → List Part → List TypeFault
constants_failing_in rights d t xs = counted d.first d.last (length d.names) (length xs) ++ constants_failing rights t (known_parts xs)

-- its count and its assignments
abbrev pub specification_failing : Entity → Rights → Specification → Option TypeTree → List Part → List TypeFault
specification_failing entity.Constant rights d t xs = constants_failing_in rights d t xs
specification_failing entity.Variable rights d t xs = variables_failing rights d.first d.last (length d.names) t xs
specification_failing e rights d t xs = []

abbrev pub specification_rule : Scope → Specification → List TypeFault
specification_rule s d = specification_failing d.entity s.rights d (part_type (typed_type s d)) (typed_values s d)

abbrev pub first_name : List ℕ → ℕ
first_name [] = 0
first_name (t ∷ ts) = t

-- what the names and the values need from the number n down
abbrev pub needed_columns : Package → Specification → ℕ → List ℕ
needed_columns p d zero = []
needed_columns p d (suc c) = needed_columns p d c ++ needed_at p d.file (first_name d.names) c false

-- the objects that a specification needs, at once or through others
abbrev pub needed_by_all : Package → Specification → List ℕ
needed_by_all p d = needed_columns p d (max (length d.names) (length d.values))

abbrev pub numbers_of : Package → ℕ → List ℕ → List ℕ
numbers_of p n [] = []
numbers_of p n (t ∷ ts) = number_before (number_at p n t) (numbers_of p n ts)

abbrev pub is_in : List ℕ → ℕ → Bool
is_in ns n = list_any (nat_eq n) ns

abbrev pub needs_one : Package → List ℕ → Option Outline → Bool
needs_one p own None = false
needs_one p own (Some o) = list_any (is_in own) (needed_by_all p o.specification)

-- A fault in a type or an expression blocks what needs it. One at an assignment does too, but not what its own specification
-- needs in turn: else two of these would hide each other's faults.
abbrev pub blocks : Package → List Outline → List State → List ℕ → ℕ → Bool
blocks p os ss own n = not (is_in own n) && (not (no_faults (state_of ss n).faults) || (not (no_faults (state_of ss n).assigning) && not (needs_one p own (slice_get os n))))

abbrev pub is_blocked : Package → List Outline → List State → Specification → Bool
is_blocked p os ss d = list_any (blocks p os ss (numbers_of p d.file d.names)) (needed_by_all p d)

abbrev pub rule_unless : Bool → List TypeFault → List TypeFault
rule_unless true fs = []
rule_unless false fs = fs

-- The rules that fail at a specification: those of its type and its expressions; and where none of these does and it needs no
-- other declaration with a fault, its own.
abbrev pub specification_faults_on : Package → List Outline → List State → Scope → Specification → List TypeFault → List TypeFault
specification_faults_on p os ss s d [] = rule_unless (is_blocked p os ss d) (specification_rule s d)
specification_faults_on p os ss s d (f ∷ fs) = f ∷ fs

abbrev pub specification_faults : Package → List Outline → List State → Specification → List TypeFault
specification_faults p os ss d = specification_faults_on p os ss (free_scope p os ss d) d (expression_faults (free_scope p os ss d) d)

-- The rules that fail at a specification, whether or not it needs another declaration with a fault.
abbrev pub unblocked_faults_on : Scope → Specification → List TypeFault → List TypeFault
unblocked_faults_on s d [] = specification_rule s d
unblocked_faults_on s d (f ∷ fs) = f ∷ fs

abbrev pub unblocked_faults : Package → List Outline → List State → Specification → List TypeFault
unblocked_faults p os ss d = unblocked_faults_on (free_scope p os ss d) d (expression_faults (free_scope p os ss d) d)
