-- The rules of statements and declarations: which fail, by the parts as they are laid out, and what the parts take.
use Rattle.std.specs.Prelude.{ℕ, zero, suc, ◌-◌, ◌==◌, Bool, true, false, ◌&&◌, ◌||◌, not, if◌then◌else◌, nat_lt, List, [], ◌∷◌, ◌++◌, length, take, drop, map, replicate, Option, Some, None, is_some}
use Rattle.go_base.specs.declared.fault.FaultCode.TheVariants as code
use Rattle.go_grammar.specs.declared.kind.Comparison.TheVariants as comparison
use Rattle.go_grammar.specs.declared.kind.Kind.{Kind}
use Rattle.go_grammar.specs.declared.kind.Kind.TheVariants as kind
use Rattle.go_grammar.specs.declared.kind.Operator.TheVariants as operator
use Rattle.go_grammar.specs.declared.kind.Sort.TheVariants as declaring
use Rattle.go_types.specs.Trees.{TypeTree, boolean, array}
use Rattle.go_types.specs.Relations.{Rights}
use Rattle.go_types_relations.specs.Sizes.{scalars_of}
use Rattle.go_types_relations.specs.Tests.{is_assignable}
use Rattle.go_typed.specs.declared.form.Form.{Form}
use Rattle.go_typed.specs.declared.form.Form.TheVariants as form
use Rattle.go_typed.specs.Trees.{Typed, typed, Typeds, none, more, skip, form_of, first_of, last_of, sort_of}
use Rattle.go_typed.specs.Trees as sort
use Rattle.go_exprs_rules.specs.declared.fault.TypeFault.{TypeFault}
use Rattle.go_exprs_rules.specs.declared.family.Family.TheVariants as family
use Rattle.go_exprs_rules.specs.Faults.{fault_at}
use Rattle.go_exprs_rules.specs.Sorts.{Stands, own_type, value_type, is_unknown, is_nil, is_truth, same_family, family_of_const, is_whole, is_text, form_of_value, element_of, int, rune}
use Rattle.go_exprs_rules.specs.Settling.{Part, default, as_type, given, at_part, undefaulted}
use Rattle.go_exprs_rules.specs.Operators.{operation_failing, operation_takes, compared_failing}
use Rattle.go_exprs_rules.specs.TypeNodes.{part_type, exceeds}
use Rattle.go_exprs_rules.specs.Tables.{Parts, present, on_one, on_two, is_judged, made}
use Rattle.go_stmts_defs.specs.Frames.{Frame, Locals, rights_of, declared_type, with_own_right}
use Rattle.go_stmts_defs.specs.Targets.{is_variable, is_target, is_statement_call}
use Rattle.go_stmts_defs.specs.Ending.{terminates}
use Rattle.go_stmts_defs.specs.Assigning.{Wanted, Taking, takes, stands, rests, type_or_default, at_nil, unassigned, assignment_failing, constants_failing, declared_names, values_take, constants_take}
use Rattle.go_stmts_defs.specs.Laying.{type_number}

abbrev pub each : (Part → List TypeFault) → List Part → List TypeFault
each rule [] = []
each rule (x ∷ xs) = rule x ++ each rule xs

-- ---- left sides (Go specification: Assignment statements, IncDec statements)

abbrev pub not_a_target : Rights → Part → List TypeFault
not_a_target rights x = if is_target rights x then [] else at_part code.LeftSide x

abbrev pub not_a_variable : Rights → Part → List TypeFault
not_a_variable rights x = if is_variable rights x then [] else at_part code.LeftSide x

abbrev pub target_type : Part → Option TypeTree
target_type x = own_type (sort_of x)

abbrev pub assign_failing : Rights → ℕ → ℕ → List Part → List Part → List TypeFault
assign_failing rights i j ts xs = each (not_a_target rights) ts ++ assignment_failing rights i j (map target_type ts) xs

-- the type that a name of `:=` has already
abbrev pub form_type : Locals → Form → Option TypeTree
form_type ls (form.Local n) = declared_type ls n
form_type ls f = None

abbrev pub known_type : Locals → Part → Option TypeTree
known_type ls x = form_type ls (form_of x)

abbrev pub define_failing : Frame → ℕ → ℕ → List Part → List Part → List TypeFault
define_failing s i j ns xs = each at_nil xs ++ assignment_failing (rights_of s) i j (map (known_type s.locals) ns) xs

abbrev pub step_failing : Rights → ℕ → ℕ → Part → List TypeFault
step_failing rights i j x = not_a_variable rights x ++ (if is_whole rights (sort_of x) then [] else fault_at code.Operands i j)

-- ---- specifications: n names, a type or none, and values (Variable declarations, Constant declarations)

abbrev pub type_there : ℕ → Parts → Option TypeTree
type_there zero [] = None
type_there zero (x ∷ xs) = part_type x
type_there (suc n) [] = None
type_there (suc n) (x ∷ xs) = type_there n xs

abbrev pub values_there : ℕ → Parts → List Part
values_there n ys = present (drop (suc n) ys)

abbrev pub variables_failing : Rights → ℕ → ℕ → ℕ → Option TypeTree → List Part → List TypeFault
variables_failing rights i j n t [] = []
variables_failing rights i j n t (x ∷ xs) = assignment_failing rights i j (replicate n t) (x ∷ xs)

abbrev pub constants_counted : Rights → ℕ → ℕ → ℕ → Option TypeTree → List Part → List TypeFault
constants_counted rights i j n t xs = (if n == length xs then [] else fault_at code.Count i j) ++ constants_failing rights t xs

-- ---- types: the limit on array types whose size isn't known before the right side is

abbrev pub is_late : Rights → Rights → Stands → Bool
is_late before behind (sort.IsType (array n t)) = not (is_some (scalars_of before (array n t))) && exceeds (scalars_of behind (array n t))
is_late before behind x = false

abbrev mutual
  -- the array types in a type, from left to right and the inner ones first, that the right sides behind it show to be too large
  pub late_limits : Rights → Rights → Part → List TypeFault
  late_limits before behind (typed f i j l ps) = all_late_limits before behind ps ++ (if is_late before behind l.sort then fault_at code.Limit i j else [])

  pub all_late_limits : Rights → Rights → Typeds TypeTree → List TypeFault
  all_late_limits before behind none = []
  all_late_limits before behind (more p ps) = late_limits before behind p ++ all_late_limits before behind ps
  all_late_limits before behind (skip ps) = all_late_limits before behind ps

abbrev pub first_fault : List TypeFault → List TypeFault
first_fault [] = []
first_fault (f ∷ fs) = f ∷ []

-- the name, and the type that is its right side
abbrev pub type_failing : Frame → ℕ → Part → List TypeFault
type_failing s i x = first_fault (late_limits (rights_of s) (rights_of (with_own_right (type_number s i) (part_type (Some x)) s)) x)

-- ---- conditions, tags, cases and range clauses (If statements, For statements, Expression switches)

abbrev pub condition_failing : Rights → Option Part → List TypeFault
condition_failing rights None = []
condition_failing rights (Some x) = if is_truth rights (sort_of x) then [] else at_part code.Operands x

abbrev pub second_condition : Rights → Parts → List TypeFault
second_condition rights (a ∷ c ∷ xs) = condition_failing rights c
second_condition rights xs = []

abbrev pub tag_failing : Rights → Option Part → List TypeFault
tag_failing rights None = []
tag_failing rights (Some x) = if is_nil (sort_of x) then at_part code.Operands x else undefaulted rights x

abbrev pub second_tag : Rights → Parts → List TypeFault
second_tag rights (a ∷ x ∷ xs) = tag_failing rights x
second_tag rights xs = []

-- the tag stands at the case that is compared with it
abbrev pub tag_at : Stands → Part → Part
tag_at tag x = made form.Literal (first_of x) (last_of x) tag [] []

abbrev pub case_failing : Rights → Stands → Part → List TypeFault
case_failing rights tag x = if is_unknown tag then [] else compared_failing rights comparison.Equal (first_of x) (last_of x) (tag_at tag x) x

-- the values of a range clause over an array or a slice: positions and elements
abbrev pub element_types : Option TypeTree → Option (List TypeTree)
element_types (Some t) = Some (int ∷ t ∷ [])
element_types None = None

-- over an integer: numbers of its type, or of an untyped one's default type; a second name counts as an `int`
abbrev pub number_types : Option TypeTree → Option (List TypeTree)
number_types (Some t) = Some (t ∷ int ∷ [])
number_types None = None

-- The values of a range clause; over a string positions and characters (Go specification: For statements with range clause).
abbrev pub range_types : Rights → Part → Option (List TypeTree)
range_types rights x =
    if is_text rights (sort_of x) then Some (int ∷ rune ∷ [])
    else (if is_whole rights (sort_of x) then number_types (value_type (sort_of x)) else element_types (element_of (form_of_value rights (sort_of x))))

abbrev pub element_unassigned : Rights → Part → Option TypeTree → TypeTree → List TypeFault
element_unassigned rights x None r = []
element_unassigned rights x (Some t) r = if is_assignable rights r t then [] else at_part code.Assignable x

abbrev pub elements_unassigned : Rights → Part → List Part → List TypeTree → List TypeFault
elements_unassigned rights x (t ∷ ts) (r ∷ rs) = element_unassigned rights x (target_type t) r ++ elements_unassigned rights x ts rs
elements_unassigned rights x _ _ = []

-- the type of the target that a range clause over an integer has, if it has one
abbrev pub number_target : List Part → Option TypeTree
number_target [] = None
number_target (t ∷ ts) = target_type t

-- whether it is an untyped integer or rune constant
abbrev pub is_open_number : Stands → Bool
is_open_number (sort.OpenConstant c) = same_family family.Integers (family_of_const c)
is_open_number x = false

-- an integer x that has a type, or takes its default type, is given to these targets: its numbers have the types rs
abbrev pub number_unassigned : Rights → List Part → Part → List TypeTree → List TypeFault
number_unassigned rights ts x rs = undefaulted rights x ++ elements_unassigned rights x ts rs

-- An integer x is given to at most one target. An untyped constant takes its type; anything else has a type, or takes its default
-- type. The statement's place is from i up to j.
abbrev pub numbers_unassigned : Rights → ℕ → ℕ → List Part → Part → List TypeTree → List TypeFault
numbers_unassigned rights i j ts x rs =
    if nat_lt 1 (length ts) then fault_at code.Count i j
    else (if is_open_number (sort_of x) then unassigned rights (number_target ts) x else number_unassigned rights ts x rs)

-- the value x of a range clause is given to these targets
abbrev pub range_assigned : Rights → ℕ → ℕ → List Part → Part → Option (List TypeTree) → List TypeFault
range_assigned rights i j ts x None = at_part code.Operands x
range_assigned rights i j ts x (Some rs) = if is_whole rights (sort_of x) then numbers_unassigned rights i j ts x rs else elements_unassigned rights x ts rs

abbrev pub targets_failing : Rights → Bool → List Part → List TypeFault
targets_failing rights true ts = []
targets_failing rights false ts = each (not_a_target rights) ts

-- targets, the value, and the block
abbrev pub range_failing : Rights → ℕ → ℕ → Bool → List Part → List Part → List TypeFault
range_failing rights i j defines ts (x ∷ xs) = targets_failing rights defines ts ++ range_assigned rights i j ts x (range_types rights x)
range_failing rights i j defines ts [] = []

abbrev pub loop_failing : Rights → Form → ℕ → ℕ → Parts → List TypeFault
loop_failing rights (form.Range defines n) i j ys = range_failing rights i j defines (take n (present ys)) (drop n (present ys))
loop_failing rights f i j ys = second_condition rights ys

-- ---- functions (Function declarations, Terminating statements)

abbrev pub has_results : List TypeTree → Bool
has_results [] = false
has_results (t ∷ ts) = true

-- the place is the closing brace
abbrev pub function_failing : List TypeTree → ℕ → Part → List TypeFault
function_failing ts j body = if not (has_results ts) || terminates body then [] else fault_at code.MissingReturn (j - 1) j

-- ---- the rules that fail

abbrev pub names_in : Form → ℕ
names_in (form.Assign n) = n
names_in (form.Define n) = n
names_in (form.Specified n) = n
names_in (form.Case n) = n
names_in f = 0

-- the first n parts, and the others
abbrev pub split_at : {A : Type 0} → ℕ → (List Part → List Part → A) → Parts → A
split_at n f ys = f (take n (present ys)) (drop n (present ys))

abbrev pub failing : Frame → Kind → Form → ℕ → ℕ → Parts → List TypeFault
failing s kind.ExpressionStatement f i j ys = on_one [] (λ x. if is_statement_call x then [] else at_part code.UnusedValue x) ys
failing s (kind.StepStatement o) f i j ys = on_one [] (step_failing (rights_of s) i j) ys
failing s (kind.OperatorAssignment o) f i j ys = on_two [] (λ x y. not_a_variable (rights_of s) x ++ operation_failing (rights_of s) (operator.Compute o) i j x y) ys
failing s kind.Assignment f i j ys = split_at (names_in f) (assign_failing (rights_of s) i j) ys
failing s kind.Define f i j ys = split_at (names_in f) (define_failing s i j) ys
failing s (kind.Specification declaring.Variable) f i j ys = variables_failing (rights_of s) i j (names_in f) (type_there (names_in f) ys) (values_there (names_in f) ys)
failing s (kind.Specification declaring.Constant) f i j ys = constants_counted (rights_of s) i j (names_in f) (type_there (names_in f) ys) (values_there (names_in f) ys)
failing s (kind.Specification declaring.Type) f i j ys = on_two [] (λ n x. type_failing s i x) ys
failing s kind.Return f i j ys = assignment_failing (rights_of s) i j (map (λ t. Some t) s.results) (present ys)
failing s kind.If f i j ys = second_condition (rights_of s) ys
failing s kind.For f i j ys = loop_failing (rights_of s) f i j ys
failing s kind.Switch f i j ys = second_tag (rights_of s) ys
failing s kind.Case f i j ys = each (case_failing (rights_of s) s.tag) (take (names_in f) (present ys))
failing s kind.FunctionDeclaration f i j ys = on_one [] (function_failing s.results j) ys
failing s k f i j ys = []

-- ---- what the parts take

abbrev pub rest : ℕ → List Taking
rest n = replicate n rests

abbrev pub assign_takes : List Part → List Part → List Taking
assign_takes ts xs = rest (length ts) ++ values_take (map target_type ts) xs

abbrev pub define_takes : Frame → List Part → List Part → List Taking
define_takes s ns xs = let ts : Wanted = map (known_type s.locals) ns in declared_names (rights_of s) ts xs ++ values_take ts xs

abbrev pub variables_take : Rights → ℕ → Option TypeTree → List Part → List Taking
variables_take rights n t xs = let ts : Wanted = replicate n t in declared_names rights ts xs ++ rests ∷ values_take ts xs

abbrev pub type_or_rest : Option TypeTree → Taking
type_or_rest (Some t) = takes (as_type t)
type_or_rest None = rests

abbrev pub specified_constants : ℕ → Option TypeTree → List Part → List Taking
specified_constants n t xs = constants_take t (replicate n t) xs ++ rests ∷ map (λ x. type_or_rest t) xs

abbrev pub returned : List TypeTree → List Part → List Taking
returned ts xs = if length ts == length xs then map (λ t. takes (as_type t)) ts else []

abbrev pub type_stands : TypeTree → Taking
type_stands t = stands (sort.Value t)

-- names of a range clause over something that has none stand for nothing known
abbrev pub elements_stand : ℕ → Option (List TypeTree) → List Taking
elements_stand n (Some rs) = take n (map type_stands rs)
elements_stand n None = replicate n (stands sort.Unknown)

abbrev pub last_part : List Part → Option Part
last_part [] = None
last_part (x ∷ []) = Some x
last_part (x ∷ xs) = last_part xs

abbrev pub range_stands : Rights → ℕ → Option Part → List Taking
range_stands rights n (Some x) = elements_stand n (range_types rights x)
range_stands rights n None = []

abbrev pub is_first_number : Parts → Bool
is_first_number (Some x ∷ ys) = is_open_number (sort_of x)
is_first_number ys = false

abbrev pub first_type : Parts → Option TypeTree
first_type (Some t ∷ ys) = target_type t
first_type ys = None

-- the type of the first of n targets, if there is one that has one
abbrev pub target_there : ℕ → Parts → Option TypeTree
target_there n ys = if nat_lt 0 n then first_type ys else None

-- of the value of a range clause behind n targets: an untyped integer or rune constant takes the type of the target, if it has one
abbrev pub operand_takes : ℕ → Parts → Taking
operand_takes n ys = if is_first_number (drop n ys) then type_or_default (target_there n ys) else takes default

abbrev pub loop_takes : Form → Parts → List Taking
loop_takes (form.Range defines n) ys = rest n ++ operand_takes n ys ∷ []
loop_takes f ys = rests ∷ takes (as_type boolean) ∷ []

abbrev pub taking : Frame → Kind → Form → Parts → List Taking
taking s (kind.OperatorAssignment o) f ys = on_two [] (λ x y. map takes (operation_takes (rights_of s) (operator.Compute o) (sort_of x) (sort_of y))) ys
taking s kind.Assignment f ys = split_at (names_in f) assign_takes ys
taking s kind.Define f ys = split_at (names_in f) (define_takes s) ys
taking s (kind.Specification declaring.Variable) f ys = variables_take (rights_of s) (names_in f) (type_there (names_in f) ys) (values_there (names_in f) ys)
taking s (kind.Specification declaring.Constant) f ys = specified_constants (names_in f) (type_there (names_in f) ys) (values_there (names_in f) ys)
taking s kind.Return f ys = returned s.results (present ys)
taking s kind.If f ys = rests ∷ takes (as_type boolean) ∷ []
taking s kind.For f ys = loop_takes f ys
taking s kind.DefiningRange f ys = range_stands (rights_of s) (length ys - 1) (last_part (present ys))
taking s kind.Switch f ys = rests ∷ takes default ∷ []
taking s kind.Case f ys = replicate (names_in f) (type_or_default (own_type s.tag))
taking s k f ys = []

-- ---- a node

-- a node is judged where its parts are free of faults; a loop is, though its names may stand for nothing known
abbrev pub judges : Kind → Parts → Bool
judges kind.For ys = true
judges k ys = is_judged ys

abbrev pub own_faults : Frame → Kind → Form → ℕ → ℕ → Parts → List TypeFault
own_faults s k f i j ys = if judges k ys then failing s k f i j ys else []

abbrev pub given_part : Taking → Part → Part
given_part (takes k) x = given k x
given_part (stands x) (typed f i j l ps) = typed f i j (record l { sort = x }) ps

abbrev pub given_optional : Taking → Option Part → Option Part
given_optional k (Some x) = Some (given_part k x)
given_optional k None = None

-- a part for which nothing is said takes nothing
abbrev pub all_given : List Taking → Parts → Parts
all_given (k ∷ ks) (y ∷ ys) = given_optional k y ∷ all_given ks ys
all_given _ ys = ys

abbrev pub built_by : Frame → Kind → Form → ℕ → ℕ → Parts → List TypeFault → Part
built_by s k f i j ys [] = made f i j sort.Nothing ys (all_given (taking s k f ys) ys)
built_by s k f i j ys (e ∷ es) = made f i j sort.Nothing ys ys
