-- What the nodes of a typed tree stand for by the rules of types, each said of what its parts stand for in the end. Constants aren't
-- asked for more than a type.
use Rattle.std.specs.Prelude.{◌≡◌, ℕ, zero, suc, ◌-◌, Bool, true, false, ◌&&◌, not, nat_le, nat_lt, nat_eq, if◌then◌else◌, List, Option, Some, None, unwrap_or, slice_get}
use Rattle.go_constants.specs.declared.values.Const.{Const}
use Rattle.go_grammar.specs.declared.kind.Arithmetic.TheVariants as arithmetic
use Rattle.go_grammar.specs.declared.kind.Operator.{Operator}
use Rattle.go_grammar.specs.declared.kind.Operator.TheVariants as operator
use Rattle.go_tree.specs.declared.object.Predeclared.{Predeclared}
use Rattle.go_tree.specs.declared.object.Predeclared.TheVariants as predeclared
use Rattle.go_types.specs.Trees.{TypeTree, boolean, array, slice, structure, TypeRow}
use Rattle.go_types.specs.Relations.{Rights}
use Rattle.go_typed.specs.declared.form.Form.{Form}
use Rattle.go_typed.specs.declared.form.Form.TheVariants as form
use Rattle.go_typed.specs.declared.form.Referent.{Referent}
use Rattle.go_typed.specs.declared.form.Referent.TheVariants as referent
use Rattle.go_typed.specs.Forms.{is_holder}
use Rattle.go_typed.specs.Trees.{Label, Typed, typed, Typeds, none, more, skip, form_of, sort_of}
use Rattle.go_typed.specs.Trees as sort
use Rattle.go_exprs_rules.specs.Sorts.{Stands, own_type, named_type, form_of_value, slice_element, int}
use Rattle.go_exprs_rules.specs.Indexes.{field_type, index_sort, type_at, value_or_unknown}
use Rattle.go_exprs_rules.specs.Calls.{parameters_of, function_call_sort, no_results}
use Rattle.go_exprs_rules.specs.Literals.{key_in}
use Rattle.go_exprs_rules.specs.Tables.{is_call}
use Rattle.clone_window.specs.Masses.{is_constant, is_constant_expression}
use Rattle.clone_window.specs.Sameness.{standing, sort_at}

-- the rights of declared types, what the names of the package stand for, and the results of the function
pub record Around : Type 0 where
  pub rights : Rights
  pub objects : Referent → Stands
  pub results : List TypeTree

-- ---- parts

-- what the part at a place stands for
abbrev pub part_sort : Typeds TypeTree → ℕ → Stands
part_sort none k = sort.Unknown
part_sort (more p ps) zero = sort_of p
part_sort (more p ps) (suc k) = part_sort ps k
part_sort (skip ps) zero = sort.Unknown
part_sort (skip ps) (suc k) = part_sort ps k

-- a value of the type that it has
abbrev pub as_value : Stands → Stands
as_value s = value_or_unknown (own_type s)

abbrev pub skips_first : Typeds TypeTree → Bool
skips_first (skip ps) = true
skips_first ps = false

-- ---- what has its type from its place

-- what an operator does with the types of its operands
pub data Working : Type 0 where
  -- a comparison has none of them
  comparing : Working
  -- a shift has that of the first one
  shifting : Working
  -- the others have that of both
  meeting : Working

abbrev pub working : Operator → Working
working (operator.Compare c) = comparing
working (operator.Compute arithmetic.ShiftLeft) = shifting
working (operator.Compute arithmetic.ShiftRight) = shifting
working o = meeting

-- whether an operation waits, by whether its operands do
abbrev pub operation_waits : Working → Bool → Bool → Bool
operation_waits comparing x y = true
operation_waits shifting x y = x
operation_waits meeting x y = x && y

-- `nil`, comparisons, literals without a type, and what is made of these; told of its first part that it is left out, and of its
-- first two that they wait
abbrev pub waits : Form → Bool → Bool → Bool → Bool
waits (form.Object (referent.Predeclared predeclared.Nil)) skips x y = true
waits (form.Binary o) skips x y = operation_waits (working o) x y
waits form.Parenthesized skips x y = x
waits (form.Unary o) skips x y = x
waits (form.Keyed n) skips x y = x
waits form.Composite skips x y = skips
waits f skips x y = false

abbrev mutual
  -- whether it waits for the type of its place
  pub is_waiting : Typed TypeTree → Bool
  is_waiting (typed f i j l ps) = not (is_constant_expression f l) && waits f (skips_first ps) (first_waits ps) (second_waits ps)

  pub first_waits : Typeds TypeTree → Bool
  first_waits none = false
  first_waits (more p ps) = is_waiting p
  first_waits (skip ps) = false

  pub second_waits : Typeds TypeTree → Bool
  second_waits none = false
  second_waits (more p ps) = first_waits ps
  second_waits (skip ps) = first_waits ps

-- ---- what a node stands for

-- a local is a variable, a constant or a type
abbrev pub known : Stands → Stands
known s = if nat_eq (standing s) 0 then sort.Unknown else s

abbrev pub object_sort : Around → Option TypeTree → Referent → Stands
object_sort w told (referent.Predeclared predeclared.Nil) = value_or_unknown told
object_sort w told r = w.objects r

abbrev pub builtin_sort : Predeclared → Typeds TypeTree → Stands
builtin_sort predeclared.Make ps = value_or_unknown (named_type (part_sort ps 1))
builtin_sort predeclared.Append ps = as_value (part_sort ps 1)
builtin_sort predeclared.Min ps = as_value (part_sort ps 1)
builtin_sort predeclared.Max ps = as_value (part_sort ps 1)
builtin_sort predeclared.Panic ps = no_results
builtin_sort p ps = sort.Value int

abbrev pub call_sort : Rights → Stands → Typeds TypeTree → Stands
call_sort rights (sort.Builtin p) ps = builtin_sort p ps
call_sort rights sort.Println ps = no_results
call_sort rights s ps = function_call_sort rights (own_type s)

-- a comparison has the type of its place, any other operation that of its first operand
abbrev pub operation_sort : Working → Option TypeTree → Stands → Stands
operation_sort comparing told x = value_or_unknown told
operation_sort k told x = as_value x

-- a literal has the type that is written, or else that of its place
abbrev pub literal_sort : Option TypeTree → Typeds TypeTree → Stands
literal_sort told (skip ps) = value_or_unknown told
literal_sort told ps = value_or_unknown (named_type (part_sort ps 0))

-- the blank identifier is a target, a name of a type, or a variable or constant that is declared
abbrev pub blank_sort : Stands → Stands
blank_sort sort.Nothing = sort.Nothing
blank_sort (sort.Value t) = sort.Value t
blank_sort (sort.Constant t c) = sort.Constant t c
blank_sort (sort.OpenConstant c) = sort.OpenConstant c
blank_sort s = sort.Blank

abbrev pub type_sort : Stands → Stands
type_sort (sort.IsType t) = sort.IsType t
type_sort s = sort.Unknown

-- What a node stands for, by the type of its place and by its parts; of a name it is told what it stands for.
abbrev pub sort_by : Around → List Stands → Option TypeTree → Form → Stands → Typeds TypeTree → Stands
sort_by w locals told (form.Local n) s ps = known (sort_at locals n)
sort_by w locals told (form.New n) s ps = known (sort_at locals n)
sort_by w locals told (form.Declared n) s ps = known (sort_at locals n)
sort_by w locals told (form.Object r) s ps = object_sort w told r
sort_by w locals told form.Blank s ps = blank_sort s
sort_by w locals told form.Type s ps = type_sort s
sort_by w locals told form.Literal s ps = sort.Unknown
sort_by w locals told form.Parenthesized s ps = part_sort ps 0
sort_by w locals told (form.Keyed n) s ps = part_sort ps 0
sort_by w locals told (form.Selector n) s ps = value_or_unknown (field_type (form_of_value w.rights (part_sort ps 0)) n)
sort_by w locals told form.Index s ps = index_sort w.rights (as_value (part_sort ps 0))
sort_by w locals told form.Slice s ps = as_value (part_sort ps 0)
sort_by w locals told form.Call s ps = call_sort w.rights (part_sort ps 0) ps
sort_by w locals told form.Conversion s ps = value_or_unknown (named_type (part_sort ps 0))
sort_by w locals told form.Composite s ps = literal_sort told ps
sort_by w locals told (form.Unary o) s ps = as_value (part_sort ps 0)
sort_by w locals told (form.Binary o) s ps = operation_sort (working o) told (part_sort ps 0)
sort_by w locals told f s ps = sort.Nothing

-- ---- what parts have of their place

abbrev pub or_boolean : Option TypeTree → Option TypeTree
or_boolean t = Some (unwrap_or t boolean)

-- behind n names or targets, and what stands between, each value has the type of its own one
abbrev pub value_told : ℕ → ℕ → Typeds TypeTree → ℕ → Option TypeTree
value_told n behind ps k = if nat_le behind k && nat_lt (k - behind) n then or_boolean (own_type (part_sort ps (k - behind))) else None

-- an operand of a comparison has the type of the other one, if that doesn't wait too
abbrev pub compared_told : Bool → Stands → Option TypeTree
compared_told waiting s = if waiting then Some boolean else own_type s

abbrev pub operand_told : Working → Option TypeTree → Stands → Typeds TypeTree → ℕ → Option TypeTree
operand_told comparing told s ps zero = compared_told (second_waits ps) (part_sort ps 1)
operand_told comparing told s ps (suc k) = compared_told (first_waits ps) (part_sort ps 0)
operand_told shifting told s ps zero = told
operand_told shifting told s ps (suc k) = None
operand_told meeting told s ps k = if first_waits ps && second_waits ps then told else own_type s

-- the element type of the slice to which `append` adds; what a panic has is of its own default type
abbrev pub builtin_told : Rights → Predeclared → Typeds TypeTree → ℕ → Option TypeTree
builtin_told rights predeclared.Panic ps k = Some boolean
builtin_told rights predeclared.Append ps zero = None
builtin_told rights predeclared.Append ps (suc k) = slice_element (form_of_value rights (part_sort ps 1))
builtin_told rights p ps k = None

abbrev pub parameter_told : Option TypeRow → ℕ → Option TypeTree
parameter_told (Some ts) k = type_at ts k
parameter_told None k = None

-- the arguments of a call
abbrev pub argument_told : Rights → Stands → Typeds TypeTree → ℕ → Option TypeTree
argument_told rights (sort.Builtin p) ps k = builtin_told rights p ps k
argument_told rights sort.Println ps k = Some boolean
argument_told rights s ps k = parameter_told (parameters_of (form_of_value rights s)) k

abbrev pub call_told : Rights → Typeds TypeTree → ℕ → Option TypeTree
call_told rights ps zero = None
call_told rights ps (suc k) = argument_told rights (part_sort ps 0) ps k

-- the elements of a literal of this underlying type; those of a struct by their keys or in order
abbrev pub element_told : Option TypeTree → ℕ → Option ℕ → Option TypeTree
element_told (Some (array n t)) k key = Some t
element_told (Some (slice t)) k key = Some t
element_told (Some (structure ns ts)) k key = type_at ts (unwrap_or key k)
element_told u k key = None

abbrev pub literal_told : Rights → Stands → ℕ → Option ℕ → Option TypeTree
literal_told rights s zero key = None
literal_told rights s (suc k) key = element_told (form_of_value rights s) k key

abbrev pub second_told : Option TypeTree → ℕ → Option TypeTree
second_told t (suc zero) = t
second_told t k = None

-- the tag of a switch has its default type, the clauses are told the type of the tag
abbrev pub switch_told : Typeds TypeTree → ℕ → Option TypeTree
switch_told ps zero = None
switch_told ps (suc zero) = Some boolean
switch_told ps (suc (suc k)) = or_boolean (own_type (part_sort ps 1))

-- The type that the part at a place has of it, where it waits for one; also by its key.
abbrev pub told_in : Around → Option TypeTree → Form → Stands → Typeds TypeTree → ℕ → Option ℕ → Option TypeTree
told_in w told form.Parenthesized s ps k key = told
told_in w told (form.Unary o) s ps k key = told
told_in w told (form.Keyed n) s ps k key = told
told_in w told (form.Binary o) s ps k key = operand_told (working o) told s ps k
told_in w told (form.Assign n) s ps k key = value_told n n ps k
told_in w told (form.Define n) s ps k key = value_told n n ps k
told_in w told (form.Specified n) s ps k key = value_told n (suc n) ps k
told_in w told form.Return s ps k key = slice_get w.results k
told_in w told form.If s ps k key = second_told (Some boolean) k
told_in w told form.For s ps k key = second_told (Some boolean) k
told_in w told form.Switch s ps k key = switch_told ps k
told_in w told (form.Case n) s ps k key = if nat_lt k n then told else None
told_in w told form.Call s ps k key = call_told w.rights ps k
told_in w told form.Conversion s ps k key = second_told (named_type (part_sort ps 0)) k
told_in w told form.Composite s ps k key = literal_told w.rights s k key
told_in w told f s ps k key = None

-- ---- trees

abbrev mutual
  -- whether no call in it isn't constant
  pub is_quiet : Typed TypeTree → Bool
  is_quiet (typed f i j l ps) = not l.calls && not (is_call f && not (is_constant l.sort)) && are_quiet ps

  pub are_quiet : Typeds TypeTree → Bool
  are_quiet none = true
  are_quiet (more p ps) = is_quiet p && are_quiet ps
  are_quiet (skip ps) = are_quiet ps

abbrev pub IsTyped : Stands → Type 0
IsTyped s = (t : TypeTree) × (c : Const) × (s ≡ sort.Constant t c)

-- the second operand, where it has the type of the operation
abbrev pub HasOther : Working → Stands → Stands → Type 0
HasOther meeting s y = s ≡ as_value y
HasOther k s y = Unit {0}

abbrev pub HasOtherOperand : Form → Stands → Typeds TypeTree → Type 0
HasOtherOperand (form.Binary o) s ps = HasOther (working o) s (part_sort ps 1)
HasOtherOperand f s ps = Unit {0}

-- a node without parts doesn't call
abbrev pub calls_nothing : Bool → Typeds TypeTree → Bool
calls_nothing calls none = not calls
calls_nothing calls ps = true

-- a node that is no constant
pub record IsRuled (w : Around) (locals : List Stands) (told : Option TypeTree) (f : Form) (l : Label TypeTree) (ps : Typeds TypeTree) : Type 0 where
  pub holder : is_holder f ≡ false
  pub stands : l.sort ≡ sort_by w locals told f l.sort ps
  pub other : HasOtherOperand f l.sort ps
  pub calls : calls_nothing l.calls ps ≡ true

abbrev pub ConstantOr : Bool → Stands → Bool → Type 0 → Type 0
ConstantOr true s quiet rest = IsTyped s × (quiet ≡ true)
ConstantOr false s quiet rest = rest

abbrev mutual
  -- Constant expressions have types and don't call, and all other nodes stand for what the rules give, in a tree whose place has
  -- the type that it is told.
  pub IsSettled : Around → List Stands → Option TypeTree → Typed TypeTree → Type 0
  IsSettled w locals told (typed f i j l ps) =
      ConstantOr (is_constant_expression f l) l.sort (not l.calls && are_quiet ps) (IsRuled w locals told f l ps × AreSettled w locals (told_in w told f l.sort ps) ps)

  -- parts, each of which is told by its place and its key
  pub AreSettled : Around → List Stands → (ℕ → Option ℕ → Option TypeTree) → Typeds TypeTree → Type 0
  AreSettled w locals tell none = Unit {0}
  AreSettled w locals tell (more p ps) = IsSettled w locals (tell 0 (key_in (form_of p))) p × AreSettled w locals (λ k. tell (suc k)) ps
  AreSettled w locals tell (skip ps) = AreSettled w locals (λ k. tell (suc k)) ps

-- statements have no type of their place
abbrev pub nothing_told : ℕ → Option ℕ → Option TypeTree
nothing_told k key = None
