-- The plan of each form of node.
use Rattle.std.specs.Prelude.{ℕ, zero, suc, Bool, true, false, if◌then◌else◌, List, [], ◌∷◌, Option, Some, None}
use Rattle.std.specs.Option.{unwrap_or}
use Rattle.go_ints.specs.declared.kinds.Kind.{Kind}
use Rattle.go_ints.specs.declared.kinds.Kind.TheVariants as kind
use Rattle.go_grammar.specs.declared.kind.Arithmetic.{Arithmetic}
use Rattle.go_grammar.specs.declared.kind.Arithmetic.TheVariants as arithmetic
use Rattle.go_grammar.specs.declared.kind.Operator.{Operator}
use Rattle.go_grammar.specs.declared.kind.Operator.TheVariants as operator
use Rattle.go_grammar.specs.declared.kind.Sign.{Sign}
use Rattle.go_grammar.specs.declared.kind.Sign.TheVariants as sign
use Rattle.go_grammar.specs.declared.kind.Step.{Step}
use Rattle.go_grammar.specs.declared.kind.Step.TheVariants as step
use Rattle.go_tree.specs.declared.object.Predeclared.{Predeclared}
use Rattle.go_tree.specs.declared.object.Predeclared.TheVariants as predeclared
use Rattle.go_types.specs.Trees.{TypeTree, boolean, text, integer, array, slice}
use Rattle.go_types.specs.Relations.{Rights}
use Rattle.go_types_relations.specs.Tests.{underlying_of}
use Rattle.go_types_relations.specs.Zeros.{Zero, nil_function, zero_of}
use Rattle.go_typed.specs.declared.form.Form.{Form}
use Rattle.go_typed.specs.declared.form.Form.TheVariants as form
use Rattle.go_typed.specs.declared.form.Referent.{Referent}
use Rattle.go_typed.specs.declared.form.Referent.TheVariants as referent
use Rattle.go_typed.specs.Trees.{Sort, Nothing, Println, Builtin, IsType, Constant, OpenConstant, Label, Typed, Typeds, none, more, skip, form_of, label_of, sort_of}
use Rattle.go_typed.specs.Forms.{is_default}
use Rattle.go_typed.specs.Operators.{op_of}
use Rattle.go_typed.specs.Trees as trees
use Rattle.go_meaning.specs.Values.{Function, zero_value, const_value}
use Rattle.go_meaning.specs.Operations.{Operation, Items, Fixed, Elements, Cells, Runes, Numbers}
use Rattle.go_meaning.specs.Operations as does
use Rattle.go_meaning.specs.Plans.{Plan, Course, Once, Loop}
use Rattle.go_meaning.specs.Plans as plans

-- ---- parts and their types

abbrev pub part_at : Typeds TypeTree → ℕ → Option (Typed TypeTree)
part_at none n = None
part_at (more p ps) zero = Some p
part_at (skip ps) zero = None
part_at (more p ps) (suc n) = part_at ps n
part_at (skip ps) (suc n) = part_at ps n

abbrev pub is_there : Option (Typed TypeTree) → Bool
is_there None = false
is_there (Some p) = true

-- the type of a sort that has one
abbrev pub sort_type : Sort TypeTree → TypeTree
sort_type (IsType t) = t
sort_type (trees.Value t) = t
sort_type (Constant t c) = t
sort_type _ = boolean

abbrev pub type_there : Option (Typed TypeTree) → TypeTree
type_there None = boolean
type_there (Some p) = sort_type (sort_of p)

abbrev pub sort_there : Option (Typed TypeTree) → Sort TypeTree
sort_there None = Nothing
sort_there (Some p) = sort_of p

abbrev pub calls_there : Option (Typed TypeTree) → Bool
calls_there None = false
calls_there (Some p) = (label_of p).calls

-- the underlying type
abbrev pub shape_of : Rights → TypeTree → TypeTree
shape_of rights t = unwrap_or (underlying_of rights t) boolean

abbrev pub shape_at : Rights → Typeds TypeTree → ℕ → TypeTree
shape_at rights ps n = shape_of rights (type_there (part_at ps n))

abbrev pub zero_in : Rights → TypeTree → Zero
zero_in rights t = unwrap_or (zero_of rights t) nil_function

abbrev pub kind_of : TypeTree → Kind
kind_of (integer k) = k
kind_of t = kind.Int

abbrev pub element_of : TypeTree → TypeTree
element_of (array n t) = t
element_of (slice t) = t
element_of t = boolean

-- ---- operators, by the underlying type of the operand, of a shift by that of the left one

abbrev pub operation : Arithmetic → TypeTree → Operation
operation o text = does.Join
operation o t = does.Compute (kind_of t) (op_of o)

abbrev pub step_operation : Step → TypeTree → Operation
step_operation step.Increment t = operation arithmetic.Add t
step_operation step.Decrement t = operation arithmetic.Subtract t

abbrev pub binary_plan : Operator → TypeTree → Plan
binary_plan operator.Either t = plans.Either
binary_plan operator.Both t = plans.Both
binary_plan (operator.Compare c) t = plans.Perform (does.Compare c)
binary_plan (operator.Compute o) t = plans.Perform (operation o t)

abbrev pub unary_operation : Sign → TypeTree → Operation
unary_operation sign.Plus t = does.Keep
unary_operation sign.Minus t = does.Negate (kind_of t)
unary_operation sign.Not t = does.Not
unary_operation sign.Complement t = does.Complement (kind_of t)

-- by the underlying types of the target and the operand
abbrev pub conversion : TypeTree → TypeTree → Operation
conversion (integer k) (integer l) = does.Wrap k
conversion text (integer l) = does.TextOfCode
conversion text (slice t) = does.TextOfBytes
conversion (slice t) text = does.BytesOfText
conversion _ _ = does.Keep

abbrev pub index_plan : TypeTree → Plan
index_plan (array n t) = plans.ElementOf n
index_plan (slice t) = plans.CellOf
index_plan t = plans.Perform does.Byte

-- ---- literals, calls, names

-- the places of the elements: that of a key, or the next one
abbrev pub place_of : Form → ℕ → ℕ
place_of (form.Keyed n) k = n
place_of f k = k

abbrev pub places_from : ℕ → Typeds TypeTree → List ℕ
places_from k none = []
places_from k (more p ps) = place_of (form_of p) k ∷ places_from (suc k) ps
places_from k (skip ps) = places_from (suc k) ps

-- behind the type
abbrev pub places_of : Typeds TypeTree → List ℕ
places_of none = []
places_of (more p ps) = places_from 0 ps
places_of (skip ps) = places_from 0 ps

abbrev pub composite_plan : Rights → TypeTree → TypeTree → Typeds TypeTree → Plan
composite_plan rights t (slice e) ps = plans.Perform does.Gather
composite_plan rights t u ps = plans.Perform (does.Build (zero_in rights t) (places_of ps))

abbrev pub element_zero : Rights → Typeds TypeTree → Zero
element_zero rights ps = zero_in rights (element_of (shape_at rights ps 1))

abbrev pub builtin_plan : Rights → Predeclared → Typeds TypeTree → Plan
builtin_plan rights predeclared.Len ps = plans.Perform does.Length
builtin_plan rights predeclared.Cap ps = plans.Perform does.Capacity
builtin_plan rights predeclared.Make ps = plans.Perform (does.MakeSlice (element_zero rights ps))
builtin_plan rights predeclared.Append ps = plans.Perform (does.Append (element_zero rights ps))
builtin_plan rights predeclared.Copy ps = plans.Perform does.Copy
builtin_plan rights predeclared.Min ps = plans.Perform does.Least
builtin_plan rights predeclared.Max ps = plans.Perform does.Greatest
builtin_plan rights predeclared.Panic ps = plans.Perform does.PanicWith
builtin_plan rights _ ps = plans.Skip

-- by the sort of the callee, since that may stand in parentheses
abbrev pub call_plan : Rights → Sort TypeTree → Typeds TypeTree → Plan
call_plan rights Println ps = plans.Perform does.Print
call_plan rights (Builtin b) ps = builtin_plan rights b ps
call_plan rights s ps = plans.Apply

abbrev pub object_plan : Rights → Referent → TypeTree → Plan
object_plan rights (referent.Variable n) t = plans.Variable n
object_plan rights (referent.Function n) t = plans.Give (Function n)
object_plan rights (referent.Predeclared predeclared.Nil) t = plans.Give (zero_value (zero_in rights t))
object_plan rights _ t = plans.Skip

-- ---- statements

-- the names, their type if it is written, their values if there are any
abbrev pub specified_plan : Rights → ℕ → Typeds TypeTree → Plan
specified_plan rights n ps = if is_there (part_at ps (suc n)) then plans.AssignTo n else plans.ZeroTo n (zero_in rights (type_there (part_at ps n)))

-- the place of the default clause among the parts, or that behind all
abbrev pub default_at : Typeds TypeTree → ℕ
default_at none = 0
default_at (more p ps) = if is_default (form_of p) then 0 else suc (default_at ps)
default_at (skip ps) = suc (default_at ps)

abbrev pub at_most_one : ℕ → Bool
at_most_one zero = true
at_most_one (suc zero) = true
at_most_one (suc (suc n)) = false

-- With at most one part on the left, an operand whose length is constant isn't evaluated.
abbrev pub items_of : Bool → Bool → TypeTree → Items
items_of true false (array n t) = Fixed n
items_of single calls (array n t) = Elements
items_of single calls (slice t) = Cells
items_of single calls (integer k) = Numbers
items_of single calls t = Runes

-- ---- the table: what a node does that is no constant and no `for` without a range; the rest does nothing by itself

abbrev pub form_plan : Rights → Form → TypeTree → Typeds TypeTree → Plan
form_plan rights form.Function t ps = plans.Sequence
form_plan rights form.Expression t ps = plans.Perform does.Drop
form_plan rights (form.Step s) t ps = plans.StepBy (step_operation s (shape_at rights ps 0))
form_plan rights (form.Assign n) t ps = plans.AssignTo n
form_plan rights (form.Operate o) t ps = plans.OperateBy (operation o (shape_at rights ps 0))
form_plan rights (form.Define n) t ps = plans.AssignTo n
form_plan rights form.Variables t ps = plans.Sequence
form_plan rights (form.Specified n) t ps = specified_plan rights n ps
form_plan rights form.Return t ps = plans.Returns
form_plan rights form.Break t ps = plans.Breaks
form_plan rights form.Continue t ps = plans.Continues
form_plan rights form.Fallthrough t ps = plans.Falls
form_plan rights form.Block t ps = plans.Sequence
form_plan rights form.If t ps = plans.Branch
form_plan rights form.Switch t ps = plans.Select (is_there (part_at ps 1)) (default_at ps)
form_plan rights (form.Case n) t ps = plans.CaseOf n
form_plan rights form.Default t ps = plans.Otherwise
form_plan rights (form.Range defines n) t ps = plans.Iterate n (items_of (at_most_one n) (calls_there (part_at ps n)) (shape_at rights ps n))
form_plan rights (form.Local n) t ps = plans.Local n
form_plan rights (form.New n) t ps = plans.Declare n
form_plan rights (form.Declared n) t ps = plans.Declare n
form_plan rights (form.Object r) t ps = object_plan rights r t
form_plan rights form.Blank t ps = plans.Ignore
form_plan rights form.Parenthesized t ps = plans.Inner
form_plan rights (form.Selector n) t ps = plans.FieldOf n
form_plan rights form.Index t ps = index_plan (shape_at rights ps 0)
form_plan rights form.Slice t ps = plans.Perform (does.Cut (is_there (part_at ps 1)) (is_there (part_at ps 2)))
form_plan rights form.Call t ps = call_plan rights (sort_there (part_at ps 0)) ps
form_plan rights form.Conversion t ps = plans.Perform (conversion (shape_of rights t) (shape_at rights ps 1))
form_plan rights form.Composite t ps = composite_plan rights t (shape_of rights t) ps
form_plan rights (form.Unary s) t ps = plans.Perform (unary_operation s (shape_at rights ps 0))
form_plan rights (form.Binary o) t ps = binary_plan o (shape_at rights ps 0)
form_plan rights (form.Keyed n) t ps = plans.Inner
form_plan rights _ t ps = plans.Skip

-- A constant is its value, and what stands below it isn't run.
abbrev pub sort_plan : Sort TypeTree → Plan → Plan
sort_plan (Constant t c) p = plans.Give (const_value c)
sort_plan (OpenConstant c) p = plans.Give (const_value c)
sort_plan s p = p

abbrev pub plan : Rights → Form → Label TypeTree → Typeds TypeTree → Course
plan rights form.For l ps = Loop (is_there (part_at ps 1))
plan rights f l ps = Once (sort_plan l.sort (form_plan rights f (sort_type l.sort) ps))
