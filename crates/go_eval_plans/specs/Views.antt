-- The plans of go_meaning that those of the program stand for.
use Rattle.std.specs.Prelude.{◌≡◌, ℕ, Bool, true, false, Option, Some, None}
use Rattle.go_types.specs.Trees.{TypeTree, boolean, text, integer, array, slice, structure, function, declared}
use Rattle.go_types.specs.Trees as types
use Rattle.go_types.specs.Relations.{Rights}
use Rattle.go_typed.specs.declared.form.Form.{Form}
use Rattle.go_typed.specs.declared.form.Form.TheVariants as form
use Rattle.go_typed.specs.Trees.{Sort, Constant, OpenConstant, Typed, Typeds, form_of}
use Rattle.go_typed.specs.Forms.{is_default}
use Rattle.go_meaning.specs.Values.{Value, NilFunction, const_value, zero_value}
use Rattle.go_meaning.specs.Values as values
use Rattle.go_meaning.specs.Operations as does
use Rattle.go_meaning.specs.Plans as plans
use Rattle.go_meaning.specs.Planning.{zero_in, places_of}
use Rattle.go_eval_plans.specs.declared.groups.Group.{Group}
use Rattle.go_eval_plans.specs.declared.groups.Group.TheVariants as group
use Rattle.go_eval_plans.specs.declared.plan.Items.{Items}
use Rattle.go_eval_plans.specs.declared.plan.Items.TheVariants as items
use Rattle.go_eval_plans.specs.declared.plan.Operation.{Operation}
use Rattle.go_eval_plans.specs.declared.plan.Operation.TheVariants as operation
use Rattle.go_eval_plans.specs.declared.plan.Plan.{Plan}
use Rattle.go_eval_plans.specs.declared.plan.Plan.TheVariants as plan

-- the type of a number, where there is one
abbrev pub type_in : (ℕ → TypeTree) → Option ℕ → TypeTree
type_in type_of None = boolean
type_in type_of (Some t) = type_of t

-- a part that is there and is a default clause
abbrev pub is_default_there : Option (Typed TypeTree) → Bool
is_default_there None = false
is_default_there (Some p) = is_default (form_of p)

abbrev pub is_for : Form → Bool
is_for form.For = true
is_for f = false

-- ---- groups of types

-- the types about which no plan asks more
abbrev pub is_other : TypeTree → Bool
is_other (structure ns ts) = true
is_other (function ps rs) = true
is_other (declared n) = true
is_other _ = false

abbrev pub IsGroup : (ℕ → TypeTree) → Group → TypeTree → Type 0
IsGroup type_of group.Boolean u = u ≡ boolean
IsGroup type_of group.Text u = u ≡ text
IsGroup type_of (group.Integer k) u = u ≡ integer k
IsGroup type_of (group.Array n t) u = u ≡ array n (type_of t)
IsGroup type_of (group.Slice t) u = u ≡ slice (type_of t)
IsGroup type_of group.Other u = is_other u ≡ true

-- a type of the group
abbrev pub member : (ℕ → TypeTree) → Group → TypeTree
member type_of group.Boolean = boolean
member type_of group.Text = text
member type_of (group.Integer k) = integer k
member type_of (group.Array n t) = array n (type_of t)
member type_of (group.Slice t) = slice (type_of t)
member type_of group.Other = function types.none types.none

-- ---- plans

abbrev pub items_view : Items → does.Items
items_view (items.Fixed n) = does.Fixed n
items_view items.Elements = does.Elements
items_view items.Cells = does.Cells
items_view items.Runes = does.Runes
items_view items.Numbers = does.Numbers

-- among parts
abbrev pub operation_view : Rights → (ℕ → TypeTree) → Typeds TypeTree → Operation → does.Operation
operation_view rights type_of ps (operation.Compute k o) = does.Compute k o
operation_view rights type_of ps operation.Join = does.Join
operation_view rights type_of ps (operation.Compare c) = does.Compare c
operation_view rights type_of ps operation.Keep = does.Keep
operation_view rights type_of ps operation.Not = does.Not
operation_view rights type_of ps (operation.Negate k) = does.Negate k
operation_view rights type_of ps (operation.Complement k) = does.Complement k
operation_view rights type_of ps (operation.Wrap k) = does.Wrap k
operation_view rights type_of ps operation.TextOfCode = does.TextOfCode
operation_view rights type_of ps operation.BytesOfText = does.BytesOfText
operation_view rights type_of ps operation.TextOfBytes = does.TextOfBytes
operation_view rights type_of ps operation.Byte = does.Byte
operation_view rights type_of ps (operation.Cut low high) = does.Cut low high
operation_view rights type_of ps operation.Length = does.Length
operation_view rights type_of ps operation.Capacity = does.Capacity
operation_view rights type_of ps operation.Least = does.Least
operation_view rights type_of ps operation.Greatest = does.Greatest
operation_view rights type_of ps (operation.MakeSlice t) = does.MakeSlice (zero_in rights (type_in type_of t))
operation_view rights type_of ps (operation.Append t) = does.Append (zero_in rights (type_in type_of t))
operation_view rights type_of ps operation.Copy = does.Copy
operation_view rights type_of ps (operation.Build t) = does.Build (zero_in rights (type_in type_of t)) (places_of ps)
operation_view rights type_of ps operation.Gather = does.Gather
operation_view rights type_of ps operation.Print = does.Print
operation_view rights type_of ps operation.PanicWith = does.PanicWith
operation_view rights type_of ps operation.Drop = does.Drop

abbrev pub constant_in : Sort TypeTree → Value
constant_in (Constant t c) = const_value c
constant_in (OpenConstant c) = const_value c
constant_in s = NilFunction

-- of a node of this sort, with these parts
abbrev pub plan_view : Rights → (ℕ → TypeTree) → Sort TypeTree → Typeds TypeTree → Plan → plans.Course
plan_view rights type_of s ps plan.Constant = plans.Once (plans.Give (constant_in s))
plan_view rights type_of s ps (plan.Function n) = plans.Once (plans.Give (values.Function n))
plan_view rights type_of s ps (plan.Nil t) = plans.Once (plans.Give (zero_value (zero_in rights (type_in type_of t))))
plan_view rights type_of s ps (plan.Local n) = plans.Once (plans.Local n)
plan_view rights type_of s ps (plan.Variable n) = plans.Once (plans.Variable n)
plan_view rights type_of s ps (plan.Declare n) = plans.Once (plans.Declare n)
plan_view rights type_of s ps plan.Ignore = plans.Once plans.Ignore
plan_view rights type_of s ps plan.Inner = plans.Once plans.Inner
plan_view rights type_of s ps (plan.FieldOf n) = plans.Once (plans.FieldOf n)
plan_view rights type_of s ps (plan.ElementOf n) = plans.Once (plans.ElementOf n)
plan_view rights type_of s ps plan.CellOf = plans.Once plans.CellOf
plan_view rights type_of s ps (plan.Perform o) = plans.Once (plans.Perform (operation_view rights type_of ps o))
plan_view rights type_of s ps plan.Both = plans.Once plans.Both
plan_view rights type_of s ps plan.Either = plans.Once plans.Either
plan_view rights type_of s ps plan.Apply = plans.Once plans.Apply
plan_view rights type_of s ps (plan.StepBy o) = plans.Once (plans.StepBy (operation_view rights type_of ps o))
plan_view rights type_of s ps (plan.OperateBy o) = plans.Once (plans.OperateBy (operation_view rights type_of ps o))
plan_view rights type_of s ps (plan.AssignTo n) = plans.Once (plans.AssignTo n)
plan_view rights type_of s ps (plan.ZeroTo n t) = plans.Once (plans.ZeroTo n (zero_in rights (type_in type_of t)))
plan_view rights type_of s ps plan.Skip = plans.Once plans.Skip
plan_view rights type_of s ps plan.Returns = plans.Once plans.Returns
plan_view rights type_of s ps plan.Breaks = plans.Once plans.Breaks
plan_view rights type_of s ps plan.Continues = plans.Once plans.Continues
plan_view rights type_of s ps plan.Falls = plans.Once plans.Falls
plan_view rights type_of s ps plan.Sequence = plans.Once plans.Sequence
plan_view rights type_of s ps plan.Branch = plans.Once plans.Branch
plan_view rights type_of s ps (plan.Select tag default) = plans.Once (plans.Select tag default)
plan_view rights type_of s ps (plan.CaseOf n) = plans.Once (plans.CaseOf n)
plan_view rights type_of s ps plan.Otherwise = plans.Once plans.Otherwise
plan_view rights type_of s ps (plan.Iterate n i) = plans.Once (plans.Iterate n (items_view i))
plan_view rights type_of s ps (plan.Loop c) = plans.Loop c
