-- Operators: unary ones, binary ones, comparisons and shifts (Go specification, "Operators").
use Rattle.std.specs.Prelude.{ℕ, ◌^◌, ◌-◌, Bool, true, false, ◌&&◌, ◌||◌, not, if◌then◌else◌, List, [], ◌∷◌, ◌++◌, Option, Some, None, Result, Ok, Err, pos, neg_ℤ}
use Rattle.go_base.specs.declared.fault.FaultCode.TheVariants as code
use Rattle.go_ints.specs.declared.kinds.Kind.{Kind}
use Rattle.go_ints.specs.declared.operators.Op.TheVariants as op
use Rattle.go_ints.specs.Kinds.{bits_of, is_signed}
use Rattle.go_constants.specs.declared.values.Const.{Const}
use Rattle.go_constants.specs.declared.values.Const.TheVariants as const
use Rattle.go_constants.specs.declared.values.ConstOp.{ConstOp}
use Rattle.go_constants.specs.declared.values.ConstOp.TheVariants as const_op
use Rattle.go_constants.specs.declared.values.ConstFault.{ConstFault}
use Rattle.go_constants.specs.declared.values.ConstFault.TheVariants as const_fault
use Rattle.go_constants.specs.Folding.{folded}
use Rattle.go_grammar.specs.declared.kind.Arithmetic.TheVariants as arithmetic
use Rattle.go_grammar.specs.declared.kind.Comparison.{Comparison}
use Rattle.go_grammar.specs.declared.kind.Comparison.TheVariants as comparison
use Rattle.go_grammar.specs.declared.kind.Operator.{Operator}
use Rattle.go_grammar.specs.declared.kind.Operator.TheVariants as operator
use Rattle.go_grammar.specs.declared.kind.Sign.{Sign}
use Rattle.go_grammar.specs.declared.kind.Sign.TheVariants as sign
use Rattle.go_types.specs.Trees.{TypeTree, integer}
use Rattle.go_types.specs.Relations.{Rights}
use Rattle.go_types_relations.specs.Tests.{underlying_of, is_assignable, is_comparable}
use Rattle.go_types_relations.specs.Identity.{is_identical}
use Rattle.go_typed.specs.declared.sort.Untyped.TheVariants as untyped
use Rattle.go_typed.specs.Operators.{op_of}
use Rattle.go_typed.specs.Trees.{sort_of}
use Rattle.go_typed.specs.Trees as sort
use Rattle.go_exprs_rules.specs.declared.fault.TypeFault.{TypeFault}
use Rattle.go_exprs_rules.specs.declared.family.Family.{Family}
use Rattle.go_exprs_rules.specs.declared.family.Family.TheVariants as family
use Rattle.go_exprs_rules.specs.declared.family.OpenKind.{OpenKind}
use Rattle.go_exprs_rules.specs.declared.family.OpenKind.TheVariants as untyped_kind
use Rattle.go_exprs_rules.specs.Faults.{fault_at, or_else}
use Rattle.go_exprs_rules.specs.Sorts.{Stands, is_family, family_of_open, family_of_type, own_type, constant_of, open_kind, is_constant, is_nil, is_whole, suits, has_nil, default_type, represents, is_zero, is_negative, uint, underlying_in}
use Rattle.go_exprs_rules.specs.Settling.{Part, at_part, unrepresented, Take, stay, default, as_type}

-- ---- operators on constants

abbrev pub comparing : Comparison → ConstOp
comparing comparison.Equal = const_op.Eq
comparing comparison.NotEqual = const_op.Ne
comparing comparison.Less = const_op.Lt
comparing comparison.LessEqual = const_op.Le
comparing comparison.Greater = const_op.Gt
comparing comparison.GreaterEqual = const_op.Ge

abbrev pub constant_op : Operator → ConstOp
constant_op operator.Either = const_op.Either
constant_op operator.Both = const_op.Both
constant_op (operator.Compare c) = comparing c
constant_op (operator.Compute a) = const_op.Arith (op_of a)

-- the value of an operation, where both operands are constants
abbrev pub folded_both : ConstOp → Option Const → Option Const → Option (Result Const ConstFault)
folded_both o (Some a) (Some b) = Some (folded o a b)
folded_both o _ _ = None

-- ---- the type in which two operands meet

-- a type, or a kind where both are untyped
pub data Common : Type 0 where
  in_type : TypeTree → Common
  in_kind : OpenKind → Common

-- two untyped numbers are a rune where one of them is
abbrev pub common_kind : OpenKind → OpenKind → Option OpenKind
common_kind untyped_kind.Boolean untyped_kind.Boolean = Some untyped_kind.Boolean
common_kind untyped_kind.Text untyped_kind.Text = Some untyped_kind.Text
common_kind untyped_kind.Integer untyped_kind.Integer = Some untyped_kind.Integer
common_kind untyped_kind.Integer untyped_kind.Rune = Some untyped_kind.Rune
common_kind untyped_kind.Rune untyped_kind.Integer = Some untyped_kind.Rune
common_kind untyped_kind.Rune untyped_kind.Rune = Some untyped_kind.Rune
common_kind _ _ = None

abbrev pub kind_common : Option OpenKind → Option Common
kind_common (Some k) = Some (in_kind k)
kind_common None = None

abbrev pub one_typed : Rights → TypeTree → Option OpenKind → Option Common
one_typed rights t (Some k) = if suits rights k t then Some (in_type t) else None
one_typed rights t None = None

abbrev pub open_kinds : Option OpenKind → Option OpenKind → Option Common
open_kinds (Some k) (Some l) = kind_common (common_kind k l)
open_kinds _ _ = None

-- an untyped operand takes the other operand's type; two untyped ones stay untyped
abbrev pub common_by : Rights → Stands → Stands → Option TypeTree → Option TypeTree → Option Common
common_by rights a b (Some t) (Some u) = if is_identical t u then Some (in_type t) else None
common_by rights a b (Some t) None = one_typed rights t (open_kind b)
common_by rights a b None (Some u) = one_typed rights u (open_kind a)
common_by rights a b None None = open_kinds (open_kind a) (open_kind b)

abbrev pub common : Rights → Stands → Stands → Option Common
common rights a b = common_by rights a b (own_type a) (own_type b)

abbrev pub family_in : Rights → Common → Option Family
family_in rights (in_type t) = family_of_type (underlying_of rights t)
family_in rights (in_kind k) = Some (family_of_open k)

-- the constants in x that the type doesn't represent, where it takes one
abbrev pub refused : Rights → Common → Part → List TypeFault
refused rights (in_type t) x = unrepresented rights t x
refused rights (in_kind k) x = []

abbrev pub both_refuse : Rights → Common → Part → Part → List TypeFault
both_refuse rights c x y = refused rights c x ++ refused rights c y

-- ---- results

-- an untyped value that is no constant; texts are always constants
abbrev pub open_value : OpenKind → Stands
open_value untyped_kind.Boolean = sort.Open untyped.Boolean
open_value untyped_kind.Integer = sort.Open untyped.Integer
open_value untyped_kind.Rune = sort.Open untyped.Rune
open_value untyped_kind.Text = sort.Unknown

abbrev pub value_in : Common → Stands
value_in (in_type t) = sort.Value t
value_in (in_kind k) = open_value k

abbrev pub constant_in : Common → Const → Stands
constant_in (in_type t) c = sort.Constant t c
constant_in (in_kind k) c = sort.OpenConstant c

-- what an operation stands for, whose operands meet in c
abbrev pub result_in : Common → Option (Result Const ConstFault) → Stands
result_in c None = value_in c
result_in c (Some (Ok v)) = constant_in c v
result_in c (Some (Err e)) = sort.Unknown

-- an untyped number is in range where it has a value
abbrev pub in_range : Rights → Common → Const → Bool
in_range rights (in_type t) v = represents rights t v
in_range rights (in_kind k) v = true

-- each operation on constants gives a value that its type has
abbrev pub out_of_range : Rights → ℕ → ℕ → Common → Option (Result Const ConstFault) → List TypeFault
out_of_range rights i j c None = []
out_of_range rights i j c (Some (Ok v)) = if in_range rights c v then [] else fault_at code.Representable i j
out_of_range rights i j c (Some (Err const_fault.TooWide)) = fault_at code.Representable i j
out_of_range rights i j c (Some (Err e)) = []

-- ---- unary operators

abbrev pub all_bits : Kind → Const
all_bits k = if is_signed k then const.Int (neg_ℤ (pos 1)) false else const.Int (pos (2 ^ bits_of k - 1)) false

-- what `^x` is the exclusive or of x with: for an unsigned type all its bits, else -1
abbrev pub complement_mask : Option TypeTree → Const
complement_mask (Some (integer k)) = all_bits k
complement_mask _ = const.Int (neg_ℤ (pos 1)) false

abbrev pub signed_const : Sign → Const → Const → Result Const ConstFault
signed_const sign.Plus mask c = Ok c
signed_const sign.Minus mask c = folded (const_op.Arith op.Sub) (const.Int (pos 0) false) c
signed_const sign.Not mask c = folded const_op.Eq c (const.Bool false)
signed_const sign.Complement mask c = folded (const_op.Arith op.Xor) mask c

abbrev pub signed_value : Sign → Const → Option Const → Option (Result Const ConstFault)
signed_value o mask (Some c) = Some (signed_const o mask c)
signed_value o mask None = None

-- the form in which a value stands by itself
abbrev pub own_by : Option TypeTree → Option OpenKind → Option Common
own_by (Some t) k = Some (in_type t)
own_by None (Some k) = Some (in_kind k)
own_by None None = None

abbrev pub own : Stands → Option Common
own a = own_by (own_type a) (open_kind a)

abbrev pub unary_value : Rights → Sign → Stands → Option (Result Const ConstFault)
unary_value rights o a = signed_value o (complement_mask (underlying_in rights (own_type a))) (constant_of a)

abbrev pub sign_family : Sign → Family
sign_family sign.Not = family.Booleans
sign_family _ = family.Integers

abbrev pub unary_failing_in : Rights → Sign → ℕ → ℕ → Stands → Option Common → List TypeFault
unary_failing_in rights o i j a None = fault_at code.Operands i j
unary_failing_in rights o i j a (Some c) = if is_family (sign_family o) (family_in rights c) then out_of_range rights i j c (unary_value rights o a) else fault_at code.Operands i j

abbrev pub unary_failing : Rights → Sign → ℕ → ℕ → Stands → List TypeFault
unary_failing rights o i j a = unary_failing_in rights o i j a (own a)

abbrev pub unary_sort_in : Rights → Sign → Stands → Option Common → Stands
unary_sort_in rights o a None = sort.Unknown
unary_sort_in rights o a (Some c) = result_in c (unary_value rights o a)

abbrev pub unary_sort : Rights → Sign → Stands → Stands
unary_sort rights o a = unary_sort_in rights o a (own a)

-- the operand of a constant operation takes its default type; else it waits for its context
abbrev pub unary_take : Stands → Take
unary_take a = if is_constant a then default else stay

-- ---- binary operators that neither compare nor shift

-- which families an operator has: `+` also joins texts, `&&` and `||` are on booleans
abbrev pub admits : Operator → Option Family → Bool
admits operator.Either f = is_family family.Booleans f
admits operator.Both f = is_family family.Booleans f
admits (operator.Compute arithmetic.Add) f = is_family family.Integers f || is_family family.Texts f
admits o f = is_family family.Integers f

abbrev pub divides : Operator → Bool
divides (operator.Compute arithmetic.Divide) = true
divides (operator.Compute arithmetic.Remainder) = true
divides o = false

-- a constant divisor 0
abbrev pub zero_divisor : Operator → Part → List TypeFault
zero_divisor o y = if divides o && is_zero (constant_of (sort_of y)) then at_part code.ZeroDivisor y else []

abbrev pub binary_value : Operator → Stands → Stands → Option (Result Const ConstFault)
binary_value o a b = folded_both (constant_op o) (constant_of a) (constant_of b)

abbrev pub binary_failing_in : Rights → Operator → ℕ → ℕ → Part → Part → Option Common → List TypeFault
binary_failing_in rights o i j x y None = fault_at code.Operands i j
binary_failing_in rights o i j x y (Some c) =
    if admits o (family_in rights c)
    then or_else (both_refuse rights c x y ++ zero_divisor o y) (out_of_range rights i j c (binary_value o (sort_of x) (sort_of y)))
    else both_refuse rights c x y ++ fault_at code.Operands i j

abbrev pub binary_failing : Rights → Operator → ℕ → ℕ → Part → Part → List TypeFault
binary_failing rights o i j x y = binary_failing_in rights o i j x y (common rights (sort_of x) (sort_of y))

abbrev pub binary_sort_in : Operator → Stands → Stands → Option Common → Stands
binary_sort_in o a b None = sort.Unknown
binary_sort_in o a b (Some c) = result_in c (binary_value o a b)

abbrev pub binary_sort : Rights → Operator → Stands → Stands → Stands
binary_sort rights o a b = binary_sort_in o a b (common rights a b)

-- what both operands take: their common type; two untyped constants their default types
abbrev pub binary_take_in : Stands → Stands → Option Common → Take
binary_take_in a b None = stay
binary_take_in a b (Some (in_type t)) = as_type t
binary_take_in a b (Some (in_kind k)) = if is_constant a && is_constant b then default else stay

abbrev pub binary_take : Rights → Stands → Stands → Take
binary_take rights a b = binary_take_in a b (common rights a b)

-- ---- shifts

-- A count is a value of an integer type, or an untyped constant. A constant of an integer type isn't negative, and an untyped
-- shift whose count isn't constant is none.
abbrev pub is_count : Rights → Stands → Bool
is_count rights (sort.Open u) = false
is_count rights (sort.Constant t c) = is_whole rights (sort.Constant t c) && not (is_negative (Some c))
is_count rights n = is_whole rights n

abbrev pub shift_failing_in : Rights → Operator → ℕ → ℕ → Part → Part → Option Common → List TypeFault
shift_failing_in rights o i j x n None = fault_at code.Operands i j
shift_failing_in rights o i j x n (Some c) =
    if is_family family.Integers (family_in rights c) && is_count rights (sort_of n)
    then or_else (unrepresented rights uint n) (out_of_range rights i j c (binary_value o (sort_of x) (sort_of n)))
    else fault_at code.Operands i j

abbrev pub shift_failing : Rights → Operator → ℕ → ℕ → Part → Part → List TypeFault
shift_failing rights o i j x n = shift_failing_in rights o i j x n (own (sort_of x))

abbrev pub shift_sort_in : Operator → Stands → Stands → Option Common → Stands
shift_sort_in o a n None = sort.Unknown
shift_sort_in o a n (Some c) = result_in c (binary_value o a n)

-- a constant shift keeps the kind of its left operand
abbrev pub shift_sort : Operator → Stands → Stands → Stands
shift_sort o a n = shift_sort_in o a n (own a)

-- the left operand of a constant shift takes its default type; where the count isn't constant it waits for its context
abbrev pub shifted_take : Stands → Stands → Take
shifted_take a n = if is_constant a && is_constant n then default else stay

-- ---- comparisons

abbrev pub is_equality : Comparison → Bool
is_equality comparison.Equal = true
is_equality comparison.NotEqual = true
is_equality _ = false

abbrev pub nil_common : Rights → Option TypeTree → Option Common
nil_common rights (Some t) = if has_nil (underlying_of rights t) then Some (in_type t) else None
nil_common rights None = None

abbrev pub typed_compared : Rights → Stands → Stands → Option TypeTree → Option TypeTree → Option Common
typed_compared rights a b (Some t) (Some u) = if is_assignable rights t u || is_assignable rights u t then Some (in_type t) else None
typed_compared rights a b t u = common_by rights a b t u

-- the type in which two values are compared: one is assignable to the other, or one is `nil`
abbrev pub compared_in : Rights → Stands → Stands → Option Common
compared_in rights sort.Nil b = nil_common rights (own_type b)
compared_in rights a sort.Nil = nil_common rights (own_type a)
compared_in rights a b = typed_compared rights a b (own_type a) (own_type b)

-- the type that both take
abbrev pub type_in : Common → TypeTree
type_in (in_type t) = t
type_in (in_kind k) = default_type k

-- integers and texts are ordered; all but slices and functions are comparable, and these with `nil` alone
abbrev pub unordered : Rights → ℕ → ℕ → Common → List TypeFault
unordered rights i j c = if is_family family.Integers (family_in rights c) || is_family family.Texts (family_in rights c) then [] else fault_at code.Operands i j

abbrev pub incomparable : Rights → ℕ → ℕ → Common → List TypeFault
incomparable rights i j (in_type t) = if is_comparable rights t then [] else fault_at code.NotComparable i j
incomparable rights i j (in_kind k) = []

abbrev pub unfit : Rights → Comparison → ℕ → ℕ → Bool → Common → List TypeFault
unfit rights o i j true c = if is_equality o then [] else fault_at code.Operands i j
unfit rights o i j false c = if is_equality o then incomparable rights i j c else unordered rights i j c

-- where both are untyped constants the result alone is judged
abbrev pub compared_refuse : Rights → Common → Part → Part → List TypeFault
compared_refuse rights (in_type t) x y = unrepresented rights t x ++ unrepresented rights t y
compared_refuse rights (in_kind k) x y = if is_constant (sort_of x) && is_constant (sort_of y) then [] else unrepresented rights (default_type k) x ++ unrepresented rights (default_type k) y

abbrev pub compared_failing_in : Rights → Comparison → ℕ → ℕ → Part → Part → Option Common → List TypeFault
compared_failing_in rights o i j x y None = fault_at code.Operands i j
compared_failing_in rights o i j x y (Some c) = or_else (unfit rights o i j (is_nil (sort_of x) || is_nil (sort_of y)) c) (compared_refuse rights c x y)

-- the comparison of x with y, whose place is from i up to j
abbrev pub compared_failing : Rights → Comparison → ℕ → ℕ → Part → Part → List TypeFault
compared_failing rights o i j x y = compared_failing_in rights o i j x y (compared_in rights (sort_of x) (sort_of y))

-- an untyped boolean, constant where both operands are
abbrev pub compared_sort : Comparison → Stands → Stands → Stands
compared_sort o a b = result_in (in_kind untyped_kind.Boolean) (folded_both (comparing o) (constant_of a) (constant_of b))

abbrev pub compared_take_in : Stands → Stands → Option Common → Take
compared_take_in a b None = stay
compared_take_in a b (Some (in_type t)) = as_type t
compared_take_in a b (Some (in_kind k)) = if is_constant a && is_constant b then default else as_type (default_type k)

abbrev pub compared_take : Rights → Stands → Stands → Take
compared_take rights a b = compared_take_in a b (compared_in rights a b)

-- ---- all of them

abbrev pub is_shift : Operator → Bool
is_shift (operator.Compute arithmetic.ShiftLeft) = true
is_shift (operator.Compute arithmetic.ShiftRight) = true
is_shift o = false

abbrev pub operation_failing : Rights → Operator → ℕ → ℕ → Part → Part → List TypeFault
operation_failing rights (operator.Compare c) i j x y = compared_failing rights c i j x y
operation_failing rights o i j x y = if is_shift o then shift_failing rights o i j x y else binary_failing rights o i j x y

abbrev pub operation_sort : Rights → Operator → Stands → Stands → Stands
operation_sort rights (operator.Compare c) a b = compared_sort c a b
operation_sort rights o a b = if is_shift o then shift_sort o a b else binary_sort rights o a b

abbrev pub operation_takes : Rights → Operator → Stands → Stands → List Take
operation_takes rights (operator.Compare c) a b = compared_take rights a b ∷ compared_take rights a b ∷ []
operation_takes rights o a b = if is_shift o then shifted_take a b ∷ as_type uint ∷ [] else binary_take rights a b ∷ binary_take rights a b ∷ []
