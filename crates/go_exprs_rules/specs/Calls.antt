-- Calls, conversions and predeclared functions.
use Rattle.std.specs.Prelude.{ℕ, suc, ◌==◌, Bool, true, false, ◌&&◌, ◌||◌, not, if◌then◌else◌, nat_lt, nat_le, List, [], ◌∷◌, ◌++◌, length, map, Option, Some, None, is_some, Result, Ok, ℤ, pos, negsuc}
use Rattle.std.specs.List.{list_all}
use Rattle.std.specs.Char.{encode_utf8}
use Rattle.go_base.specs.declared.fault.FaultCode.TheVariants as code
use Rattle.go_ints.specs.declared.operators.Op.{Op}
use Rattle.go_ints.specs.declared.operators.Op.TheVariants as op
use Rattle.go_constants.specs.declared.values.Const.{Const}
use Rattle.go_constants.specs.declared.values.Const.TheVariants as const
use Rattle.go_constants.specs.declared.values.ConstOp.TheVariants as const_op
use Rattle.go_constants.specs.declared.values.ConstFault.{ConstFault}
use Rattle.go_tree.specs.declared.object.Predeclared.{Predeclared}
use Rattle.go_tree.specs.declared.object.Predeclared.TheVariants as predeclared
use Rattle.go_types.specs.Trees.{TypeTree, function, TypeRow, none, more}
use Rattle.go_types.specs.Relations.{Rights}
use Rattle.go_types_relations.specs.Tests.{underlying_of, is_assignable, both_identical}
use Rattle.go_types_relations.specs.Identity.{is_identical}
use Rattle.go_typed.specs.Trees.{sort_of, label_of}
use Rattle.go_typed.specs.Trees as sort
use Rattle.go_exprs_rules.specs.declared.fault.TypeFault.{TypeFault}
use Rattle.go_exprs_rules.specs.declared.family.Family.TheVariants as family
use Rattle.go_exprs_rules.specs.declared.family.OpenKind.{OpenKind}
use Rattle.go_exprs_rules.specs.Faults.{fault_at, or_else}
use Rattle.go_exprs_rules.specs.Sorts.{Stands, is_family, family_of_type, family_of_const, family_of, is_whole, is_text, is_bytes, is_byte, own_type, named_type, constant_of}
use Rattle.go_exprs_rules.specs.Sorts.{open_kind, is_constant, is_nil, underlying_in, form_of_value, value_type, suits, has_nil, element_of, slice_element, array_length, represents, int}
use Rattle.go_exprs_rules.specs.Settling.{Part, at_part, unrepresented, undefaulted, unassignable, Take, stay, default, as_type}
use Rattle.go_exprs_rules.specs.Operators.{Common, in_type, in_kind, common_kind, kind_common, one_typed, own, constant_in, folded_both, type_in, unordered}
use Rattle.go_exprs_rules.specs.Indexes.{bound_failing, disordered, text_length, value_or_unknown}

-- ---- conversions

-- whether a constant is of the family of the type
abbrev pub keeps_value : Rights → TypeTree → Option Const → Bool
keeps_value rights t (Some c) = is_family (family_of_const c) (family_of_type (underlying_of rights t))
keeps_value rights t None = false

-- whether it is an integer constant that is converted to a text
abbrev pub becomes_text : Rights → TypeTree → Option Const → Bool
becomes_text rights t (Some (const.Int z rune)) = is_family family.Texts (family_of_type (underlying_of rights t))
becomes_text rights t c = false

-- A value of the type u, with or without a constant, is converted to t: it is assignable, or the underlying types are
-- identical; it is an integer that isn't constant and t an integer or text type; or one is a slice of bytes and the other a text.
abbrev pub is_integer_type : Rights → TypeTree → Bool
is_integer_type rights t = is_family family.Integers (family_of_type (underlying_of rights t))

abbrev pub is_text_type : Rights → TypeTree → Bool
is_text_type rights t = is_family family.Texts (family_of_type (underlying_of rights t))

abbrev pub converts_number : Rights → TypeTree → TypeTree → Bool → Bool
converts_number rights t u constant = is_integer_type rights u && (is_integer_type rights t || is_text_type rights t) && not constant

abbrev pub converts_bytes : Rights → TypeTree → TypeTree → Bool
converts_bytes rights t u = (is_text_type rights u && is_bytes rights t) || (is_bytes rights u && is_text_type rights t)

abbrev pub converts : Rights → TypeTree → TypeTree → Bool → Bool
converts rights t u constant = is_assignable rights u t || both_identical (underlying_of rights u) (underlying_of rights t) || converts_number rights t u constant || converts_bytes rights t u

abbrev pub converts_value : Rights → TypeTree → Option TypeTree → Bool → Bool
converts_value rights t (Some u) constant = converts rights t u constant
converts_value rights t None constant = false

abbrev pub operands_unless : Bool → ℕ → ℕ → List TypeFault
operands_unless true i j = []
operands_unless false i j = fault_at code.Operands i j

abbrev pub open_conversion : Rights → ℕ → ℕ → TypeTree → Part → Option OpenKind → List TypeFault
open_conversion rights i j t x (Some k) = if suits rights k t then unrepresented rights t x else fault_at code.Operands i j
open_conversion rights i j t x None = fault_at code.Operands i j

-- of what isn't constant, or is a constant that the value of which isn't kept
abbrev pub value_conversion : Rights → ℕ → ℕ → TypeTree → Part → Stands → List TypeFault
value_conversion rights i j t x sort.Nil = operands_unless (has_nil (underlying_of rights t)) i j
value_conversion rights i j t x (sort.Open u) = open_conversion rights i j t x (open_kind (sort.Open u))
value_conversion rights i j t x s = operands_unless (converts_value rights t (value_type s) (is_constant s)) i j

abbrev pub kept_conversion : Rights → TypeTree → Part → Option Const → List TypeFault
kept_conversion rights t x (Some c) = if represents rights t c then [] else at_part code.Representable x
kept_conversion rights t x None = []

-- `T(x)`, in its seven cases (Go specification, "Conversions")
abbrev pub conversion_failing : Rights → ℕ → ℕ → TypeTree → Part → List TypeFault
conversion_failing rights i j t x =
    if keeps_value rights t (constant_of (sort_of x))
    then kept_conversion rights t x (constant_of (sort_of x))
    else (if becomes_text rights t (constant_of (sort_of x)) then undefaulted rights x else value_conversion rights i j t x (sort_of x))

abbrev pub replacement : List ℕ
replacement = encode_utf8 0xFFFD

-- the characters that have an encoding: no surrogates, and none above 10FFFF
abbrev pub has_encoding : ℕ → Bool
has_encoding n = nat_lt n 0xD800 || (nat_le 0xE000 n && nat_le n 0x10FFFF)

-- the text of one character; of a number that is none that of FFFD
abbrev pub text_of_number : ℤ → List ℕ
text_of_number (pos n) = if has_encoding n then encode_utf8 n else replacement
text_of_number (negsuc n) = replacement

abbrev pub text_of : Option Const → List ℕ
text_of (Some (const.Int z rune)) = text_of_number z
text_of _ = []

abbrev pub constant_or_value : TypeTree → Option Const → Stands
constant_or_value t (Some c) = sort.Constant t c
constant_or_value t None = sort.Value t

abbrev pub conversion_sort : Rights → TypeTree → Stands → Stands
conversion_sort rights t x =
    if keeps_value rights t (constant_of x)
    then constant_or_value t (constant_of x)
    else (if becomes_text rights t (constant_of x) then sort.Constant t (const.Text (text_of (constant_of x))) else sort.Value t)

-- An untyped operand of a conversion to an integer or boolean type takes that type, and of any other its default type. `nil`
-- takes the type.
abbrev pub conversion_take : Rights → TypeTree → Stands → Take
conversion_take rights t x = if (is_integer_type rights t && is_whole rights x) || is_family family.Booleans (family_of_type (underlying_of rights t)) || is_nil x then as_type t else default

-- ---- calls of functions

abbrev pub parameters_of : Option TypeTree → Option TypeRow
parameters_of (Some (function ps rs)) = Some ps
parameters_of _ = None

abbrev pub results_of : Option TypeTree → TypeRow
results_of (Some (function ps rs)) = rs
results_of _ = none

abbrev pub row_length : TypeRow → ℕ
row_length none = 0
row_length (more t ts) = suc (row_length ts)

-- each value is given to a variable of its type
abbrev pub all_unassignable : Rights → TypeRow → List Part → List TypeFault
all_unassignable rights (more t ts) (x ∷ xs) = unassignable rights t x ++ all_unassignable rights ts xs
all_unassignable rights _ _ = []

abbrev pub function_call_failing : Rights → ℕ → ℕ → Option TypeRow → List Part → List TypeFault
function_call_failing rights i j None xs = fault_at code.Operands i j
function_call_failing rights i j (Some ps) xs = if row_length ps == length xs then all_unassignable rights ps xs else fault_at code.Count i j

-- the value of one result, or all of several
abbrev pub called : TypeTree → TypeRow → Stands
called t (more r none) = sort.Value r
called t rs = sort.Results t

abbrev pub function_call_sort : Rights → Option TypeTree → Stands
function_call_sort rights None = sort.Unknown
function_call_sort rights (Some t) = called t (results_of (underlying_of rights t))

abbrev pub all_as : TypeRow → List Take
all_as none = []
all_as (more t ts) = as_type t ∷ all_as ts

-- ---- predeclared functions

-- a call without a result
abbrev pub no_results : Stands
no_results = sort.Results (function none none)

-- booleans, integers and texts are printed, and may be the value of a panic
abbrev pub printed : Rights → ℕ → ℕ → Part → List TypeFault
printed rights i j x = if is_some (family_of rights (sort_of x)) then undefaulted rights x else fault_at code.Operands i j

abbrev pub all_printed : Rights → ℕ → ℕ → List Part → List TypeFault
all_printed rights i j [] = []
all_printed rights i j (x ∷ xs) = printed rights i j x ++ all_printed rights i j xs

abbrev pub has_elements : Rights → Stands → Bool
has_elements rights x = is_some (element_of (form_of_value rights x))

-- `len` has texts too
abbrev pub length_failing : Rights → ℕ → ℕ → Bool → List Part → List TypeFault
length_failing rights i j texts (x ∷ []) = operands_unless ((texts && is_text rights (sort_of x)) || has_elements rights (sort_of x)) i j
length_failing rights i j texts xs = fault_at code.Count i j

abbrev pub sizes_failing : Rights → List Part → List TypeFault
sizes_failing rights [] = []
sizes_failing rights (n ∷ []) = bound_failing rights None n
sizes_failing rights (n ∷ m ∷ []) = bound_failing rights None n ++ bound_failing rights None m ++ disordered (Some n) (Some m)
sizes_failing rights (n ∷ m ∷ xs) = bound_failing rights None n ++ bound_failing rights None m

abbrev pub count_unless : Bool → ℕ → ℕ → List TypeFault
count_unless true i j = []
count_unless false i j = fault_at code.Count i j

-- of `make` the number of sizes is judged beside its other rules
abbrev pub make_failing : Rights → ℕ → ℕ → List Part → List TypeFault
make_failing rights i j [] = fault_at code.Count i j
make_failing rights i j (x ∷ xs) =
    count_unless (nat_le 1 (length xs) && nat_le (length xs) 2) i j
    ++ (if is_some (slice_element (underlying_in rights (named_type (sort_of x)))) && list_all (λ n. is_whole rights (sort_of n)) xs then sizes_failing rights xs else fault_at code.Operands i j)

abbrev pub each_unassignable : Rights → TypeTree → List Part → List TypeFault
each_unassignable rights t [] = []
each_unassignable rights t (x ∷ xs) = unassignable rights t x ++ each_unassignable rights t xs

abbrev pub append_failing_in : Rights → ℕ → ℕ → Option TypeTree → List Part → List TypeFault
append_failing_in rights i j (Some t) xs = each_unassignable rights t xs
append_failing_in rights i j None xs = fault_at code.Operands i j

abbrev pub append_failing : Rights → ℕ → ℕ → List Part → List TypeFault
append_failing rights i j [] = fault_at code.Count i j
append_failing rights i j (x ∷ xs) = append_failing_in rights i j (slice_element (form_of_value rights (sort_of x))) xs

-- a slice of identical elements, or a text where the elements are bytes
abbrev pub copies : Rights → Option TypeTree → Stands → Bool
copies rights None y = false
copies rights (Some t) y = both_identical (Some t) (slice_element (form_of_value rights y)) || (is_text rights y && is_byte (Some t))

abbrev pub copy_failing : Rights → ℕ → ℕ → List Part → List TypeFault
copy_failing rights i j (x ∷ y ∷ []) = operands_unless (copies rights (slice_element (form_of_value rights (sort_of x))) (sort_of y)) i j
copy_failing rights i j xs = fault_at code.Count i j

abbrev pub panic_failing : Rights → ℕ → ℕ → List Part → List TypeFault
panic_failing rights i j (x ∷ []) = printed rights i j x
panic_failing rights i j xs = fault_at code.Count i j

-- ---- `min` and `max` (Go specification, "Min and max")

-- Where values meet of which some meet in c and the others in d: in the one type, which untyped ones take, or untyped.
abbrev pub met : Rights → Option Common → Option Common → Option Common
met rights (Some (in_type t)) (Some (in_type u)) = if is_identical t u then Some (in_type t) else None
met rights (Some (in_type t)) (Some (in_kind k)) = one_typed rights t (Some k)
met rights (Some (in_kind k)) (Some (in_type u)) = one_typed rights u (Some k)
met rights (Some (in_kind k)) (Some (in_kind l)) = kind_common (common_kind k l)
met rights _ _ = None

abbrev pub all_met : Rights → Option Common → List Part → Option Common
all_met rights c [] = c
all_met rights c (x ∷ xs) = all_met rights (met rights c (own (sort_of x))) xs

-- the type or kind of all of them, after the conversion that operands have
abbrev pub meeting : Rights → List Part → Option Common
meeting rights [] = None
meeting rights (x ∷ xs) = all_met rights (own (sort_of x)) xs

abbrev pub are_constants : List Part → Bool
are_constants xs = list_all (λ x. is_constant (sort_of x)) xs

abbrev pub each_unrepresented : Rights → TypeTree → List Part → List TypeFault
each_unrepresented rights t [] = []
each_unrepresented rights t (x ∷ xs) = unrepresented rights t x ++ each_unrepresented rights t xs

-- Untyped arguments take the type of the others, or the default type where not all are constants; else the result alone is judged.
abbrev pub extreme_refuse : Rights → Bool → Common → List Part → List TypeFault
extreme_refuse rights constant (in_type t) xs = each_unrepresented rights t xs
extreme_refuse rights constant (in_kind k) xs = if constant then [] else each_unrepresented rights (type_in (in_kind k)) xs

abbrev pub extreme_failing_in : Rights → ℕ → ℕ → List Part → Option Common → List TypeFault
extreme_failing_in rights i j xs None = fault_at code.Operands i j
extreme_failing_in rights i j xs (Some c) = or_else (unordered rights i j c) (extreme_refuse rights (are_constants xs) c xs)

-- one argument or more, all ordered, of one type after the conversion that operands have
abbrev pub extreme_failing : Rights → ℕ → ℕ → List Part → List TypeFault
extreme_failing rights i j [] = fault_at code.Count i j
extreme_failing rights i j (x ∷ xs) = extreme_failing_in rights i j (x ∷ xs) (meeting rights (x ∷ xs))

abbrev pub value_there : Option (Result Const ConstFault) → Option Const
value_there (Some (Ok c)) = Some c
value_there _ = None

-- the least or the greatest of two constants of one family
abbrev pub better : Op → Option Const → Option Const → Option Const
better o a b = value_there (folded_both (const_op.Arith o) a b)

-- the least or the greatest of c and the values of all these, where each is constant
abbrev pub extreme_behind : Op → Option Const → List Part → Option Const
extreme_behind o c [] = c
extreme_behind o c (x ∷ xs) = extreme_behind o (better o c (constant_of (sort_of x))) xs

abbrev pub extreme_value : Op → List Part → Option Const
extreme_value o [] = None
extreme_value o (x ∷ xs) = extreme_behind o (constant_of (sort_of x)) xs

abbrev pub extreme_in : Option Common → Option Const → Stands
extreme_in None v = sort.Unknown
extreme_in (Some c) (Some v) = constant_in c v
extreme_in (Some c) None = sort.Value (type_in c)

-- a constant where all arguments are, untyped where all are untyped; else a value of the type, or of the default type
abbrev pub extreme_sort : Rights → Op → List Part → Stands
extreme_sort rights o xs = extreme_in (meeting rights xs) (extreme_value o xs)

abbrev pub extreme_take_in : Bool → Option Common → Take
extreme_take_in constant None = stay
extreme_take_in constant (Some (in_type t)) = as_type t
extreme_take_in constant (Some (in_kind k)) = if constant then default else as_type (type_in (in_kind k))

-- what each argument takes: the type of the result; where that is untyped, its own default type
abbrev pub extreme_take : Rights → List Part → Take
extreme_take rights xs = extreme_take_in (are_constants xs) (meeting rights xs)

-- ---- all of them

abbrev pub builtin_failing : Rights → ℕ → ℕ → Predeclared → List Part → List TypeFault
builtin_failing rights i j predeclared.Len xs = length_failing rights i j true xs
builtin_failing rights i j predeclared.Cap xs = length_failing rights i j false xs
builtin_failing rights i j predeclared.Make xs = make_failing rights i j xs
builtin_failing rights i j predeclared.Append xs = append_failing rights i j xs
builtin_failing rights i j predeclared.Copy xs = copy_failing rights i j xs
builtin_failing rights i j predeclared.Panic xs = panic_failing rights i j xs
builtin_failing rights i j predeclared.Min xs = extreme_failing rights i j xs
builtin_failing rights i j predeclared.Max xs = extreme_failing rights i j xs
builtin_failing rights i j p xs = fault_at code.Operands i j

-- the length that is constant: of a constant text, and of an array without a call that isn't constant
abbrev pub array_count : Bool → Option ℕ → Option ℕ
array_count true n = None
array_count false n = n

abbrev pub first_count : Option ℕ → Option ℕ → Option ℕ
first_count (Some n) m = Some n
first_count None m = m

abbrev pub constant_length : Rights → Part → Option ℕ
constant_length rights x = first_count (text_length (constant_of (sort_of x))) (array_count (label_of x).calls (array_length (form_of_value rights (sort_of x))))

abbrev pub length_value : Option ℕ → Stands
length_value (Some n) = sort.Constant int (const.Int (pos n) false)
length_value None = sort.Value int

abbrev pub length_sort : Rights → List Part → Stands
length_sort rights (x ∷ xs) = length_value (constant_length rights x)
length_sort rights [] = sort.Unknown

abbrev pub made_sort : List Part → Stands
made_sort (x ∷ xs) = value_or_unknown (named_type (sort_of x))
made_sort [] = sort.Unknown

abbrev pub appended_sort : List Part → Stands
appended_sort (x ∷ xs) = value_or_unknown (own_type (sort_of x))
appended_sort [] = sort.Unknown

abbrev pub builtin_sort : Rights → Predeclared → List Part → Stands
builtin_sort rights predeclared.Len xs = length_sort rights xs
builtin_sort rights predeclared.Cap xs = length_sort rights xs
builtin_sort rights predeclared.Make xs = made_sort xs
builtin_sort rights predeclared.Append xs = appended_sort xs
builtin_sort rights predeclared.Copy xs = sort.Value int
builtin_sort rights predeclared.Panic xs = no_results
builtin_sort rights predeclared.Min xs = extreme_sort rights op.Min xs
builtin_sort rights predeclared.Max xs = extreme_sort rights op.Max xs
builtin_sort rights p xs = sort.Unknown

abbrev pub appended_takes : Option TypeTree → List Part → List Take
appended_takes (Some t) xs = stay ∷ map (λ x. as_type t) xs
appended_takes None xs = stay ∷ map (λ x. default) xs

-- the elements of `append` take the type of the slice's, the sizes of `make` take `int`, the arguments of `min` and `max` one type
abbrev pub builtin_takes : Rights → Predeclared → List Part → List Take
builtin_takes rights p [] = []
builtin_takes rights predeclared.Make (x ∷ xs) = stay ∷ map (λ n. as_type int) xs
builtin_takes rights predeclared.Append (x ∷ xs) = appended_takes (slice_element (form_of_value rights (sort_of x))) xs
builtin_takes rights predeclared.Min (x ∷ xs) = map (λ y. extreme_take rights (x ∷ xs)) (x ∷ xs)
builtin_takes rights predeclared.Max (x ∷ xs) = map (λ y. extreme_take rights (x ∷ xs)) (x ∷ xs)
builtin_takes rights p (x ∷ xs) = map (λ y. default) (x ∷ xs)

-- ---- by what the callee stands for

abbrev pub one_conversion : Rights → ℕ → ℕ → TypeTree → List Part → List TypeFault
one_conversion rights i j t (x ∷ []) = conversion_failing rights i j t x
one_conversion rights i j t xs = fault_at code.Count i j

abbrev pub call_failing : Rights → ℕ → ℕ → Stands → List Part → List TypeFault
call_failing rights i j (sort.IsType t) xs = one_conversion rights i j t xs
call_failing rights i j (sort.Builtin p) xs = builtin_failing rights i j p xs
call_failing rights i j sort.Println xs = all_printed rights i j xs
call_failing rights i j f xs = function_call_failing rights i j (parameters_of (form_of_value rights f)) xs

abbrev pub converted_sort : Rights → TypeTree → List Part → Stands
converted_sort rights t (x ∷ xs) = conversion_sort rights t (sort_of x)
converted_sort rights t [] = sort.Unknown

abbrev pub call_sort : Rights → Stands → List Part → Stands
call_sort rights (sort.IsType t) xs = converted_sort rights t xs
call_sort rights (sort.Builtin p) xs = builtin_sort rights p xs
call_sort rights sort.Println xs = no_results
call_sort rights f xs = function_call_sort rights (own_type f)

abbrev pub function_takes : Option TypeRow → List Part → List Take
function_takes (Some ps) xs = all_as ps
function_takes None xs = map (λ x. default) xs

-- what the arguments take
abbrev pub call_takes : Rights → Stands → List Part → List Take
call_takes rights (sort.IsType t) xs = map (λ x. conversion_take rights t (sort_of x)) xs
call_takes rights (sort.Builtin p) xs = builtin_takes rights p xs
call_takes rights f xs = function_takes (parameters_of (form_of_value rights f)) xs
