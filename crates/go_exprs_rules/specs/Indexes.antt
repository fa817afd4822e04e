-- Selectors, index expressions and slice expressions.
use Rattle.std.specs.Prelude.{ℕ, suc, zero, ◌+◌, Bool, true, false, ◌&&◌, ◌||◌, not, if◌then◌else◌, List, [], ◌∷◌, ◌++◌, length, Option, Some, None, is_some, ℤ, pos, int_le}
use Rattle.std.specs.Option.{option_map}
use Rattle.go_base.specs.declared.fault.FaultCode.TheVariants as code
use Rattle.go_constants.specs.declared.values.Const.{Const}
use Rattle.go_constants.specs.declared.values.Const.TheVariants as const
use Rattle.go_types.specs.Trees.{TypeTree, structure, TypeRow, none, more}
use Rattle.go_types.specs.Relations.{Rights}
use Rattle.go_types_relations.specs.Identity.{same_name}
use Rattle.go_typed.specs.Trees.{sort_of}
use Rattle.go_typed.specs.Trees as sort
use Rattle.go_exprs_rules.specs.declared.fault.TypeFault.{TypeFault}
use Rattle.go_exprs_rules.specs.Faults.{fault_at}
use Rattle.go_exprs_rules.specs.Sorts.{Stands, constant_of, is_text, is_whole, is_negative, form_of_value, value_type, element_of, slice_element, array_length, int, byte}
use Rattle.go_exprs_rules.specs.Settling.{Part, at_part, unrepresented}

-- ---- fields

-- the place of a name among names
abbrev pub place_from : ℕ → List (List ℕ) → List ℕ → Option ℕ
place_from n [] name = None
place_from n (x ∷ xs) name = if same_name x name then Some n else place_from (suc n) xs name

-- the number of the field of this name, of an underlying type
abbrev pub field_number : Option TypeTree → List ℕ → Option ℕ
field_number (Some (structure ns ts)) name = place_from 0 ns name
field_number _ name = None

abbrev pub type_at : TypeRow → ℕ → Option TypeTree
type_at none n = None
type_at (more t ts) zero = Some t
type_at (more t ts) (suc n) = type_at ts n

-- the type of the field of this number
abbrev pub field_type : Option TypeTree → ℕ → Option TypeTree
field_type (Some (structure ns ts)) n = type_at ts n
field_type _ n = None

abbrev pub numbered_type : Option TypeTree → Option ℕ → Option TypeTree
numbered_type u None = None
numbered_type u (Some n) = field_type u n

-- the type of the field of this name
abbrev pub named_field : Option TypeTree → List ℕ → Option TypeTree
named_field u name = numbered_type u (field_number u name)

-- `x.f`: x is the package, or a value of a struct type with the field f
abbrev pub selector_failing : Rights → ℕ → ℕ → List ℕ → Stands → List TypeFault
selector_failing rights i j name sort.Package = []
selector_failing rights i j name x = if is_some (named_field (form_of_value rights x) name) then [] else fault_at code.Operands i j

abbrev pub value_or_unknown : Option TypeTree → Stands
value_or_unknown (Some t) = sort.Value t
value_or_unknown None = sort.Unknown

abbrev pub selector_sort : Rights → List ℕ → Stands → Stands
selector_sort rights name sort.Package = sort.Println
selector_sort rights name x = value_or_unknown (named_field (form_of_value rights x) name)

-- ---- bounds

-- not negative, and below the limit if there is one
abbrev pub below_limit : Option ℕ → ℤ → Bool
below_limit None z = true
below_limit (Some n) z = not (int_le (pos n) z)

abbrev pub outside : Option ℕ → Option Const → Bool
outside limit (Some (const.Int z rune)) = is_negative (Some (const.Int z rune)) || not (below_limit limit z)
outside limit _ = false

-- A constant index is a value of `int`, not negative, and below the limit.
abbrev pub bound_failing : Rights → Option ℕ → Part → List TypeFault
bound_failing rights limit x = unrepresented rights int x ++ (if outside limit (constant_of (sort_of x)) then at_part code.ConstIndex x else [])

abbrev pub optional_bound : Rights → Option ℕ → Option Part → List TypeFault
optional_bound rights limit (Some x) = bound_failing rights limit x
optional_bound rights limit None = []

abbrev pub is_greater : Option Const → Option Const → Bool
is_greater (Some (const.Int a r)) (Some (const.Int b s)) = not (int_le a b)
is_greater _ _ = false

-- of two constants that are out of order the first
abbrev pub disordered : Option Part → Option Part → List TypeFault
disordered (Some x) (Some y) = if is_greater (constant_of (sort_of x)) (constant_of (sort_of y)) then at_part code.ConstIndex x else []
disordered _ _ = []

abbrev pub text_length : Option Const → Option ℕ
text_length (Some (const.Text bytes)) = Some (length bytes)
text_length _ = None

-- ---- index expressions

abbrev pub index_failing_in : Rights → ℕ → ℕ → Option TypeTree → Part → List TypeFault
index_failing_in rights i j u n = if is_some (element_of u) then bound_failing rights (array_length u) n else fault_at code.Operands i j

-- `x[n]`: x a text, an array or a slice, and n an integer
abbrev pub index_failing : Rights → ℕ → ℕ → Stands → Part → List TypeFault
index_failing rights i j x n =
    if is_whole rights (sort_of n)
    then (if is_text rights x then bound_failing rights (text_length (constant_of x)) n else index_failing_in rights i j (form_of_value rights x) n)
    else fault_at code.Operands i j

-- a byte of a text, or an element
abbrev pub index_sort : Rights → Stands → Stands
index_sort rights x = if is_text rights x then sort.Value byte else value_or_unknown (element_of (form_of_value rights x))

-- ---- slice expressions

abbrev pub whole_or_absent : Rights → Option Part → Bool
whole_or_absent rights (Some x) = is_whole rights (sort_of x)
whole_or_absent rights None = true

abbrev pub bounds_failing : Rights → Option ℕ → Option Part → Option Part → List TypeFault
bounds_failing rights limit low high = optional_bound rights limit low ++ optional_bound rights limit high ++ disordered low high

-- `x[low:high]`: x a text or a slice
abbrev pub slice_failing : Rights → ℕ → ℕ → Stands → Option Part → Option Part → List TypeFault
slice_failing rights i j x low high =
    if (is_text rights x || is_some (slice_element (form_of_value rights x))) && whole_or_absent rights low && whole_or_absent rights high
    then bounds_failing rights (option_map (λ n. n + 1) (text_length (constant_of x))) low high
    else fault_at code.Operands i j

-- the type of x; `string` for an untyped constant
abbrev pub slice_sort : Stands → Stands
slice_sort x = value_or_unknown (value_type x)
