-- Types (Go specification, "Types").
use Rattle.std.specs.Prelude.{ℕ, ◌^◌, ◌-◌, Bool, true, false, ◌&&◌, if◌then◌else◌, min, nat_lt, List, [], ◌∷◌, ◌++◌, Option, Some, None, pos}
use Rattle.std.specs.Option.{option_map}
use Rattle.go_base.specs.declared.fault.FaultCode.TheVariants as code
use Rattle.go_constants.specs.declared.values.Const.{Const}
use Rattle.go_constants.specs.declared.values.Const.TheVariants as const
use Rattle.go_grammar.specs.declared.kind.Kind.TheVariants as kind
use Rattle.go_types.specs.Trees.{TypeTree, array, slice, structure, function, row}
use Rattle.go_types.specs.Relations.{Rights}
use Rattle.go_types_relations.specs.Sizes.{scalars_of}
use Rattle.go_typed.specs.declared.form.Form.{Form}
use Rattle.go_typed.specs.declared.form.Form.TheVariants as form
use Rattle.go_typed.specs.Trees.{Typed, typed, Typeds, form_of, sort_of, parts_of, first_of, list_of}
use Rattle.go_typed.specs.Trees as sort
use Rattle.go_exprs_rules.specs.declared.fault.TypeFault.{TypeFault}
use Rattle.go_exprs_rules.specs.Faults.{fault_at}
use Rattle.go_exprs_rules.specs.Sorts.{Stands, constant_of, is_constant, is_whole, is_negative, named_type, int}
use Rattle.go_exprs_rules.specs.Settling.{Part, at_part, unrepresented}

-- a type, where there is one
abbrev pub type_sort : Option TypeTree → Stands
type_sort (Some t) = sort.IsType t
type_sort None = sort.Unknown

abbrev pub part_type : Option Part → Option TypeTree
part_type (Some x) = named_type (sort_of x)
part_type None = None

-- ---- arrays and slices

-- An array type has at most so many scalars.
abbrev pub most_scalars : ℕ
most_scalars = 1048576

-- The program keeps lengths below 2^32. A type of a greater length has too many scalars, so it stands for none of a good
-- package; it is kept with the length 2^32 - 1, which is too much too.
abbrev pub kept_length : ℕ → ℕ
kept_length n = min n (2 ^ 32 - 1)

abbrev pub length_in : Option Const → Option ℕ
length_in (Some (const.Int (pos n) rune)) = Some n
length_in _ = None

abbrev pub exceeds : Option ℕ → Bool
exceeds (Some n) = nat_lt most_scalars n
exceeds None = false

-- an array type that is known to have too many scalars
abbrev pub over_limit : Rights → ℕ → ℕ → Option ℕ → Option TypeTree → List TypeFault
over_limit rights i j (Some n) (Some t) = if exceeds (scalars_of rights (array n t)) then fault_at code.Limit i j else []
over_limit rights i j _ _ = []

abbrev pub limit_failing : Rights → Bool → ℕ → ℕ → Option ℕ → Option TypeTree → List TypeFault
limit_failing rights true i j n t = over_limit rights i j n t
limit_failing rights false i j n t = []

-- the length n of an array type: an integer constant, not negative, a value of `int`; and the limit of the type
abbrev pub length_failing : Rights → Bool → ℕ → ℕ → Part → Option TypeTree → List TypeFault
length_failing rights limits i j n t =
    if is_constant (sort_of n) && is_whole rights (sort_of n)
    then (if is_negative (constant_of (sort_of n)) then at_part code.ConstIndex n else unrepresented rights int n ++ limit_failing rights limits i j (length_in (constant_of (sort_of n))) t)
    else at_part code.Operands n

abbrev pub sequence_failing : Rights → Bool → ℕ → ℕ → Option Part → Option Part → List TypeFault
sequence_failing rights limits i j None e = []
sequence_failing rights limits i j (Some n) e = length_failing rights limits i j n (part_type e)

abbrev pub array_of : Option ℕ → Option TypeTree → Option TypeTree
array_of (Some n) (Some t) = Some (array (kept_length n) t)
array_of _ _ = None

-- `[n]T` or `[]T`
abbrev pub sequence_type : Option Part → Option TypeTree → Option TypeTree
sequence_type None t = option_map slice t
sequence_type (Some n) t = array_of (length_in (constant_of (sort_of n))) t

-- ---- parameters and results

abbrev pub is_parameter : Form → Bool
is_parameter (form.Held kind.Parameter) = true
is_parameter f = false

abbrev pub second : List (Option Part) → Option Part
second (x ∷ y ∷ ys) = y
second _ = None

-- an entry that is a name alone has the type of the next one
abbrev pub entry_type : Stands → Option TypeTree → Option TypeTree
entry_type sort.Nothing next = next
entry_type s next = named_type s

abbrev pub entry_of : Part → Option TypeTree → Option TypeTree
entry_of x next = if is_parameter (form_of x) then part_type (second (list_of (parts_of x))) else entry_type (sort_of x) next

abbrev pub first_entry : List (Option TypeTree) → Option TypeTree
first_entry [] = None
first_entry (t ∷ ts) = t

abbrev pub entry_types : List (Option Part) → List (Option TypeTree)
entry_types [] = []
entry_types (None ∷ xs) = entry_types xs
entry_types (Some x ∷ xs) = entry_of x (first_entry (entry_types xs)) ∷ entry_types xs

abbrev pub with_front : Option TypeTree → Option (List TypeTree) → Option (List TypeTree)
with_front (Some t) (Some ts) = Some (t ∷ ts)
with_front _ _ = None

abbrev pub all_types : List (Option TypeTree) → Option (List TypeTree)
all_types [] = Some []
all_types (t ∷ ts) = with_front t (all_types ts)

abbrev pub is_result_list : Form → Bool
is_result_list (form.Held kind.Results) = true
is_result_list f = false

abbrev pub result_types : Option Part → List (Option TypeTree)
result_types None = []
result_types (Some x) = if is_result_list (form_of x) then entry_types (list_of (parts_of x)) else named_type (sort_of x) ∷ []

abbrev pub parts_in : Option Part → List (Option Part)
parts_in (Some x) = list_of (parts_of x)
parts_in None = []

abbrev pub function_of : Option (List TypeTree) → Option (List TypeTree) → Option TypeTree
function_of (Some ps) (Some rs) = Some (function (row ps) (row rs))
function_of _ _ = None

-- the type of a function with these parameters and results
abbrev pub signature_type : Option Part → Option Part → Option TypeTree
signature_type ps rs = function_of (all_types (entry_types (parts_in ps))) (all_types (result_types rs))

-- ---- structs

abbrev pub is_field_name : Form → Bool
is_field_name (form.Held kind.DeclaredName) = true
is_field_name f = false

abbrev pub Fields : Type 0
Fields = List (List ℕ × TypeTree)

abbrev pub fields_of : List (List ℕ) → Option TypeTree → Fields → Fields
fields_of [] t rest = rest
fields_of (n ∷ ns) None rest = rest
fields_of (n ∷ ns) (Some t) rest = (n, t) ∷ fields_of ns (Some t) rest

-- The names, the type and so on of each line; the argument ns are the names of the line so far.
abbrev pub fields_from : (ℕ → List ℕ) → List (List ℕ) → List (Option Part) → Fields
fields_from texts ns [] = []
fields_from texts ns (None ∷ xs) = fields_from texts ns xs
fields_from texts ns (Some x ∷ xs) = if is_field_name (form_of x) then fields_from texts (ns ++ texts (first_of x) ∷ []) xs else fields_of ns (named_type (sort_of x)) (fields_from texts [] xs)

abbrev pub names_of : Fields → List (List ℕ)
names_of [] = []
names_of (f ∷ fs) = f.0 ∷ names_of fs

abbrev pub types_of : Fields → List TypeTree
types_of [] = []
types_of (f ∷ fs) = f.1 ∷ types_of fs

abbrev pub structure_of : Fields → TypeTree
structure_of fs = structure (names_of fs) (row (types_of fs))
