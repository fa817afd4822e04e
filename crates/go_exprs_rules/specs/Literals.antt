-- Composite literals (Go specification, "Composite literals").
use Rattle.std.specs.Prelude.{ℕ, zero, suc, ◌==◌, Bool, false, if◌then◌else◌, nat_lt, List, [], ◌∷◌, ◌++◌, length, map, Option, Some, None, is_some}
use Rattle.std.specs.List.{list_all, list_any}
use Rattle.go_base.specs.declared.fault.FaultCode.TheVariants as code
use Rattle.go_types.specs.Trees.{TypeTree, array, slice, structure, TypeRow}
use Rattle.go_types.specs.Relations.{Rights}
use Rattle.go_typed.specs.declared.form.Form.{Form}
use Rattle.go_typed.specs.declared.form.Form.TheVariants as form
use Rattle.go_typed.specs.Trees.{Typed, typed, Typeds, form_of, sort_of, parts_of}
use Rattle.go_typed.specs.Trees as sort
use Rattle.go_exprs_rules.specs.declared.fault.TypeFault.{TypeFault}
use Rattle.go_exprs_rules.specs.Faults.{fault_at}
use Rattle.go_exprs_rules.specs.Sorts.{Stands, underlying_in}
use Rattle.go_exprs_rules.specs.Settling.{Part, at_part, unassignable, Take, stay, as_type}
use Rattle.go_exprs_rules.specs.Indexes.{type_at, value_or_unknown}
use Rattle.go_exprs_rules.specs.Calls.{row_length, all_unassignable, all_as, each_unassignable}

-- the number of the field of an element with a key
abbrev pub key_in : Form → Option ℕ
key_in (form.Keyed n) = Some n
key_in f = None

abbrev pub key_of : Part → Option ℕ
key_of x = key_in (form_of x)

abbrev pub is_keyed : Part → Bool
is_keyed x = is_some (key_of x)

abbrev pub has_keys : List Part → Bool
has_keys xs = list_any is_keyed xs

abbrev pub is_below : ℕ → Option ℕ → Bool
is_below count (Some n) = nat_lt n count
is_below count None = false

abbrev pub first_part : Typeds TypeTree → Option Part
first_part (sort.more p ps) = Some p
first_part ps = None

-- ---- arrays and slices: elements of one type, without keys

abbrev pub nth_part : List Part → ℕ → Option Part
nth_part [] n = None
nth_part (x ∷ xs) zero = Some x
nth_part (x ∷ xs) (suc n) = nth_part xs n

abbrev pub at_optional : Option Part → List TypeFault
at_optional (Some x) = at_part code.ConstIndex x
at_optional None = []

-- the first element too many
abbrev pub too_many : Option ℕ → List Part → List TypeFault
too_many None xs = []
too_many (Some n) xs = at_optional (nth_part xs n)

abbrev pub elements_failing : Rights → ℕ → ℕ → TypeTree → Option ℕ → List Part → List TypeFault
elements_failing rights i j t limit xs = if has_keys xs then fault_at code.Operands i j else each_unassignable rights t xs ++ too_many limit xs

-- ---- structs: nothing, all fields in order, or distinct keys

abbrev pub keyed_type : TypeRow → Option ℕ → Option TypeTree
keyed_type ts (Some n) = type_at ts n
keyed_type ts None = None

abbrev pub given_to_field : Rights → Option TypeTree → Option Part → List TypeFault
given_to_field rights (Some t) (Some x) = unassignable rights t x
given_to_field rights _ _ = []

abbrev pub keyed_unassignable : Rights → TypeRow → List Part → List TypeFault
keyed_unassignable rights ts [] = []
keyed_unassignable rights ts (x ∷ xs) = given_to_field rights (keyed_type ts (key_of x)) (first_part (parts_of x)) ++ keyed_unassignable rights ts xs

abbrev pub keyed_failing : Rights → ℕ → ℕ → TypeRow → List Part → List TypeFault
keyed_failing rights i j ts xs = if list_all (λ x. is_below (row_length ts) (key_of x)) xs then keyed_unassignable rights ts xs else fault_at code.Operands i j

abbrev pub ordered_failing : Rights → ℕ → ℕ → TypeRow → List Part → List TypeFault
ordered_failing rights i j ts xs = if row_length ts == length xs then all_unassignable rights ts xs else fault_at code.Count i j

abbrev pub fields_failing : Rights → ℕ → ℕ → TypeRow → List Part → List TypeFault
fields_failing rights i j ts [] = []
fields_failing rights i j ts (x ∷ xs) = if has_keys (x ∷ xs) then keyed_failing rights i j ts (x ∷ xs) else ordered_failing rights i j ts (x ∷ xs)

-- ---- by the underlying type

abbrev pub literal_failing_in : Rights → ℕ → ℕ → Option TypeTree → List Part → List TypeFault
literal_failing_in rights i j (Some (array n t)) xs = elements_failing rights i j t (Some n) xs
literal_failing_in rights i j (Some (slice t)) xs = elements_failing rights i j t None xs
literal_failing_in rights i j (Some (structure ns ts)) xs = fields_failing rights i j ts xs
literal_failing_in rights i j u xs = fault_at code.Operands i j

-- the literal of the type t, if it has one, with these elements
abbrev pub literal_failing : Rights → ℕ → ℕ → Option TypeTree → List Part → List TypeFault
literal_failing rights i j t xs = literal_failing_in rights i j (underlying_in rights t) xs

abbrev pub as_optional : Option TypeTree → Take
as_optional (Some t) = as_type t
as_optional None = stay

abbrev pub fields_take : TypeRow → List Part → List Take
fields_take ts xs = if has_keys xs then map (λ x. as_optional (keyed_type ts (key_of x))) xs else all_as ts

abbrev pub literal_takes_in : Option TypeTree → List Part → List Take
literal_takes_in (Some (array n t)) xs = map (λ x. as_type t) xs
literal_takes_in (Some (slice t)) xs = map (λ x. as_type t) xs
literal_takes_in (Some (structure ns ts)) xs = fields_take ts xs
literal_takes_in u xs = map (λ x. stay) xs

-- what the elements take
abbrev pub literal_takes : Rights → Option TypeTree → List Part → List Take
literal_takes rights t xs = literal_takes_in (underlying_in rights t) xs

abbrev pub literal_sort : Option TypeTree → Stands
literal_sort t = value_or_unknown t
