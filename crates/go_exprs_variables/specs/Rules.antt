-- Rules that fail of no operands with variables in them that they didn't fail of with constants: one statement for each.
use Rattle.std.specs.Prelude.{◌≡◌, ℕ, Bool, false, ◌&&◌, List, [], ◌∷◌, Option, Some, None}
use Rattle.std.specs.Option.{option_map}
use Rattle.go_grammar.specs.declared.kind.Comparison.{Comparison}
use Rattle.go_grammar.specs.declared.kind.Operator.{Operator}
use Rattle.go_grammar.specs.declared.kind.Sign.{Sign}
use Rattle.go_ints.specs.declared.operators.Op.{Op}
use Rattle.go_types.specs.Trees.{TypeTree, TypeRow}
use Rattle.go_types.specs.Relations.{Rights}
use Rattle.go_typed.specs.Trees.{sort_of, label_of}
use Rattle.go_exprs_rules.specs.Calls.{conversion_failing, conversion_sort, conversion_take, length_failing, constant_length, make_failing, append_failing, copy_failing}
use Rattle.go_exprs_rules.specs.Calls.{printed, meeting, are_constants, extreme_failing, extreme_sort, extreme_take}
use Rattle.go_exprs_rules.specs.Indexes.{index_failing, slice_failing, slice_sort}
use Rattle.go_exprs_rules.specs.Literals.{elements_failing, ordered_failing, keyed_failing}
use Rattle.go_exprs_rules.specs.Names.{place_failing}
use Rattle.go_exprs_rules.specs.Operators.{Common, type_in, common, unary_failing, unary_sort, binary_failing, binary_sort, shift_failing, shift_sort, compared_in, compared_failing, compared_take}
use Rattle.go_exprs_rules.specs.Scopes.{Hint}
use Rattle.go_exprs_rules.specs.Settling.{Part, unassignable}
use Rattle.go_exprs_rules.specs.Sorts.{Stands, is_constant, is_nil, open_kind, default_type, named_type, form_of_value, slice_element, uint, int}
use Rattle.go_exprs_variables.specs.Operands.{Operand, IsValue, Both, Bounded, Operands, Alike, InOrder, Keyed}
use Rattle.go_exprs_variables.specs.Stood.{Stood, taken}

-- ---- operators

-- An operation that isn't constant takes the type u later, if it takes one. It stands for what it stood for, or for a value of u.
abbrev pub UnaryKept : Type 0
UnaryKept = (rights : Rights) (o : Sign) (i j : ℕ) (u : Option TypeTree) (a b : Stands) → Stood rights u a b → unary_failing rights o i j a ≡ [] → IsValue (unary_sort rights o a)
    → (unary_failing rights o i j b ≡ []) × Stood rights u (unary_sort rights o a) (unary_sort rights o b)

-- operators that neither compare nor shift
abbrev pub BinaryKept : Type 0
BinaryKept = (rights : Rights) (u : Option TypeTree) (o : Operator) (i j : ℕ) (x y z v : Part) → ((c : Common) → common rights (sort_of x) (sort_of y) ≡ Some c → Both rights u c x y z v)
    → binary_failing rights o i j x y ≡ [] → IsValue (binary_sort rights o (sort_of x) (sort_of y))
    → (binary_failing rights o i j z v ≡ []) × Stood rights u (binary_sort rights o (sort_of x) (sort_of y)) (binary_sort rights o (sort_of z) (sort_of v))

abbrev pub ShiftKept : Type 0
ShiftKept = (rights : Rights) (u : Option TypeTree) (o : Operator) (i j : ℕ) (x y z v : Part) → Operand rights u x z → Operand rights (Some uint) y v → shift_failing rights o i j x y ≡ []
    → IsValue (shift_sort o (sort_of x) (sort_of y)) → (shift_failing rights o i j z v ≡ []) × Stood rights u (shift_sort o (sort_of x) (sort_of y)) (shift_sort o (sort_of z) (sort_of v))

-- operands neither of which is `nil`, and not both of which are constant
abbrev pub ComparisonKept : Type 0
ComparisonKept = (rights : Rights) (o : Comparison) (i j : ℕ) (d : Common) (x y z v : Part) → Operand rights (Some (type_in d)) x z → Operand rights (Some (type_in d)) y v → is_nil (sort_of x) ≡ false → is_nil (sort_of y) ≡ false
    → (is_constant (sort_of x) && is_constant (sort_of y)) ≡ false → compared_in rights (sort_of x) (sort_of y) ≡ Some d → compared_failing rights o i j x y ≡ []
    → (compared_failing rights o i j z v ≡ []) × (compared_take rights (sort_of z) (sort_of v) ≡ compared_take rights (sort_of x) (sort_of y))

-- ---- indexes and slices

abbrev pub IndexKept : Type 0
IndexKept = (rights : Rights) (i j : ℕ) (o : Option TypeTree) (a b : Stands) (n m : Part) → Stood rights o a b → Operand rights (Some int) n m → index_failing rights i j a n ≡ [] → index_failing rights i j b m ≡ []

-- an operand that takes its default type
abbrev pub SliceKept : Type 0
SliceKept = (rights : Rights) (i j : ℕ) (a b : Stands) (x y z v : Option Part) → Stood rights (option_map default_type (open_kind a)) a b → Bounded rights x z → Bounded rights y v → slice_failing rights i j a x y ≡ []
    → (slice_failing rights i j b z v ≡ []) × (slice_sort b ≡ slice_sort a)

-- ---- calls

-- a conversion that isn't constant
abbrev pub ConversionKept : Type 0
ConversionKept = (rights : Rights) (i j : ℕ) (t : TypeTree) (x y : Part) → Operand rights (taken (conversion_take rights t (sort_of x)) None (sort_of x)) x y
    → conversion_failing rights i j t x ≡ [] → IsValue (conversion_sort rights t (sort_of x))
    → (conversion_failing rights i j t y ≡ []) × (conversion_sort rights t (sort_of y) ≡ conversion_sort rights t (sort_of x))

-- `len`, and `cap` without texts
abbrev pub LengthKept : Type 0
LengthKept = (rights : Rights) (i j : ℕ) (texts : Bool) (o : Option TypeTree) (x y : Part) → Stood rights o (sort_of x) (sort_of y) → length_failing rights i j texts (x ∷ []) ≡ [] → length_failing rights i j texts (y ∷ []) ≡ []

-- A length that isn't constant stays so: that of an operand that has its type, and a call where it had one.
abbrev pub OpenLengthKept : Type 0
OpenLengthKept = (rights : Rights) (o : Option TypeTree) (x y : Part) → Stood rights o (sort_of x) (sort_of y) → (label_of y).calls ≡ (label_of x).calls → form_of_value rights (sort_of y) ≡ form_of_value rights (sort_of x)
    → constant_length rights x ≡ None → constant_length rights y ≡ None

abbrev pub MakeKept : Type 0
MakeKept = (rights : Rights) (i j : ℕ) (x y : Part) (xs ys : List Part) → named_type (sort_of y) ≡ named_type (sort_of x) → Operands rights int xs ys → make_failing rights i j (x ∷ xs) ≡ [] → make_failing rights i j (y ∷ ys) ≡ []

-- elements for a slice with elements of the type t
abbrev pub AppendKept : Type 0
AppendKept = (rights : Rights) (i j : ℕ) (x y : Part) (t : TypeTree) (xs ys : List Part) → form_of_value rights (sort_of y) ≡ form_of_value rights (sort_of x)
    → slice_element (form_of_value rights (sort_of x)) ≡ Some t → Operands rights t xs ys
    → append_failing rights i j (x ∷ xs) ≡ [] → append_failing rights i j (y ∷ ys) ≡ []

abbrev pub CopyKept : Type 0
CopyKept = (rights : Rights) (i j : ℕ) (o q : Option TypeTree) (x y z v : Part) → Stood rights o (sort_of x) (sort_of z) → Stood rights q (sort_of y) (sort_of v)
    → copy_failing rights i j (x ∷ y ∷ []) ≡ [] → copy_failing rights i j (z ∷ v ∷ []) ≡ []

-- an argument of `fmt.Println`, or of `panic`
abbrev pub PrintedKept : Type 0
PrintedKept = (rights : Rights) (i j : ℕ) (o : Option TypeTree) (x y : Part) → Operand rights o x y → printed rights i j x ≡ [] → printed rights i j y ≡ []

-- `min` and `max`, where not all arguments are constant
abbrev pub ExtremeKept : Type 0
ExtremeKept = (rights : Rights) (o : Op) (i j : ℕ) (x y : Part) (xs ys : List Part) → ((c : Common) → meeting rights (x ∷ xs) ≡ Some c → Operands rights (type_in c) (x ∷ xs) (y ∷ ys)) → are_constants (x ∷ xs) ≡ false
    → extreme_failing rights i j (x ∷ xs) ≡ []
    → (extreme_failing rights i j (y ∷ ys) ≡ []) × (extreme_sort rights o (y ∷ ys) ≡ extreme_sort rights o (x ∷ xs)) × (extreme_take rights (y ∷ ys) ≡ extreme_take rights (x ∷ xs))

-- ---- values that are given to variables, and elements of literals

abbrev pub AssignmentKept : Type 0
AssignmentKept = (rights : Rights) (t : TypeTree) (x y : Part) → Operand rights (Some t) x y → unassignable rights t x ≡ [] → unassignable rights t y ≡ []

abbrev pub ElementsKept : Type 0
ElementsKept = (rights : Rights) (i j : ℕ) (t : TypeTree) (limit : Option ℕ) (xs ys : List Part) → Alike rights t xs ys → elements_failing rights i j t limit xs ≡ [] → elements_failing rights i j t limit ys ≡ []

abbrev pub OrderedKept : Type 0
OrderedKept = (rights : Rights) (i j : ℕ) (ts : TypeRow) (xs ys : List Part) → InOrder rights ts xs ys → ordered_failing rights i j ts xs ≡ [] → ordered_failing rights i j ts ys ≡ []

abbrev pub KeyedKept : Type 0
KeyedKept = (rights : Rights) (i j : ℕ) (ts : TypeRow) (xs ys : List Part) → Keyed rights ts xs ys → keyed_failing rights i j ts xs ≡ [] → keyed_failing rights i j ts ys ≡ []

-- ---- places

abbrev pub PlaceKept : Type 0
PlaceKept = (rights : Rights) (i j : ℕ) (h : Hint) (o : Option TypeTree) (a b : Stands) → Stood rights o a b → place_failing rights h i j a ≡ [] → place_failing rights h i j b ≡ []
