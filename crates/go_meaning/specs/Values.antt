-- Values, and what is read of them.
use Rattle.std.specs.Prelude.{ℕ, zero, suc, ◌%◌, ℤ, pos, negsuc, Bool, true, false, ◌&&◌, not, nat_lt, if◌then◌else◌, List, [], ◌∷◌, Option, Some, None, get_or, slice_set}
use Rattle.std.specs.Ordering.{int_eq}
use Rattle.std.specs.Str.{bytes_eq}
use Rattle.go_constants.specs.declared.values.Const.{Const}
use Rattle.go_constants.specs.declared.values.Const.TheVariants as const
use Rattle.go_types_relations.specs.Zeros.{Zero, false_value, number_zero, empty_text, elements, fields, nil_slice, nil_function, ZeroRow, no_zeros, more_zeros}

mutual
  -- A value. It doesn't tell its type.
  pub data Value : Type 0 where
    Truth : Bool → Value
    Whole : ℤ → Value
    -- a string, by its bytes
    Text : List ℕ → Value
    -- an array or a struct: its elements, or the values of its fields, in order
    Parts : Values → Value
    -- a slice: the number of its array, its first place there, its length and its capacity
    Slice : (array start length capacity : ℕ) → Value
    NilSlice : Value
    -- a function of the package, by its number
    Function : ℕ → Value
    NilFunction : Value

  pub data Values : Type 0 where
    none : Values
    more : Value → Values → Values

abbrev pub listed : Values → List Value
listed none = []
listed (more v vs) = v ∷ listed vs

abbrev pub valued : List Value → Values
valued [] = none
valued (v ∷ vs) = more v (valued vs)

abbrev pub copies : ℕ → Value → Values
copies zero v = none
copies (suc n) v = more v (copies n v)

abbrev mutual
  -- what a zero value of go_types_relations is here
  pub zero_value : Zero → Value
  zero_value false_value = Truth false
  zero_value number_zero = Whole (pos 0)
  zero_value empty_text = Text []
  zero_value (elements n z) = Parts (copies n (zero_value z))
  zero_value (fields zs) = Parts (zero_values zs)
  zero_value nil_slice = NilSlice
  zero_value nil_function = NilFunction

  pub zero_values : ZeroRow → Values
  zero_values no_zeros = none
  zero_values (more_zeros z zs) = more (zero_value z) (zero_values zs)

abbrev pub const_value : Const → Value
const_value (const.Bool b) = Truth b
const_value (const.Int z rune) = Whole z
const_value (const.Text bytes) = Text bytes

-- ---- reading values: of another form each reader gives what is least

abbrev pub nth : List Value → ℕ → Value
nth vs n = get_or vs n NilFunction

abbrev pub parts_of : Value → List Value
parts_of (Parts vs) = listed vs
parts_of v = []

abbrev pub whole_of : Value → ℤ
whole_of (Whole z) = z
whole_of v = pos 0

abbrev pub is_true : Value → Bool
is_true (Truth b) = b
is_true v = false

abbrev pub text_of : Value → List ℕ
text_of (Text bytes) = bytes
text_of v = []

abbrev pub byte_of : Value → ℕ
byte_of (Whole (pos n)) = n % 256
byte_of v = 0

-- the array or struct with another part at the place
abbrev pub with_part : Value → ℕ → Value → Value
with_part u k v = Parts (valued (slice_set (parts_of u) k v))

-- an index, where it is one below n
abbrev pub index_below : ℕ → ℤ → Option ℕ
index_below n (pos k) = if nat_lt k n then Some k else None
index_below n (negsuc k) = None

-- ---- equality (Go specification, "Comparison operators")

abbrev pub same_truth : Bool → Bool → Bool
same_truth true b = b
same_truth false b = not b

abbrev mutual
  -- Equality of values of one comparable type, or of a slice or function and nil. Two functions aren't compared.
  pub same_value : Value → Value → Bool
  same_value (Truth a) (Truth b) = same_truth a b
  same_value (Whole a) (Whole b) = int_eq a b
  same_value (Text a) (Text b) = bytes_eq a b
  same_value (Parts us) (Parts vs) = same_values us vs
  same_value NilSlice NilSlice = true
  same_value NilFunction NilFunction = true
  same_value _ _ = false

  pub same_values : Values → Values → Bool
  same_values none none = true
  same_values (more u us) (more v vs) = same_value u v && same_values us vs
  same_values _ _ = false
