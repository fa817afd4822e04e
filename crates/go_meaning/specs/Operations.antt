-- What operations do to values and the world, once their operands are evaluated.
use Rattle.std.specs.Prelude.{ℕ, zero, suc, ◌+◌, ◌-◌, ◌*◌, ℤ, pos, negsuc, neg_ℤ, unsigned_abs, int_le, Bool, true, false, ◌&&◌, not, min, max, nat_le, if◌then◌else◌, List, [], ◌∷◌, ◌++◌, length, map, take, drop, replicate, Option, Some, None, Result, Ok, Err, slice_set, slice_index, get_or}
use Rattle.std.specs.Ordering.{nat_cmp, int_cmp, is_lt, is_le, is_gt, is_ge}
use Rattle.std.specs.Cmp.Lexicographic.{slice_cmp}
use Rattle.std.specs.declared.cmp.Ordering.{Ordering}
use Rattle.go_ints.specs.declared.kinds.Kind.{Kind}
use Rattle.go_ints.specs.declared.operators.Op.{Op}
use Rattle.go_ints.specs.declared.operators.Trap.{Trap}
use Rattle.go_ints.specs.declared.operators.Trap.TheVariants.{DivideZero, NegativeShift}
use Rattle.go_ints.specs.Arithmetic.{arithmetic}
use Rattle.go_ints.specs.Bitwise.{complement}
use Rattle.go_ints.specs.Kinds.{wrapped_into}
use Rattle.go_grammar.specs.declared.kind.Comparison.{Comparison}
use Rattle.go_grammar.specs.declared.kind.Comparison.TheVariants.{Equal, NotEqual, Less, LessEqual, Greater, GreaterEqual}
use Rattle.go_types_relations.specs.Zeros.{Zero}
use Rattle.go_meaning.specs.Values.{Value, Truth, Whole, Text, Parts, Slice, NilSlice, NilFunction, nth, parts_of, whole_of, is_true, text_of, byte_of, zero_value, with_part, index_below, same_value, valued}
use Rattle.go_meaning.specs.Texts.{Rune, runes_of, text_of_code, line_of}
use Rattle.go_meaning.specs.Computations.{World, Panic, Divide, Shift, Index, Slicing, Make, User, Next, Panics, Outcome, Ends, Comp}

-- what a `range` goes over (Go specification, "For statements with range clause")
pub data Items : Type 0 where
  -- so many numbers; the operand isn't evaluated
  Fixed : ℕ → Items
  -- the elements of an array, as they are at the start
  Elements : Items
  -- the elements of a slice, each as it is at its turn
  Cells : Items
  Runes : Items
  -- the whole numbers from 0 on that are below an integer
  Numbers : Items

pub data Operation : Type 0 where
  -- arithmetic on integers of a kind, the joining of strings, a comparison
  Compute : Kind → Op → Operation
  Join : Operation
  Compare : Comparison → Operation
  -- an operation on one value, or a conversion
  Keep : Operation
  Not : Operation
  Negate : Kind → Operation
  Complement : Kind → Operation
  Wrap : Kind → Operation
  TextOfCode : Operation
  BytesOfText : Operation
  TextOfBytes : Operation
  -- a field of a struct, and the struct with another one
  Field : ℕ → Operation
  WithField : ℕ → Operation
  -- an array's element, the array with another one, and whether an index is in range; the length of the array
  Element : ℕ → Operation
  WithElement : Operation
  InArray : ℕ → Operation
  -- a slice's element, another one there, and whether an index is in range
  Cell : Operation
  SetCell : Operation
  InSlice : Operation
  -- a byte of a string; a part of a string or slice, and which bounds are given
  Byte : Operation
  Cut : (low high : Bool) → Operation
  ReadVariable : ℕ → Operation
  WriteVariable : ℕ → Operation
  Length : Operation
  Capacity : Operation
  -- `min` and `max`
  Least : Operation
  Greatest : Operation
  -- `make` and `append`, with the zero value of an element
  MakeSlice : Zero → Operation
  Append : Zero → Operation
  Copy : Operation
  -- an array or struct with values at these places, the rest as in the zero value; a slice of the values
  Build : Zero → List ℕ → Operation
  Gather : Operation
  Item : Items → ℕ → Operation
  Print : Operation
  ReadByte : Operation
  PanicWith : Operation
  -- nothing, with nothing given
  Drop : Operation

-- what an operation does
pub data Deed : Type 0 where
  Gives : List Value → World → Deed
  Traps : Panic → Deed

-- ---- integers and comparisons (Go specification, "Arithmetic operators", "Integer overflow", "Comparison operators")

abbrev pub computed : Result ℤ Trap → World → Deed
computed (Ok z) w = Gives (Whole z ∷ []) w
computed (Err DivideZero) w = Traps Divide
computed (Err NegativeShift) w = Traps Shift

-- integers by size, strings by their bytes
abbrev pub order_of : Value → Value → Ordering
order_of (Text a) (Text b) = slice_cmp nat_cmp a b
order_of a b = int_cmp (whole_of a) (whole_of b)

abbrev pub compared : Comparison → Value → Value → Bool
compared Equal a b = same_value a b
compared NotEqual a b = not (same_value a b)
compared Less a b = is_lt (order_of a b)
compared LessEqual a b = is_le (order_of a b)
compared Greater a b = is_gt (order_of a b)
compared GreaterEqual a b = is_ge (order_of a b)

-- ---- the least and the greatest (Go specification, "Min and max")

-- One after the other is taken in place of the value before where it is less, or greater; of equal ones the first stays.
abbrev pub picked : Comparison → Value → List Value → Value
picked c v [] = v
picked c v (u ∷ us) = picked c (if compared c u v then u else v) us

-- ---- lengths and indexes (Go specification, "Length and capacity", "Index expressions")

abbrev pub length_of : Value → ℕ
length_of (Slice a i n c) = n
length_of (Text bytes) = length bytes
length_of v = length (parts_of v)

abbrev pub capacity_of : Value → ℕ
capacity_of (Slice a i n c) = c
capacity_of v = length_of v

-- what is done at an index that is in range
abbrev pub found : Option ℕ → (ℕ → Deed) → Deed
found None k = Traps Index
found (Some i) k = k i

abbrev pub at_index : ℕ → Value → (ℕ → Deed) → Deed
at_index n i k = found (index_below n (whole_of i)) k

abbrev pub index_of : Value → ℕ
index_of i = unsigned_abs (whole_of i)

-- ---- slices and their arrays (Go specification, "Slice types")

abbrev pub array_at : World → ℕ → List Value
array_at w a = get_or w.arrays a []

abbrev pub contents : Value → World → List Value
contents (Slice a i n c) w = take n (drop i (array_at w a))
contents v w = []

abbrev pub cell : Value → ℕ → World → Value
cell (Slice a i n c) k w = nth (array_at w a) (i + k)
cell v k w = NilFunction

-- vs put into xs from the place i on
abbrev pub put_at : ℕ → List Value → List Value → List Value
put_at i vs xs = take i xs ++ vs ++ drop (i + length vs) xs

abbrev pub with_cells : Value → ℕ → List Value → World → World
with_cells (Slice a i n c) k vs w = record w { arrays = slice_set w.arrays a (put_at (i + k) vs (array_at w a)) }
with_cells v k vs w = w

-- a new array of these values, and the filler up to the capacity
abbrev pub new_slice : List Value → ℕ → Value → World → Deed
new_slice vs capacity filler w =
    Gives (Slice (length w.arrays) 0 (length vs) capacity ∷ []) (record w { arrays = w.arrays ++ (vs ++ replicate (capacity - length vs) filler) ∷ [] })

-- `make` (Go specification, "Making slices, maps and channels"); above 2 ^ 24 elements it panics
abbrev pub made : Zero → ℤ → ℤ → World → Deed
made z n m w =
    if int_le (pos 0) n && int_le n m && int_le m (pos 16777216) then new_slice (replicate (unsigned_abs n) (zero_value z)) (unsigned_abs m) (zero_value z) w else Traps Make

-- `append` (Go specification, "Appending to and copying slices"): in place where the capacity allows, else in a new array whose
-- capacity is the greater of what is needed and twice the old one
abbrev pub longer : Value → ℕ → Value
longer (Slice a i n c) more = Slice a i (n + more) c
longer v more = v

abbrev pub appended : Zero → Value → List Value → World → Deed
appended z s [] w = Gives (s ∷ []) w
appended z s (v ∷ vs) w =
    if nat_le (length_of s + length (v ∷ vs)) (capacity_of s) then Gives (longer s (length (v ∷ vs)) ∷ []) (with_cells s (length_of s) (v ∷ vs) w)
    else new_slice (contents s w ++ v ∷ vs) (max (length_of s + length (v ∷ vs)) (2 * capacity_of s)) (zero_value z) w

-- `copy`: the lesser of the two lengths, as if the source was read first
abbrev pub bytes_as_values : List ℕ → List Value
bytes_as_values bytes = map (λ b. Whole (pos b)) bytes

abbrev pub source : Value → World → List Value
source (Text bytes) w = bytes_as_values bytes
source s w = contents s w

abbrev pub copied : Value → Value → World → Deed
copied d s w = let n = min (length_of d) (length_of s) in Gives (Whole (pos n) ∷ []) (with_cells d 0 (take n (source s w)) w)

-- `x[i:j]` (Go specification, "Simple slice expressions")
abbrev pub within : ℕ → ℤ → ℤ → Value → World → Deed
within limit i j v w = if int_le (pos 0) i && int_le i j && int_le j (pos limit) then Gives (v ∷ []) w else Traps Slicing

abbrev pub cut : Value → ℤ → ℤ → World → Deed
cut (Text bytes) i j w = within (length bytes) i j (Text (take (unsigned_abs j - unsigned_abs i) (drop (unsigned_abs i) bytes))) w
cut (Slice a s n c) i j w = within c i j (Slice a (s + unsigned_abs i) (unsigned_abs j - unsigned_abs i) (c - unsigned_abs i)) w
cut v i j w = within 0 i j NilSlice w

-- a bound that isn't given is 0, or the length
abbrev pub cut_by : Bool → Bool → List Value → World → Deed
cut_by true true vs w = cut (nth vs 0) (whole_of (nth vs 1)) (whole_of (nth vs 2)) w
cut_by true false vs w = cut (nth vs 0) (whole_of (nth vs 1)) (pos (length_of (nth vs 0))) w
cut_by false true vs w = cut (nth vs 0) (pos 0) (whole_of (nth vs 1)) w
cut_by false false vs w = cut (nth vs 0) (pos 0) (pos (length_of (nth vs 0))) w

-- ---- literals, items, input and output

-- the values at these places
abbrev pub placed : List ℕ → List Value → List Value → List Value
placed (p ∷ ps) (v ∷ vs) xs = placed ps vs (slice_set xs p v)
placed _ _ xs = xs

abbrev pub rune_at : List Rune → ℕ → List Value
rune_at [] i = []
rune_at (r ∷ rs) zero = Whole (pos r.place) ∷ Whole (pos r.code) ∷ []
rune_at (r ∷ rs) (suc i) = rune_at rs i

-- how many whole numbers from 0 on are below z
abbrev pub numbers_below : ℤ → ℕ
numbers_below (pos n) = n
numbers_below (negsuc n) = 0

abbrev pub item_count : Items → Value → ℕ
item_count (Fixed n) v = n
item_count Elements v = length (parts_of v)
item_count Cells v = length_of v
item_count Runes v = length (runes_of (text_of v))
item_count Numbers v = numbers_below (whole_of v)

-- the number of an item, and its value where it has one
abbrev pub item : Items → ℕ → Value → World → List Value
item (Fixed n) i v w = Whole (pos i) ∷ []
item Elements i v w = Whole (pos i) ∷ nth (parts_of v) i ∷ []
item Cells i v w = Whole (pos i) ∷ cell v i w ∷ []
item Runes i v w = rune_at (runes_of (text_of v)) i
item Numbers i v w = Whole (pos i) ∷ []

-- the next byte of the input, or -1 at its end
abbrev pub byte_read : List ℕ → World → Deed
byte_read [] w = Gives (Whole (negsuc 0) ∷ []) w
byte_read (b ∷ bs) w = Gives (Whole (pos b) ∷ []) (record w { input = bs })

-- ---- the table

abbrev pub perform : Operation → List Value → World → Deed
perform (Compute kind op) vs w = computed (arithmetic kind op (whole_of (nth vs 0)) (whole_of (nth vs 1))) w
perform Join vs w = Gives (Text (text_of (nth vs 0) ++ text_of (nth vs 1)) ∷ []) w
perform (Compare c) vs w = Gives (Truth (compared c (nth vs 0) (nth vs 1)) ∷ []) w
perform Keep vs w = Gives (nth vs 0 ∷ []) w
perform Not vs w = Gives (Truth (not (is_true (nth vs 0))) ∷ []) w
perform (Negate kind) vs w = Gives (Whole (wrapped_into kind (neg_ℤ (whole_of (nth vs 0)))) ∷ []) w
perform (Complement kind) vs w = Gives (Whole (wrapped_into kind (complement (whole_of (nth vs 0)))) ∷ []) w
perform (Wrap kind) vs w = Gives (Whole (wrapped_into kind (whole_of (nth vs 0))) ∷ []) w
perform TextOfCode vs w = Gives (Text (text_of_code (whole_of (nth vs 0))) ∷ []) w
perform BytesOfText vs w = new_slice (bytes_as_values (text_of (nth vs 0))) (length (text_of (nth vs 0))) (Whole (pos 0)) w
perform TextOfBytes vs w = Gives (Text (map byte_of (contents (nth vs 0) w)) ∷ []) w
perform (Field n) vs w = Gives (nth (parts_of (nth vs 0)) n ∷ []) w
perform (WithField n) vs w = Gives (with_part (nth vs 0) n (nth vs 1) ∷ []) w
perform (Element n) vs w = at_index n (nth vs 1) (λ k. Gives (nth (parts_of (nth vs 0)) k ∷ []) w)
perform WithElement vs w = Gives (with_part (nth vs 0) (index_of (nth vs 1)) (nth vs 2) ∷ []) w
perform (InArray n) vs w = at_index n (nth vs 0) (λ k. Gives [] w)
perform Cell vs w = at_index (length_of (nth vs 0)) (nth vs 1) (λ k. Gives (cell (nth vs 0) k w ∷ []) w)
perform SetCell vs w = at_index (length_of (nth vs 0)) (nth vs 1) (λ k. Gives [] (with_cells (nth vs 0) k (nth vs 2 ∷ []) w))
perform InSlice vs w = at_index (length_of (nth vs 0)) (nth vs 1) (λ k. Gives [] w)
perform Byte vs w = at_index (length (text_of (nth vs 0))) (nth vs 1) (λ k. Gives (Whole (pos (slice_index (text_of (nth vs 0)) k)) ∷ []) w)
perform (Cut low high) vs w = cut_by low high vs w
perform (ReadVariable n) vs w = Gives (nth w.variables n ∷ []) w
perform (WriteVariable n) vs w = Gives [] (record w { variables = slice_set w.variables n (nth vs 0) })
perform Length vs w = Gives (Whole (pos (length_of (nth vs 0))) ∷ []) w
perform Capacity vs w = Gives (Whole (pos (capacity_of (nth vs 0))) ∷ []) w
perform Least vs w = Gives (picked Less (nth vs 0) (drop 1 vs) ∷ []) w
perform Greatest vs w = Gives (picked Greater (nth vs 0) (drop 1 vs) ∷ []) w
perform (MakeSlice z) vs w = made z (whole_of (nth vs 0)) (whole_of (nth vs (length vs - 1))) w
perform (Append z) vs w = appended z (nth vs 0) (drop 1 vs) w
perform Copy vs w = copied (nth vs 0) (nth vs 1) w
perform (Build z places) vs w = Gives (Parts (valued (placed places vs (parts_of (zero_value z)))) ∷ []) w
perform Gather vs w = new_slice vs (length vs) NilFunction w
perform (Item items i) vs w = Gives (item items i (nth vs 0) w) w
perform Print vs w = Gives [] (record w { output = w.output ++ line_of vs })
perform ReadByte vs w = byte_read w.input w
perform PanicWith vs w = Traps User
perform Drop vs w = Gives [] w

abbrev pub done : Deed → List Value → World → ℕ → Outcome
done (Gives vs w) f w0 t = Ends (Next vs) f w t
done (Traps p) f w0 t = Ends (Panics p) f w0 t

-- the operation on these operands
unfoldable pub operate : Operation → List Value → Comp
operate o vs d f w t = done (perform o vs w) f w t
