-- Operations don't see the numbers of functions: they commute with other numbers.
use Rattle.std.proofs.Common.{◌≡◌, ℕ, zero, suc, ◌+◌, ◌-◌, ◌*◌, List, [], ◌∷◌, ◌++◌, refl, sym, ap, ◌∙◌, take, drop, length, map, replicate, Option, Some, None}
use Rattle.std.specs.Prelude.{ℤ, pos, neg_ℤ, unsigned_abs, int_le, Bool, true, false, ◌&&◌, not, min, max, nat_le, if◌then◌else◌, slice_set, slice_index, get_or, Result, Ok, Err}
use Rattle.std.specs.Ordering.{int_cmp, is_lt, is_le, is_gt, is_ge}
use Rattle.go_ints.specs.declared.operators.Trap.{Trap}
use Rattle.go_ints.specs.declared.operators.Trap.TheVariants.{DivideZero, NegativeShift}
use Rattle.go_ints.specs.Arithmetic.{arithmetic}
use Rattle.go_ints.specs.Bitwise.{complement}
use Rattle.go_ints.specs.Kinds.{wrapped_into}
use Rattle.go_grammar.specs.declared.kind.Comparison.{Comparison}
use Rattle.go_grammar.specs.declared.kind.Comparison.TheVariants.{Equal, NotEqual, Less, LessEqual, Greater, GreaterEqual}
use Rattle.go_types_relations.specs.Zeros.{Zero, false_value, number_zero, empty_text, elements, fields, nil_slice, nil_function, ZeroRow, no_zeros, more_zeros}
use Rattle.go_meaning.specs.Values.{Value, Truth, Whole, Text, Parts, Slice, NilSlice, Function, NilFunction, Values, none, more, listed, valued, copies, zero_value, zero_values, nth, parts_of, whole_of, is_true, text_of, byte_of, with_part, index_below, same_value, same_values}
use Rattle.go_meaning.specs.Texts.{Rune, runes_of, text_of_code, shown, line_of}
use Rattle.go_meaning.specs.Computations.{World, Make, Slicing}
use Rattle.go_meaning.specs.Operations
use Rattle.go_meaning.specs.Operations.{Operation, Items, Fixed, Elements, Cells, Runes, Numbers, numbers_below, picked, Deed, Gives, Traps, computed, order_of, compared, length_of, capacity_of, found, at_index, index_of, array_at, contents, cell, put_at, with_cells, new_slice, made, longer, appended, bytes_as_values, copied, within, cut, cut_by, placed, rune_at, item_count, item, byte_read, perform}
use Rattle.go_meaning_numbers.specs.Moved.{shifted, all_shifted, moved, arrays_moved, world_moved, deed_moved}

module _ (s : ℕ → ℕ) where
  -- ---- lists

  pub moved_append : (us vs : List Value) → moved s (us ++ vs) ≡ moved s us ++ moved s vs
  moved_append [] vs = refl
  moved_append (u ∷ us) vs = ap (λ r. shifted s u ∷ r) (moved_append us vs)

  pub nth_moved : (vs : List Value) (n : ℕ) → nth (moved s vs) n ≡ shifted s (nth vs n)
  nth_moved [] n = refl
  nth_moved (v ∷ vs) zero = refl
  nth_moved (v ∷ vs) (suc n) = nth_moved vs n

  pub moved_take : (n : ℕ) (vs : List Value) → moved s (take n vs) ≡ take n (moved s vs)
  moved_take zero vs = refl
  moved_take (suc n) [] = refl
  moved_take (suc n) (v ∷ vs) = ap (λ r. shifted s v ∷ r) (moved_take n vs)

  pub moved_drop : (n : ℕ) (vs : List Value) → moved s (drop n vs) ≡ drop n (moved s vs)
  moved_drop zero vs = refl
  moved_drop (suc n) [] = refl
  moved_drop (suc n) (v ∷ vs) = moved_drop n vs

  pub moved_set : (vs : List Value) (n : ℕ) (v : Value) → moved s (slice_set vs n v) ≡ slice_set (moved s vs) n (shifted s v)
  moved_set [] n v = refl
  moved_set (u ∷ us) zero v = refl
  moved_set (u ∷ us) (suc n) v = ap (λ r. shifted s u ∷ r) (moved_set us n v)

  pub length_moved : (vs : List Value) → length (moved s vs) ≡ length vs
  length_moved [] = refl
  length_moved (v ∷ vs) = ap suc (length_moved vs)

  pub replicate_moved : (n : ℕ) (v : Value) → moved s (replicate n v) ≡ replicate n (shifted s v)
  replicate_moved zero v = refl
  replicate_moved (suc n) v = ap (λ r. shifted s v ∷ r) (replicate_moved n v)

  listed_moved : (vs : Values) → listed (all_shifted s vs) ≡ moved s (listed vs)
  listed_moved none = refl
  listed_moved (more v vs) = ap (λ r. shifted s v ∷ r) (listed_moved vs)

  valued_moved : (vs : List Value) → all_shifted s (valued vs) ≡ valued (moved s vs)
  valued_moved [] = refl
  valued_moved (v ∷ vs) = ap (more (shifted s v)) (valued_moved vs)

  -- ---- what is read of a value

  pub whole_moved : (v : Value) → whole_of (shifted s v) ≡ whole_of v
  whole_moved (Truth b) = refl
  whole_moved (Whole z) = refl
  whole_moved (Text t) = refl
  whole_moved (Parts vs) = refl
  whole_moved (Slice a i n c) = refl
  whole_moved NilSlice = refl
  whole_moved (Function g) = refl
  whole_moved NilFunction = refl

  pub truth_moved : (v : Value) → is_true (shifted s v) ≡ is_true v
  truth_moved (Truth b) = refl
  truth_moved (Whole z) = refl
  truth_moved (Text t) = refl
  truth_moved (Parts vs) = refl
  truth_moved (Slice a i n c) = refl
  truth_moved NilSlice = refl
  truth_moved (Function g) = refl
  truth_moved NilFunction = refl

  pub text_moved : (v : Value) → text_of (shifted s v) ≡ text_of v
  text_moved (Truth b) = refl
  text_moved (Whole z) = refl
  text_moved (Text t) = refl
  text_moved (Parts vs) = refl
  text_moved (Slice a i n c) = refl
  text_moved NilSlice = refl
  text_moved (Function g) = refl
  text_moved NilFunction = refl

  pub byte_moved : (v : Value) → byte_of (shifted s v) ≡ byte_of v
  byte_moved (Truth b) = refl
  byte_moved (Whole z) = refl
  byte_moved (Text t) = refl
  byte_moved (Parts vs) = refl
  byte_moved (Slice a i n c) = refl
  byte_moved NilSlice = refl
  byte_moved (Function g) = refl
  byte_moved NilFunction = refl

  pub shown_moved : (v : Value) → shown (shifted s v) ≡ shown v
  shown_moved (Truth b) = refl
  shown_moved (Whole z) = refl
  shown_moved (Text t) = refl
  shown_moved (Parts vs) = refl
  shown_moved (Slice a i n c) = refl
  shown_moved NilSlice = refl
  shown_moved (Function g) = refl
  shown_moved NilFunction = refl

  parts_moved : (v : Value) → parts_of (shifted s v) ≡ moved s (parts_of v)
  parts_moved (Truth b) = refl
  parts_moved (Whole z) = refl
  parts_moved (Text t) = refl
  parts_moved (Parts vs) = listed_moved vs
  parts_moved (Slice a i n c) = refl
  parts_moved NilSlice = refl
  parts_moved (Function g) = refl
  parts_moved NilFunction = refl

  length_of_moved : (v : Value) → length_of (shifted s v) ≡ length_of v
  length_of_moved (Truth b) = refl
  length_of_moved (Whole z) = refl
  length_of_moved (Text t) = refl
  length_of_moved (Parts vs) = ap length (listed_moved vs) ∙ length_moved (listed vs)
  length_of_moved (Slice a i n c) = refl
  length_of_moved NilSlice = refl
  length_of_moved (Function g) = refl
  length_of_moved NilFunction = refl

  capacity_moved : (v : Value) → capacity_of (shifted s v) ≡ capacity_of v
  capacity_moved (Truth b) = refl
  capacity_moved (Whole z) = refl
  capacity_moved (Text t) = refl
  capacity_moved (Parts vs) = length_of_moved (Parts vs)
  capacity_moved (Slice a i n c) = refl
  capacity_moved NilSlice = refl
  capacity_moved (Function g) = refl
  capacity_moved NilFunction = refl

  copies_moved : (n : ℕ) (v : Value) → all_shifted s (copies n v) ≡ copies n (shifted s v)
  copies_moved zero v = refl
  copies_moved (suc n) v = ap (more (shifted s v)) (copies_moved n v)

  mutual
    pub zero_moved : (z : Zero) → shifted s (zero_value z) ≡ zero_value z
    zero_moved false_value = refl
    zero_moved number_zero = refl
    zero_moved empty_text = refl
    zero_moved (elements n z) = ap Parts (copies_moved n (zero_value z) ∙ ap (copies n) (zero_moved z))
    zero_moved (fields zs) = ap Parts (zeros_moved zs)
    zero_moved nil_slice = refl
    zero_moved nil_function = refl

    zeros_moved : (zs : ZeroRow) → all_shifted s (zero_values zs) ≡ zero_values zs
    zeros_moved no_zeros = refl
    zeros_moved (more_zeros z zs) = ap (λ v. more v (all_shifted s (zero_values zs))) (zero_moved z) ∙ ap (more (zero_value z)) (zeros_moved zs)

  -- ---- comparisons

  mutual
    pub same_moved : (u v : Value) → same_value (shifted s u) (shifted s v) ≡ same_value u v
    same_moved (Truth b) (Truth b') = refl
    same_moved (Truth b) (Whole z') = refl
    same_moved (Truth b) (Text t') = refl
    same_moved (Truth b) (Parts vs') = refl
    same_moved (Truth b) (Slice a' i' n' c') = refl
    same_moved (Truth b) NilSlice = refl
    same_moved (Truth b) (Function g') = refl
    same_moved (Truth b) NilFunction = refl
    same_moved (Whole z) (Truth b') = refl
    same_moved (Whole z) (Whole z') = refl
    same_moved (Whole z) (Text t') = refl
    same_moved (Whole z) (Parts vs') = refl
    same_moved (Whole z) (Slice a' i' n' c') = refl
    same_moved (Whole z) NilSlice = refl
    same_moved (Whole z) (Function g') = refl
    same_moved (Whole z) NilFunction = refl
    same_moved (Text t) (Truth b') = refl
    same_moved (Text t) (Whole z') = refl
    same_moved (Text t) (Text t') = refl
    same_moved (Text t) (Parts vs') = refl
    same_moved (Text t) (Slice a' i' n' c') = refl
    same_moved (Text t) NilSlice = refl
    same_moved (Text t) (Function g') = refl
    same_moved (Text t) NilFunction = refl
    same_moved (Parts vs) (Truth b') = refl
    same_moved (Parts vs) (Whole z') = refl
    same_moved (Parts vs) (Text t') = refl
    same_moved (Parts vs) (Parts vs') = all_same_moved vs vs'
    same_moved (Parts vs) (Slice a' i' n' c') = refl
    same_moved (Parts vs) NilSlice = refl
    same_moved (Parts vs) (Function g') = refl
    same_moved (Parts vs) NilFunction = refl
    same_moved (Slice a i n c) (Truth b') = refl
    same_moved (Slice a i n c) (Whole z') = refl
    same_moved (Slice a i n c) (Text t') = refl
    same_moved (Slice a i n c) (Parts vs') = refl
    same_moved (Slice a i n c) (Slice a' i' n' c') = refl
    same_moved (Slice a i n c) NilSlice = refl
    same_moved (Slice a i n c) (Function g') = refl
    same_moved (Slice a i n c) NilFunction = refl
    same_moved NilSlice (Truth b') = refl
    same_moved NilSlice (Whole z') = refl
    same_moved NilSlice (Text t') = refl
    same_moved NilSlice (Parts vs') = refl
    same_moved NilSlice (Slice a' i' n' c') = refl
    same_moved NilSlice NilSlice = refl
    same_moved NilSlice (Function g') = refl
    same_moved NilSlice NilFunction = refl
    same_moved (Function g) (Truth b') = refl
    same_moved (Function g) (Whole z') = refl
    same_moved (Function g) (Text t') = refl
    same_moved (Function g) (Parts vs') = refl
    same_moved (Function g) (Slice a' i' n' c') = refl
    same_moved (Function g) NilSlice = refl
    same_moved (Function g) (Function g') = refl
    same_moved (Function g) NilFunction = refl
    same_moved NilFunction (Truth b') = refl
    same_moved NilFunction (Whole z') = refl
    same_moved NilFunction (Text t') = refl
    same_moved NilFunction (Parts vs') = refl
    same_moved NilFunction (Slice a' i' n' c') = refl
    same_moved NilFunction NilSlice = refl
    same_moved NilFunction (Function g') = refl
    same_moved NilFunction NilFunction = refl

    pub all_same_moved : (us vs : Values) → same_values (all_shifted s us) (all_shifted s vs) ≡ same_values us vs
    all_same_moved none none = refl
    all_same_moved none (more v vs) = refl
    all_same_moved (more u us) none = refl
    all_same_moved (more u us) (more v vs) = ap (λ b. b && same_values (all_shifted s us) (all_shifted s vs)) (same_moved u v) ∙ ap (λ b. same_value u v && b) (all_same_moved us vs)

  order_moved : (u v : Value) → order_of (shifted s u) (shifted s v) ≡ order_of u v
  order_moved (Truth b) v = ap (int_cmp (whole_of (Truth b))) (whole_moved v)
  order_moved (Whole z) v = ap (int_cmp (whole_of (Whole z))) (whole_moved v)
  order_moved (Text t) (Truth b') = refl
  order_moved (Text t) (Whole z') = refl
  order_moved (Text t) (Text t') = refl
  order_moved (Text t) (Parts vs') = refl
  order_moved (Text t) (Slice a' i' n' c') = refl
  order_moved (Text t) NilSlice = refl
  order_moved (Text t) (Function g') = refl
  order_moved (Text t) NilFunction = refl
  order_moved (Parts vs) v = ap (int_cmp (whole_of (Parts vs))) (whole_moved v)
  order_moved (Slice a i n c) v = ap (int_cmp (whole_of (Slice a i n c))) (whole_moved v)
  order_moved NilSlice v = ap (int_cmp (whole_of NilSlice)) (whole_moved v)
  order_moved (Function g) v = ap (int_cmp (whole_of (Function g))) (whole_moved v)
  order_moved NilFunction v = ap (int_cmp (whole_of NilFunction)) (whole_moved v)

  compared_moved : (c : Comparison) (u v : Value) → compared c (shifted s u) (shifted s v) ≡ compared c u v
  compared_moved Equal u v = same_moved u v
  compared_moved NotEqual u v = ap not (same_moved u v)
  compared_moved Less u v = ap is_lt (order_moved u v)
  compared_moved LessEqual u v = ap is_le (order_moved u v)
  compared_moved Greater u v = ap is_gt (order_moved u v)
  compared_moved GreaterEqual u v = ap is_ge (order_moved u v)

  -- the least and the greatest of a list

  chosen_moved : (b : Bool) (u v : Value) → (if b then shifted s u else shifted s v) ≡ shifted s (if b then u else v)
  chosen_moved true u v = refl
  chosen_moved false u v = refl

  picked_moved : (c : Comparison) (v : Value) (us : List Value) → picked c (shifted s v) (moved s us) ≡ shifted s (picked c v us)
  picked_moved c v [] = refl
  picked_moved c v (u ∷ us) =
      ap (λ b. picked c (if b then shifted s u else shifted s v) (moved s us)) (compared_moved c u v)
      ∙ ap (λ x. picked c x (moved s us)) (chosen_moved (compared c u v) u v)
      ∙ picked_moved c (if compared c u v then u else v) us

  picked_among : (c : Comparison) (vs : List Value) → picked c (nth (moved s vs) 0) (drop 1 (moved s vs)) ≡ shifted s (picked c (nth vs 0) (drop 1 vs))
  picked_among c vs = ap (λ v. picked c v (drop 1 (moved s vs))) (nth_moved vs 0) ∙ ap (λ xs. picked c (shifted s (nth vs 0)) xs) (sym (moved_drop 1 vs)) ∙ picked_moved c (nth vs 0) (drop 1 vs)

  -- ---- arrays

  array_moved : (w : World) (a : ℕ) → array_at (world_moved s w) a ≡ moved s (array_at w a)
  array_moved w a = among w.arrays a
    where
      among : (xs : List (List Value)) (a : ℕ) → get_or (arrays_moved s xs) a [] ≡ moved s (get_or xs a [])
      among [] a = refl
      among (x ∷ xs) zero = refl
      among (x ∷ xs) (suc a) = among xs a

  arrays_set : (xs : List (List Value)) (a : ℕ) (vs : List Value) → arrays_moved s (slice_set xs a vs) ≡ slice_set (arrays_moved s xs) a (moved s vs)
  arrays_set [] a vs = refl
  arrays_set (x ∷ xs) zero vs = refl
  arrays_set (x ∷ xs) (suc a) vs = ap (λ r. moved s x ∷ r) (arrays_set xs a vs)

  arrays_append : (xs ys : List (List Value)) → arrays_moved s (xs ++ ys) ≡ arrays_moved s xs ++ arrays_moved s ys
  arrays_append [] ys = refl
  arrays_append (x ∷ xs) ys = ap (λ r. moved s x ∷ r) (arrays_append xs ys)

  arrays_length : (xs : List (List Value)) → length (arrays_moved s xs) ≡ length xs
  arrays_length [] = refl
  arrays_length (x ∷ xs) = ap suc (arrays_length xs)

  contents_moved : (v : Value) (w : World) → contents (shifted s v) (world_moved s w) ≡ moved s (contents v w)
  contents_moved (Slice a i n c) w = ap (λ xs. take n (drop i xs)) (array_moved w a) ∙ ap (take n) (sym (moved_drop i (array_at w a))) ∙ sym (moved_take n (drop i (array_at w a)))
  contents_moved (Truth b) w = refl
  contents_moved (Whole z) w = refl
  contents_moved (Text t) w = refl
  contents_moved (Parts vs) w = refl
  contents_moved NilSlice w = refl
  contents_moved (Function g) w = refl
  contents_moved NilFunction w = refl

  cell_moved : (v : Value) (k : ℕ) (w : World) → cell (shifted s v) k (world_moved s w) ≡ shifted s (cell v k w)
  cell_moved (Slice a i n c) k w = ap (λ xs. nth xs (i + k)) (array_moved w a) ∙ nth_moved (array_at w a) (i + k)
  cell_moved (Truth b) k w = refl
  cell_moved (Whole z) k w = refl
  cell_moved (Text t) k w = refl
  cell_moved (Parts vs) k w = refl
  cell_moved NilSlice k w = refl
  cell_moved (Function g) k w = refl
  cell_moved NilFunction k w = refl

  put_moved : (i : ℕ) (vs xs : List Value) → put_at i (moved s vs) (moved s xs) ≡ moved s (put_at i vs xs)
  put_moved i vs xs =
      ap (λ n. take i (moved s xs) ++ moved s vs ++ drop (i + n) (moved s xs)) (length_moved vs)
      ∙ ap (λ r. r ++ moved s vs ++ drop (i + length vs) (moved s xs)) (sym (moved_take i xs))
      ∙ ap (λ r. moved s (take i xs) ++ moved s vs ++ r) (sym (moved_drop (i + length vs) xs))
      ∙ ap (λ r. r ++ moved s (drop (i + length vs) xs)) (sym (moved_append (take i xs) vs))
      ∙ sym (moved_append (take i xs ++ vs) (drop (i + length vs) xs))

  with_arrays : World → List (List Value) → World
  with_arrays w xs = record { arrays = xs; variables = moved s w.variables; input = w.input; output = w.output }

  cells_moved : (v : Value) (k : ℕ) (vs : List Value) (w : World) → with_cells (shifted s v) k (moved s vs) (world_moved s w) ≡ world_moved s (with_cells v k vs w)
  unfolding with_arrays
  cells_moved (Slice a i n c) k vs w =
      ap (λ xs. with_arrays w (slice_set (arrays_moved s w.arrays) a (put_at (i + k) (moved s vs) xs))) (array_moved w a)
      ∙ ap (λ xs. with_arrays w (slice_set (arrays_moved s w.arrays) a xs)) (put_moved (i + k) vs (array_at w a))
      ∙ ap (with_arrays w) (sym (arrays_set w.arrays a (put_at (i + k) vs (array_at w a))))
  cells_moved (Truth b) k vs w = refl
  cells_moved (Whole z) k vs w = refl
  cells_moved (Text t) k vs w = refl
  cells_moved (Parts us) k vs w = refl
  cells_moved NilSlice k vs w = refl
  cells_moved (Function g) k vs w = refl
  cells_moved NilFunction k vs w = refl

  new_deed : List Value → ℕ → World → ℕ → List (List Value) → Deed
  new_deed vs capacity w n xs = Gives (Slice n 0 (length vs) capacity ∷ []) (with_arrays w xs)

  new_slice_moved : (vs : List Value) (capacity : ℕ) (filler : Value) (w : World) → new_slice (moved s vs) capacity (shifted s filler) (world_moved s w) ≡ deed_moved s (new_slice vs capacity filler w)
  unfolding new_deed with_arrays
  new_slice_moved vs capacity filler w =
      ap (λ n. Gives (Slice (length (arrays_moved s w.arrays)) 0 n capacity ∷ []) (with_arrays w (arrays_moved s w.arrays ++ (moved s vs ++ replicate (capacity - n) (shifted s filler)) ∷ []))) (length_moved vs)
      ∙ ap (λ n. new_deed vs capacity w n (arrays_moved s w.arrays ++ (moved s vs ++ replicate (capacity - length vs) (shifted s filler)) ∷ [])) (arrays_length w.arrays)
      ∙ ap (λ r. new_deed vs capacity w (length w.arrays) (arrays_moved s w.arrays ++ (moved s vs ++ r) ∷ [])) (sym (replicate_moved (capacity - length vs) filler))
      ∙ ap (λ r. new_deed vs capacity w (length w.arrays) (arrays_moved s w.arrays ++ r ∷ [])) (sym (moved_append vs (replicate (capacity - length vs) filler)))
      ∙ ap (new_deed vs capacity w (length w.arrays)) (sym (arrays_append w.arrays ((vs ++ replicate (capacity - length vs) filler) ∷ [])))

  bytes_moved : (bytes : List ℕ) → moved s (bytes_as_values bytes) ≡ bytes_as_values bytes
  bytes_moved [] = refl
  bytes_moved (b ∷ bs) = ap (λ r. Whole (pos b) ∷ r) (bytes_moved bs)

  source_moved : (v : Value) (w : World) → Operations.source (shifted s v) (world_moved s w) ≡ moved s (Operations.source v w)
  source_moved (Text bytes) w = sym (bytes_moved bytes)
  source_moved (Truth b) w = refl
  source_moved (Whole z) w = refl
  source_moved (Parts vs) w = refl
  source_moved (Slice a i n c) w = contents_moved (Slice a i n c) w
  source_moved NilSlice w = refl
  source_moved (Function g) w = refl
  source_moved NilFunction w = refl

  read_bytes : (vs : List Value) → map byte_of (moved s vs) ≡ map byte_of vs
  read_bytes [] = refl
  read_bytes (v ∷ vs) = ap (λ b. b ∷ map byte_of (moved s vs)) (byte_moved v) ∙ ap (λ r. byte_of v ∷ r) (read_bytes vs)

  if_moved : (b : Bool) (x x' y y' : Deed) → x' ≡ deed_moved s x → y' ≡ deed_moved s y → (if b then x' else y') ≡ deed_moved s (if b then x else y)
  if_moved true x x' y y' h k = h
  if_moved false x x' y y' h k = k

  found_moved : (o : Option ℕ) (k k' : ℕ → Deed) → ((i : ℕ) → k' i ≡ deed_moved s (k i)) → found o k' ≡ deed_moved s (found o k)
  found_moved None k k' h = refl
  found_moved (Some i) k k' h = h i

  index_moved : (n : ℕ) (v : Value) (k k' : ℕ → Deed) → ((i : ℕ) → k' i ≡ deed_moved s (k i)) → at_index n (shifted s v) k' ≡ deed_moved s (at_index n v k)
  index_moved n v k k' h = ap (λ z. found (index_below n z) k') (whole_moved v) ∙ found_moved (index_below n (whole_of v)) k k' h

  -- ---- `make`, `append`, `copy`, slice expressions

  made_moved : (z : Zero) (n m : ℤ) (w : World) → made z n m (world_moved s w) ≡ deed_moved s (made z n m w)
  made_moved z n m w =
      if_moved (int_le (pos 0) n && int_le n m && int_le m (pos 16777216)) (new_slice (replicate (unsigned_abs n) (zero_value z)) (unsigned_abs m) (zero_value z) w) (new_slice (replicate (unsigned_abs n) (zero_value z)) (unsigned_abs m) (zero_value z) (world_moved s w)) (Traps Make) (Traps Make)
      (ap (λ r. new_slice r (unsigned_abs m) (zero_value z) (world_moved s w)) (ap (replicate (unsigned_abs n)) (sym (zero_moved z)) ∙ sym (replicate_moved (unsigned_abs n) (zero_value z)))
      ∙ ap (λ v. new_slice (moved s (replicate (unsigned_abs n) (zero_value z))) (unsigned_abs m) v (world_moved s w)) (sym (zero_moved z))
      ∙ new_slice_moved (replicate (unsigned_abs n) (zero_value z)) (unsigned_abs m) (zero_value z) w) refl

  longer_moved : (v : Value) (n : ℕ) → longer (shifted s v) n ≡ shifted s (longer v n)
  longer_moved (Slice a i m c) n = refl
  longer_moved (Truth b) n = refl
  longer_moved (Whole z) n = refl
  longer_moved (Text t) n = refl
  longer_moved (Parts vs) n = refl
  longer_moved NilSlice n = refl
  longer_moved (Function g) n = refl
  longer_moved NilFunction n = refl

  -- by the two numbers that are read of the slice
  append_by : Zero → Value → List Value → World → (length_of_it capacity more : ℕ) → Deed
  append_by z x vs w n c m = if nat_le (n + m) c then Gives (longer x m ∷ []) (with_cells x n vs w) else new_slice (contents x w ++ vs) (max (n + m) (2 * c)) (zero_value z) w

  append_by_moved : (z : Zero) (x : Value) (vs : List Value) (w : World) (n c m : ℕ) → append_by z (shifted s x) (moved s vs) (world_moved s w) n c m ≡ deed_moved s (append_by z x vs w n c m)
  unfolding append_by
  append_by_moved z x vs w n c m =
      if_moved (nat_le (n + m) c) (Gives (longer x m ∷ []) (with_cells x n vs w)) (Gives (longer (shifted s x) m ∷ []) (with_cells (shifted s x) n (moved s vs) (world_moved s w))) (new_slice (contents x w ++ vs) (max (n + m) (2 * c)) (zero_value z) w) (new_slice (contents (shifted s x) (world_moved s w) ++ moved s vs) (max (n + m) (2 * c)) (zero_value z) (world_moved s w))
      (ap (λ v. Gives (v ∷ []) (with_cells (shifted s x) n (moved s vs) (world_moved s w))) (longer_moved x m) ∙ ap (Gives (shifted s (longer x m) ∷ [])) (cells_moved x n vs w))
      (ap (λ r. new_slice (r ++ moved s vs) (max (n + m) (2 * c)) (zero_value z) (world_moved s w)) (contents_moved x w)
      ∙ ap (λ r. new_slice r (max (n + m) (2 * c)) (zero_value z) (world_moved s w)) (sym (moved_append (contents x w) vs))
      ∙ ap (λ v. new_slice (moved s (contents x w ++ vs)) (max (n + m) (2 * c)) v (world_moved s w)) (sym (zero_moved z))
      ∙ new_slice_moved (contents x w ++ vs) (max (n + m) (2 * c)) (zero_value z) w)

  appended_moved : (z : Zero) (x : Value) (vs : List Value) (w : World) → appended z (shifted s x) (moved s vs) (world_moved s w) ≡ deed_moved s (appended z x vs w)
  unfolding append_by
  appended_moved z x [] w = refl
  appended_moved z x (v ∷ vs) w =
      ap (λ n. append_by z (shifted s x) (moved s (v ∷ vs)) (world_moved s w) n (capacity_of (shifted s x)) (length (moved s (v ∷ vs)))) (length_of_moved x)
      ∙ ap (λ c. append_by z (shifted s x) (moved s (v ∷ vs)) (world_moved s w) (length_of x) c (length (moved s (v ∷ vs)))) (capacity_moved x)
      ∙ ap (append_by z (shifted s x) (moved s (v ∷ vs)) (world_moved s w) (length_of x) (capacity_of x)) (length_moved (v ∷ vs))
      ∙ append_by_moved z x (v ∷ vs) w (length_of x) (capacity_of x) (length (v ∷ vs))

  copied_moved : (d x : Value) (w : World) → copied (shifted s d) (shifted s x) (world_moved s w) ≡ deed_moved s (copied d x w)
  copied_moved d x w =
      let put : ℕ → World = λ n. with_cells (shifted s d) 0 (take n (Operations.source (shifted s x) (world_moved s w))) (world_moved s w) in
      ap (λ n. Gives (Whole (pos n) ∷ []) (put n)) (ap (λ n. min n (length_of (shifted s x))) (length_of_moved d) ∙ ap (min (length_of d)) (length_of_moved x))
      ∙ ap (λ xs. Gives (Whole (pos (min (length_of d) (length_of x))) ∷ []) (with_cells (shifted s d) 0 xs (world_moved s w))) (ap (take (min (length_of d) (length_of x))) (source_moved x w) ∙ sym (moved_take (min (length_of d) (length_of x)) (Operations.source x w)))
      ∙ ap (Gives (Whole (pos (min (length_of d) (length_of x))) ∷ [])) (cells_moved d 0 (take (min (length_of d) (length_of x)) (Operations.source x w)) w)

  within_moved : (limit : ℕ) (i j : ℤ) (v v' : Value) (w : World) → v' ≡ shifted s v → within limit i j v' (world_moved s w) ≡ deed_moved s (within limit i j v w)
  within_moved limit i j v v' w e = if_moved (int_le (pos 0) i && int_le i j && int_le j (pos limit)) (Gives (v ∷ []) w) (Gives (v' ∷ []) (world_moved s w)) (Traps Slicing) (Traps Slicing) (ap (λ x. Gives (x ∷ []) (world_moved s w)) e) refl

  cut_moved : (v : Value) (i j : ℤ) (w : World) → cut (shifted s v) i j (world_moved s w) ≡ deed_moved s (cut v i j w)
  cut_moved (Text t) i j w = within_moved (length t) i j (Text (take (unsigned_abs j - unsigned_abs i) (drop (unsigned_abs i) t))) (Text (take (unsigned_abs j - unsigned_abs i) (drop (unsigned_abs i) t))) w refl
  cut_moved (Slice a n m c) i j w = within_moved c i j (Slice a (n + unsigned_abs i) (unsigned_abs j - unsigned_abs i) (c - unsigned_abs i)) (Slice a (n + unsigned_abs i) (unsigned_abs j - unsigned_abs i) (c - unsigned_abs i)) w refl
  cut_moved (Truth b) i j w = within_moved 0 i j NilSlice NilSlice w refl
  cut_moved (Whole z) i j w = within_moved 0 i j NilSlice NilSlice w refl
  cut_moved (Parts vs) i j w = within_moved 0 i j NilSlice NilSlice w refl
  cut_moved NilSlice i j w = within_moved 0 i j NilSlice NilSlice w refl
  cut_moved (Function g) i j w = within_moved 0 i j NilSlice NilSlice w refl
  cut_moved NilFunction i j w = within_moved 0 i j NilSlice NilSlice w refl

  -- ---- reading operands

  whole_at : (vs : List Value) (n : ℕ) → whole_of (nth (moved s vs) n) ≡ whole_of (nth vs n)
  whole_at vs n = ap whole_of (nth_moved vs n) ∙ whole_moved (nth vs n)

  text_at : (vs : List Value) (n : ℕ) → text_of (nth (moved s vs) n) ≡ text_of (nth vs n)
  text_at vs n = ap text_of (nth_moved vs n) ∙ text_moved (nth vs n)

  length_at : (vs : List Value) (n : ℕ) → length_of (nth (moved s vs) n) ≡ length_of (nth vs n)
  length_at vs n = ap length_of (nth_moved vs n) ∙ length_of_moved (nth vs n)

  cut_by_moved : (low high : Bool) (vs : List Value) (w : World) → cut_by low high (moved s vs) (world_moved s w) ≡ deed_moved s (cut_by low high vs w)
  cut_by_moved true true vs w =
      ap (λ z. cut (nth (moved s vs) 0) z (whole_of (nth (moved s vs) 2)) (world_moved s w)) (whole_at vs 1) ∙ ap (λ z. cut (nth (moved s vs) 0) (whole_of (nth vs 1)) z (world_moved s w)) (whole_at vs 2)
      ∙ ap (λ v. cut v (whole_of (nth vs 1)) (whole_of (nth vs 2)) (world_moved s w)) (nth_moved vs 0) ∙ cut_moved (nth vs 0) (whole_of (nth vs 1)) (whole_of (nth vs 2)) w
  cut_by_moved true false vs w =
      ap (λ z. cut (nth (moved s vs) 0) z (pos (length_of (nth (moved s vs) 0))) (world_moved s w)) (whole_at vs 1) ∙ ap (λ n. cut (nth (moved s vs) 0) (whole_of (nth vs 1)) (pos n) (world_moved s w)) (length_at vs 0)
      ∙ ap (λ v. cut v (whole_of (nth vs 1)) (pos (length_of (nth vs 0))) (world_moved s w)) (nth_moved vs 0) ∙ cut_moved (nth vs 0) (whole_of (nth vs 1)) (pos (length_of (nth vs 0))) w
  cut_by_moved false true vs w =
      ap (λ z. cut (nth (moved s vs) 0) (pos 0) z (world_moved s w)) (whole_at vs 1) ∙ ap (λ v. cut v (pos 0) (whole_of (nth vs 1)) (world_moved s w)) (nth_moved vs 0) ∙ cut_moved (nth vs 0) (pos 0) (whole_of (nth vs 1)) w
  cut_by_moved false false vs w =
      ap (λ n. cut (nth (moved s vs) 0) (pos 0) (pos n) (world_moved s w)) (length_at vs 0) ∙ ap (λ v. cut v (pos 0) (pos (length_of (nth vs 0))) (world_moved s w)) (nth_moved vs 0) ∙ cut_moved (nth vs 0) (pos 0) (pos (length_of (nth vs 0))) w

  -- ---- literals, items, printing, input

  placed_moved : (ps : List ℕ) (vs xs : List Value) → placed ps (moved s vs) (moved s xs) ≡ moved s (placed ps vs xs)
  placed_moved [] vs xs = refl
  placed_moved (p ∷ ps) [] xs = refl
  placed_moved (p ∷ ps) (v ∷ vs) xs = ap (placed ps (moved s vs)) (sym (moved_set xs p v)) ∙ placed_moved ps vs (slice_set xs p v)

  part_moved : (u : Value) (k : ℕ) (v : Value) → with_part (shifted s u) k (shifted s v) ≡ shifted s (with_part u k v)
  part_moved u k v = ap (λ xs. Parts (valued (slice_set xs k (shifted s v)))) (parts_moved u) ∙ ap (λ xs. Parts (valued xs)) (sym (moved_set (parts_of u) k v)) ∙ ap Parts (sym (valued_moved (slice_set (parts_of u) k v)))

  runes_moved : (rs : List Rune) (i : ℕ) → rune_at rs i ≡ moved s (rune_at rs i)
  runes_moved [] i = refl
  runes_moved (r ∷ rs) zero = refl
  runes_moved (r ∷ rs) (suc i) = runes_moved rs i

  pub count_moved : (items : Items) (v : Value) → item_count items (shifted s v) ≡ item_count items v
  count_moved (Fixed n) v = refl
  count_moved Elements v = ap length (parts_moved v) ∙ length_moved (parts_of v)
  count_moved Cells v = length_of_moved v
  count_moved Runes v = ap (λ t. length (runes_of t)) (text_moved v)
  count_moved Numbers v = ap numbers_below (whole_moved v)

  item_moved : (items : Items) (i : ℕ) (v : Value) (w : World) → item items i (shifted s v) (world_moved s w) ≡ moved s (item items i v w)
  item_moved (Fixed n) i v w = refl
  item_moved Elements i v w = ap (λ x. Whole (pos i) ∷ x ∷ []) (ap (λ xs. nth xs i) (parts_moved v) ∙ nth_moved (parts_of v) i)
  item_moved Cells i v w = ap (λ x. Whole (pos i) ∷ x ∷ []) (cell_moved v i w)
  item_moved Runes i v w = ap (λ t. rune_at (runes_of t) i) (text_moved v) ∙ runes_moved (runes_of (text_of v)) i
  item_moved Numbers i v w = refl

  line_moved : (vs : List Value) → line_of (moved s vs) ≡ line_of vs
  line_moved [] = refl
  line_moved (v ∷ []) = ap (λ t. t ++ 10 ∷ []) (shown_moved v)
  line_moved (v ∷ u ∷ us) = ap (λ t. t ++ 32 ∷ line_of (moved s (u ∷ us))) (shown_moved v) ∙ ap (λ t. shown v ++ 32 ∷ t) (line_moved (u ∷ us))

  read_moved : (bytes : List ℕ) (w : World) → byte_read bytes (world_moved s w) ≡ deed_moved s (byte_read bytes w)
  read_moved [] w = refl
  read_moved (b ∷ bs) w = refl

  computed_moved : (r : Result ℤ Trap) (w : World) → computed r (world_moved s w) ≡ deed_moved s (computed r w)
  computed_moved (Ok z) w = refl
  computed_moved (Err DivideZero) w = refl
  computed_moved (Err NegativeShift) w = refl

  one_value : (v v' : Value) (w : World) → v' ≡ shifted s v → Gives (v' ∷ []) (world_moved s w) ≡ deed_moved s (Gives (v ∷ []) w)
  one_value v v' w e = ap (λ x. Gives (x ∷ []) (world_moved s w)) e

  -- ---- the table: each operation commutes with other numbers of functions

  pub perform_moved : (o : Operation) (vs : List Value) (w : World) → perform o (moved s vs) (world_moved s w) ≡ deed_moved s (perform o vs w)
  perform_moved (Operations.Compute kind op) vs w = ap (λ z. computed (arithmetic kind op z (whole_of (nth (moved s vs) 1))) (world_moved s w)) (whole_at vs 0) ∙ ap (λ z. computed (arithmetic kind op (whole_of (nth vs 0)) z) (world_moved s w)) (whole_at vs 1) ∙ computed_moved (arithmetic kind op (whole_of (nth vs 0)) (whole_of (nth vs 1))) w
  perform_moved Operations.Join vs w = ap (λ t. Gives (Text (t ++ text_of (nth (moved s vs) 1)) ∷ []) (world_moved s w)) (text_at vs 0) ∙ ap (λ t. Gives (Text (text_of (nth vs 0) ++ t) ∷ []) (world_moved s w)) (text_at vs 1)
  perform_moved (Operations.Compare c) vs w = ap (λ u. Gives (Truth (compared c u (nth (moved s vs) 1)) ∷ []) (world_moved s w)) (nth_moved vs 0) ∙ ap (λ v. Gives (Truth (compared c (shifted s (nth vs 0)) v) ∷ []) (world_moved s w)) (nth_moved vs 1) ∙ ap (λ b. Gives (Truth b ∷ []) (world_moved s w)) (compared_moved c (nth vs 0) (nth vs 1))
  perform_moved Operations.Keep vs w = one_value (nth vs 0) (nth (moved s vs) 0) w (nth_moved vs 0)
  perform_moved Operations.Not vs w = ap (λ b. Gives (Truth (not b) ∷ []) (world_moved s w)) (ap is_true (nth_moved vs 0) ∙ truth_moved (nth vs 0))
  perform_moved (Operations.Negate kind) vs w = ap (λ z. Gives (Whole (wrapped_into kind (neg_ℤ z)) ∷ []) (world_moved s w)) (whole_at vs 0)
  perform_moved (Operations.Complement kind) vs w = ap (λ z. Gives (Whole (wrapped_into kind (complement z)) ∷ []) (world_moved s w)) (whole_at vs 0)
  perform_moved (Operations.Wrap kind) vs w = ap (λ z. Gives (Whole (wrapped_into kind z) ∷ []) (world_moved s w)) (whole_at vs 0)
  perform_moved Operations.TextOfCode vs w = ap (λ z. Gives (Text (text_of_code z) ∷ []) (world_moved s w)) (whole_at vs 0)
  perform_moved Operations.BytesOfText vs w = ap (λ t. new_slice (bytes_as_values t) (length t) (Whole (pos 0)) (world_moved s w)) (text_at vs 0) ∙ ap (λ xs. new_slice xs (length (text_of (nth vs 0))) (Whole (pos 0)) (world_moved s w)) (sym (bytes_moved (text_of (nth vs 0)))) ∙ new_slice_moved (bytes_as_values (text_of (nth vs 0))) (length (text_of (nth vs 0))) (Whole (pos 0)) w
  perform_moved Operations.TextOfBytes vs w = ap (λ v. Gives (Text (map byte_of (contents v (world_moved s w))) ∷ []) (world_moved s w)) (nth_moved vs 0) ∙ ap (λ xs. Gives (Text (map byte_of xs) ∷ []) (world_moved s w)) (contents_moved (nth vs 0) w) ∙ ap (λ t. Gives (Text t ∷ []) (world_moved s w)) (read_bytes (contents (nth vs 0) w))
  perform_moved (Operations.Field n) vs w = one_value (nth (parts_of (nth vs 0)) n) (nth (parts_of (nth (moved s vs) 0)) n) w (ap (λ v. nth (parts_of v) n) (nth_moved vs 0) ∙ ap (λ xs. nth xs n) (parts_moved (nth vs 0)) ∙ nth_moved (parts_of (nth vs 0)) n)
  perform_moved (Operations.WithField n) vs w = one_value (with_part (nth vs 0) n (nth vs 1)) (with_part (nth (moved s vs) 0) n (nth (moved s vs) 1)) w (ap (λ u. with_part u n (nth (moved s vs) 1)) (nth_moved vs 0) ∙ ap (with_part (shifted s (nth vs 0)) n) (nth_moved vs 1) ∙ part_moved (nth vs 0) n (nth vs 1))
  perform_moved (Operations.Element n) vs w =
      ap (λ i. at_index n i (λ k. Gives (nth (parts_of (nth (moved s vs) 0)) k ∷ []) (world_moved s w))) (nth_moved vs 1)
      ∙ index_moved n (nth vs 1) (λ k. Gives (nth (parts_of (nth vs 0)) k ∷ []) w) (λ k. Gives (nth (parts_of (nth (moved s vs) 0)) k ∷ []) (world_moved s w)) (λ k. one_value (nth (parts_of (nth vs 0)) k) (nth (parts_of (nth (moved s vs) 0)) k) w (ap (λ v. nth (parts_of v) k) (nth_moved vs 0) ∙ ap (λ xs. nth xs k) (parts_moved (nth vs 0)) ∙ nth_moved (parts_of (nth vs 0)) k))
  perform_moved Operations.WithElement vs w =
      one_value (with_part (nth vs 0) (index_of (nth vs 1)) (nth vs 2)) (with_part (nth (moved s vs) 0) (index_of (nth (moved s vs) 1)) (nth (moved s vs) 2)) w
      (ap (λ u. with_part u (index_of (nth (moved s vs) 1)) (nth (moved s vs) 2)) (nth_moved vs 0) ∙ ap (λ z. with_part (shifted s (nth vs 0)) (unsigned_abs z) (nth (moved s vs) 2)) (whole_at vs 1) ∙ ap (with_part (shifted s (nth vs 0)) (index_of (nth vs 1))) (nth_moved vs 2) ∙ part_moved (nth vs 0) (index_of (nth vs 1)) (nth vs 2))
  perform_moved (Operations.InArray n) vs w = ap (λ i. at_index n i (λ k. Gives [] (world_moved s w))) (nth_moved vs 0) ∙ index_moved n (nth vs 0) (λ k. Gives [] w) (λ k. Gives [] (world_moved s w)) (λ k. refl)
  perform_moved Operations.Cell vs w =
      ap (λ n. at_index n (nth (moved s vs) 1) (λ k. Gives (cell (nth (moved s vs) 0) k (world_moved s w) ∷ []) (world_moved s w))) (length_at vs 0) ∙ ap (λ i. at_index (length_of (nth vs 0)) i (λ k. Gives (cell (nth (moved s vs) 0) k (world_moved s w) ∷ []) (world_moved s w))) (nth_moved vs 1)
      ∙ index_moved (length_of (nth vs 0)) (nth vs 1) (λ k. Gives (cell (nth vs 0) k w ∷ []) w) (λ k. Gives (cell (nth (moved s vs) 0) k (world_moved s w) ∷ []) (world_moved s w)) (λ k. one_value (cell (nth vs 0) k w) (cell (nth (moved s vs) 0) k (world_moved s w)) w (ap (λ v. cell v k (world_moved s w)) (nth_moved vs 0) ∙ cell_moved (nth vs 0) k w))
  perform_moved Operations.SetCell vs w =
      ap (λ n. at_index n (nth (moved s vs) 1) (λ k. Gives [] (with_cells (nth (moved s vs) 0) k (nth (moved s vs) 2 ∷ []) (world_moved s w)))) (length_at vs 0) ∙ ap (λ i. at_index (length_of (nth vs 0)) i (λ k. Gives [] (with_cells (nth (moved s vs) 0) k (nth (moved s vs) 2 ∷ []) (world_moved s w)))) (nth_moved vs 1)
      ∙ index_moved (length_of (nth vs 0)) (nth vs 1) (λ k. Gives [] (with_cells (nth vs 0) k (nth vs 2 ∷ []) w)) (λ k. Gives [] (with_cells (nth (moved s vs) 0) k (nth (moved s vs) 2 ∷ []) (world_moved s w)))
      (λ k. ap (λ v. Gives [] (with_cells v k (nth (moved s vs) 2 ∷ []) (world_moved s w))) (nth_moved vs 0) ∙ ap (λ v. Gives [] (with_cells (shifted s (nth vs 0)) k (v ∷ []) (world_moved s w))) (nth_moved vs 2) ∙ ap (Gives []) (cells_moved (nth vs 0) k (nth vs 2 ∷ []) w))
  perform_moved Operations.InSlice vs w = ap (λ n. at_index n (nth (moved s vs) 1) (λ k. Gives [] (world_moved s w))) (length_at vs 0) ∙ ap (λ i. at_index (length_of (nth vs 0)) i (λ k. Gives [] (world_moved s w))) (nth_moved vs 1) ∙ index_moved (length_of (nth vs 0)) (nth vs 1) (λ k. Gives [] w) (λ k. Gives [] (world_moved s w)) (λ k. refl)
  perform_moved Operations.Byte vs w = ap (λ t. at_index (length t) (nth (moved s vs) 1) (λ k. Gives (Whole (pos (slice_index t k)) ∷ []) (world_moved s w))) (text_at vs 0) ∙ ap (λ i. at_index (length (text_of (nth vs 0))) i (λ k. Gives (Whole (pos (slice_index (text_of (nth vs 0)) k)) ∷ []) (world_moved s w))) (nth_moved vs 1)
      ∙ index_moved (length (text_of (nth vs 0))) (nth vs 1) (λ k. Gives (Whole (pos (slice_index (text_of (nth vs 0)) k)) ∷ []) w) (λ k. Gives (Whole (pos (slice_index (text_of (nth vs 0)) k)) ∷ []) (world_moved s w)) (λ k. refl)
  perform_moved (Operations.Cut low high) vs w = cut_by_moved low high vs w
  perform_moved (Operations.ReadVariable n) vs w = one_value (nth w.variables n) (nth (moved s w.variables) n) w (nth_moved w.variables n)
  perform_moved (Operations.WriteVariable n) vs w = ap (λ v. Gives [] (record { arrays = arrays_moved s w.arrays; variables = slice_set (moved s w.variables) n v; input = w.input; output = w.output })) (nth_moved vs 0) ∙ ap (λ xs. Gives [] (record { arrays = arrays_moved s w.arrays; variables = xs; input = w.input; output = w.output })) (sym (moved_set w.variables n (nth vs 0)))
  perform_moved Operations.Length vs w = ap (λ n. Gives (Whole (pos n) ∷ []) (world_moved s w)) (length_at vs 0)
  perform_moved Operations.Capacity vs w = ap (λ n. Gives (Whole (pos n) ∷ []) (world_moved s w)) (ap capacity_of (nth_moved vs 0) ∙ capacity_moved (nth vs 0))
  perform_moved Operations.Least vs w = one_value (picked Less (nth vs 0) (drop 1 vs)) (picked Less (nth (moved s vs) 0) (drop 1 (moved s vs))) w (picked_among Less vs)
  perform_moved Operations.Greatest vs w = one_value (picked Greater (nth vs 0) (drop 1 vs)) (picked Greater (nth (moved s vs) 0) (drop 1 (moved s vs))) w (picked_among Greater vs)
  perform_moved (Operations.MakeSlice z) vs w = ap (λ n. made z n (whole_of (nth (moved s vs) (length (moved s vs) - 1))) (world_moved s w)) (whole_at vs 0) ∙ ap (λ n. made z (whole_of (nth vs 0)) (whole_of (nth (moved s vs) (n - 1))) (world_moved s w)) (length_moved vs) ∙ ap (λ m. made z (whole_of (nth vs 0)) m (world_moved s w)) (whole_at vs (length vs - 1)) ∙ made_moved z (whole_of (nth vs 0)) (whole_of (nth vs (length vs - 1))) w
  perform_moved (Operations.Append z) vs w = ap (λ v. appended z v (drop 1 (moved s vs)) (world_moved s w)) (nth_moved vs 0) ∙ ap (λ xs. appended z (shifted s (nth vs 0)) xs (world_moved s w)) (sym (moved_drop 1 vs)) ∙ appended_moved z (nth vs 0) (drop 1 vs) w
  perform_moved Operations.Copy vs w = ap (λ v. copied v (nth (moved s vs) 1) (world_moved s w)) (nth_moved vs 0) ∙ ap (λ v. copied (shifted s (nth vs 0)) v (world_moved s w)) (nth_moved vs 1) ∙ copied_moved (nth vs 0) (nth vs 1) w
  perform_moved (Operations.Build z places) vs w =
      one_value (Parts (valued (placed places vs (parts_of (zero_value z))))) (Parts (valued (placed places (moved s vs) (parts_of (zero_value z))))) w
      (ap (λ u. Parts (valued (placed places (moved s vs) (parts_of u)))) (sym (zero_moved z)) ∙ ap (λ xs. Parts (valued (placed places (moved s vs) xs))) (parts_moved (zero_value z)) ∙ ap (λ xs. Parts (valued xs)) (placed_moved places vs (parts_of (zero_value z))) ∙ ap Parts (sym (valued_moved (placed places vs (parts_of (zero_value z))))))
  perform_moved Operations.Gather vs w = ap (λ n. new_slice (moved s vs) n NilFunction (world_moved s w)) (length_moved vs) ∙ new_slice_moved vs (length vs) NilFunction w
  perform_moved (Operations.Item items i) vs w = ap (λ v. Gives (item items i v (world_moved s w)) (world_moved s w)) (nth_moved vs 0) ∙ ap (λ xs. Gives xs (world_moved s w)) (item_moved items i (nth vs 0) w)
  perform_moved Operations.Print vs w = ap (λ t. Gives [] (record { arrays = arrays_moved s w.arrays; variables = moved s w.variables; input = w.input; output = w.output ++ t })) (line_moved vs)
  perform_moved Operations.ReadByte vs w = read_moved w.input w
  perform_moved Operations.PanicWith vs w = refl
  perform_moved Operations.Drop vs w = refl
