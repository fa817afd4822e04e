-- Worked examples: masses, windows, and windows that are the same and not.
use Rattle.std.specs.Prelude.{◌≡◌, ℕ, suc, Bool, true, false, List, [], ◌∷◌, nat_eq, pos, replicate}
use Rattle.go_grammar.specs.declared.kind.Arithmetic.TheVariants as arithmetic
use Rattle.go_grammar.specs.declared.kind.Operator.{Operator}
use Rattle.go_grammar.specs.declared.kind.Operator.TheVariants as operator
use Rattle.go_grammar.specs.declared.kind.Step.TheVariants as step
use Rattle.go_tree.specs.declared.object.Predeclared.TheVariants as predeclared
use Rattle.go_constants.specs.declared.values.Const.{Const}
use Rattle.go_constants.specs.declared.values.Const.TheVariants as const
use Rattle.go_typed.specs.declared.form.Form.{Form}
use Rattle.go_typed.specs.declared.form.Form.TheVariants as form
use Rattle.go_typed.specs.declared.form.Referent.{Referent}
use Rattle.go_typed.specs.declared.form.Referent.TheVariants as referent
use Rattle.go_typed.specs.Trees.{Sort, Nothing, Blank, Builtin, IsType, Value, Constant, OpenConstant, Results, Typed, typed, Typeds, none, more, skip}
use Rattle.clone_window.specs.Masses.{mass, masses}
use Rattle.clone_window.specs.Windows.{run_at, window_mass, windows}
use Rattle.clone_window.specs.Sameness.{is_same}

-- Types of trees are 0 (int), 1 (int8), 2 ([100]int), 3 ([]int), 4 and 5 (two types declared in functions), 6 (func())

abbrev pub bare : Form → Sort ℕ → Bool → Typeds ℕ → Typed ℕ
bare f s varies ps = typed f 0 0 (record { sort = s; varies = varies; calls = false }) ps

abbrev pub parts : List (Typed ℕ) → Typeds ℕ
parts [] = none
parts (p ∷ ps) = more p (parts ps)

abbrev pub statement : Form → List (Typed ℕ) → Typed ℕ
statement f ps = bare f Nothing false (parts ps)

abbrev pub number : ℕ → Const
number n = const.Int (pos n) false

-- an integer literal of type int
abbrev pub literal : ℕ → Typed ℕ
literal n = bare form.Literal (Constant 0 (number n)) false none

-- a variable of a type, used and declared by `:=`
abbrev pub used : ℕ → ℕ → Typed ℕ
used t n = bare (form.Local n) (Value t) true none

abbrev pub new : ℕ → Typed ℕ
new n = bare (form.New n) (Value 0) true none

-- x op y of type int, where this isn't constant
abbrev pub binary : Operator → Typed ℕ → Typed ℕ → Typed ℕ
binary o x y = bare (form.Binary o) (Value 0) true (parts (x ∷ y ∷ []))

abbrev pub plus : Operator
plus = operator.Compute arithmetic.Add

abbrev pub times : Operator
times = operator.Compute arithmetic.Multiply

abbrev pub define : ℕ → Typed ℕ → Typed ℕ
define n x = statement (form.Define 1) (new n ∷ x ∷ [])

abbrev pub assign : Typed ℕ → Typed ℕ → Typed ℕ
assign x y = statement (form.Assign 1) (x ∷ y ∷ [])

-- `f()` as a statement
abbrev pub called : Typed ℕ
called = statement form.Expression (bare form.Call (Results 6) false (parts (bare (form.Object (referent.Function 0)) (Value 6) false none ∷ [])) ∷ [])

abbrev pub block : List (Typed ℕ) → Typed ℕ
block ss = statement form.Block ss

abbrev pub function : List (Typed ℕ) → Typed ℕ
function ss = statement form.Function (block ss ∷ [])

-- whether two runs of statements are the same, where these are the sorts of all locals
abbrev pub same_with : List (Sort ℕ) → List (Typed ℕ) → List (Typed ℕ) → Bool
same_with sorts ss ts = is_same nat_eq sorts sorts (parts ss) (parts ts)

-- eight variables of type int
abbrev pub ints : List (Sort ℕ)
ints = replicate 8 (Value 0)

-- ---- the plain case: `b := a + 1; b = b * 2; return b`

abbrev pub body : ℕ → ℕ → ℕ → List (Typed ℕ)
body a b n = define b (binary plus (used 0 a) (literal n)) ∷ assign (used 0 b) (binary times (used 0 b) (literal 2)) ∷ statement form.Return (used 0 b ∷ []) ∷ []

-- ---- windows: 33 statements `f()`, and lists within lists

abbrev pub calls : ℕ → List (Typed ℕ)
calls n = replicate n called

-- ---- holes

-- `len(x)` and `x + y` where these are constant: x is an array
abbrev pub len : Sort ℕ → Typed ℕ → Typed ℕ
len s x = bare form.Call s true (parts (bare (form.Object (referent.Predeclared predeclared.Len)) (Builtin predeclared.Len) false none ∷ x ∷ []))

abbrev pub constant_sum : Typed ℕ → Typed ℕ → Typed ℕ
constant_sum x y = bare (form.Binary plus) (Constant 0 (number 101)) true (parts (x ∷ y ∷ []))

abbrev pub array_len : Typed ℕ
array_len = len (Constant 0 (number 100)) (used 2 1)

abbrev pub slice_len : Typed ℕ
slice_len = len (Value 0) (used 3 2)

abbrev pub some : List (Sort ℕ)
some = Value 0 ∷ Value 2 ∷ Value 3 ∷ Value 0 ∷ []

-- `(1 + 2)` has the mass of a hole, but not inside a constant expression that names a variable
abbrev pub in_parentheses : Typed ℕ
in_parentheses = bare form.Parenthesized (Constant 0 (number 3)) false (parts (bare (form.Binary plus) (Constant 0 (number 3)) false (parts (literal 1 ∷ literal 2 ∷ [])) ∷ []))

-- ---- names that are declared

-- `a, b := 1, 2` where a is new or not
abbrev pub defined : Typed ℕ → Typed ℕ → Typed ℕ
defined x y = statement (form.Define 2) (x ∷ y ∷ literal 1 ∷ literal 2 ∷ [])

-- `const k = 1`, and `const _ = 1`
abbrev pub constants : Form → Const → Typed ℕ
constants f c = statement form.Constants (bare f (OpenConstant c) false none ∷ [])

abbrev pub with_constants : Const → Const → List (Sort ℕ)
with_constants c d = OpenConstant c ∷ OpenConstant d ∷ []

-- ---- types, fields, objects, parts that are left out

-- `var a T`
abbrev pub variable : ℕ → ℕ → Typed ℕ
variable n t = statement form.Variables (statement (form.Specified 1) (bare (form.Declared n) (Value t) true none ∷ bare form.Type (IsType t) false none ∷ []) ∷ [])

-- Between two packages a type may correspond to another one.
abbrev pub correspond : ℕ → ℕ → Bool
correspond t u = nat_eq (suc t) u

abbrev pub field : ℕ → Typed ℕ
field n = bare (form.Selector n) (Value 0) true (parts (used 4 0 ∷ []))

abbrev pub object : Referent → Typed ℕ
object r = statement form.Return (bare (form.Object r) (Value 0) true none ∷ [])

-- `if a; b {}` has a part that `if b {}` leaves out
abbrev pub branch : (Typeds ℕ → Typeds ℕ) → Typed ℕ
branch first = bare form.If Nothing false (first (more (used 7 0) (more (block []) (skip none))))

pub record Examples : Type 0 where
  -- the plain case: `b := a + 1; b = b * 2; return b`
  pub plain_mass : masses false (parts (body 0 1 1)) ≡ 12
  pub plain_windows : windows (record { fewest = 2; least = 8 }) 0 (function (body 0 1 1)) ≡ run_at 0 0 0 2 ∷ run_at 0 0 0 3 ∷ []
  pub heavier : windows (record { fewest = 2; least = 11 }) 0 (function (body 0 1 1)) ≡ run_at 0 0 0 3 ∷ []
  -- Names of locals and constants may differ.
  pub plain_same : same_with ints (body 0 1 1) (body 2 3 5) ≡ true
  pub shorter : same_with ints (body 0 1 1) (define 3 (literal 1) ∷ []) ≡ false
  -- one to one
  -- `a = b; b = a` and `a = a; a = a`
  pub two_to_one : same_with ints (assign (used 0 0) (used 0 1) ∷ assign (used 0 1) (used 0 0) ∷ []) (assign (used 0 2) (used 0 2) ∷ assign (used 0 2) (used 0 2) ∷ []) ≡ false
  -- `a = a; a = a` and `a = b; b = a`
  pub one_to_two : same_with ints (assign (used 0 2) (used 0 2) ∷ assign (used 0 2) (used 0 2) ∷ []) (assign (used 0 0) (used 0 1) ∷ assign (used 0 1) (used 0 0) ∷ []) ≡ false
  -- `a = b; b = a` and `b = a; a = b`
  pub swapped : same_with ints (assign (used 0 0) (used 0 1) ∷ assign (used 0 1) (used 0 0) ∷ []) (assign (used 0 1) (used 0 0) ∷ assign (used 0 0) (used 0 1) ∷ []) ≡ true
  -- Variables of different types aren't paired.
  pub other_types : same_with (Value 0 ∷ Value 1 ∷ []) (statement (form.Step step.Increment) (used 0 0 ∷ []) ∷ []) (statement (form.Step step.Increment) (used 1 1 ∷ []) ∷ []) ≡ false
  -- windows: 33 statements `f()`, and lists within lists
  pub at_most_32 : windows (record { fewest = 32; least = 96 }) 0 (function (calls 33)) ≡ run_at 0 0 0 32 ∷ run_at 0 0 1 32 ∷ []
  pub too_light : windows (record { fewest = 32; least = 97 }) 0 (function (calls 33)) ≡ []
  -- `f(); { f(); f() }; f()`: no window goes across two lists
  pub nested_windows : windows (record { fewest = 2; least = 6 }) 3 (function (called ∷ block (calls 2) ∷ called ∷ []))
      ≡ run_at 3 0 0 2 ∷ run_at 3 0 0 3 ∷ run_at 3 0 1 2 ∷ run_at 3 1 0 2 ∷ []
  -- `switch { case true: f(); f() }`: the statements of a clause stand behind its values
  pub clause_windows : windows (record { fewest = 2; least = 6 }) 0
      (function (bare form.Switch Nothing false (skip (skip (parts (statement (form.Case 1) (bare (form.Object (referent.Predeclared predeclared.True)) (Constant 7 (const.Bool true)) false none ∷ calls 2) ∷ [])))) ∷ []))
      ≡ run_at 0 1 0 2 ∷ []
  pub nested_mass : window_mass (function (called ∷ block (calls 2) ∷ called ∷ [])) (run_at 0 0 1 2) ≡ 10
  -- holes
  -- No hole stands inside `len(a) + 1` where this is constant.
  pub no_hole_inside : same_with some (define 0 (constant_sum array_len (literal 1)) ∷ []) (define 3 (constant_sum array_len (literal 2)) ∷ []) ≡ false
  pub equal_values : same_with some (define 0 (constant_sum array_len (literal 1)) ∷ []) (define 3 (constant_sum array_len (literal 1)) ∷ []) ≡ true
  -- `1` and the rune of value 1
  pub other_literals : same_with some (define 0 (constant_sum array_len (literal 1)) ∷ [])
      (define 3 (constant_sum array_len (bare form.Literal (Constant 0 (const.Int (pos 1) true)) false none)) ∷ []) ≡ false
  -- Where the sum isn't constant, `1` is a hole.
  pub hole_inside : same_with some (define 0 (binary plus slice_len (literal 1)) ∷ []) (define 3 (binary plus slice_len (literal 2)) ∷ []) ≡ true
  pub hole_mass : mass false in_parentheses ≡ 1
  pub inside_mass : mass false (constant_sum array_len in_parentheses) ≡ 8
  -- Parentheses belong to a hole: `x := (1 + 2)` and `y := 7`.
  pub parentheses_same : same_with ints (define 0 in_parentheses ∷ []) (define 1 (literal 7) ∷ []) ≡ true
  -- Final types of holes are identical.
  pub other_hole_types : same_with ints (assign (bare form.Blank Blank false none) (literal 1) ∷ [])
      (assign (bare form.Blank Blank false none) (bare form.Literal (Constant 1 (number 1)) false none) ∷ []) ≡ false
  -- names that are declared
  pub new_against_used : same_with ints (defined (new 0) (new 1) ∷ []) (defined (used 0 2) (new 3) ∷ []) ≡ false
  pub new_against_new : same_with ints (defined (new 0) (new 1) ∷ []) (defined (new 2) (new 3) ∷ []) ≡ true
  pub used_against_used : same_with ints (defined (used 0 0) (new 1) ∷ []) (defined (used 0 2) (new 3) ∷ []) ≡ true
  pub blank_against_new : same_with ints (defined (bare form.Blank Blank false none) (new 1) ∷ []) (defined (new 2) (new 3) ∷ []) ≡ false
  pub constants_differ : same_with (with_constants (number 1) (number 2)) (constants (form.Declared 0) (number 1) ∷ []) (constants (form.Declared 1) (number 2) ∷ []) ≡ false
  pub constants_equal : same_with (with_constants (number 1) (number 1)) (constants (form.Declared 0) (number 1) ∷ []) (constants (form.Declared 1) (number 1) ∷ []) ≡ true
  -- an untyped rune and an untyped integer
  pub constants_of_kinds : same_with (with_constants (number 1) (const.Int (pos 1) true)) (constants (form.Declared 0) (number 1) ∷ []) (constants (form.Declared 1) (const.Int (pos 1) true) ∷ []) ≡ false
  pub blank_constants : same_with [] (constants form.Blank (number 1) ∷ []) (constants form.Blank (number 2) ∷ []) ≡ false
  -- types, fields, objects, parts that are left out
  pub variable_mass : mass false (variable 0 4) ≡ 2
  pub declared_types_differ : same_with (Value 4 ∷ Value 5 ∷ []) (variable 0 4 ∷ []) (variable 1 5 ∷ []) ≡ false
  pub declared_types_correspond : is_same correspond (Value 4 ∷ []) (Value 5 ∷ []) (parts (variable 0 4 ∷ [])) (parts (variable 0 5 ∷ [])) ≡ true
  pub fields_differ : same_with (Value 4 ∷ []) (statement form.Return (field 0 ∷ []) ∷ []) (statement form.Return (field 1 ∷ []) ∷ []) ≡ false
  pub other_variables : same_with [] (object (referent.Variable 0) ∷ []) (object (referent.Variable 1) ∷ []) ≡ false
  pub part_left_out : same_with (Value 7 ∷ []) (branch (λ ps. skip ps) ∷ []) (branch (λ ps. more called ps) ∷ []) ≡ false
