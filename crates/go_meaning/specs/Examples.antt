-- What some packages do, worked out by hand from the Go specification.
use Rattle.std.specs.Prelude.{◌≡◌, ℕ, pos, negsuc, List, [], ◌∷◌, Some, codes}
use Rattle.go_ints.specs.declared.kinds.Kind.TheVariants as kind
use Rattle.go_grammar.specs.declared.kind.Arithmetic.TheVariants.{Add, Subtract, Divide, Remainder, ShiftLeft, ShiftRight}
use Rattle.go_grammar.specs.declared.kind.Arithmetic.{Arithmetic}
use Rattle.go_grammar.specs.declared.kind.Comparison.TheVariants.{Equal}
use Rattle.go_grammar.specs.declared.kind.Operator.TheVariants as operator
use Rattle.go_tree.specs.declared.object.Predeclared.TheVariants as predeclared
use Rattle.go_types.specs.Trees.{TypeTree, text, integer, array, slice, declared}
use Rattle.go_typed.specs.declared.form.Form.TheVariants as form
use Rattle.go_typed.specs.declared.form.Referent.TheVariants as referent
use Rattle.go_typed.specs.Trees.{none, more, skip}
use Rattle.go_meaning.specs.Computations.{Divide as ByZero, Shift, Index, Slicing, NilCall, Make, User}
use Rattle.go_meaning.specs.Meaning.{Code, Run, Ended, Panicked, Unfinished, run}
use Rattle.go_meaning.specs.Builders.{Tree, statement, expression, int, ints, pair, action, source, a_type, num, string, local, variable, blank, index, field, sum, comparison, conversion, literal, call, call_of, builtin, does, println, block, define, variable_of, assign, returns, forever, range, code, shows, read_byte, package_of, specified, row_of}

abbrev pub main_of : ℕ → List Tree → Code
main_of locals ss = code [] locals ss

-- a run of `main` and these functions with this many turns
abbrev pub outcome : ℕ → Code → List Code → Run
outcome turns main functions = run (package_of [] (main ∷ functions)) [] turns 200

-- the same with package_of variables of these values
abbrev pub outcome_with : List Tree → Code → List Code → Run
outcome_with variables main functions = run (package_of variables (main ∷ functions)) [] 20 200

-- `p(n)`, where p is the function of number 1
abbrev pub p : ℕ → Tree
p n = call_of 1 (num (pos n) ∷ [])

-- `s := []int{1}; var a [2]int; s = append(s, 2); t := s; a[0] = 7; b := a; t[0] = 9; b[1] = 3` and then
-- `fmt.Println(s[0], len(s), cap(s), a[1], b[0])`
abbrev pub shared : Code
shared = main_of 4 (
    define ints 0 (literal ints (num (pos 1) ∷ []))
    ∷ variable_of pair 1
    ∷ assign (local ints 0) (builtin predeclared.Append ints (local ints 0 ∷ num (pos 2) ∷ []))
    ∷ define ints 2 (local ints 0)
    ∷ assign (index int (local pair 1) (num (pos 0))) (num (pos 7))
    ∷ define pair 3 (local pair 1)
    ∷ assign (index int (local ints 2) (num (pos 0))) (num (pos 9))
    ∷ assign (index int (local pair 3) (num (pos 1))) (num (pos 3))
    ∷ println (index int (local ints 0) (num (pos 0))
    ∷ builtin predeclared.Len int (local ints 0 ∷ []) ∷ builtin predeclared.Cap int (local ints 0 ∷ []) ∷ index int (local pair 1) (num (pos 1)) ∷ index int (local pair 3) (num (pos 0)) ∷ [])
    ∷ [])

-- an operation on values of another integer type
abbrev pub sum_of : TypeTree → Arithmetic → Tree → Tree → Tree
sum_of t o x y = expression t (form.Binary (operator.Compute o)) (more x (more y none))

abbrev pub long : TypeTree
long = integer kind.Int64

-- `m := int64(-9223372036854775808); d := int64(-1); n := 64; fmt.Println(m/d, m%d, m>>n, 1<<n, uint8(n)<<2)`
abbrev pub wraps : Code
wraps = main_of 3 (
    define long 0 (num (negsuc 9223372036854775807))
    ∷ define long 1 (num (negsuc 0))
    ∷ define int 2 (num (pos 64))
    ∷ println (sum_of long Divide (local long 0) (local long 1) ∷ sum_of long Remainder (local long 0) (local long 1)
    ∷ sum_of long ShiftRight (local long 0) (local int 2) ∷ sum ShiftLeft (num (pos 1)) (local int 2) ∷ sum_of (integer kind.Uint8) ShiftLeft (conversion (integer kind.Uint8) (local int 2)) (num (pos 2)) ∷ [])
    ∷ [])

-- `_ = x`, behind `n := z`
abbrev pub drops : TypeTree → Tree → Tree → Code
drops t z x = main_of 1 (define t 0 z ∷ assign blank x ∷ [])

abbrev pub n : Tree
n = local int 0

-- `var f func(); f()`
abbrev pub calls_nil : Code
calls_nil = main_of 1 (variable_of action 0 ∷ does (call (local action 0) []) ∷ [])

-- `for { fmt.Println(1) }`
abbrev pub endless : Code
endless = main_of 0 (forever (println (num (pos 1) ∷ []) ∷ []) ∷ [])

-- `for i, c := range "a\u00e9\xff" { fmt.Println(i, c) }`
abbrev pub spells : Code
spells = main_of 2 (range (expression int (form.New 0) none ∷ expression (integer kind.Int32) (form.New 1) none ∷ []) (string (97 ∷ 195 ∷ 169 ∷ 255 ∷ []))
    (println (local int 0 ∷ local (integer kind.Int32) 1 ∷ []) ∷ []) ∷ [])

-- `var a [2][2]int; i := 5` and then one assignment of p(7)
abbrev pub square : TypeTree
square = array 2 pair

abbrev pub in_square : Tree → Code
in_square x = main_of 2 (variable_of square 0 ∷ define int 1 (num (pos 5)) ∷ assign x (p 7) ∷ [])

-- `s := []T{}` and then one assignment of p(7)
abbrev pub in_none : Tree → Code
in_none x = main_of 1 (define (slice (declared 0)) 0 (literal (slice (declared 0)) []) ∷ assign x (p 7) ∷ [])

abbrev pub at_zero : Tree
at_zero = index (declared 0) (local (slice (declared 0)) 0) (p 0)

-- the package variable a, an array, and what a function h does to it before it gives a number
abbrev pub a : Tree
a = variable pair 0

-- `s := []int{5}; var a [2]int; for a[p(1)] = range s {}`
abbrev pub fills : Code
fills = main_of 2 (define ints 0 (literal ints (num (pos 5) ∷ [])) ∷ variable_of pair 1 ∷ range (index int (local pair 1) (p 1) ∷ []) (local ints 0) [] ∷ [])

-- `var a [2]int; for _, a[h()] = range g {}; fmt.Println(a[0])`, where h sets g[0] to 9 and gives 0
abbrev pub stores_items : TypeTree → Code
stores_items t = main_of 1 (variable_of pair 0 ∷ range (blank ∷ index int (local pair 0) (call_of 1 []) ∷ []) (variable t 0) [] ∷ println (index int (local pair 0) (num (pos 0)) ∷ []) ∷ [])

abbrev pub changes : TypeTree → Code
changes t = code [] 0 (assign (index int (variable t 0) (num (pos 0))) (num (pos 9)) ∷ returns (num (pos 0) ∷ []) ∷ [])

-- `k := 7; for .. := range a[k] { fmt.Println(i) }`, where a is a `[2][3]int`
abbrev pub triple : TypeTree
triple = array 3 int

abbrev pub goes_over : List Tree → Code
goes_over targets = main_of 3 (variable_of (array 2 triple) 0 ∷ define int 1 (num (pos 7)) ∷ range targets (index triple (local (array 2 triple) 0) (local int 1)) (println (local int 2 ∷ []) ∷ []) ∷ [])

-- `switch p(5) { default: p(1); fallthrough; case p(6): p(2); case p(7): p(3) }`
abbrev pub switches : Code
switches = main_of 0 (statement form.Switch (skip (more (p 5) (row_of (
    statement form.Default (row_of (does (p 1) ∷ statement form.Fallthrough none ∷ []))
    ∷ statement (form.Case 1) (row_of (p 6 ∷ does (p 2) ∷ []))
    ∷ statement (form.Case 1) (row_of (p 7 ∷ does (p 3) ∷ []))
    ∷ [])))) ∷ [])

-- `g(w())`, where g is a package variable that holds p, and w sets it to nil and gives 4
abbrev pub calls_old : Code
calls_old = main_of 0 (assign (variable source 0) (expression source (form.Object (referent.Function 1)) none) ∷ does (call (variable source 0) (call_of 2 [] ∷ [])) ∷ [])

abbrev pub sets_nil : Code
sets_nil = code [] 0 (assign (variable source 0) (expression source (form.Object (referent.Predeclared predeclared.Nil)) none) ∷ returns (num (pos 4) ∷ []) ∷ [])

-- `func f(n int) { if n == 0 { g(); return }; f(n - 1) }`, where f is the function of number 1 and g that of number 2
abbrev pub descends : Code
descends = code (Some 0 ∷ []) 1 (
    statement form.If (skip (more (comparison Equal (local int 0) (num (pos 0))) (more (block (does (call_of 2 []) ∷ returns [] ∷ [])) (skip none))))
    ∷ does (call_of 1 (sum Subtract (local int 0) (num (pos 1)) ∷ []))
    ∷ [])

abbrev pub descends_from : ℕ → Code
descends_from z = main_of 0 (does (call_of 1 (num (pos z) ∷ [])) ∷ [])

-- `s := []int{1}; t := append(s, 2); u := append(t, 3); t[0] = 9; v := append(u, 4); _ = append(u, 5)` and then
-- `fmt.Println(s[0], u[0], cap(u), v[3])`
abbrev pub with_more : ℕ → ℕ → Tree
with_more s z = builtin predeclared.Append ints (local ints s ∷ num (pos z) ∷ [])

abbrev pub cell : ℕ → ℕ → Tree
cell s i = index int (local ints s) (num (pos i))

abbrev pub appends : Code
appends = main_of 4 (
    define ints 0 (literal ints (num (pos 1) ∷ []))
    ∷ define ints 1 (with_more 0 2)
    ∷ define ints 2 (with_more 1 3)
    ∷ assign (cell 1 0) (num (pos 9))
    ∷ define ints 3 (with_more 2 4)
    ∷ assign blank (with_more 2 5)
    ∷ println (cell 0 0 ∷ cell 2 0 ∷ builtin predeclared.Cap int (local ints 2 ∷ []) ∷ cell 3 3 ∷ [])
    ∷ [])

-- `s := []int{1, 2, 3}; n := copy(s[1:], s); fmt.Println(n, s[0], s[1], s[2])`
abbrev pub copies : Code
copies = main_of 2 (
    define ints 0 (literal ints (num (pos 1) ∷ num (pos 2) ∷ num (pos 3) ∷ []))
    ∷ define int 1 (builtin predeclared.Copy int (expression ints form.Slice (more (local ints 0) (more (num (pos 1)) (skip none))) ∷ local ints 0 ∷ []))
    ∷ println (local int 1 ∷ cell 0 0 ∷ cell 0 1 ∷ cell 0 2 ∷ [])
    ∷ [])

-- `n := 3; for i := range n { n = 10; fmt.Println(i, min(i, 1), max(i, 1, 2)) }`
abbrev pub counts : Code
counts = main_of 2 (
    define int 0 (num (pos 3))
    ∷ range (expression int (form.New 1) none ∷ []) n (
    assign n (num (pos 10))
    ∷ println (local int 1 ∷ builtin predeclared.Min int (local int 1 ∷ num (pos 1) ∷ []) ∷ builtin predeclared.Max int (local int 1 ∷ num (pos 1) ∷ num (pos 2) ∷ []) ∷ []) ∷ [])
    ∷ [])

-- `for i := range z { fmt.Println(i) }`
abbrev pub counts_to : Tree → Code
counts_to z = main_of 1 (range (expression int (form.New 0) none ∷ []) z (println (local int 0 ∷ []) ∷ []) ∷ [])

-- `for range x { fmt.Println(9) }`
abbrev pub repeats : Tree → Code
repeats x = main_of 0 (range [] x (println (num (pos 9) ∷ []) ∷ []) ∷ [])

-- `s := "b"; fmt.Println(min(s, "ab", "a"), max("ab", s), min(s, ""))`
abbrev pub orders : Code
orders = main_of 1 (
    define text 0 (string (codes "b"))
    ∷ println (builtin predeclared.Min text (local text 0 ∷ string (codes "ab") ∷ string (codes "a") ∷ [])
    ∷ builtin predeclared.Max text (string (codes "ab") ∷ local text 0 ∷ []) ∷ builtin predeclared.Min text (local text 0 ∷ string [] ∷ []) ∷ [])
    ∷ [])

-- `var g int; fmt.Println(min(g, inc(), inc()), max(g))`, where inc adds 1 to g and gives it
abbrev pub picks : Code
picks = main_of 0 (println (builtin predeclared.Min int (variable int 0 ∷ call_of 1 [] ∷ call_of 1 [] ∷ []) ∷ builtin predeclared.Max int (variable int 0 ∷ []) ∷ []) ∷ [])

abbrev pub increments : Code
increments = code [] 0 (assign (variable int 0) (sum Add (variable int 0) (num (pos 1))) ∷ returns (variable int 0 ∷ []) ∷ [])

pub record Examples : Type 0 where
  -- slices share their array, arrays are copied
  pub aliasing : outcome 10 shared [] ≡ Ended (codes "9 2 2 0 7\n")
  -- integers wrap, division truncates, a shift by the width or more leaves the sign
  pub wrapping : outcome 10 wraps [] ≡ Ended (codes "-9223372036854775808 0 -1 0 0\n")
  -- run-time panics
  pub divided : outcome 10 (drops int (num (pos 0)) (sum Divide (num (pos 1)) n)) [] ≡ Panicked ByZero []
  pub negative_count : outcome 10 (drops int (num (negsuc 0)) (sum ShiftLeft (num (pos 1)) n)) [] ≡ Panicked Shift []
  pub beyond_end : outcome 10 (drops int (num (pos 1)) (index int (literal ints (num (pos 1) ∷ [])) n)) [] ≡ Panicked Index []
  pub beyond_length : outcome 10 (drops int (num (pos 3)) (expression text form.Slice (more (string (codes "ab")) (more n (skip none))))) [] ≡ Panicked Slicing []
  pub called_nil : outcome 10 calls_nil [] ≡ Panicked NilCall []
  pub made_negative : outcome 10 (drops int (num (negsuc 0)) (builtin predeclared.Make ints (a_type ints ∷ n ∷ []))) [] ≡ Panicked Make []
  pub panicked : outcome 10 (main_of 0 (does (builtin predeclared.Panic int (string (codes "x") ∷ [])) ∷ [])) [] ≡ Panicked User []
  -- a call spends a turn, and so does each turn of a loop
  pub turns : outcome 5 endless [] ≡ Unfinished (codes "1\n1\n1\n1\n")
  pub no_turn : outcome 0 endless [] ≡ Unfinished []
  -- runes, and one byte that is none
  pub runes : outcome 10 spells [] ≡ Ended (codes "0 97\n1 233\n3 65533\n")
  -- The bound of a left side's outermost index is tested at the assignment, all others before.
  pub outer_late : outcome 20 (in_square (index int (index pair (local square 0) (p 1)) (local int 1))) (shows ∷ []) ≡ Panicked Index (codes "1\n7\n")
  pub inner_early : outcome 20 (in_square (index int (index pair (local square 0) (local int 1)) (p 1))) (shows ∷ []) ≡ Panicked Index []
  pub field_late : outcome 20 (in_none (field int 0 at_zero)) (shows ∷ []) ≡ Panicked Index (codes "0\n7\n")
  pub field_early : outcome 20 (in_none (index int (field pair 1 at_zero) (p 1))) (shows ∷ []) ≡ Panicked Index (codes "0\n")
  -- `a[0] += h()` reads a[0] before h sets a[0] and a[1], and the store reads a anew.
  pub read_before : outcome_with (specified pair 0 (literal pair []) ∷ [])
      (main_of 0 (statement (form.Operate Add) (more (index int a (num (pos 0))) (more (call_of 1 []) none)) ∷ println (index int a (num (pos 0)) ∷ index int a (num (pos 1)) ∷ []) ∷ []))
      (code [] 0 (assign (index int a (num (pos 0))) (num (pos 7)) ∷ assign (index int a (num (pos 1))) (num (pos 5)) ∷ returns (num (pos 10) ∷ []) ∷ []) ∷ [])
      ≡ Ended (codes "10 5\n")
  -- `a[h()]` reads a before h sets a[0].
  pub read_first : outcome_with (specified pair 0 (literal pair (num (pos 1) ∷ num (pos 2) ∷ [])) ∷ []) (main_of 0 (println (index int a (call_of 1 []) ∷ []) ∷ [])) (changes pair ∷ []) ≡ Ended (codes "1\n")
  -- A turn of a range is spent before its left sides are evaluated, and the item is read behind them.
  pub range_cut : outcome 2 fills (shows ∷ []) ≡ Unfinished []
  pub range_done : outcome 3 fills (shows ∷ []) ≡ Ended (codes "1\n")
  pub old_element : outcome_with (specified pair 0 (literal pair (num (pos 3) ∷ num (pos 3) ∷ [])) ∷ []) (stores_items pair) (changes pair ∷ []) ≡ Ended (codes "3\n")
  pub new_cell : outcome_with (specified ints 0 (literal ints (num (pos 3) ∷ [])) ∷ []) (stores_items ints) (changes ints ∷ []) ≡ Ended (codes "9\n")
  -- An array's operand isn't evaluated where its length is constant and one part at most stands on the left.
  pub not_evaluated : outcome 10 (goes_over (expression int (form.New 2) none ∷ [])) [] ≡ Ended (codes "0\n1\n2\n")
  pub evaluated : outcome 10 (goes_over (expression int (form.New 2) none ∷ blank ∷ [])) [] ≡ Panicked Index []
  -- Cases are tried in order, the default last, and a clause falls through to the next one.
  pub fell : outcome 20 switches (shows ∷ []) ≡ Ended (codes "5\n6\n7\n1\n2\n")
  -- The function value is evaluated before the arguments.
  pub old_function : outcome_with (specified source 0 (expression source (form.Object (referent.Predeclared predeclared.Nil)) none) ∷ []) calls_old (shows ∷ sets_nil ∷ []) ≡ Ended (codes "4\n")
  -- at depth 200 a function without a body may be called, one with a body not
  pub read_deep : run (package_of [] (descends_from 198 ∷ descends ∷ read_byte ∷ [])) [] 300 200 ≡ Ended []
  pub too_deep : run (package_of [] (descends_from 198 ∷ descends ∷ main_of 0 [] ∷ [])) [] 300 200 ≡ Unfinished []
  -- of two package_of variables that panic the first decides
  pub first_variable : outcome_with (specified int 0 (sum Divide (num (pos 1)) (index int (literal ints (num (pos 0) ∷ [])) (num (pos 0))))
      ∷ specified int 1 (index int (literal ints []) (conversion int (num (pos 0)))) ∷ []) (main_of 0 []) [] ≡ Panicked ByZero []
  -- an integer that is no code point gives U+FFFD
  pub surrogate : outcome 10 (main_of 1 (define int 0 (num (pos 57343)) ∷ println (conversion text n ∷ []) ∷ [])) [] ≡ Ended (239 ∷ 191 ∷ 189 ∷ 10 ∷ [])
  pub greatest : outcome 10 (main_of 1 (define int 0 (num (pos 1114111)) ∷ println (conversion text n ∷ []) ∷ [])) [] ≡ Ended (244 ∷ 143 ∷ 191 ∷ 191 ∷ 10 ∷ [])
  -- a byte of the input, and -1 at its end
  pub reads : run (package_of [] (main_of 0 (println (call_of 1 [] ∷ call_of 1 [] ∷ []) ∷ []) ∷ read_byte ∷ [])) (65 ∷ []) 10 200 ≡ Ended (codes "65 -1\n")
  -- `append` makes a new array of twice the capacity, or writes in place; `copy` reads its source first
  pub grown : outcome 10 appends [] ≡ Ended (codes "1 1 4 5\n")
  pub moved : outcome 10 copies [] ≡ Ended (codes "2 1 1 2\n")
  -- A range over an integer reads it once, whatever its body assigns; `min` and `max` give one of their arguments.
  pub counted : outcome 4 counts [] ≡ Ended (codes "0 0 2\n1 1 2\n2 1 2\n")
  pub counted_cut : outcome 3 counts [] ≡ Unfinished (codes "0 0 2\n1 1 2\n")
  pub below_zero : outcome 1 (counts_to (num (negsuc 0))) [] ≡ Ended []
  pub below_one : outcome 2 (counts_to (num (pos 1))) [] ≡ Ended (codes "0\n")
  -- With nothing on its left the operand is evaluated all the same.
  pub repeated : outcome 20 (repeats (p 2)) (shows ∷ []) ≡ Ended (codes "2\n9\n9\n")
  -- strings are ordered by their bytes, not by their length
  pub ordered : outcome 10 orders [] ≡ Ended (codes "a b \n")
  -- arguments are evaluated from left to right
  pub picked : outcome_with (specified int 0 (num (pos 0)) ∷ []) picks (increments ∷ []) ≡ Ended (codes "0 2\n")
