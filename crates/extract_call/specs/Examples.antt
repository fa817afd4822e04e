-- Packages with windows, and what becomes of them, worked out by hand.
use Rattle.std.specs.Prelude.{◌≡◌, ℕ, zero, suc, pos, List, [], ◌∷◌, Some, codes}
use Rattle.go_grammar.specs.declared.kind.Arithmetic.TheVariants.{Add}
use Rattle.go_meaning.specs.Meaning.{Code, Program, Ended, Unfinished, run}
use Rattle.go_meaning.specs.Builders.{Tree, int, num, local, blank, sum, call_of, does, println, define, variable_of, assign, returns, forever, code, package_of}
use Rattle.extract_call.specs.Extraction.{Extracts}
use Rattle.extract_call.specs.Laws.{Tail}

abbrev pub a : Tree
a = local int 0

-- ---- a loop around a window, and a window of another function with another constant
--
-- `func main() { a := 1; for { a = a + 1; fmt.Println(a) } }` and `func g(a int) { a = a + 2; fmt.Println(a) }` become
-- `func main() { a := 1; for { a = step(a, 1) } }` and `func g(a int) { a = step(a, 2) }`, with
-- `func step(a int, p0 int) int { a = a + p0; fmt.Println(a); return a }` behind them.

-- `a = a + x; fmt.Println(a)`
abbrev pub steps : Tree → List Tree
steps x = assign a (sum Add a x) ∷ println (a ∷ []) ∷ []

-- `a = step(a, x)`
abbrev pub stepped : Tree → Tree
stepped x = assign a (call_of 2 (a ∷ x ∷ []))

abbrev pub one : Tree
one = num (pos 1)

abbrev pub two : Tree
two = num (pos 2)

abbrev pub step : Code
step = code (Some 0 ∷ Some 1 ∷ []) 2 (assign a (sum Add a (local int 1)) ∷ println (a ∷ []) ∷ returns (a ∷ []) ∷ [])

abbrev pub looped : Program
looped = package_of [] (code [] 1 (define int 0 one ∷ forever (steps one) ∷ []) ∷ code (Some 0 ∷ []) 1 (steps two) ∷ [])

abbrev pub looped_calls : Program
looped_calls = package_of [] (code [] 1 (define int 0 one ∷ forever (stepped one ∷ []) ∷ []) ∷ code (Some 0 ∷ []) 1 (stepped two ∷ []) ∷ step ∷ [])

-- the new function has the number 2
abbrev pub last : ℕ → ℕ
last zero = 0
last (suc zero) = 1
last (suc (suc g)) = suc (suc (suc g))

-- ---- a declared result that one member needs, and a function whose number moves
--
-- `func main() { a := 1; for { g(a); b := a + 1; fmt.Println(b); a = b } }` and `func g(a int) { b := a + 2; fmt.Println(b) }` become
-- `func main() { a := 1; for { g(a); var b int; b = next(a, 1); a = b } }` and `func g(a int) { _ = next(a, 2) }`, with
-- `func next(a int, p0 int) int { b := a + p0; fmt.Println(b); return b }` between them.

abbrev pub b : Tree
b = local int 1

-- `b := a + x; fmt.Println(b)`, where b is the local i
abbrev pub shows_next : ℕ → Tree → List Tree
shows_next i x = define int i (sum Add a x) ∷ println (local int i ∷ []) ∷ []

-- `next(a, x)`
abbrev pub next_of : Tree → Tree
next_of x = call_of 1 (a ∷ x ∷ [])

abbrev pub next : Code
next = code (Some 0 ∷ Some 1 ∷ []) 3 (define int 2 (sum Add a (local int 1)) ∷ println (local int 2 ∷ []) ∷ returns (local int 2 ∷ []) ∷ [])

abbrev pub declaring : Program
declaring = package_of [] (
    code [] 2 (define int 0 one ∷ forever (does (call_of 1 (a ∷ [])) ∷ define int 1 (sum Add a one) ∷ println (b ∷ []) ∷ assign a b ∷ []) ∷ [])
    ∷ code (Some 0 ∷ []) 2 (shows_next 1 two)
    ∷ [])

abbrev pub declaring_calls : Program
declaring_calls = package_of [] (
    code [] 2 (define int 0 one ∷ forever (does (call_of 2 (a ∷ [])) ∷ variable_of int 1 ∷ assign b (next_of one) ∷ assign a b ∷ []) ∷ [])
    ∷ next
    ∷ code (Some 0 ∷ []) 1 (assign blank (next_of two) ∷ [])
    ∷ [])

-- the new function has the number 1
abbrev pub between : ℕ → ℕ
between zero = 0
between (suc g) = suc (suc g)

-- ---- a call that is returned
--
-- `func main() { fmt.Println(f(1)) }` and `func f(a int) int { a = a + 1; return a }`, which becomes
-- `func f(a int) int { return g(a, 1) }`, with `func g(a int, p0 int) int { a = a + p0; return a }` behind it. And
-- `func f(a int) { g(a, 1); return }`, where `func g(a int, p0 int) { a = a + p0; return }` gives nothing.

abbrev pub shows_f : Code
shows_f = code [] 0 (println (call_of 1 (one ∷ []) ∷ []) ∷ [])

abbrev pub returning : Program
returning = package_of [] (shows_f ∷ code (Some 0 ∷ []) 1 (assign a (sum Add a one) ∷ returns (a ∷ []) ∷ []) ∷ [])

-- `g(a, 1)`
abbrev pub of_g : Tree
of_g = call_of 2 (a ∷ one ∷ [])

-- `a = a + p0`, and a return
abbrev pub adds : Tree → List Tree
adds r = assign a (sum Add a (local int 1)) ∷ r ∷ []

-- main, the function f, and g with its return
abbrev pub with_calls : Code → List Tree → Tree → Program
with_calls main tail r = package_of [] (main ∷ code (Some 0 ∷ []) 1 tail ∷ code (Some 0 ∷ Some 1 ∷ []) 2 (adds r) ∷ [])

abbrev pub returning_calls : Program
returning_calls = with_calls shows_f (returns (of_g ∷ []) ∷ []) (returns (a ∷ []))

abbrev pub calling : Program
calling = with_calls (code [] 0 (does (call_of 1 (one ∷ [])) ∷ [])) (does of_g ∷ returns [] ∷ []) (returns [])

pub record Examples : Type 0 where
  pub loop : Extracts last 2 looped looped_calls
  pub declared : Extracts between 2 declaring declaring_calls
  -- Three turns do for two rounds of the loop, and with calls for one; three times the turns and one more do for all that was printed.
  pub old : run looped [] 3 200 ≡ Unfinished (codes "2\n3\n")
  pub same_turns : run looped_calls [] 3 200 ≡ Unfinished (codes "2\n")
  pub more_turns : run looped_calls [] 12 401 ≡ Unfinished (codes "2\n3\n4\n5\n6\n")
  -- A return of a call is of the form that is written, and so is a call with a return behind it.
  pub tail : Tail returning_calls
  pub tail_alone : Tail calling
  -- Two turns do for the two calls, and not for the third one; twice the turns and one more of each do.
  pub returned : run returning [] 2 200 ≡ Ended (codes "2\n")
  pub returned_at_same_turns : run returning_calls [] 2 200 ≡ Unfinished []
  pub returned_at_more_turns : run returning_calls [] 6 401 ≡ Ended (codes "2\n")
