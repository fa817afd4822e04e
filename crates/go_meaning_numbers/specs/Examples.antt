-- A package whose functions are numbered anew, worked out by hand.
use Rattle.std.specs.Prelude.{◌≡◌, ℕ, zero, suc, pos, [], ◌∷◌, codes}
use Rattle.go_meaning.specs.Meaning.{Code, Program, Ended, run}
use Rattle.go_meaning.specs.Builders.{num, call_of, does, println, code, package_of}
use Rattle.go_meaning_numbers.specs.Laws.{AreNumberedAnew}

-- `func main() { f() }`, where f has the number g
abbrev pub calls_it : ℕ → Code
calls_it g = code [] 0 (does (call_of g []) ∷ [])

-- `func f() { fmt.Println(1) }`
abbrev pub prints : Code
prints = code [] 0 (println (num (pos 1) ∷ []) ∷ [])

abbrev pub main_first : Program
main_first = package_of [] (calls_it 1 ∷ prints ∷ [])

abbrev pub main_last : Program
main_last = record (package_of [] (prints ∷ calls_it 0 ∷ [])) { main = 1 }

abbrev pub swapped : ℕ → ℕ
swapped zero = 1
swapped (suc zero) = 0
swapped (suc (suc g)) = suc (suc g)

pub record Examples : Type 0 where
  pub numbered : AreNumberedAnew swapped main_first main_last
  pub old : run main_first [] 2 200 ≡ Ended (codes "1\n")
  pub new : run main_last [] 2 200 ≡ Ended (codes "1\n")
