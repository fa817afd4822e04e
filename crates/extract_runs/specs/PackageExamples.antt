-- A package of which a window is taken out, worked out by hand: all that is asked of it is met.
use Rattle.std.specs.Prelude.{ℕ, zero, suc, true, false, nat_eq, if◌then◌else◌, [], ◌∷◌, Option, Some, None}
use Rattle.go_grammar.specs.declared.kind.Arithmetic.TheVariants as arithmetic
use Rattle.go_types.specs.Trees.{TypeTree, function}
use Rattle.go_types.specs.Trees as types
use Rattle.go_typed.specs.declared.form.Form.TheVariants as form
use Rattle.go_typed.specs.declared.form.Referent.{Referent}
use Rattle.go_typed.specs.declared.form.Referent.TheVariants as referent
use Rattle.go_typed.specs.Trees.{Nothing, Value, Typed, typed, Typeds, row, none, more}
use Rattle.go_meaning.specs.Meaning.{Code, Program}
use Rattle.go_meaning_simulation.specs.Links.{joined}
use Rattle.extract_trees.specs.Numberings.{Numbering}
use Rattle.extract_trees.specs.Copied.{window_copied}
use Rattle.extract_trees.specs.Filled.{Gap, filled}
use Rattle.extract_trees.specs.Examples.{int, node, variable, number, operation}
use Rattle.extract_runs.specs.Packages.{TreesExtract}

-- `func main() { a := 1; a = a + 2; a = a * 3 }`, of which the second statement is taken out

abbrev pub first : Typed TypeTree
first = node (form.Define 1) 3 6 Nothing true false (Some (variable (form.New 0) 3) ∷ Some (number 1 5) ∷ [])

abbrev pub second : Typed TypeTree
second = node (form.Assign 1) 7 12 Nothing true false (Some (variable (form.Local 0) 7) ∷ Some (operation arithmetic.Add 9 (variable (form.Local 0) 9) (number 2 11)) ∷ [])

abbrev pub third : Typed TypeTree
third = node (form.Assign 1) 13 18 Nothing true false (Some (variable (form.Local 0) 13) ∷ Some (operation arithmetic.Multiply 15 (variable (form.Local 0) 15) (number 3 17)) ∷ [])

abbrev pub function_of : Typeds TypeTree → Typed TypeTree
function_of ps = typed form.Function 0 20 (record { sort = Nothing; varies = true; calls = false }) (more (typed form.Block 2 20 (record { sort = Nothing; varies = true; calls = false }) ps) none)

abbrev pub body : Typed TypeTree
body = function_of (more first (more second (more third none)))

abbrev pub small : Program
small = record { rights = []; variables = []; count = 0; functions = record { parameters = []; locals = 1; body = body } ∷ []; main = 0 }

-- `func step(a int, p0 int) int { a = a + p0; return a }`, whose number is 1

abbrev pub past : ℕ → ℕ
past zero = 0
past (suc n) = suc (suc n)

abbrev pub referent_past : Referent → Referent
referent_past (referent.Function n) = referent.Function (past n)
referent_past r = r

abbrev pub hole_at : ℕ → Option ℕ
hole_at t = if nat_eq t 11 then Some 1 else None

abbrev pub into_step : Numbering
into_step = record { token = λ i. i; local = λ n. n; referent = referent_past; type = λ n. n; parameter = hole_at }

abbrev pub window : Typeds TypeTree
window = more second none

abbrev pub copy : Typeds TypeTree
copy = window_copied into_step window

abbrev pub return : Typeds TypeTree
return = row (Some (node form.Return 13 15 Nothing true false (Some (variable (form.Local 0) 14) ∷ [])) ∷ [])

abbrev pub step : Code
step = record { parameters = Some 0 ∷ Some 1 ∷ []; locals = 2; body = function_of (joined copy return) }

-- `a = step(a, 2)` in its place

abbrev pub step_type : TypeTree
step_type = function (types.more int (types.more int types.none)) (types.more int types.none)

abbrev pub call : Typed TypeTree
call =
    node form.Call 9 15 (Value int) true true (Some (node (form.Object (referent.Function 1)) 9 10 (Value step_type) false false []) ∷ Some (variable (form.Local 0) 11) ∷ Some (number 2 13) ∷ [])

abbrev pub called : Typeds TypeTree
called = row (Some (node (form.Assign 1) 7 15 Nothing true true (Some (variable (form.Local 0) 7) ∷ Some call ∷ [])) ∷ [])

abbrev pub gap : Gap
gap = record { from = 7; upto = 12; statements = called }

abbrev pub in_place : Numbering
in_place = record { token = λ i. i; local = λ n. n; referent = referent_past; type = λ n. n; parameter = λ t. None }

abbrev pub small_calls : Program
small_calls = record {
  rights = [];
  variables = [];
  count = 0;
  functions = record { parameters = []; locals = 1; body = filled in_place (gap ∷ []) body } ∷ step ∷ [];
  main = 0;
}

pub record PackageExamples : Type 0 where
  pub extracted : TreesExtract past 1 small small_calls
