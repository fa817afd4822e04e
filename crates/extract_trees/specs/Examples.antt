-- Statements that are copied, and blocks in which others take their place, worked out by hand.
use Rattle.std.specs.Prelude.{◌≡◌, ℕ, ◌+◌, pos, Bool, true, false, nat_eq, nat_lt, if◌then◌else◌, List, [], ◌∷◌, Option, Some, None}
use Rattle.go_constants.specs.declared.values.Const.TheVariants as const
use Rattle.go_ints.specs.declared.kinds.Kind.TheVariants as integer_kind
use Rattle.go_grammar.specs.declared.kind.Arithmetic.{Arithmetic}
use Rattle.go_grammar.specs.declared.kind.Arithmetic.TheVariants as arithmetic
use Rattle.go_grammar.specs.declared.kind.Operator.TheVariants as operator
use Rattle.go_grammar.specs.declared.kind.Step.TheVariants as step
use Rattle.go_types.specs.Trees.{TypeTree, integer, function, declared}
use Rattle.go_types.specs.Trees as types
use Rattle.go_typed.specs.declared.form.Form.{Form}
use Rattle.go_typed.specs.declared.form.Form.TheVariants as form
use Rattle.go_typed.specs.declared.form.Referent.{Referent}
use Rattle.go_typed.specs.declared.form.Referent.TheVariants as referent
use Rattle.go_typed.specs.Trees.{Sort, Nothing, IsType, Value, Constant, Results, Typed, typed, Typeds, row}
use Rattle.extract_trees.specs.Numberings.{Numbering}
use Rattle.extract_trees.specs.Copied.{window_copied}
use Rattle.extract_trees.specs.Filled.{Gap, filled}

-- ---- nodes

abbrev pub int : TypeTree
int = integer integer_kind.Int

-- a node, by its form, its tokens, its sort, whether a variable is named in it, whether it calls, and its parts
abbrev pub node : Form → ℕ → ℕ → Sort TypeTree → Bool → Bool → List (Option (Typed TypeTree)) → Typed TypeTree
node f i j s v c ps = typed f i j (record { sort = s; varies = v; calls = c }) (row ps)

abbrev pub variable : Form → ℕ → Typed TypeTree
variable f i = node f i (i + 1) (Value int) true false []

abbrev pub number : ℕ → ℕ → Typed TypeTree
number n i = node form.Literal i (i + 1) (Constant int (const.Int (pos n) false)) false false []

abbrev pub operation : Arithmetic → ℕ → Typed TypeTree → Typed TypeTree → Typed TypeTree
operation o i x y = node (form.Binary (operator.Compute o)) i (i + 3) (Value int) true false (Some x ∷ Some y ∷ [])

-- ---- a window: `b := a + 1`, `b = b * 2`

abbrev pub statements : Typeds TypeTree
statements = row (
    Some (node (form.Define 1) 8 13 Nothing true false (Some (variable (form.New 1) 8) ∷ Some (operation arithmetic.Add 10 (variable (form.Local 0) 10) (number 1 12)) ∷ [])) ∷
    Some (node (form.Assign 1) 14 19 Nothing true false (Some (variable (form.Local 1) 14) ∷ Some (operation arithmetic.Multiply 16 (variable (form.Local 1) 16) (number 2 18)) ∷ [])) ∷ [])

-- `a` stays, and what is declared stands behind the parameter; functions from the second one on move up by one.
abbrev pub local_behind : ℕ → ℕ
local_behind n = if nat_lt n 1 then n else n + 1

abbrev pub referent_behind : Referent → Referent
referent_behind (referent.Function n) = referent.Function (n + 1)
referent_behind r = r

-- the `1` becomes a parameter
abbrev pub hole_at : ℕ → Option ℕ
hole_at t = if nat_eq t 12 then Some 1 else None

abbrev pub into_function : Numbering
into_function = record { token = λ i. i + 3; local = local_behind; referent = referent_behind; type = λ n. n + 5; parameter = hole_at }

-- `b := a + p0`, `b = b * 2`
abbrev pub copies : Typeds TypeTree
copies = row (
    Some (node (form.Define 1) 11 16 Nothing true false (Some (variable (form.New 2) 11) ∷ Some (operation arithmetic.Add 13 (variable (form.Local 0) 13) (variable (form.Local 1) 15)) ∷ [])) ∷
    Some (node (form.Assign 1) 17 22 Nothing true false (Some (variable (form.Local 2) 17) ∷ Some (operation arithmetic.Multiply 19 (variable (form.Local 2) 19) (number 2 21)) ∷ [])) ∷ [])

-- ---- a window: `q = point{k: 1}`, where `point` is the declared type of the number n and `q` the local 0

abbrev pub point : ℕ → TypeTree
point n = declared n

abbrev pub element : ℕ → Sort TypeTree → Bool → Typed TypeTree → Typed TypeTree
element i s v x = node (form.Keyed 0) i (i + 3) s v false (Some x ∷ [])

abbrev pub literal : ℕ → ℕ → Bool → Typed TypeTree → Typed TypeTree
literal n i v x = node form.Composite i (i + 6) (Value (point n)) v false (Some (node form.Type i (i + 1) (IsType (point n)) false false []) ∷ Some x ∷ [])

abbrev pub stored : ℕ → ℕ → Bool → Typed TypeTree → Typeds TypeTree
stored n i v x = row (Some (node (form.Assign 1) i (i + 8) Nothing true false (Some (node (form.Local 0) i (i + 1) (Value (point n)) true false []) ∷ Some (literal n (i + 2) v x) ∷ [])) ∷ [])

-- ---- blocks of `x++` and of calls `f()`, where `f` is the function of the number k

abbrev pub increment : ℕ → Typed TypeTree
increment i = node (form.Step step.Increment) i (i + 2) Nothing true false (Some (variable (form.Local 0) i) ∷ [])

abbrev pub call : ℕ → ℕ → Typed TypeTree
call k i =
    let signature : TypeTree = function types.none types.none in
    node form.Expression i (i + 3) Nothing false true (Some (node form.Call i (i + 3) (Results signature) false true (Some (node (form.Object (referent.Function k)) i (i + 1) (Value signature) false false []) ∷ [])) ∷ [])

abbrev pub block : ℕ → ℕ → Bool → Bool → List (Option (Typed TypeTree)) → Typed TypeTree
block i j v c ps = node form.Block i j Nothing v c ps

-- `case 1:` with one statement
abbrev pub clause : Bool → Bool → Typed TypeTree → Typed TypeTree
clause v c x = node (form.Case 1) 0 6 Nothing v c (Some (number 1 1) ∷ Some x ∷ [])

-- tokens stay, and functions move up by one
abbrev pub in_place : Numbering
in_place = record { token = λ i. i; local = λ n. n; referent = referent_behind; type = λ n. n; parameter = λ t. None }

abbrev pub gap : ℕ → ℕ → List (Option (Typed TypeTree)) → Gap
gap i j ps = record { from = i; upto = j; statements = row ps }

-- `{ x++; x++; x++ }`
abbrev pub increments : Typed TypeTree
increments = block 0 10 true false (Some (increment 1) ∷ Some (increment 4) ∷ Some (increment 7) ∷ [])

pub record Examples : Type 0 where
  -- copies: a hole becomes a parameter, the other one stays
  pub two_statements : window_copied into_function statements ≡ copies
  -- a hole stays where it has no parameter
  pub without_parameters : window_copied in_place statements ≡ statements
  -- the element for a field stands for the parameter, as its value does
  pub element_for_a_field : window_copied into_function (stored 2 6 false (element 10 (Constant int (const.Int (pos 1) false)) false (number 1 12))) ≡ stored 7 9 true (element 13 (Value int) true (variable (form.Local 1) 15))
  -- no gaps
  pub untouched : filled in_place [] increments ≡ increments
  -- a call in place of the second statement
  pub in_the_middle : filled in_place (gap 4 7 (Some (call 2 4) ∷ []) ∷ []) increments ≡ block 0 10 true true (Some (increment 1) ∷ Some (call 2 4) ∷ Some (increment 7) ∷ [])
  -- two statements in place of the last two
  pub at_the_end : filled in_place (gap 4 10 (Some (call 2 4) ∷ Some (increment 7) ∷ []) ∷ []) increments ≡ block 0 10 true true (Some (increment 1) ∷ Some (call 2 4) ∷ Some (increment 7) ∷ [])
  -- two calls in place of the first and the last
  pub two_gaps : filled in_place (gap 1 4 (Some (call 2 1) ∷ []) ∷ gap 7 10 (Some (call 2 7) ∷ []) ∷ []) increments ≡ block 0 10 true true (Some (call 2 1) ∷ Some (increment 4) ∷ Some (call 2 7) ∷ [])
  -- two gaps, the second one right behind the first
  pub adjoining_gaps : filled in_place (gap 1 4 (Some (call 2 1) ∷ []) ∷ gap 4 10 (Some (call 2 4) ∷ []) ∷ []) increments ≡ block 0 10 false true (Some (call 2 1) ∷ Some (call 2 4) ∷ [])
  -- a call of the function 1, which becomes 2, stays in front of what takes the place of the other one; without it nothing calls
  pub another_call_stays : filled in_place (gap 5 9 (Some (increment 5) ∷ []) ∷ []) (block 0 9 false true (Some (call 1 1) ∷ Some (call 1 5) ∷ [])) ≡ block 0 9 true true (Some (call 2 1) ∷ Some (increment 5) ∷ [])
  pub no_call_is_left : filled in_place (gap 1 5 (Some (increment 1) ∷ []) ∷ []) (block 0 5 false true (Some (call 1 1) ∷ [])) ≡ block 0 5 true false (Some (increment 1) ∷ [])
  -- what a block has is seen in the block around it
  pub in_a_block : filled in_place (gap 2 5 (Some (increment 2) ∷ []) ∷ []) (block 0 7 false true (Some (block 1 6 false true (Some (call 1 2) ∷ [])) ∷ [])) ≡ block 0 7 true false (Some (block 1 6 true false (Some (increment 2) ∷ [])) ∷ [])
  -- behind the values of a clause
  pub in_a_clause : filled in_place (gap 3 6 (Some (increment 3) ∷ []) ∷ []) (clause false true (call 1 3)) ≡ clause true false (increment 3)
