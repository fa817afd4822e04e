-- A small function, worked out by hand.
use Rattle.std.specs.Prelude.{◌≡◌, ℕ, ◌+◌, pos, Bool, true, false, List, [], ◌∷◌, map, Option, Some, None}
use Rattle.go_constants.specs.declared.values.Const.TheVariants as const
use Rattle.go_grammar.specs.declared.kind.Arithmetic.TheVariants as arithmetic
use Rattle.go_grammar.specs.declared.kind.Kind.TheVariants as kind
use Rattle.go_grammar.specs.declared.kind.Operator.TheVariants as operator
use Rattle.go_tree.specs.declared.context.Block.TheVariants as block
use Rattle.go_tree.specs.declared.context.Entity.{Entity}
use Rattle.go_tree.specs.declared.context.Entity.TheVariants as entity
use Rattle.go_tree.specs.declared.object.Declared.{Declared}
use Rattle.go_typed.specs.declared.form.Form.{Form}
use Rattle.go_typed.specs.declared.form.Form.TheVariants as form
use Rattle.go_typed.specs.declared.form.Referent.{Referent}
use Rattle.go_typed.specs.declared.form.Referent.TheVariants as referent
use Rattle.go_typed.specs.declared.walk.LocalUse.{LocalUse}
use Rattle.go_typed.specs.declared.window.Window.{Window}
use Rattle.go_typed.specs.Funcs.{are_below, is_tiled, is_whole, size}
use Rattle.go_typed.specs.Lists.{statement_lists, statements_of}
use Rattle.go_typed.specs.Packages.{referents}
use Rattle.go_typed.specs.Places.{innermost}
use Rattle.go_typed.specs.Trees.{Sort, Nothing, Value, Constant, Typed, typed, row, form_of}
use Rattle.go_typed.specs.Windows.{uses_in}

-- a node, by its form, tokens, sort, whether a variable is named in it, and parts; all values have the type 0
abbrev pub a_node : Form → ℕ → ℕ → Sort ℕ → Bool → List (Option (Typed ℕ)) → Typed ℕ
a_node f i j s v ps = typed f i j (record { sort = s; varies = v; calls = false }) (row ps)

abbrev pub value : Form → ℕ → ℕ → List (Option (Typed ℕ)) → Typed ℕ
value f i j ps = a_node f i j (Value 0) true ps

abbrev pub statement : Form → ℕ → ℕ → List (Option (Typed ℕ)) → Typed ℕ
statement f i j ps = a_node f i j Nothing true ps

abbrev pub number : ℕ → ℕ → Typed ℕ
number n i = a_node form.Literal i (i + 1) (Constant 0 (const.Int (pos n) false)) false []

-- `b := a + 1`, `b = b * 2` and `return b`, from these tokens on
abbrev pub sum : Typed ℕ
sum = statement (form.Define 1) 8 13 (Some (value (form.New 1) 8 9 []) ∷ Some (value (form.Binary (operator.Compute arithmetic.Add)) 10 13 (Some (value (form.Local 0) 10 11 []) ∷ Some (number 1 12) ∷ [])) ∷ [])

abbrev pub product : Typed ℕ
product = statement (form.Assign 1) 14 19 (Some (value (form.Local 1) 14 15 []) ∷ Some (value (form.Binary (operator.Compute arithmetic.Multiply)) 16 19 (Some (value (form.Local 1) 16 17 []) ∷ Some (number 2 18) ∷ [])) ∷ [])

abbrev pub return : Typed ℕ
return = statement form.Return 20 22 (Some (value (form.Local 1) 21 22 []) ∷ [])

abbrev pub body : List (Option (Typed ℕ)) → Typed ℕ
body ss = statement form.Function 0 24 (Some (statement form.Block 7 24 ss) ∷ [])

-- `func f(a int) int { b := a + 1; b = b * 2; return b }`
abbrev pub plain : Typed ℕ
plain = body (Some sum ∷ Some product ∷ Some return ∷ [])

-- a at 3 and 10, b at 8, 14, 16 and 21
abbrev pub names : List (Option ℕ)
names = None ∷ None ∷ None ∷ Some 0 ∷ None ∷ None ∷ None ∷ None ∷ Some 1 ∷ None ∷ Some 0 ∷ None ∷ None ∷ None ∷ Some 1 ∷ None ∷ Some 1 ∷ None ∷ None ∷ None ∷ None ∷ Some 1 ∷ None ∷ None ∷ []

abbrev pub window : ℕ → ℕ → ℕ → Window
window list first count = record { func = 0; list = list; first = first; count = count }

abbrev pub use_of : ℕ → ℕ → LocalUse
use_of local token = record { local = local; token = token }

abbrev pub object : Entity → Declared
object e = record { file = 0; name = 0; entity = e; block = block.Package; scope = record { from = 0; to = 0 } }

-- of a constant, a variable, a function, a type, a variable and a function
abbrev pub numbers : List Referent
numbers = referent.Constant 0 ∷ referent.Variable 0 ∷ referent.Function 0 ∷ referent.Type 0 ∷ referent.Variable 1 ∷ referent.Function 1 ∷ []

pub record Examples : Type 0 where
  -- trees
  pub tiled : is_tiled plain ≡ true
  pub overlapping : is_tiled (body (Some product ∷ Some sum ∷ [])) ≡ false
  pub outside : is_tiled (body (Some (statement form.Return 20 25 []) ∷ [])) ≡ false
  pub whole : is_whole names plain ≡ true
  pub other_local : is_whole names (value (form.Local 0) 8 9 []) ≡ false
  pub from_the_start_of_the_file : is_whole names (value (form.Local 1) 35 36 []) ≡ false
  pub holder : is_whole names (statement (form.Held kind.Targets) 8 9 []) ≡ false
  pub statement_left_out : is_whole names (body (Some sum ∷ None ∷ [])) ≡ false
  pub locals : are_below 2 names ≡ true
  pub local_out_of_range : are_below 1 names ≡ false
  pub nodes : size plain ≡ 14
  -- the innermost node over a token
  pub at_func : innermost 0 plain ≡ 0
  pub at_semicolon : innermost 13 plain ≡ 1
  pub at_define : innermost 9 plain ≡ 2
  pub at_plus : innermost 11 plain ≡ 4
  pub at_a : innermost 10 plain ≡ 5
  pub at_one : innermost 12 plain ≡ 6
  pub at_last : innermost 21 plain ≡ 13
  -- statement lists and windows
  pub lists : statement_lists plain ≡ statement form.Block 7 24 (Some sum ∷ Some product ∷ Some return ∷ []) ∷ []
  pub behind_values : map form_of (statements_of (statement (form.Case 1) 0 9 (Some (number 1 1) ∷ Some (statement form.Return 3 4 []) ∷ []))) ≡ form.Return ∷ []
  pub first_two : uses_in names plain (window 0 0 2) ≡ use_of 1 8 ∷ use_of 0 10 ∷ use_of 1 14 ∷ use_of 1 16 ∷ []
  pub last_two : uses_in names plain (window 0 1 2) ≡ use_of 1 14 ∷ use_of 1 16 ∷ use_of 1 21 ∷ []
  pub no_list : uses_in names plain (window 1 0 2) ≡ []
  -- objects
  pub by_sort : referents (map object (entity.Constant ∷ entity.Variable ∷ entity.Function ∷ entity.Type ∷ entity.Variable ∷ entity.Function ∷ [])) ≡ numbers
