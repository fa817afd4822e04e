-- Two functions, worked out by hand: what windows of them take and give.
use Rattle.std.specs.Prelude.{◌≡◌, ℕ, ◌+◌, pos, Bool, true, false, List, [], ◌∷◌, map, Option, Some, None}
use Rattle.go_constants.specs.declared.values.Const.TheVariants as const
use Rattle.go_ints.specs.declared.kinds.Kind.TheVariants as integer_kind
use Rattle.go_grammar.specs.declared.kind.Arithmetic.TheVariants as arithmetic
use Rattle.go_grammar.specs.declared.kind.Operator.TheVariants as operator
use Rattle.go_tree.specs.declared.context.Block.TheVariants as block
use Rattle.go_tree.specs.declared.context.Entity.{Entity}
use Rattle.go_tree.specs.declared.context.Entity.TheVariants as entity
use Rattle.go_tree.specs.declared.object.Declared.{Declared}
use Rattle.go_types.specs.Trees.{TypeTree, integer, function, more, none}
use Rattle.go_typed.specs.declared.form.Form.{Form}
use Rattle.go_typed.specs.declared.form.Form.TheVariants as form
use Rattle.go_typed.specs.declared.window.Window.{Window}
use Rattle.go_typed.specs.Contents.{Content, FuncContent}
use Rattle.go_typed.specs.Trees.{Sort, Nothing, Value, Constant, Typed, typed, row}
use Rattle.param_choose.specs.Members.{Member, members_of, occurs_later}
use Rattle.param_choose.specs.Locals.{Variable, declared_names}
use Rattle.param_choose.specs.Holes.{Hole}
use Rattle.param_choose.specs.Choosing.{Choice, HoleParameter, chosen_of}

abbrev pub int : TypeTree
int = integer integer_kind.Int

abbrev pub a_node : Form → ℕ → ℕ → Sort TypeTree → Bool → List (Option (Typed TypeTree)) → Typed TypeTree
a_node f i j s v ps = typed f i j (record { sort = s; varies = v; calls = false }) (row ps)

abbrev pub value : Form → ℕ → ℕ → List (Option (Typed TypeTree)) → Typed TypeTree
value f i j ps = a_node f i j (Value int) true ps

abbrev pub statement : Form → ℕ → ℕ → List (Option (Typed TypeTree)) → Typed TypeTree
statement f i j ps = a_node f i j Nothing true ps

abbrev pub number : ℕ → ℕ → Typed TypeTree
number n i = a_node form.Literal i (i + 1) (Constant int (const.Int (pos n) false)) false []

-- `b := a + N; b = b * 2; return b`
abbrev pub sum : ℕ → Typed TypeTree
sum n = statement (form.Define 1) 8 13 (Some (value (form.New 1) 8 9 []) ∷ Some (value (form.Binary (operator.Compute arithmetic.Add)) 10 13 (Some (value (form.Local 0) 10 11 []) ∷ Some (number n 12) ∷ [])) ∷ [])

abbrev pub product : Typed TypeTree
product = statement (form.Assign 1) 14 19 (Some (value (form.Local 1) 14 15 []) ∷ Some (value (form.Binary (operator.Compute arithmetic.Multiply)) 16 19 (Some (value (form.Local 1) 16 17 []) ∷ Some (number 2 18) ∷ [])) ∷ [])

abbrev pub return : Typed TypeTree
return = statement form.Return 20 22 (Some (value (form.Local 1) 21 22 []) ∷ [])

-- `func f(a int) int { b := a + N; b = b * 2; return b }`
abbrev pub tree : ℕ → Typed TypeTree
tree n = statement form.Function 0 24 (Some (statement form.Block 7 24 (Some (sum n) ∷ Some product ∷ Some return ∷ [])) ∷ [])

abbrev pub names : List (Option ℕ)
names = None ∷ None ∷ None ∷ Some 0 ∷ None ∷ None ∷ None ∷ None ∷ Some 1 ∷ None ∷ Some 0 ∷ None ∷ None ∷ None ∷ Some 1 ∷ None ∷ Some 1 ∷ None ∷ None ∷ None ∷ None ∷ Some 1 ∷ None ∷ None ∷ []

abbrev pub a_function : ℕ → ℕ → FuncContent
a_function k n = record { number = k; signature = function (more int none) (more int none); parameters = Some 0 ∷ []; locals = Value int ∷ Value int ∷ []; tokens = names; tree = tree n }

abbrev pub a_name : Entity → ℕ → Declared
a_name e t = record { file = 0; name = t; entity = e; block = block.Package; scope = record { from = 0; to = 0 } }

-- `a`, and `b` five tokens behind
abbrev pub some_locals : ℕ → List Declared
some_locals n = a_name entity.Parameter n ∷ a_name entity.Variable (n + 5) ∷ []

-- `package p`, then the two, in which 1 and 5 are added; the first one's first token is the third of the file
abbrev pub content : Content
content = record {
  names = [];
  files = [];
  uses = record { objects = []; package_level = a_name entity.Function 4 ∷ a_name entity.Function 29 ∷ []; locals = some_locals 6 ∷ some_locals 31 ∷ [] };
  rights = [];
  origins = [];
  objects = [];
  referents = [];
  variables = [];
  functions = a_function 0 1 ∷ a_function 1 5 ∷ [];
}

abbrev pub window : ℕ → ℕ → ℕ → Window
window func first count = record { func = func; list = 0; first = first; count = count }

abbrev pub both : List (Member TypeTree)
both = members_of content (window 0 0 2 ∷ window 1 0 2 ∷ [])

-- `a` and `b`
abbrev pub a : Variable TypeTree
a = record { local = 0; type = int }

abbrev pub b : Variable TypeTree
b = record { local = 1; type = int }

-- the `1` of the first one's first statement, which is the seventh node of the function
abbrev pub first_hole : Hole TypeTree
first_hole = record { node = 4; from = 12; upto = 13; sort = Constant int (const.Int (pos 1) false) }

abbrev pub p0 : HoleParameter TypeTree
p0 = record { number = 0; node = 6; hole = first_hole; type = int }

pub record Examples : Type 0 where
  -- the first two statements of both: `a int, p0 int`, and `b` as the result
  pub two_members : chosen_of content (window 0 0 2 ∷ window 1 0 2 ∷ []) ≡ record { free = a ∷ []; holes = p0 ∷ []; assigned = []; declared = b ∷ [] }
  -- of one alone nothing differs
  pub one_member : chosen_of content (window 0 0 2 ∷ []) ≡ record { free = a ∷ []; holes = []; assigned = []; declared = b ∷ [] }
  -- the second statement alone: `b` is free and assigned
  pub second_statement : chosen_of content (window 0 1 1 ∷ window 1 1 1 ∷ []) ≡ record { free = b ∷ []; holes = []; assigned = b ∷ []; declared = [] }
  -- all three: nothing occurs later
  pub all_statements : chosen_of content (window 0 0 3 ∷ []) ≡ record { free = a ∷ []; holes = []; assigned = []; declared = [] }
  -- a window that isn't there
  pub no_member : chosen_of content (window 2 0 2 ∷ []) ≡ record { free = []; holes = []; assigned = []; declared = [] }
  pub declared : map declared_names both ≡ (1 ∷ []) ∷ (1 ∷ []) ∷ []
  pub later : map (λ m. occurs_later m 1) both ≡ true ∷ true ∷ []
  pub starts : map (λ m. m.start) both ≡ 2 ∷ 2 ∷ []
