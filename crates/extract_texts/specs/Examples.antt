-- The texts of small functions, worked out by hand.
use Rattle.std.specs.Prelude.{◌≡◌, ℕ, ◌+◌, Bool, true, false, pos, neg_ℤ, List, [], ◌∷◌, ◌++◌, length, Option, Some, None, codes}
use Rattle.std.proofs.Math.Nat.{le-add_right}
use Rattle.go_constants.specs.declared.values.Const.TheVariants as const
use Rattle.go_tokens.specs.declared.token.Token.{Token}
use Rattle.go_tokens.specs.declared.token.TokenKind.{TokenKind}
use Rattle.go_tokens.specs.declared.token.TokenKind.TheVariants as token
use Rattle.go_tokens.specs.Tokens.{TokenList}
use Rattle.go_tree.specs.declared.node.Node.{Node}
use Rattle.go_tree.specs.File.{FileTree}
use Rattle.go_tree.specs.Units.{Place}
use Rattle.go_types.specs.Trees.{TypeTree, row}
use Rattle.go_typed.specs.declared.window.Window.{Window}
use Rattle.go_typed.specs.Contents.{Content}
use Rattle.go_print_laws.specs.Calls.{Call, variable, constant}
use Rattle.go_print_laws.specs.Calls as calls
use Rattle.param_choose.specs.Examples.{a_function, content, names, window}
use Rattle.param_choose.specs.Choosing.{chosen_of}
use Rattle.param_choose.specs.Members.{Member, template_of}
use Rattle.escape_check.specs.Places.{Sources, sources_of}
use Rattle.extract_texts.specs.Fresh.{fresh_names, is_used}
use Rattle.extract_texts.specs.Texts.{call_at, function_with, with_names}

-- ---- a file with two functions

-- a token by its kind, how many blanks and line ends stand in front of it, and how long it is
pub record Piece : Type 0 where
  pub kind : TokenKind
  pub gap : ℕ
  pub size : ℕ

abbrev pub t : TokenKind → ℕ → ℕ → Piece
t k g n = record { kind = k; gap = g; size = n }

-- the first one stands behind this place
abbrev pub placed : ℕ → List Piece → List Token
placed at [] = []
placed at (p ∷ ps) = record { kind = p.kind; span = record { file = 0; start = at + p.gap; end = at + p.gap + p.size; ordered = le-add_right (at + p.gap) p.size } } ∷ placed (at + p.gap + p.size) ps

-- `func f(a int) int {`, `b := a + 1`, `b = b * 2` and `return b`, and a brace
abbrev pub function_pieces : List Piece
function_pieces =
    t token.Func 2 4 ∷ t token.Identifier 1 1 ∷ t token.LeftParenthesis 0 1 ∷ t token.Identifier 0 1 ∷ t token.Identifier 1 3 ∷ t token.RightParenthesis 0 1 ∷ t token.Identifier 1 3 ∷ t token.LeftBrace 1 1
    ∷ t token.Identifier 2 1 ∷ t token.Define 1 2 ∷ t token.Identifier 1 1 ∷ t token.Plus 1 1 ∷ t token.Integer 1 1 ∷ t token.Semicolon 0 0
    ∷ t token.Identifier 2 1 ∷ t token.Assign 1 1 ∷ t token.Identifier 1 1 ∷ t token.Star 1 1 ∷ t token.Integer 1 1 ∷ t token.Semicolon 0 0
    ∷ t token.Return 2 6 ∷ t token.Identifier 1 1 ∷ t token.Semicolon 0 0 ∷ t token.RightBrace 1 1 ∷ t token.Semicolon 0 0 ∷ []

abbrev pub file_pieces : List Piece
file_pieces = t token.Package 0 7 ∷ t token.Identifier 1 4 ∷ t token.Semicolon 0 0 ∷ (function_pieces ++ function_pieces)

abbrev pub text : List ℕ
text = codes "package main\n\nfunc f(a int) int {\n\tb := a + 1\n\tb = b * 2\n\treturn b\n}\n\nfunc g(x int) int {\n\ty := x + 5\n\ty = y * 2\n\treturn y\n}\n"

-- whatever its tree is: no text is read from it
abbrev pub file : Node → FileTree
file root = record { tokens = record { file = 0; text = text; tokens = placed 0 file_pieces; comments = [] }; root = root }

abbrev pub both : Node → Content
both root = record content { files = file root ∷ [] }

abbrev pub first_two : List Window
first_two = window 0 0 2 ∷ window 1 0 2 ∷ []

-- The same, where 1 is added in both, and the second one returns 0: its variable doesn't occur behind its first two statements.
abbrev pub silent : List (Option ℕ)
silent = None ∷ None ∷ None ∷ Some 0 ∷ None ∷ None ∷ None ∷ None ∷ Some 1 ∷ None ∷ Some 0 ∷ None ∷ None ∷ None ∷ Some 1 ∷ None ∷ Some 1 ∷ None ∷ None ∷ None ∷ None ∷ None ∷ None ∷ None ∷ []

abbrev pub other_package : Node → Content
other_package root = record content { files = file root ∷ []; functions = a_function 0 1 ∷ record (a_function 1 1) { tokens = silent } ∷ [] }

-- ---- the function

abbrev pub function_in : Content → List ℕ → List (List ℕ) → List Window → Option (Member TypeTree) → List ℕ
function_in c name fresh ws None = []
function_in c name fresh ws (Some m) = function_with (λ x. x) (sources_of c) name fresh m (chosen_of c ws)

-- the function of these windows, under these fresh names
abbrev pub function_of : Content → List ℕ → List (List ℕ) → List Window → List ℕ
function_of c name fresh ws = function_in c name fresh ws (template_of c ws)

-- ---- fresh names

-- the identifier `p0`
abbrev pub taken : Node → Sources
taken root = sources_of (record content { files = record { tokens = record { file = 0; text = codes "p0"; tokens = placed 0 (t token.Identifier 0 2 ∷ []); comments = [] }; root = root } ∷ [] })

abbrev pub sources : Node → Sources
sources root = sources_of (both root)

abbrev pub a_place : ℕ → ℕ → Place
a_place i j = record { file = 0; start = i; end = j }

abbrev pub call : Call
call = record { declared = []; types = row []; results = codes "x" ∷ []; function = codes "h"; arguments = variable (codes "x") ∷ constant (const.Int (neg_ℤ (pos 3)) false) ∷ [] }

pub record Examples : Type 0 where
  -- the first two statements of both functions
  pub first_call : (r : Node) → call_at (both r) (codes "addmul") first_two (window 0 0 2) ≡ codes "var b int; b = addmul(a, 1)"
  pub second_call : (r : Node) → call_at (both r) (codes "addmul") first_two (window 1 0 2) ≡ codes "var y int; y = addmul(x, 5)"
  pub function : (r : Node) → function_of (both r) (codes "addmul") (codes "p0" ∷ []) first_two
      ≡ codes "\nfunc addmul(a int, p0 int) int {\nb := a +  p0 \n\tb = b * 2\nreturn b\n}\n"
  -- the second statement alone assigns what is declared in front of it
  pub assigned : (r : Node) → call_at (both r) (codes "h") (window 0 1 1 ∷ window 1 1 1 ∷ []) (window 1 1 1) ≡ codes "y = h(y)"
  pub function_assigning : (r : Node) → function_of (both r) (codes "h") [] (window 0 1 1 ∷ []) ≡ codes "\nfunc h(b int) int {\nb = b * 2\nreturn b\n}\n"
  -- a result that isn't needed behind the second member
  pub needed : (r : Node) → call_at (other_package r) (codes "h") first_two (window 0 0 2) ≡ codes "var b int; b = h(a)"
  pub not_needed : (r : Node) → call_at (other_package r) (codes "h") first_two (window 1 0 2) ≡ codes "_ = h(x)"
  -- nothing is handed back
  pub no_results : (r : Node) → call_at (both r) (codes "h") (window 0 0 3 ∷ []) (window 0 0 3) ≡ codes "h(a)"
  pub function_alone : (r : Node) → function_of (both r) (codes "h") [] (window 0 0 3 ∷ []) ≡ codes "\nfunc h(a int) {\nb := a + 1\n\tb = b * 2\n\treturn b\n}\n"
  -- a negative constant
  pub negative : calls.call_text (λ n. []) call ≡ codes "x = h(x, -3)"
  -- blanks keep the keyword in front of a constant apart
  pub in_case : with_names (codes "switch x {\n\tcase-3:\n\t\tx++\n\t}\n\tx--") 0 33 (a_place 16 18 ∷ []) (codes "p0" ∷ []) ≡ codes "switch x {\n\tcase p0 :\n\t\tx++\n\t}\n\tx--"
  -- comments between statements stay
  pub commented : with_names (codes "a = 1 // one\n\tb = a") 0 19 [] [] ≡ codes "a = 1 // one\n\tb = a"
  -- identifiers of the package, the function's own name, keywords and predeclared names are used
  pub identifier : (r : Node) → is_used (sources r) (codes "h") (codes "b") ≡ true
  pub own_name : (r : Node) → is_used (sources r) (codes "h") (codes "h") ≡ true
  pub keyword : (r : Node) → is_used (sources r) (codes "h") (codes "func") ≡ true
  pub predeclared : (r : Node) → is_used (sources r) (codes "h") (codes "print") ≡ true
  pub unused : (r : Node) → is_used (sources r) (codes "h") (codes "p0") ≡ false
  -- one is an identifier, and another the function's name
  pub fresh : (r : Node) → fresh_names (taken r) (codes "p1") 2 ≡ codes "p2" ∷ codes "p3" ∷ []
  pub no_fresh : (r : Node) → fresh_names (taken r) (codes "p1") 0 ≡ []
