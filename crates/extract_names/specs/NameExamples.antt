-- Worked examples: functions that runs are taken out into, and the functions that call them, with what their names mean; and those
-- that are refused, with the name that means something else or the rule that fails.
use Rattle.std.specs.Prelude.{◌≡◌, ℕ, List, [], ◌∷◌, map, Option, Some, None, codes, if◌then◌else◌}
use Rattle.go_tokens.specs.Spellings.{same_text}
use Rattle.go_tokens.specs.declared.token.TokenKind.TheVariants as token
use Rattle.go_tree.specs.declared.object.Object.TheVariants as object
use Rattle.go_tree.specs.declared.object.Predeclared.TheVariants as predeclared
use Rattle.go_heads.specs.Functions.{Alone}
use Rattle.go_heads.specs.Names.{no_place}
use Rattle.go_scopes_bodies.specs.Faults.{own_none_new, own_faults}
use Rattle.go_scopes_bodies.specs.Meant.{Meant, outside, Outer, own_object}
use Rattle.extract_names.specs.Sentences.{Word, name, number, mark, function_of, around, local}

abbrev semicolon : Word
semicolon = mark token.Semicolon

abbrev opening : Word
opening = mark token.LeftBrace

abbrev closing : Word
closing = mark token.RightBrace

-- func NAME(PARAMETER int) int {
abbrev one_parameter : List ℕ → List ℕ → List Word → List Word
one_parameter f p rest = mark token.Func ∷ name f ∷ mark token.LeftParenthesis ∷ name p ∷ name (codes "int") ∷ mark token.RightParenthesis ∷ name (codes "int") ∷ opening ∷ rest

-- ---- refused: a declared name is spelled like a free local

-- func h(a int) int { a = 2; a := 3; _ = a; return a }
abbrev pub shadowed : Alone
shadowed = function_of (one_parameter (codes "h") (codes "a") (
    name (codes "a") ∷ mark token.Assign ∷ number (codes "2") ∷ semicolon ∷
    name (codes "a") ∷ mark token.Define ∷ number (codes "3") ∷ semicolon ∷
    name (codes "_") ∷ mark token.Assign ∷ name (codes "a") ∷ semicolon ∷
    mark token.Return ∷ name (codes "a") ∷ semicolon ∷ closing ∷ semicolon ∷ []))

-- ---- refused: the name of the new function is in use

-- func f(a int) int { var b int; b = b(a); return b }
abbrev pub in_use : Alone
in_use = function_of (one_parameter (codes "f") (codes "a") (
    mark token.Var ∷ name (codes "b") ∷ name (codes "int") ∷ semicolon ∷
    name (codes "b") ∷ mark token.Assign ∷ name (codes "b") ∷ mark token.LeftParenthesis ∷ name (codes "a") ∷ mark token.RightParenthesis ∷ semicolon ∷
    mark token.Return ∷ name (codes "b") ∷ semicolon ∷ closing ∷ semicolon ∷ []))

-- ---- refused: a type's name means something else where a result is declared

-- func f(int T) int { var n int; n = h(int); return n }
abbrev pub hidden_at_site : Alone
hidden_at_site = function_of (
    mark token.Func ∷ name (codes "f") ∷ mark token.LeftParenthesis ∷ name (codes "int") ∷ name (codes "T") ∷ mark token.RightParenthesis ∷ name (codes "int") ∷ opening ∷
    mark token.Var ∷ name (codes "n") ∷ name (codes "int") ∷ semicolon ∷
    name (codes "n") ∷ mark token.Assign ∷ name (codes "h") ∷ mark token.LeftParenthesis ∷ name (codes "int") ∷ mark token.RightParenthesis ∷ semicolon ∷
    mark token.Return ∷ name (codes "n") ∷ semicolon ∷ closing ∷ semicolon ∷ [])

-- func f(a int) int { var int int; var b int; int, b = h(a); return b }
abbrev pub hidden_by_result : Alone
hidden_by_result = function_of (one_parameter (codes "f") (codes "a") (
    mark token.Var ∷ name (codes "int") ∷ name (codes "int") ∷ semicolon ∷
    mark token.Var ∷ name (codes "b") ∷ name (codes "int") ∷ semicolon ∷
    name (codes "int") ∷ mark token.Comma ∷ name (codes "b") ∷ mark token.Assign ∷ name (codes "h") ∷ mark token.LeftParenthesis ∷ name (codes "a") ∷ mark token.RightParenthesis ∷ semicolon ∷
    mark token.Return ∷ name (codes "b") ∷ semicolon ∷ closing ∷ semicolon ∷ []))

-- ---- refused: a value's name means something else where it is handed over

-- func f(true int) int { return h(true) }
abbrev pub hidden_value : Alone
hidden_value = function_of (one_parameter (codes "f") (codes "true") (
    mark token.Return ∷ name (codes "h") ∷ mark token.LeftParenthesis ∷ name (codes "true") ∷ mark token.RightParenthesis ∷ semicolon ∷ closing ∷ semicolon ∷ []))

-- ---- refused: the package declares the name of a predeclared type

-- where the package declares int, as its object 3
abbrev pub around_int : Outer
around_int w = if same_text w (codes "int") then Some (object.Package 3) else around w

-- func h(a int) int { a = 2; return a }
abbrev pub written : Alone
written = function_of (one_parameter (codes "h") (codes "a") (name (codes "a") ∷ mark token.Assign ∷ number (codes "2") ∷ semicolon ∷ mark token.Return ∷ name (codes "a") ∷ semicolon ∷ closing ∷ semicolon ∷ []))

-- ---- taken: an inner block hides a free local

-- func h(a int) int { b := a; { a := 2; _ = a }; return b }
abbrev pub inner_block : Alone
inner_block = function_of (one_parameter (codes "h") (codes "a") (
    name (codes "b") ∷ mark token.Define ∷ name (codes "a") ∷ semicolon ∷
    opening ∷ name (codes "a") ∷ mark token.Define ∷ number (codes "2") ∷ semicolon ∷ name (codes "_") ∷ mark token.Assign ∷ name (codes "a") ∷ semicolon ∷ closing ∷ semicolon ∷
    mark token.Return ∷ name (codes "b") ∷ semicolon ∷ closing ∷ semicolon ∷ []))

-- ---- taken: `:=` reuses a parameter

-- func h(a int) (int, int) { a, c := 2, a; return a, c }
abbrev pub reused : Alone
reused = function_of (
    mark token.Func ∷ name (codes "h") ∷ mark token.LeftParenthesis ∷ name (codes "a") ∷ name (codes "int") ∷ mark token.RightParenthesis ∷
    mark token.LeftParenthesis ∷ name (codes "int") ∷ mark token.Comma ∷ name (codes "int") ∷ mark token.RightParenthesis ∷ opening ∷
    name (codes "a") ∷ mark token.Comma ∷ name (codes "c") ∷ mark token.Define ∷ number (codes "2") ∷ mark token.Comma ∷ name (codes "a") ∷ semicolon ∷
    mark token.Return ∷ name (codes "a") ∷ mark token.Comma ∷ name (codes "c") ∷ semicolon ∷ closing ∷ semicolon ∷ [])

-- ---- taken: a declared result that one of two members needs

-- func f(a int) int { var b int; b = h(a); return b }
abbrev pub needs : Alone
needs = function_of (one_parameter (codes "f") (codes "a") (
    mark token.Var ∷ name (codes "b") ∷ name (codes "int") ∷ semicolon ∷
    name (codes "b") ∷ mark token.Assign ∷ name (codes "h") ∷ mark token.LeftParenthesis ∷ name (codes "a") ∷ mark token.RightParenthesis ∷ semicolon ∷
    mark token.Return ∷ name (codes "b") ∷ semicolon ∷ closing ∷ semicolon ∷ []))

-- func f(a int) int { _ = h(a); return 0 }
abbrev pub needs_not : Alone
needs_not = function_of (one_parameter (codes "f") (codes "a") (
    name (codes "_") ∷ mark token.Assign ∷ name (codes "h") ∷ mark token.LeftParenthesis ∷ name (codes "a") ∷ mark token.RightParenthesis ∷ semicolon ∷
    mark token.Return ∷ number (codes "0") ∷ semicolon ∷ closing ∷ semicolon ∷ []))

abbrev int_type : Option Meant
int_type = Some (outside (object.Predeclared predeclared.Int))

abbrev new_function : Option Meant
new_function = Some (outside (object.Package 1))

pub record NameExamples : Type 0 where
  -- `a := 3` declares no new name beside the parameter a
  pub none_new : own_none_new shadowed ≡ no_place ∷ []
  -- the callee is the variable
  pub callee : own_object in_use around 14 ≡ local 1
  -- the type of n is the parameter
  pub type_hidden : own_object hidden_at_site around 10 ≡ local 0
  -- the type of the first result is the predeclared one, and that of the second is the first result
  pub result_hides : map (own_object hidden_by_result around) (9 ∷ 10 ∷ 14 ∷ []) ≡ local 1 ∷ int_type ∷ local 1 ∷ []
  -- the argument is the parameter
  pub value_hidden : own_object hidden_value around 11 ≡ local 0
  -- the type of the parameter is that of the package
  pub type_declared : map (own_object written around_int) (4 ∷ 6 ∷ []) ≡ Some (outside (object.Package 3)) ∷ Some (outside (object.Package 3)) ∷ []
  -- In the inner block the name a is the variable that is declared there, and outside of it the parameter.
  pub inner_faultless : own_faults inner_block around ≡ []
  pub inner_names : map (own_object inner_block around) (3 ∷ 8 ∷ 10 ∷ 13 ∷ 19 ∷ 24 ∷ []) ≡ local 0 ∷ local 1 ∷ local 0 ∷ local 2 ∷ local 2 ∷ local 1 ∷ []
  -- The name a before `:=` is the parameter, and c is new.
  pub reused_faultless : own_faults reused around ≡ []
  pub reused_names : map (own_object reused around) (3 ∷ 12 ∷ 14 ∷ 18 ∷ 21 ∷ 23 ∷ []) ≡ local 0 ∷ local 0 ∷ local 1 ∷ local 0 ∷ local 0 ∷ local 1 ∷ []
  -- Where b is named later it is declared, and where it isn't nothing is.
  pub needed_faultless : own_faults needs around ≡ []
  pub needed_names : map (own_object needs around) (9 ∷ 10 ∷ 12 ∷ 14 ∷ 16 ∷ 20 ∷ []) ≡ local 1 ∷ int_type ∷ local 1 ∷ new_function ∷ local 0 ∷ local 1 ∷ []
  pub blank_faultless : own_faults needs_not around ≡ []
  pub blank_names : map (own_object needs_not around) (8 ∷ 10 ∷ 12 ∷ []) ≡ None ∷ new_function ∷ local 0 ∷ []
