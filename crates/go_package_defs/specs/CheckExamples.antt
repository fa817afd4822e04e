-- Worked examples of the whole check, from the Go specification and from what Go's own checker answers.
use Rattle.std.specs.Prelude.{◌≡◌, List, [], ◌∷◌, codes, map, Some, None}
use Rattle.go_base.specs.declared.fault.FaultCode.TheVariants as code
use Rattle.go_tokens.specs.declared.token.TokenKind.TheVariants as token
use Rattle.go_types.specs.Trees.{slice, declared, function, row}
use Rattle.go_typed.specs.declared.origin.Origin.TheVariants as origin
use Rattle.go_typed.specs.Trees as sort
use Rattle.go_exprs_rules.specs.Sorts.{int}
use Rattle.go_package_defs.specs.Sentences.{Word, reported, checked_fault, told_of}
use Rattle.go_package_defs.specs.Checked.{origins}

-- Whether a package is good, or what is reported of it.
pub record CheckExamples : Type 0 where
  -- package p; ; func g(x8 int8, x int) { x8 = x }
  pub not_assignable :
      reported (
      ((token.Package, codes "package") ∷ (token.Identifier, codes "p") ∷ (token.Semicolon, codes ";") ∷ (token.Func, codes "func") ∷
      (token.Identifier, codes "g") ∷ (token.LeftParenthesis, codes "(") ∷ (token.Identifier, codes "x8") ∷ (token.Identifier, codes "int8") ∷
      (token.Comma, codes ",") ∷ (token.Identifier, codes "x") ∷ (token.Identifier, codes "int") ∷ (token.RightParenthesis, codes ")") ∷
      (token.LeftBrace, codes "{") ∷ (token.Identifier, codes "x8") ∷ (token.Assign, codes "=") ∷ (token.Identifier, codes "x") ∷
      (token.Semicolon, codes ";") ∷ (token.RightBrace, codes "}") ∷ (token.Semicolon, codes ";") ∷ []) ∷ [])
      ≡ checked_fault code.Assignable 0 46 47
  -- package p; ; func g(x8 int8) { x8 = -129 }
  pub out_of_range :
      reported (
      ((token.Package, codes "package") ∷ (token.Identifier, codes "p") ∷ (token.Semicolon, codes ";") ∷ (token.Func, codes "func") ∷
      (token.Identifier, codes "g") ∷ (token.LeftParenthesis, codes "(") ∷ (token.Identifier, codes "x8") ∷ (token.Identifier, codes "int8") ∷
      (token.RightParenthesis, codes ")") ∷ (token.LeftBrace, codes "{") ∷ (token.Identifier, codes "x8") ∷ (token.Assign, codes "=") ∷
      (token.Minus, codes "-") ∷ (token.Integer, codes "129") ∷ (token.Semicolon, codes ";") ∷ (token.RightBrace, codes "}") ∷
      (token.Semicolon, codes ";") ∷ []) ∷ [])
      ≡ checked_fault code.Representable 0 38 43
  -- package p; ; func g(u uint8) { u = 255 }
  pub good_body :
      reported (
      ((token.Package, codes "package") ∷ (token.Identifier, codes "p") ∷ (token.Semicolon, codes ";") ∷ (token.Func, codes "func") ∷
      (token.Identifier, codes "g") ∷ (token.LeftParenthesis, codes "(") ∷ (token.Identifier, codes "u") ∷ (token.Identifier, codes "uint8") ∷
      (token.RightParenthesis, codes ")") ∷ (token.LeftBrace, codes "{") ∷ (token.Identifier, codes "u") ∷ (token.Assign, codes "=") ∷
      (token.Integer, codes "255") ∷ (token.Semicolon, codes ";") ∷ (token.RightBrace, codes "}") ∷ (token.Semicolon, codes ";") ∷ []) ∷ [])
      ≡ None
  -- package p; func f() int { return "a" }; var a int8 = 300
  pub declarations_first :
      reported (
      ((token.Package, codes "package") ∷ (token.Identifier, codes "p") ∷ (token.Semicolon, codes ";") ∷ (token.Func, codes "func") ∷
      (token.Identifier, codes "f") ∷ (token.LeftParenthesis, codes "(") ∷ (token.RightParenthesis, codes ")") ∷ (token.Identifier, codes "int") ∷
      (token.LeftBrace, codes "{") ∷ (token.Return, codes "return") ∷ (token.Text, codes "\"a\"") ∷ (token.RightBrace, codes "}") ∷
      (token.Semicolon, codes ";") ∷ (token.Var, codes "var") ∷ (token.Identifier, codes "a") ∷ (token.Identifier, codes "int8") ∷
      (token.Assign, codes "=") ∷ (token.Integer, codes "300") ∷ (token.Semicolon, codes ";") ∷ []) ∷ [])
      ≡ checked_fault code.Representable 0 57 60
  -- package p; var a int8 = 300; func f() { x := 1 }
  pub names_first :
      reported (
      ((token.Package, codes "package") ∷ (token.Identifier, codes "p") ∷ (token.Semicolon, codes ";") ∷ (token.Var, codes "var") ∷
      (token.Identifier, codes "a") ∷ (token.Identifier, codes "int8") ∷ (token.Assign, codes "=") ∷ (token.Integer, codes "300") ∷
      (token.Semicolon, codes ";") ∷ (token.Func, codes "func") ∷ (token.Identifier, codes "f") ∷ (token.LeftParenthesis, codes "(") ∷
      (token.RightParenthesis, codes ")") ∷ (token.LeftBrace, codes "{") ∷ (token.Identifier, codes "x") ∷ (token.Define, codes ":=") ∷
      (token.Integer, codes "1") ∷ (token.RightBrace, codes "}") ∷ (token.Semicolon, codes ";") ∷ []) ∷ [])
      ≡ checked_fault code.UnusedVariable 0 44 45
  -- package p; func f() { x := 1 }
  -- package q
  pub clauses_first :
      reported (
      ((token.Package, codes "package") ∷ (token.Identifier, codes "p") ∷ (token.Semicolon, codes ";") ∷ (token.Func, codes "func") ∷
      (token.Identifier, codes "f") ∷ (token.LeftParenthesis, codes "(") ∷ (token.RightParenthesis, codes ")") ∷ (token.LeftBrace, codes "{") ∷
      (token.Identifier, codes "x") ∷ (token.Define, codes ":=") ∷ (token.Integer, codes "1") ∷ (token.RightBrace, codes "}") ∷
      (token.Semicolon, codes ";") ∷ []) ∷
      ((token.Package, codes "package") ∷ (token.Identifier, codes "q") ∷ (token.Semicolon, codes ";") ∷ []) ∷ [])
      ≡ checked_fault code.PackageName 1 8 9
  -- package p; func f() { _ = -"a" }; func g() int { }
  pub first_function :
      reported (
      ((token.Package, codes "package") ∷ (token.Identifier, codes "p") ∷ (token.Semicolon, codes ";") ∷ (token.Func, codes "func") ∷
      (token.Identifier, codes "f") ∷ (token.LeftParenthesis, codes "(") ∷ (token.RightParenthesis, codes ")") ∷ (token.LeftBrace, codes "{") ∷
      (token.Identifier, codes "_") ∷ (token.Assign, codes "=") ∷ (token.Minus, codes "-") ∷ (token.Text, codes "\"a\"") ∷
      (token.RightBrace, codes "}") ∷ (token.Semicolon, codes ";") ∷ (token.Func, codes "func") ∷ (token.Identifier, codes "g") ∷
      (token.LeftParenthesis, codes "(") ∷ (token.RightParenthesis, codes ")") ∷ (token.Identifier, codes "int") ∷ (token.LeftBrace, codes "{") ∷
      (token.RightBrace, codes "}") ∷ (token.Semicolon, codes ";") ∷ []) ∷ [])
      ≡ checked_fault code.Operands 0 29 34
  -- package p; func f() { }
  -- package p; func g() int { }
  pub second_file :
      reported (
      ((token.Package, codes "package") ∷ (token.Identifier, codes "p") ∷ (token.Semicolon, codes ";") ∷ (token.Func, codes "func") ∷
      (token.Identifier, codes "f") ∷ (token.LeftParenthesis, codes "(") ∷ (token.RightParenthesis, codes ")") ∷ (token.LeftBrace, codes "{") ∷
      (token.RightBrace, codes "}") ∷ (token.Semicolon, codes ";") ∷ []) ∷
      ((token.Package, codes "package") ∷ (token.Identifier, codes "p") ∷ (token.Semicolon, codes ";") ∷ (token.Func, codes "func") ∷
      (token.Identifier, codes "g") ∷ (token.LeftParenthesis, codes "(") ∷ (token.RightParenthesis, codes ")") ∷ (token.Identifier, codes "int") ∷
      (token.LeftBrace, codes "{") ∷ (token.RightBrace, codes "}") ∷ (token.Semicolon, codes ";") ∷ []) ∷ [])
      ≡ checked_fault code.MissingReturn 1 29 30
  -- package main; func main() int { return 1 }
  pub main_with_result :
      reported (
      ((token.Package, codes "package") ∷ (token.Identifier, codes "main") ∷ (token.Semicolon, codes ";") ∷ (token.Func, codes "func") ∷
      (token.Identifier, codes "main") ∷ (token.LeftParenthesis, codes "(") ∷ (token.RightParenthesis, codes ")") ∷ (token.Identifier, codes "int") ∷
      (token.LeftBrace, codes "{") ∷ (token.Return, codes "return") ∷ (token.Integer, codes "1") ∷ (token.RightBrace, codes "}") ∷
      (token.Semicolon, codes ";") ∷ []) ∷ [])
      ≡ checked_fault code.Operands 0 20 24
  -- package main; func main() { }
  pub main_good :
      reported (
      ((token.Package, codes "package") ∷ (token.Identifier, codes "main") ∷ (token.Semicolon, codes ";") ∷ (token.Func, codes "func") ∷
      (token.Identifier, codes "main") ∷ (token.LeftParenthesis, codes "(") ∷ (token.RightParenthesis, codes ")") ∷ (token.LeftBrace, codes "{") ∷
      (token.RightBrace, codes "}") ∷ (token.Semicolon, codes ";") ∷ []) ∷ [])
      ≡ None
  -- package p; func f() { var a [n]int; a[3] = 1 }; const n = 3
  pub constant_of_package :
      reported (
      ((token.Package, codes "package") ∷ (token.Identifier, codes "p") ∷ (token.Semicolon, codes ";") ∷ (token.Func, codes "func") ∷
      (token.Identifier, codes "f") ∷ (token.LeftParenthesis, codes "(") ∷ (token.RightParenthesis, codes ")") ∷ (token.LeftBrace, codes "{") ∷
      (token.Var, codes "var") ∷ (token.Identifier, codes "a") ∷ (token.LeftBracket, codes "[") ∷ (token.Identifier, codes "n") ∷
      (token.RightBracket, codes "]") ∷ (token.Identifier, codes "int") ∷ (token.Semicolon, codes ";") ∷ (token.Identifier, codes "a") ∷
      (token.LeftBracket, codes "[") ∷ (token.Integer, codes "3") ∷ (token.RightBracket, codes "]") ∷ (token.Assign, codes "=") ∷
      (token.Integer, codes "1") ∷ (token.RightBrace, codes "}") ∷ (token.Semicolon, codes ";") ∷ (token.Const, codes "const") ∷
      (token.Identifier, codes "n") ∷ (token.Assign, codes "=") ∷ (token.Integer, codes "3") ∷ (token.Semicolon, codes ";") ∷ []) ∷ [])
      ≡ checked_fault code.ConstIndex 0 47 48
  -- package p; const a = b; const b = a
  pub cycle :
      reported (
      ((token.Package, codes "package") ∷ (token.Identifier, codes "p") ∷ (token.Semicolon, codes ";") ∷ (token.Const, codes "const") ∷
      (token.Identifier, codes "a") ∷ (token.Assign, codes "=") ∷ (token.Identifier, codes "b") ∷ (token.Semicolon, codes ";") ∷
      (token.Const, codes "const") ∷ (token.Identifier, codes "b") ∷ (token.Assign, codes "=") ∷ (token.Identifier, codes "a") ∷
      (token.Semicolon, codes ";") ∷ []) ∷ [])
      ≡ checked_fault code.Cycle 0 18 19
  -- package p; func f() { type T int; var a T; var b int = a; _ = b }
  pub local_type :
      reported (
      ((token.Package, codes "package") ∷ (token.Identifier, codes "p") ∷ (token.Semicolon, codes ";") ∷ (token.Func, codes "func") ∷
      (token.Identifier, codes "f") ∷ (token.LeftParenthesis, codes "(") ∷ (token.RightParenthesis, codes ")") ∷ (token.LeftBrace, codes "{") ∷
      (token.Type, codes "type") ∷ (token.Identifier, codes "T") ∷ (token.Identifier, codes "int") ∷ (token.Semicolon, codes ";") ∷
      (token.Var, codes "var") ∷ (token.Identifier, codes "a") ∷ (token.Identifier, codes "T") ∷ (token.Semicolon, codes ";") ∷
      (token.Var, codes "var") ∷ (token.Identifier, codes "b") ∷ (token.Identifier, codes "int") ∷ (token.Assign, codes "=") ∷
      (token.Identifier, codes "a") ∷ (token.Semicolon, codes ";") ∷ (token.Identifier, codes "_") ∷ (token.Assign, codes "=") ∷
      (token.Identifier, codes "b") ∷ (token.RightBrace, codes "}") ∷ (token.Semicolon, codes ";") ∷ []) ∷ [])
      ≡ checked_fault code.Assignable 0 60 61
  -- package p; var v int8; func f() { v = g() }; func g() int8 { return 1 }
  pub variable_across_functions :
      reported (
      ((token.Package, codes "package") ∷ (token.Identifier, codes "p") ∷ (token.Semicolon, codes ";") ∷ (token.Var, codes "var") ∷
      (token.Identifier, codes "v") ∷ (token.Identifier, codes "int8") ∷ (token.Semicolon, codes ";") ∷ (token.Func, codes "func") ∷
      (token.Identifier, codes "f") ∷ (token.LeftParenthesis, codes "(") ∷ (token.RightParenthesis, codes ")") ∷ (token.LeftBrace, codes "{") ∷
      (token.Identifier, codes "v") ∷ (token.Assign, codes "=") ∷ (token.Identifier, codes "g") ∷ (token.LeftParenthesis, codes "(") ∷
      (token.RightParenthesis, codes ")") ∷ (token.RightBrace, codes "}") ∷ (token.Semicolon, codes ";") ∷ (token.Func, codes "func") ∷
      (token.Identifier, codes "g") ∷ (token.LeftParenthesis, codes "(") ∷ (token.RightParenthesis, codes ")") ∷ (token.Identifier, codes "int8") ∷
      (token.LeftBrace, codes "{") ∷ (token.Return, codes "return") ∷ (token.Integer, codes "1") ∷ (token.RightBrace, codes "}") ∷
      (token.Semicolon, codes ";") ∷ []) ∷ [])
      ≡ None

-- package p; type T []int; var v T; func f(a int) { type U T; type V []U; var b V; _ = b[a] }; func g() T { type W U2; var c W; return T(c) }; type U2 T
abbrev pub some_types : List (List Word)
some_types =
    ((token.Package, codes "package") ∷ (token.Identifier, codes "p") ∷ (token.Semicolon, codes ";") ∷ (token.Type, codes "type") ∷
    (token.Identifier, codes "T") ∷ (token.LeftBracket, codes "[") ∷ (token.RightBracket, codes "]") ∷ (token.Identifier, codes "int") ∷
    (token.Semicolon, codes ";") ∷ (token.Var, codes "var") ∷ (token.Identifier, codes "v") ∷ (token.Identifier, codes "T") ∷
    (token.Semicolon, codes ";") ∷ (token.Func, codes "func") ∷ (token.Identifier, codes "f") ∷ (token.LeftParenthesis, codes "(") ∷
    (token.Identifier, codes "a") ∷ (token.Identifier, codes "int") ∷ (token.RightParenthesis, codes ")") ∷ (token.LeftBrace, codes "{") ∷
    (token.Type, codes "type") ∷ (token.Identifier, codes "U") ∷ (token.Identifier, codes "T") ∷ (token.Semicolon, codes ";") ∷
    (token.Type, codes "type") ∷ (token.Identifier, codes "V") ∷ (token.LeftBracket, codes "[") ∷ (token.RightBracket, codes "]") ∷
    (token.Identifier, codes "U") ∷ (token.Semicolon, codes ";") ∷ (token.Var, codes "var") ∷ (token.Identifier, codes "b") ∷
    (token.Identifier, codes "V") ∷ (token.Semicolon, codes ";") ∷ (token.Identifier, codes "_") ∷ (token.Assign, codes "=") ∷
    (token.Identifier, codes "b") ∷ (token.LeftBracket, codes "[") ∷ (token.Identifier, codes "a") ∷ (token.RightBracket, codes "]") ∷
    (token.RightBrace, codes "}") ∷ (token.Semicolon, codes ";") ∷ (token.Func, codes "func") ∷ (token.Identifier, codes "g") ∷
    (token.LeftParenthesis, codes "(") ∷ (token.RightParenthesis, codes ")") ∷ (token.Identifier, codes "T") ∷ (token.LeftBrace, codes "{") ∷
    (token.Type, codes "type") ∷ (token.Identifier, codes "W") ∷ (token.Identifier, codes "U2") ∷ (token.Semicolon, codes ";") ∷
    (token.Var, codes "var") ∷ (token.Identifier, codes "c") ∷ (token.Identifier, codes "W") ∷ (token.Semicolon, codes ";") ∷
    (token.Return, codes "return") ∷ (token.Identifier, codes "T") ∷ (token.LeftParenthesis, codes "(") ∷ (token.Identifier, codes "c") ∷
    (token.RightParenthesis, codes ")") ∷ (token.RightBrace, codes "}") ∷ (token.Semicolon, codes ";") ∷ (token.Type, codes "type") ∷
    (token.Identifier, codes "U2") ∷ (token.Identifier, codes "T") ∷ (token.Semicolon, codes ";") ∷ []) ∷ []

-- The types of the functions of a package, and where its types stand.
pub record TypingExamples : Type 0 where
  pub rights :
      told_of (λ t. t.bodies.rights) some_types
      ≡ Some (Some (slice int) ∷ Some (declared 0) ∷ Some (declared 0) ∷ Some (slice (declared 2)) ∷ Some (declared 1) ∷ [])
  pub origins_told :
      told_of (λ t. origins t.uses) some_types
      ≡ Some (origin.Package 0 ∷ origin.Package 4 ∷ origin.Local 0 1 ∷ origin.Local 0 2 ∷ origin.Local 1 0 ∷ [])
  pub signatures :
      told_of (λ t. map (λ f. f.signature) t.bodies.functions) some_types
      ≡ Some (function (row (int ∷ [])) (row []) ∷ function (row []) (row (declared 0 ∷ [])) ∷ [])
  pub locals :
      told_of (λ t. map (λ f. f.locals) t.bodies.functions) some_types
      ≡ Some ((sort.Value int ∷ sort.IsType (declared 2) ∷ sort.IsType (declared 3) ∷ sort.Value (declared 3) ∷ []) ∷ (sort.IsType (declared 4) ∷ sort.Value (declared 4) ∷ []) ∷ [])
