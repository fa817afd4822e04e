-- Worked examples of declarations, from the Go specification and from what Go's own checker answers.
use Rattle.std.specs.Prelude.{◌≡◌, [], ◌∷◌, codes, pos, false, Ok}
use Rattle.go_base.specs.declared.fault.FaultCode.TheVariants as code
use Rattle.go_constants.specs.declared.values.Const.TheVariants as const
use Rattle.go_tokens.specs.declared.token.TokenKind.TheVariants as token
use Rattle.go_types.specs.Trees.{array, declared}
use Rattle.go_typed.specs.Trees as sort
use Rattle.go_exprs_rules.specs.Sorts.{int}
use Rattle.go_package_defs.specs.Sentences.{stated, fault}

-- One declaration.
pub record SingleExamples : Type 0 where
  -- package p; var a = 1
  pub variable :
      stated (
      ((token.Package, codes "package") ∷ (token.Identifier, codes "p") ∷ (token.Semicolon, codes ";") ∷ (token.Var, codes "var") ∷
      (token.Identifier, codes "a") ∷ (token.Assign, codes "=") ∷ (token.Integer, codes "1") ∷ (token.Semicolon, codes ";") ∷ []) ∷ [])
      ≡ Ok (sort.Value int ∷ [])
  -- package p; var a nil
  pub value_as_type :
      stated (
      ((token.Package, codes "package") ∷ (token.Identifier, codes "p") ∷ (token.Semicolon, codes ";") ∷ (token.Var, codes "var") ∷
      (token.Identifier, codes "a") ∷ (token.Identifier, codes "nil") ∷ (token.Semicolon, codes ";") ∷ []) ∷ [])
      ≡ fault code.NotAValue 0 18 21
  -- package p; type T []T
  pub recursive_slice :
      stated (
      ((token.Package, codes "package") ∷ (token.Identifier, codes "p") ∷ (token.Semicolon, codes ";") ∷ (token.Type, codes "type") ∷
      (token.Identifier, codes "T") ∷ (token.LeftBracket, codes "[") ∷ (token.RightBracket, codes "]") ∷ (token.Identifier, codes "T") ∷
      (token.Semicolon, codes ";") ∷ []) ∷ [])
      ≡ Ok (sort.IsType (declared 0) ∷ [])
  -- package p; var a = nil
  pub nil_variable :
      stated (
      ((token.Package, codes "package") ∷ (token.Identifier, codes "p") ∷ (token.Semicolon, codes ";") ∷ (token.Var, codes "var") ∷
      (token.Identifier, codes "a") ∷ (token.Assign, codes "=") ∷ (token.Identifier, codes "nil") ∷ (token.Semicolon, codes ";") ∷ []) ∷ [])
      ≡ fault code.Operands 0 20 23
  -- package p; var a = (nil)
  pub nil_in_parentheses :
      stated (
      ((token.Package, codes "package") ∷ (token.Identifier, codes "p") ∷ (token.Semicolon, codes ";") ∷ (token.Var, codes "var") ∷
      (token.Identifier, codes "a") ∷ (token.Assign, codes "=") ∷ (token.LeftParenthesis, codes "(") ∷ (token.Identifier, codes "nil") ∷
      (token.RightParenthesis, codes ")") ∷ (token.Semicolon, codes ";") ∷ []) ∷ [])
      ≡ fault code.Operands 0 20 27
  -- package p; const a, b = 1
  pub too_few_values :
      stated (
      ((token.Package, codes "package") ∷ (token.Identifier, codes "p") ∷ (token.Semicolon, codes ";") ∷ (token.Const, codes "const") ∷
      (token.Identifier, codes "a") ∷ (token.Comma, codes ",") ∷ (token.Identifier, codes "b") ∷ (token.Assign, codes "=") ∷
      (token.Integer, codes "1") ∷ (token.Semicolon, codes ";") ∷ []) ∷ [])
      ≡ fault code.Count 0 18 27
  -- package p; var a, b int = 1, "x"
  pub assigned_first :
      stated (
      ((token.Package, codes "package") ∷ (token.Identifier, codes "p") ∷ (token.Semicolon, codes ";") ∷ (token.Var, codes "var") ∷
      (token.Identifier, codes "a") ∷ (token.Comma, codes ",") ∷ (token.Identifier, codes "b") ∷ (token.Identifier, codes "int") ∷
      (token.Assign, codes "=") ∷ (token.Integer, codes "1") ∷ (token.Comma, codes ",") ∷ (token.Text, codes "\"x\"") ∷
      (token.Semicolon, codes ";") ∷ []) ∷ [])
      ≡ fault code.Assignable 0 32 35
  -- package p; var a [true]int
  pub length_no_integer :
      stated (
      ((token.Package, codes "package") ∷ (token.Identifier, codes "p") ∷ (token.Semicolon, codes ";") ∷ (token.Var, codes "var") ∷
      (token.Identifier, codes "a") ∷ (token.LeftBracket, codes "[") ∷ (token.Identifier, codes "true") ∷ (token.RightBracket, codes "]") ∷
      (token.Identifier, codes "int") ∷ (token.Semicolon, codes ";") ∷ []) ∷ [])
      ≡ fault code.Operands 0 20 24
  -- package p; var a [1 / 0]int
  pub divided_length :
      stated (
      ((token.Package, codes "package") ∷ (token.Identifier, codes "p") ∷ (token.Semicolon, codes ";") ∷ (token.Var, codes "var") ∷
      (token.Identifier, codes "a") ∷ (token.LeftBracket, codes "[") ∷ (token.Integer, codes "1") ∷ (token.Slash, codes "/") ∷
      (token.Integer, codes "0") ∷ (token.RightBracket, codes "]") ∷ (token.Identifier, codes "int") ∷ (token.Semicolon, codes ";") ∷ []) ∷ [])
      ≡ fault code.ZeroDivisor 0 24 25
  -- package p; var a [1<<20 + 1]int
  pub too_many_scalars :
      stated (
      ((token.Package, codes "package") ∷ (token.Identifier, codes "p") ∷ (token.Semicolon, codes ";") ∷ (token.Var, codes "var") ∷
      (token.Identifier, codes "a") ∷ (token.LeftBracket, codes "[") ∷ (token.Integer, codes "1") ∷ (token.ShiftLeft, codes "<<") ∷
      (token.Integer, codes "20") ∷ (token.Plus, codes "+") ∷ (token.Integer, codes "1") ∷ (token.RightBracket, codes "]") ∷
      (token.Identifier, codes "int") ∷ (token.Semicolon, codes ";") ∷ []) ∷ [])
      ≡ fault code.Limit 0 18 37
  -- package p; var a = 'a' << 25
  pub shifted_wide :
      stated (
      ((token.Package, codes "package") ∷ (token.Identifier, codes "p") ∷ (token.Semicolon, codes ";") ∷ (token.Var, codes "var") ∷
      (token.Identifier, codes "a") ∷ (token.Assign, codes "=") ∷ (token.Rune, codes "'a'") ∷ (token.ShiftLeft, codes "<<") ∷
      (token.Integer, codes "25") ∷ (token.Semicolon, codes ";") ∷ []) ∷ [])
      ≡ fault code.Representable 0 20 29
  -- package main; var main int
  pub main_is_variable :
      stated (
      ((token.Package, codes "package") ∷ (token.Identifier, codes "main") ∷ (token.Semicolon, codes ";") ∷ (token.Var, codes "var") ∷
      (token.Identifier, codes "main") ∷ (token.Identifier, codes "int") ∷ (token.Semicolon, codes ";") ∷ []) ∷ [])
      ≡ fault code.Operands 0 19 23
  -- package main; const main = 1
  pub main_is_constant :
      stated (
      ((token.Package, codes "package") ∷ (token.Identifier, codes "main") ∷ (token.Semicolon, codes ";") ∷ (token.Const, codes "const") ∷
      (token.Identifier, codes "main") ∷ (token.Assign, codes "=") ∷ (token.Integer, codes "1") ∷ (token.Semicolon, codes ";") ∷ []) ∷ [])
      ≡ fault code.Operands 0 21 25
  -- package p; const a = len([]int{1})
  pub call_as_constant :
      stated (
      ((token.Package, codes "package") ∷ (token.Identifier, codes "p") ∷ (token.Semicolon, codes ";") ∷ (token.Const, codes "const") ∷
      (token.Identifier, codes "a") ∷ (token.Assign, codes "=") ∷ (token.Identifier, codes "len") ∷ (token.LeftParenthesis, codes "(") ∷
      (token.LeftBracket, codes "[") ∷ (token.RightBracket, codes "]") ∷ (token.Identifier, codes "int") ∷ (token.LeftBrace, codes "{") ∷
      (token.Integer, codes "1") ∷ (token.RightBrace, codes "}") ∷ (token.RightParenthesis, codes ")") ∷ (token.Semicolon, codes ";") ∷ []) ∷ [])
      ≡ fault code.Operands 0 22 43
  -- package p; const a = "abc"[3]
  pub index_of_text :
      stated (
      ((token.Package, codes "package") ∷ (token.Identifier, codes "p") ∷ (token.Semicolon, codes ";") ∷ (token.Const, codes "const") ∷
      (token.Identifier, codes "a") ∷ (token.Assign, codes "=") ∷ (token.Text, codes "\"abc\"") ∷ (token.LeftBracket, codes "[") ∷
      (token.Integer, codes "3") ∷ (token.RightBracket, codes "]") ∷ (token.Semicolon, codes ";") ∷ []) ∷ [])
      ≡ fault code.ConstIndex 0 30 31

-- Declarations that need one another.
pub record NeededExamples : Type 0 where
  -- package p; const a = 1 / 0; const b = a + "x"
  pub needs_faulty :
      stated (
      ((token.Package, codes "package") ∷ (token.Identifier, codes "p") ∷ (token.Semicolon, codes ";") ∷ (token.Const, codes "const") ∷
      (token.Identifier, codes "a") ∷ (token.Assign, codes "=") ∷ (token.Integer, codes "1") ∷ (token.Slash, codes "/") ∷
      (token.Integer, codes "0") ∷ (token.Semicolon, codes ";") ∷ (token.Const, codes "const") ∷ (token.Identifier, codes "b") ∷
      (token.Assign, codes "=") ∷ (token.Identifier, codes "a") ∷ (token.Plus, codes "+") ∷ (token.Text, codes "\"x\"") ∷
      (token.Semicolon, codes ";") ∷ []) ∷ [])
      ≡ fault code.ZeroDivisor 0 26 27
  -- package p; const b = a + "x"; const a = 1 / 0
  pub needs_later_faulty :
      stated (
      ((token.Package, codes "package") ∷ (token.Identifier, codes "p") ∷ (token.Semicolon, codes ";") ∷ (token.Const, codes "const") ∷
      (token.Identifier, codes "b") ∷ (token.Assign, codes "=") ∷ (token.Identifier, codes "a") ∷ (token.Plus, codes "+") ∷
      (token.Text, codes "\"x\"") ∷ (token.Semicolon, codes ";") ∷ (token.Const, codes "const") ∷ (token.Identifier, codes "a") ∷
      (token.Assign, codes "=") ∷ (token.Integer, codes "1") ∷ (token.Slash, codes "/") ∷ (token.Integer, codes "0") ∷ (token.Semicolon, codes ";") ∷
      []) ∷ [])
      ≡ fault code.ZeroDivisor 0 46 47
  -- package p; const a, b = "abc"[2], a + 1
  pub own_fault_and_needed :
      stated (
      ((token.Package, codes "package") ∷ (token.Identifier, codes "p") ∷ (token.Semicolon, codes ";") ∷ (token.Const, codes "const") ∷
      (token.Identifier, codes "a") ∷ (token.Comma, codes ",") ∷ (token.Identifier, codes "b") ∷ (token.Assign, codes "=") ∷
      (token.Text, codes "\"abc\"") ∷ (token.LeftBracket, codes "[") ∷ (token.Integer, codes "2") ∷ (token.RightBracket, codes "]") ∷
      (token.Comma, codes ",") ∷ (token.Identifier, codes "a") ∷ (token.Plus, codes "+") ∷ (token.Integer, codes "1") ∷
      (token.Semicolon, codes ";") ∷ []) ∷ [])
      ≡ fault code.Operands 0 26 37
  -- package p; const a, b = "abc"[2], c; const c, d = "abc"[1], a
  pub two_specifications :
      stated (
      ((token.Package, codes "package") ∷ (token.Identifier, codes "p") ∷ (token.Semicolon, codes ";") ∷ (token.Const, codes "const") ∷
      (token.Identifier, codes "a") ∷ (token.Comma, codes ",") ∷ (token.Identifier, codes "b") ∷ (token.Assign, codes "=") ∷
      (token.Text, codes "\"abc\"") ∷ (token.LeftBracket, codes "[") ∷ (token.Integer, codes "2") ∷ (token.RightBracket, codes "]") ∷
      (token.Comma, codes ",") ∷ (token.Identifier, codes "c") ∷ (token.Semicolon, codes ";") ∷ (token.Const, codes "const") ∷
      (token.Identifier, codes "c") ∷ (token.Comma, codes ",") ∷ (token.Identifier, codes "d") ∷ (token.Assign, codes "=") ∷
      (token.Text, codes "\"abc\"") ∷ (token.LeftBracket, codes "[") ∷ (token.Integer, codes "1") ∷ (token.RightBracket, codes "]") ∷
      (token.Comma, codes ",") ∷ (token.Identifier, codes "a") ∷ (token.Semicolon, codes ";") ∷ []) ∷ [])
      ≡ fault code.Operands 0 26 37
  -- package p; const c = len(w); var v, w = [4]int{}
  pub counted_before_needs :
      stated (
      ((token.Package, codes "package") ∷ (token.Identifier, codes "p") ∷ (token.Semicolon, codes ";") ∷ (token.Const, codes "const") ∷
      (token.Identifier, codes "c") ∷ (token.Assign, codes "=") ∷ (token.Identifier, codes "len") ∷ (token.LeftParenthesis, codes "(") ∷
      (token.Identifier, codes "w") ∷ (token.RightParenthesis, codes ")") ∷ (token.Semicolon, codes ";") ∷ (token.Var, codes "var") ∷
      (token.Identifier, codes "v") ∷ (token.Comma, codes ",") ∷ (token.Identifier, codes "w") ∷ (token.Assign, codes "=") ∷
      (token.LeftBracket, codes "[") ∷ (token.Integer, codes "4") ∷ (token.RightBracket, codes "]") ∷ (token.Identifier, codes "int") ∷
      (token.LeftBrace, codes "{") ∷ (token.RightBrace, codes "}") ∷ (token.Semicolon, codes ";") ∷ []) ∷ [])
      ≡ fault code.Count 0 38 59
  -- package p; type T [len(v)]int; var v, w = [2]int{}, T{1, 2, 3}
  pub variable_by_name :
      stated (
      ((token.Package, codes "package") ∷ (token.Identifier, codes "p") ∷ (token.Semicolon, codes ";") ∷ (token.Type, codes "type") ∷
      (token.Identifier, codes "T") ∷ (token.LeftBracket, codes "[") ∷ (token.Identifier, codes "len") ∷ (token.LeftParenthesis, codes "(") ∷
      (token.Identifier, codes "v") ∷ (token.RightParenthesis, codes ")") ∷ (token.RightBracket, codes "]") ∷ (token.Identifier, codes "int") ∷
      (token.Semicolon, codes ";") ∷ (token.Var, codes "var") ∷ (token.Identifier, codes "v") ∷ (token.Comma, codes ",") ∷
      (token.Identifier, codes "w") ∷ (token.Assign, codes "=") ∷ (token.LeftBracket, codes "[") ∷ (token.Integer, codes "2") ∷
      (token.RightBracket, codes "]") ∷ (token.Identifier, codes "int") ∷ (token.LeftBrace, codes "{") ∷ (token.RightBrace, codes "}") ∷
      (token.Comma, codes ",") ∷ (token.Identifier, codes "T") ∷ (token.LeftBrace, codes "{") ∷ (token.Integer, codes "1") ∷
      (token.Comma, codes ",") ∷ (token.Integer, codes "2") ∷ (token.Comma, codes ",") ∷ (token.Integer, codes "3") ∷ (token.RightBrace, codes "}") ∷
      (token.Semicolon, codes ";") ∷ []) ∷ [])
      ≡ fault code.ConstIndex 0 79 80
  -- package p; type T []El; type El [1 / 0]int; var v T = nil
  pub faulty_element :
      stated (
      ((token.Package, codes "package") ∷ (token.Identifier, codes "p") ∷ (token.Semicolon, codes ";") ∷ (token.Type, codes "type") ∷
      (token.Identifier, codes "T") ∷ (token.LeftBracket, codes "[") ∷ (token.RightBracket, codes "]") ∷ (token.Identifier, codes "El") ∷
      (token.Semicolon, codes ";") ∷ (token.Type, codes "type") ∷ (token.Identifier, codes "El") ∷ (token.LeftBracket, codes "[") ∷
      (token.Integer, codes "1") ∷ (token.Slash, codes "/") ∷ (token.Integer, codes "0") ∷ (token.RightBracket, codes "]") ∷
      (token.Identifier, codes "int") ∷ (token.Semicolon, codes ";") ∷ (token.Var, codes "var") ∷ (token.Identifier, codes "v") ∷
      (token.Identifier, codes "T") ∷ (token.Assign, codes "=") ∷ (token.Identifier, codes "nil") ∷ (token.Semicolon, codes ";") ∷ []) ∷ [])
      ≡ fault code.ZeroDivisor 0 42 43
  -- package p; const a, b int8 = 300, a + 1; const c = b / 0
  pub sum_of_faulty :
      stated (
      ((token.Package, codes "package") ∷ (token.Identifier, codes "p") ∷ (token.Semicolon, codes ";") ∷ (token.Const, codes "const") ∷
      (token.Identifier, codes "a") ∷ (token.Comma, codes ",") ∷ (token.Identifier, codes "b") ∷ (token.Identifier, codes "int8") ∷
      (token.Assign, codes "=") ∷ (token.Integer, codes "300") ∷ (token.Comma, codes ",") ∷ (token.Identifier, codes "a") ∷ (token.Plus, codes "+") ∷
      (token.Integer, codes "1") ∷ (token.Semicolon, codes ";") ∷ (token.Const, codes "const") ∷ (token.Identifier, codes "c") ∷
      (token.Assign, codes "=") ∷ (token.Identifier, codes "b") ∷ (token.Slash, codes "/") ∷ (token.Integer, codes "0") ∷
      (token.Semicolon, codes ";") ∷ []) ∷ [])
      ≡ fault code.Representable 0 31 34
  -- package p; type T [2]U1; type U1 [1<<19 + 1]int
  pub scalars_of_two :
      stated (
      ((token.Package, codes "package") ∷ (token.Identifier, codes "p") ∷ (token.Semicolon, codes ";") ∷ (token.Type, codes "type") ∷
      (token.Identifier, codes "T") ∷ (token.LeftBracket, codes "[") ∷ (token.Integer, codes "2") ∷ (token.RightBracket, codes "]") ∷
      (token.Identifier, codes "U1") ∷ (token.Semicolon, codes ";") ∷ (token.Type, codes "type") ∷ (token.Identifier, codes "U1") ∷
      (token.LeftBracket, codes "[") ∷ (token.Integer, codes "1") ∷ (token.ShiftLeft, codes "<<") ∷ (token.Integer, codes "19") ∷
      (token.Plus, codes "+") ∷ (token.Integer, codes "1") ∷ (token.RightBracket, codes "]") ∷ (token.Identifier, codes "int") ∷
      (token.Semicolon, codes ";") ∷ []) ∷ [])
      ≡ fault code.Limit 0 19 27
  -- package p; type U1 [1 << 19]int
  -- package p; type T [2]U1;
  pub types_in_two_files :
      stated (
      ((token.Package, codes "package") ∷ (token.Identifier, codes "p") ∷ (token.Semicolon, codes ";") ∷ (token.Type, codes "type") ∷
      (token.Identifier, codes "U1") ∷ (token.LeftBracket, codes "[") ∷ (token.Integer, codes "1") ∷ (token.ShiftLeft, codes "<<") ∷
      (token.Integer, codes "19") ∷ (token.RightBracket, codes "]") ∷ (token.Identifier, codes "int") ∷ (token.Semicolon, codes ";") ∷ []) ∷
      ((token.Package, codes "package") ∷ (token.Identifier, codes "p") ∷ (token.Semicolon, codes ";") ∷ (token.Type, codes "type") ∷
      (token.Identifier, codes "T") ∷ (token.LeftBracket, codes "[") ∷ (token.Integer, codes "2") ∷ (token.RightBracket, codes "]") ∷
      (token.Identifier, codes "U1") ∷ (token.Semicolon, codes ";") ∷ []) ∷ [])
      ≡ Ok (sort.IsType (declared 0) ∷ sort.IsType (declared 1) ∷ [])
  -- package p; const a = b + 1
  -- package p; const b = c + "x"; const c = 300
  pub second_file_first :
      stated (
      ((token.Package, codes "package") ∷ (token.Identifier, codes "p") ∷ (token.Semicolon, codes ";") ∷ (token.Const, codes "const") ∷
      (token.Identifier, codes "a") ∷ (token.Assign, codes "=") ∷ (token.Identifier, codes "b") ∷ (token.Plus, codes "+") ∷
      (token.Integer, codes "1") ∷ (token.Semicolon, codes ";") ∷ []) ∷
      ((token.Package, codes "package") ∷ (token.Identifier, codes "p") ∷ (token.Semicolon, codes ";") ∷ (token.Const, codes "const") ∷
      (token.Identifier, codes "b") ∷ (token.Assign, codes "=") ∷ (token.Identifier, codes "c") ∷ (token.Plus, codes "+") ∷
      (token.Text, codes "\"x\"") ∷ (token.Semicolon, codes ";") ∷ (token.Const, codes "const") ∷ (token.Identifier, codes "c") ∷
      (token.Assign, codes "=") ∷ (token.Integer, codes "300") ∷ (token.Semicolon, codes ";") ∷ []) ∷ [])
      ≡ fault code.Operands 1 22 29
  -- package p; const c = a + 1
  -- package p; const a, b = "abc"[2], c
  pub needed_in_other_file :
      stated (
      ((token.Package, codes "package") ∷ (token.Identifier, codes "p") ∷ (token.Semicolon, codes ";") ∷ (token.Const, codes "const") ∷
      (token.Identifier, codes "c") ∷ (token.Assign, codes "=") ∷ (token.Identifier, codes "a") ∷ (token.Plus, codes "+") ∷
      (token.Integer, codes "1") ∷ (token.Semicolon, codes ";") ∷ []) ∷
      ((token.Package, codes "package") ∷ (token.Identifier, codes "p") ∷ (token.Semicolon, codes ";") ∷ (token.Const, codes "const") ∷
      (token.Identifier, codes "a") ∷ (token.Comma, codes ",") ∷ (token.Identifier, codes "b") ∷ (token.Assign, codes "=") ∷
      (token.Text, codes "\"abc\"") ∷ (token.LeftBracket, codes "[") ∷ (token.Integer, codes "2") ∷ (token.RightBracket, codes "]") ∷
      (token.Comma, codes ",") ∷ (token.Identifier, codes "c") ∷ (token.Semicolon, codes ";") ∷ []) ∷ [])
      ≡ fault code.Operands 1 26 37
  -- package p; type A [][2]B; type B [1 << 20]int
  pub loose_limit :
      stated (
      ((token.Package, codes "package") ∷ (token.Identifier, codes "p") ∷ (token.Semicolon, codes ";") ∷ (token.Type, codes "type") ∷
      (token.Identifier, codes "A") ∷ (token.LeftBracket, codes "[") ∷ (token.RightBracket, codes "]") ∷ (token.LeftBracket, codes "[") ∷
      (token.Integer, codes "2") ∷ (token.RightBracket, codes "]") ∷ (token.Identifier, codes "B") ∷ (token.Semicolon, codes ";") ∷
      (token.Type, codes "type") ∷ (token.Identifier, codes "B") ∷ (token.LeftBracket, codes "[") ∷ (token.Integer, codes "1") ∷
      (token.ShiftLeft, codes "<<") ∷ (token.Integer, codes "20") ∷ (token.RightBracket, codes "]") ∷ (token.Identifier, codes "int") ∷
      (token.Semicolon, codes ";") ∷ []) ∷ [])
      ≡ fault code.Limit 0 23 30
  -- package p; const c = len(v); var v [c2]int; const c2 = 3
  pub length_of_variable :
      stated (
      ((token.Package, codes "package") ∷ (token.Identifier, codes "p") ∷ (token.Semicolon, codes ";") ∷ (token.Const, codes "const") ∷
      (token.Identifier, codes "c") ∷ (token.Assign, codes "=") ∷ (token.Identifier, codes "len") ∷ (token.LeftParenthesis, codes "(") ∷
      (token.Identifier, codes "v") ∷ (token.RightParenthesis, codes ")") ∷ (token.Semicolon, codes ";") ∷ (token.Var, codes "var") ∷
      (token.Identifier, codes "v") ∷ (token.LeftBracket, codes "[") ∷ (token.Identifier, codes "c2") ∷ (token.RightBracket, codes "]") ∷
      (token.Identifier, codes "int") ∷ (token.Semicolon, codes ";") ∷ (token.Const, codes "const") ∷ (token.Identifier, codes "c2") ∷
      (token.Assign, codes "=") ∷ (token.Integer, codes "3") ∷ (token.Semicolon, codes ";") ∷ []) ∷ [])
      ≡ Ok (sort.Constant int (const.Int (pos 3) false) ∷ sort.Value (array 3 int) ∷ sort.OpenConstant (const.Int (pos 3) false) ∷ [])
  -- package p; const c0, d0 = nil, 1 / 0
  pub nil_beside_divisor :
      stated (
      ((token.Package, codes "package") ∷ (token.Identifier, codes "p") ∷ (token.Semicolon, codes ";") ∷ (token.Const, codes "const") ∷
      (token.Identifier, codes "c0") ∷ (token.Comma, codes ",") ∷ (token.Identifier, codes "d0") ∷ (token.Assign, codes "=") ∷
      (token.Identifier, codes "nil") ∷ (token.Comma, codes ",") ∷ (token.Integer, codes "1") ∷ (token.Slash, codes "/") ∷
      (token.Integer, codes "0") ∷ (token.Semicolon, codes ";") ∷ []) ∷ [])
      ≡ fault code.ZeroDivisor 0 38 39
  -- package p; const c [1 << 21]int = d; const d = nil
  pub type_of_faulty :
      stated (
      ((token.Package, codes "package") ∷ (token.Identifier, codes "p") ∷ (token.Semicolon, codes ";") ∷ (token.Const, codes "const") ∷
      (token.Identifier, codes "c") ∷ (token.LeftBracket, codes "[") ∷ (token.Integer, codes "1") ∷ (token.ShiftLeft, codes "<<") ∷
      (token.Integer, codes "21") ∷ (token.RightBracket, codes "]") ∷ (token.Identifier, codes "int") ∷ (token.Assign, codes "=") ∷
      (token.Identifier, codes "d") ∷ (token.Semicolon, codes ";") ∷ (token.Const, codes "const") ∷ (token.Identifier, codes "d") ∷
      (token.Assign, codes "=") ∷ (token.Identifier, codes "nil") ∷ (token.Semicolon, codes ";") ∷ []) ∷ [])
      ≡ fault code.Limit 0 20 35
  -- package p; const a = "abc"[2], a
  pub value_unneeded :
      stated (
      ((token.Package, codes "package") ∷ (token.Identifier, codes "p") ∷ (token.Semicolon, codes ";") ∷ (token.Const, codes "const") ∷
      (token.Identifier, codes "a") ∷ (token.Assign, codes "=") ∷ (token.Text, codes "\"abc\"") ∷ (token.LeftBracket, codes "[") ∷
      (token.Integer, codes "2") ∷ (token.RightBracket, codes "]") ∷ (token.Comma, codes ",") ∷ (token.Identifier, codes "a") ∷
      (token.Semicolon, codes ";") ∷ []) ∷ [])
      ≡ fault code.Count 0 18 37
  -- package p; const a, b int8 = 300, c; const c, d int8 = 300, a
  pub out_of_range_twice :
      stated (
      ((token.Package, codes "package") ∷ (token.Identifier, codes "p") ∷ (token.Semicolon, codes ";") ∷ (token.Const, codes "const") ∷
      (token.Identifier, codes "a") ∷ (token.Comma, codes ",") ∷ (token.Identifier, codes "b") ∷ (token.Identifier, codes "int8") ∷
      (token.Assign, codes "=") ∷ (token.Integer, codes "300") ∷ (token.Comma, codes ",") ∷ (token.Identifier, codes "c") ∷
      (token.Semicolon, codes ";") ∷ (token.Const, codes "const") ∷ (token.Identifier, codes "c") ∷ (token.Comma, codes ",") ∷
      (token.Identifier, codes "d") ∷ (token.Identifier, codes "int8") ∷ (token.Assign, codes "=") ∷ (token.Integer, codes "300") ∷
      (token.Comma, codes ",") ∷ (token.Identifier, codes "a") ∷ (token.Semicolon, codes ";") ∷ []) ∷ [])
      ≡ fault code.Representable 0 31 34
  -- package p; var v T = 1
  -- package p; type T struct { a [2]U; }; type U [1 << 20]int
  pub value_of_faulty_type :
      stated (
      ((token.Package, codes "package") ∷ (token.Identifier, codes "p") ∷ (token.Semicolon, codes ";") ∷ (token.Var, codes "var") ∷
      (token.Identifier, codes "v") ∷ (token.Identifier, codes "T") ∷ (token.Assign, codes "=") ∷ (token.Integer, codes "1") ∷
      (token.Semicolon, codes ";") ∷ []) ∷
      ((token.Package, codes "package") ∷ (token.Identifier, codes "p") ∷ (token.Semicolon, codes ";") ∷ (token.Type, codes "type") ∷
      (token.Identifier, codes "T") ∷ (token.Struct, codes "struct") ∷ (token.LeftBrace, codes "{") ∷ (token.Identifier, codes "a") ∷
      (token.LeftBracket, codes "[") ∷ (token.Integer, codes "2") ∷ (token.RightBracket, codes "]") ∷ (token.Identifier, codes "U") ∷
      (token.Semicolon, codes ";") ∷ (token.RightBrace, codes "}") ∷ (token.Semicolon, codes ";") ∷ (token.Type, codes "type") ∷
      (token.Identifier, codes "U") ∷ (token.LeftBracket, codes "[") ∷ (token.Integer, codes "1") ∷ (token.ShiftLeft, codes "<<") ∷
      (token.Integer, codes "20") ∷ (token.RightBracket, codes "]") ∷ (token.Identifier, codes "int") ∷ (token.Semicolon, codes ";") ∷ []) ∷ [])
      ≡ fault code.Limit 1 30 37
  -- package p; const c0, d0 = "abc"[2], len(T{}); type T [1 << 21]int
  pub unjudged_specification :
      stated (
      ((token.Package, codes "package") ∷ (token.Identifier, codes "p") ∷ (token.Semicolon, codes ";") ∷ (token.Const, codes "const") ∷
      (token.Identifier, codes "c0") ∷ (token.Comma, codes ",") ∷ (token.Identifier, codes "d0") ∷ (token.Assign, codes "=") ∷
      (token.Text, codes "\"abc\"") ∷ (token.LeftBracket, codes "[") ∷ (token.Integer, codes "2") ∷ (token.RightBracket, codes "]") ∷
      (token.Comma, codes ",") ∷ (token.Identifier, codes "len") ∷ (token.LeftParenthesis, codes "(") ∷ (token.Identifier, codes "T") ∷
      (token.LeftBrace, codes "{") ∷ (token.RightBrace, codes "}") ∷ (token.RightParenthesis, codes ")") ∷ (token.Semicolon, codes ";") ∷
      (token.Type, codes "type") ∷ (token.Identifier, codes "T") ∷ (token.LeftBracket, codes "[") ∷ (token.Integer, codes "1") ∷
      (token.ShiftLeft, codes "<<") ∷ (token.Integer, codes "21") ∷ (token.RightBracket, codes "]") ∷ (token.Identifier, codes "int") ∷
      (token.Semicolon, codes ";") ∷ []) ∷ [])
      ≡ fault code.Limit 0 65 80
  -- package p; type A [][2]C; type C struct { b [1 << 21]int }
  pub loose_limit_of_faulty :
      stated (
      ((token.Package, codes "package") ∷ (token.Identifier, codes "p") ∷ (token.Semicolon, codes ";") ∷ (token.Type, codes "type") ∷
      (token.Identifier, codes "A") ∷ (token.LeftBracket, codes "[") ∷ (token.RightBracket, codes "]") ∷ (token.LeftBracket, codes "[") ∷
      (token.Integer, codes "2") ∷ (token.RightBracket, codes "]") ∷ (token.Identifier, codes "C") ∷ (token.Semicolon, codes ";") ∷
      (token.Type, codes "type") ∷ (token.Identifier, codes "C") ∷ (token.Struct, codes "struct") ∷ (token.LeftBrace, codes "{") ∷
      (token.Identifier, codes "b") ∷ (token.LeftBracket, codes "[") ∷ (token.Integer, codes "1") ∷ (token.ShiftLeft, codes "<<") ∷
      (token.Integer, codes "21") ∷ (token.RightBracket, codes "]") ∷ (token.Identifier, codes "int") ∷ (token.RightBrace, codes "}") ∷
      (token.Semicolon, codes ";") ∷ []) ∷ [])
      ≡ fault code.Limit 0 23 30
  -- package main; const main = 1; const b = 1 / 0
  pub main_before_others :
      stated (
      ((token.Package, codes "package") ∷ (token.Identifier, codes "main") ∷ (token.Semicolon, codes ";") ∷ (token.Const, codes "const") ∷
      (token.Identifier, codes "main") ∷ (token.Assign, codes "=") ∷ (token.Integer, codes "1") ∷ (token.Semicolon, codes ";") ∷
      (token.Const, codes "const") ∷ (token.Identifier, codes "b") ∷ (token.Assign, codes "=") ∷ (token.Integer, codes "1") ∷
      (token.Slash, codes "/") ∷ (token.Integer, codes "0") ∷ (token.Semicolon, codes ";") ∷ []) ∷ [])
      ≡ fault code.Operands 0 21 25

-- Constants that repeat what others have.
pub record GroupExamples : Type 0 where
  -- package p; const ( a int8 = iota + 127; b; c = b; )
  pub repeated_too_wide :
      stated (
      ((token.Package, codes "package") ∷ (token.Identifier, codes "p") ∷ (token.Semicolon, codes ";") ∷ (token.Const, codes "const") ∷
      (token.LeftParenthesis, codes "(") ∷ (token.Identifier, codes "a") ∷ (token.Identifier, codes "int8") ∷ (token.Assign, codes "=") ∷
      (token.Identifier, codes "iota") ∷ (token.Plus, codes "+") ∷ (token.Integer, codes "127") ∷ (token.Semicolon, codes ";") ∷
      (token.Identifier, codes "b") ∷ (token.Semicolon, codes ";") ∷ (token.Identifier, codes "c") ∷ (token.Assign, codes "=") ∷
      (token.Identifier, codes "b") ∷ (token.Semicolon, codes ";") ∷ (token.RightParenthesis, codes ")") ∷ (token.Semicolon, codes ";") ∷ []) ∷ [])
      ≡ fault code.Representable 0 29 39
  -- package p; type A [3]uint8; const ( a = iota; b, c; )
  pub repeated_count :
      stated (
      ((token.Package, codes "package") ∷ (token.Identifier, codes "p") ∷ (token.Semicolon, codes ";") ∷ (token.Type, codes "type") ∷
      (token.Identifier, codes "A") ∷ (token.LeftBracket, codes "[") ∷ (token.Integer, codes "3") ∷ (token.RightBracket, codes "]") ∷
      (token.Identifier, codes "uint8") ∷ (token.Semicolon, codes ";") ∷ (token.Const, codes "const") ∷ (token.LeftParenthesis, codes "(") ∷
      (token.Identifier, codes "a") ∷ (token.Assign, codes "=") ∷ (token.Identifier, codes "iota") ∷ (token.Semicolon, codes ";") ∷
      (token.Identifier, codes "b") ∷ (token.Comma, codes ",") ∷ (token.Identifier, codes "c") ∷ (token.Semicolon, codes ";") ∷
      (token.RightParenthesis, codes ")") ∷ (token.Semicolon, codes ";") ∷ []) ∷ [])
      ≡ fault code.Count 0 52 57
  -- package p; const ( a = 10 / (2 - iota); b; c; ); type A [3]uint8
  pub repeated_divisor :
      stated (
      ((token.Package, codes "package") ∷ (token.Identifier, codes "p") ∷ (token.Semicolon, codes ";") ∷ (token.Const, codes "const") ∷
      (token.LeftParenthesis, codes "(") ∷ (token.Identifier, codes "a") ∷ (token.Assign, codes "=") ∷ (token.Integer, codes "10") ∷
      (token.Slash, codes "/") ∷ (token.LeftParenthesis, codes "(") ∷ (token.Integer, codes "2") ∷ (token.Minus, codes "-") ∷
      (token.Identifier, codes "iota") ∷ (token.RightParenthesis, codes ")") ∷ (token.Semicolon, codes ";") ∷ (token.Identifier, codes "b") ∷
      (token.Semicolon, codes ";") ∷ (token.Identifier, codes "c") ∷ (token.Semicolon, codes ";") ∷ (token.RightParenthesis, codes ")") ∷
      (token.Semicolon, codes ";") ∷ (token.Type, codes "type") ∷ (token.Identifier, codes "A") ∷ (token.LeftBracket, codes "[") ∷
      (token.Integer, codes "3") ∷ (token.RightBracket, codes "]") ∷ (token.Identifier, codes "uint8") ∷ (token.Semicolon, codes ";") ∷ []) ∷ [])
      ≡ fault code.ZeroDivisor 0 29 41
  -- package p; const ( a = iota; b = a / iota; c = b / a; )
  pub group_divisor :
      stated (
      ((token.Package, codes "package") ∷ (token.Identifier, codes "p") ∷ (token.Semicolon, codes ";") ∷ (token.Const, codes "const") ∷
      (token.LeftParenthesis, codes "(") ∷ (token.Identifier, codes "a") ∷ (token.Assign, codes "=") ∷ (token.Identifier, codes "iota") ∷
      (token.Semicolon, codes ";") ∷ (token.Identifier, codes "b") ∷ (token.Assign, codes "=") ∷ (token.Identifier, codes "a") ∷
      (token.Slash, codes "/") ∷ (token.Identifier, codes "iota") ∷ (token.Semicolon, codes ";") ∷ (token.Identifier, codes "c") ∷
      (token.Assign, codes "=") ∷ (token.Identifier, codes "b") ∷ (token.Slash, codes "/") ∷ (token.Identifier, codes "a") ∷
      (token.Semicolon, codes ";") ∷ (token.RightParenthesis, codes ")") ∷ (token.Semicolon, codes ";") ∷ []) ∷ [])
      ≡ fault code.ZeroDivisor 0 54 55
  -- package p; const (a = iota; b; c)
  pub counted :
      stated (
      ((token.Package, codes "package") ∷ (token.Identifier, codes "p") ∷ (token.Semicolon, codes ";") ∷ (token.Const, codes "const") ∷
      (token.LeftParenthesis, codes "(") ∷ (token.Identifier, codes "a") ∷ (token.Assign, codes "=") ∷ (token.Identifier, codes "iota") ∷
      (token.Semicolon, codes ";") ∷ (token.Identifier, codes "b") ∷ (token.Semicolon, codes ";") ∷ (token.Identifier, codes "c") ∷
      (token.RightParenthesis, codes ")") ∷ (token.Semicolon, codes ";") ∷ []) ∷ [])
      ≡ Ok (sort.OpenConstant (const.Int (pos 0) false) ∷ sort.OpenConstant (const.Int (pos 1) false) ∷ sort.OpenConstant (const.Int (pos 2) false) ∷ [])
  -- package p; type T uint8; const (a T = 1 << iota; _; c)
  pub typed_group :
      stated (
      ((token.Package, codes "package") ∷ (token.Identifier, codes "p") ∷ (token.Semicolon, codes ";") ∷ (token.Type, codes "type") ∷
      (token.Identifier, codes "T") ∷ (token.Identifier, codes "uint8") ∷ (token.Semicolon, codes ";") ∷ (token.Const, codes "const") ∷
      (token.LeftParenthesis, codes "(") ∷ (token.Identifier, codes "a") ∷ (token.Identifier, codes "T") ∷ (token.Assign, codes "=") ∷
      (token.Integer, codes "1") ∷ (token.ShiftLeft, codes "<<") ∷ (token.Identifier, codes "iota") ∷ (token.Semicolon, codes ";") ∷
      (token.Identifier, codes "_") ∷ (token.Semicolon, codes ";") ∷ (token.Identifier, codes "c") ∷ (token.RightParenthesis, codes ")") ∷
      (token.Semicolon, codes ";") ∷ []) ∷ [])
      ≡ Ok (sort.IsType (declared 0) ∷ sort.Constant (declared 0) (const.Int (pos 1) false) ∷ sort.Constant (declared 0) (const.Int (pos 4) false) ∷ [])
