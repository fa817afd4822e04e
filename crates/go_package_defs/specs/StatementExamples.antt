-- Worked examples of statements in whole packages, with what Go's own checker answers.
use Rattle.std.specs.Prelude.{◌≡◌, [], ◌∷◌, codes, None}
use Rattle.go_base.specs.declared.fault.FaultCode.TheVariants as code
use Rattle.go_tokens.specs.declared.token.TokenKind.TheVariants as token
use Rattle.go_package_defs.specs.Sentences.{reported, checked_fault}

-- Which rule fails where, or none.
pub record StatementExamples : Type 0 where
  -- package p; ; func g() { w := 1 << 63; _ = w }
  pub wide_definition :
      reported (
      ((token.Package, codes "package") ∷ (token.Identifier, codes "p") ∷ (token.Semicolon, codes ";") ∷ (token.Func, codes "func") ∷
      (token.Identifier, codes "g") ∷ (token.LeftParenthesis, codes "(") ∷ (token.RightParenthesis, codes ")") ∷ (token.LeftBrace, codes "{") ∷
      (token.Identifier, codes "w") ∷ (token.Define, codes ":=") ∷ (token.Integer, codes "1") ∷ (token.ShiftLeft, codes "<<") ∷
      (token.Integer, codes "63") ∷ (token.Semicolon, codes ";") ∷ (token.Identifier, codes "_") ∷ (token.Assign, codes "=") ∷
      (token.Identifier, codes "w") ∷ (token.Semicolon, codes ";") ∷ (token.RightBrace, codes "}") ∷ (token.Semicolon, codes ";") ∷ []) ∷ [])
      ≡ checked_fault code.Representable 0 30 37
  -- package p; ; func g() { w := 1, 2; _ = w }
  pub too_many_defined :
      reported (
      ((token.Package, codes "package") ∷ (token.Identifier, codes "p") ∷ (token.Semicolon, codes ";") ∷ (token.Func, codes "func") ∷
      (token.Identifier, codes "g") ∷ (token.LeftParenthesis, codes "(") ∷ (token.RightParenthesis, codes ")") ∷ (token.LeftBrace, codes "{") ∷
      (token.Identifier, codes "w") ∷ (token.Define, codes ":=") ∷ (token.Integer, codes "1") ∷ (token.Comma, codes ",") ∷
      (token.Integer, codes "2") ∷ (token.Semicolon, codes ";") ∷ (token.Identifier, codes "_") ∷ (token.Assign, codes "=") ∷
      (token.Identifier, codes "w") ∷ (token.Semicolon, codes ";") ∷ (token.RightBrace, codes "}") ∷ (token.Semicolon, codes ";") ∷ []) ∷ [])
      ≡ checked_fault code.Count 0 25 35
  -- package p; ; type I int8; ; func g(i I, x8 int8) { for i := int8(0); i < 10; i++ { x8 = i } }
  pub reused_in_loop :
      reported (
      ((token.Package, codes "package") ∷ (token.Identifier, codes "p") ∷ (token.Semicolon, codes ";") ∷ (token.Type, codes "type") ∷
      (token.Identifier, codes "I") ∷ (token.Identifier, codes "int8") ∷ (token.Semicolon, codes ";") ∷ (token.Func, codes "func") ∷
      (token.Identifier, codes "g") ∷ (token.LeftParenthesis, codes "(") ∷ (token.Identifier, codes "i") ∷ (token.Identifier, codes "I") ∷
      (token.Comma, codes ",") ∷ (token.Identifier, codes "x8") ∷ (token.Identifier, codes "int8") ∷ (token.RightParenthesis, codes ")") ∷
      (token.LeftBrace, codes "{") ∷ (token.For, codes "for") ∷ (token.Identifier, codes "i") ∷ (token.Define, codes ":=") ∷
      (token.Identifier, codes "int8") ∷ (token.LeftParenthesis, codes "(") ∷ (token.Integer, codes "0") ∷ (token.RightParenthesis, codes ")") ∷
      (token.Semicolon, codes ";") ∷ (token.Identifier, codes "i") ∷ (token.Less, codes "<") ∷ (token.Integer, codes "10") ∷
      (token.Semicolon, codes ";") ∷ (token.Identifier, codes "i") ∷ (token.Increment, codes "++") ∷ (token.LeftBrace, codes "{") ∷
      (token.Identifier, codes "x8") ∷ (token.Assign, codes "=") ∷ (token.Identifier, codes "i") ∷ (token.RightBrace, codes "}") ∷
      (token.Semicolon, codes ";") ∷ (token.RightBrace, codes "}") ∷ (token.Semicolon, codes ";") ∷ []) ∷ [])
      ≡ None
  -- package p; ; func g() { for range "abc" { } }
  pub ranged_text :
      reported (
      ((token.Package, codes "package") ∷ (token.Identifier, codes "p") ∷ (token.Semicolon, codes ";") ∷ (token.Func, codes "func") ∷
      (token.Identifier, codes "g") ∷ (token.LeftParenthesis, codes "(") ∷ (token.RightParenthesis, codes ")") ∷ (token.LeftBrace, codes "{") ∷
      (token.For, codes "for") ∷ (token.Range, codes "range") ∷ (token.Text, codes "\"abc\"") ∷ (token.LeftBrace, codes "{") ∷
      (token.RightBrace, codes "}") ∷ (token.Semicolon, codes ";") ∷ (token.RightBrace, codes "}") ∷ (token.Semicolon, codes ";") ∷ []) ∷ [])
      ≡ None
  -- package p; ; func g() { for range nil { } }
  pub ranged_nil :
      reported (
      ((token.Package, codes "package") ∷ (token.Identifier, codes "p") ∷ (token.Semicolon, codes ";") ∷ (token.Func, codes "func") ∷
      (token.Identifier, codes "g") ∷ (token.LeftParenthesis, codes "(") ∷ (token.RightParenthesis, codes ")") ∷ (token.LeftBrace, codes "{") ∷
      (token.For, codes "for") ∷ (token.Range, codes "range") ∷ (token.Identifier, codes "nil") ∷ (token.LeftBrace, codes "{") ∷
      (token.RightBrace, codes "}") ∷ (token.Semicolon, codes ";") ∷ (token.RightBrace, codes "}") ∷ (token.Semicolon, codes ";") ∷ []) ∷ [])
      ≡ checked_fault code.Operands 0 35 38
  -- package p; ; func g() { switch { case 1: } }
  pub untagged_case :
      reported (
      ((token.Package, codes "package") ∷ (token.Identifier, codes "p") ∷ (token.Semicolon, codes ";") ∷ (token.Func, codes "func") ∷
      (token.Identifier, codes "g") ∷ (token.LeftParenthesis, codes "(") ∷ (token.RightParenthesis, codes ")") ∷ (token.LeftBrace, codes "{") ∷
      (token.Switch, codes "switch") ∷ (token.LeftBrace, codes "{") ∷ (token.Case, codes "case") ∷ (token.Integer, codes "1") ∷
      (token.Colon, codes ":") ∷ (token.RightBrace, codes "}") ∷ (token.Semicolon, codes ";") ∷ (token.RightBrace, codes "}") ∷
      (token.Semicolon, codes ";") ∷ []) ∷ [])
      ≡ checked_fault code.Operands 0 39 40
  -- package p; ; func g() int { switch { } }
  pub empty_switch :
      reported (
      ((token.Package, codes "package") ∷ (token.Identifier, codes "p") ∷ (token.Semicolon, codes ";") ∷ (token.Func, codes "func") ∷
      (token.Identifier, codes "g") ∷ (token.LeftParenthesis, codes "(") ∷ (token.RightParenthesis, codes ")") ∷ (token.Identifier, codes "int") ∷
      (token.LeftBrace, codes "{") ∷ (token.Switch, codes "switch") ∷ (token.LeftBrace, codes "{") ∷ (token.RightBrace, codes "}") ∷
      (token.Semicolon, codes ";") ∷ (token.RightBrace, codes "}") ∷ (token.Semicolon, codes ";") ∷ []) ∷ [])
      ≡ checked_fault code.MissingReturn 0 42 43
  -- package p; ; func g() { switch 1 << 70 { } }
  pub wide_tag :
      reported (
      ((token.Package, codes "package") ∷ (token.Identifier, codes "p") ∷ (token.Semicolon, codes ";") ∷ (token.Func, codes "func") ∷
      (token.Identifier, codes "g") ∷ (token.LeftParenthesis, codes "(") ∷ (token.RightParenthesis, codes ")") ∷ (token.LeftBrace, codes "{") ∷
      (token.Switch, codes "switch") ∷ (token.Integer, codes "1") ∷ (token.ShiftLeft, codes "<<") ∷ (token.Integer, codes "70") ∷
      (token.LeftBrace, codes "{") ∷ (token.RightBrace, codes "}") ∷ (token.Semicolon, codes ";") ∷ (token.RightBrace, codes "}") ∷
      (token.Semicolon, codes ";") ∷ []) ∷ [])
      ≡ checked_fault code.Representable 0 32 39
  -- package p; ; func g() { switch nil { case nil: } }
  pub nil_tag :
      reported (
      ((token.Package, codes "package") ∷ (token.Identifier, codes "p") ∷ (token.Semicolon, codes ";") ∷ (token.Func, codes "func") ∷
      (token.Identifier, codes "g") ∷ (token.LeftParenthesis, codes "(") ∷ (token.RightParenthesis, codes ")") ∷ (token.LeftBrace, codes "{") ∷
      (token.Switch, codes "switch") ∷ (token.Identifier, codes "nil") ∷ (token.LeftBrace, codes "{") ∷ (token.Case, codes "case") ∷
      (token.Identifier, codes "nil") ∷ (token.Colon, codes ":") ∷ (token.RightBrace, codes "}") ∷ (token.Semicolon, codes ";") ∷
      (token.RightBrace, codes "}") ∷ (token.Semicolon, codes ";") ∷ []) ∷ [])
      ≡ checked_fault code.Operands 0 32 35
  -- package p; ; func g(x int) int { for ; ; x++ { } }
  pub endless_loop :
      reported (
      ((token.Package, codes "package") ∷ (token.Identifier, codes "p") ∷ (token.Semicolon, codes ";") ∷ (token.Func, codes "func") ∷
      (token.Identifier, codes "g") ∷ (token.LeftParenthesis, codes "(") ∷ (token.Identifier, codes "x") ∷ (token.Identifier, codes "int") ∷
      (token.RightParenthesis, codes ")") ∷ (token.Identifier, codes "int") ∷ (token.LeftBrace, codes "{") ∷ (token.For, codes "for") ∷
      (token.Semicolon, codes ";") ∷ (token.Semicolon, codes ";") ∷ (token.Identifier, codes "x") ∷ (token.Increment, codes "++") ∷
      (token.LeftBrace, codes "{") ∷ (token.RightBrace, codes "}") ∷ (token.Semicolon, codes ";") ∷ (token.RightBrace, codes "}") ∷
      (token.Semicolon, codes ";") ∷ []) ∷ [])
      ≡ None
  -- package p; ; func g() int { for ; true; { } }
  pub loop_with_condition :
      reported (
      ((token.Package, codes "package") ∷ (token.Identifier, codes "p") ∷ (token.Semicolon, codes ";") ∷ (token.Func, codes "func") ∷
      (token.Identifier, codes "g") ∷ (token.LeftParenthesis, codes "(") ∷ (token.RightParenthesis, codes ")") ∷ (token.Identifier, codes "int") ∷
      (token.LeftBrace, codes "{") ∷ (token.For, codes "for") ∷ (token.Semicolon, codes ";") ∷ (token.Identifier, codes "true") ∷
      (token.Semicolon, codes ";") ∷ (token.LeftBrace, codes "{") ∷ (token.RightBrace, codes "}") ∷ (token.Semicolon, codes ";") ∷
      (token.RightBrace, codes "}") ∷ (token.Semicolon, codes ";") ∷ []) ∷ [])
      ≡ checked_fault code.MissingReturn 0 48 49
  -- package p; ; func g(x int, s string) { for x = 0; x; x++ { s = 1 } }
  pub stepped_condition :
      reported (
      ((token.Package, codes "package") ∷ (token.Identifier, codes "p") ∷ (token.Semicolon, codes ";") ∷ (token.Func, codes "func") ∷
      (token.Identifier, codes "g") ∷ (token.LeftParenthesis, codes "(") ∷ (token.Identifier, codes "x") ∷ (token.Identifier, codes "int") ∷
      (token.Comma, codes ",") ∷ (token.Identifier, codes "s") ∷ (token.Identifier, codes "string") ∷ (token.RightParenthesis, codes ")") ∷
      (token.LeftBrace, codes "{") ∷ (token.For, codes "for") ∷ (token.Identifier, codes "x") ∷ (token.Assign, codes "=") ∷
      (token.Integer, codes "0") ∷ (token.Semicolon, codes ";") ∷ (token.Identifier, codes "x") ∷ (token.Semicolon, codes ";") ∷
      (token.Identifier, codes "x") ∷ (token.Increment, codes "++") ∷ (token.LeftBrace, codes "{") ∷ (token.Identifier, codes "s") ∷
      (token.Assign, codes "=") ∷ (token.Integer, codes "1") ∷ (token.RightBrace, codes "}") ∷ (token.Semicolon, codes ";") ∷
      (token.RightBrace, codes "}") ∷ (token.Semicolon, codes ";") ∷ []) ∷ [])
      ≡ checked_fault code.Assignable 0 69 70
  -- package p; ; func g(x int) { if x { } }
  pub condition :
      reported (
      ((token.Package, codes "package") ∷ (token.Identifier, codes "p") ∷ (token.Semicolon, codes ";") ∷ (token.Func, codes "func") ∷
      (token.Identifier, codes "g") ∷ (token.LeftParenthesis, codes "(") ∷ (token.Identifier, codes "x") ∷ (token.Identifier, codes "int") ∷
      (token.RightParenthesis, codes ")") ∷ (token.LeftBrace, codes "{") ∷ (token.If, codes "if") ∷ (token.Identifier, codes "x") ∷
      (token.LeftBrace, codes "{") ∷ (token.RightBrace, codes "}") ∷ (token.Semicolon, codes ";") ∷ (token.RightBrace, codes "}") ∷
      (token.Semicolon, codes ";") ∷ []) ∷ [])
      ≡ checked_fault code.Operands 0 34 35
  -- package p; ; func g() { _ += 1 }
  pub blank_added :
      reported (
      ((token.Package, codes "package") ∷ (token.Identifier, codes "p") ∷ (token.Semicolon, codes ";") ∷ (token.Func, codes "func") ∷
      (token.Identifier, codes "g") ∷ (token.LeftParenthesis, codes "(") ∷ (token.RightParenthesis, codes ")") ∷ (token.LeftBrace, codes "{") ∷
      (token.Identifier, codes "_") ∷ (token.PlusAssign, codes "+=") ∷ (token.Integer, codes "1") ∷ (token.Semicolon, codes ";") ∷
      (token.RightBrace, codes "}") ∷ (token.Semicolon, codes ";") ∷ []) ∷ [])
      ≡ checked_fault code.NotAValue 0 25 26
  -- package p; ; func g(b bool) { b++ }
  pub boolean_stepped :
      reported (
      ((token.Package, codes "package") ∷ (token.Identifier, codes "p") ∷ (token.Semicolon, codes ";") ∷ (token.Func, codes "func") ∷
      (token.Identifier, codes "g") ∷ (token.LeftParenthesis, codes "(") ∷ (token.Identifier, codes "b") ∷ (token.Identifier, codes "bool") ∷
      (token.RightParenthesis, codes ")") ∷ (token.LeftBrace, codes "{") ∷ (token.Identifier, codes "b") ∷ (token.Increment, codes "++") ∷
      (token.Semicolon, codes ";") ∷ (token.RightBrace, codes "}") ∷ (token.Semicolon, codes ";") ∷ []) ∷ [])
      ≡ checked_fault code.Operands 0 32 36
  -- package p; ; func g0() { _ = int64(1<<63 - 1) }
  -- package p; ; func g1(x int, s string) int { x <<= s }
  pub shifted_by_text :
      reported (
      ((token.Package, codes "package") ∷ (token.Identifier, codes "p") ∷ (token.Semicolon, codes ";") ∷ (token.Func, codes "func") ∷
      (token.Identifier, codes "g0") ∷ (token.LeftParenthesis, codes "(") ∷ (token.RightParenthesis, codes ")") ∷ (token.LeftBrace, codes "{") ∷
      (token.Identifier, codes "_") ∷ (token.Assign, codes "=") ∷ (token.Identifier, codes "int64") ∷ (token.LeftParenthesis, codes "(") ∷
      (token.Integer, codes "1") ∷ (token.ShiftLeft, codes "<<") ∷ (token.Integer, codes "63") ∷ (token.Minus, codes "-") ∷
      (token.Integer, codes "1") ∷ (token.RightParenthesis, codes ")") ∷ (token.Semicolon, codes ";") ∷ (token.RightBrace, codes "}") ∷
      (token.Semicolon, codes ";") ∷ []) ∷
      ((token.Package, codes "package") ∷ (token.Identifier, codes "p") ∷ (token.Semicolon, codes ";") ∷ (token.Func, codes "func") ∷
      (token.Identifier, codes "g1") ∷ (token.LeftParenthesis, codes "(") ∷ (token.Identifier, codes "x") ∷ (token.Identifier, codes "int") ∷
      (token.Comma, codes ",") ∷ (token.Identifier, codes "s") ∷ (token.Identifier, codes "string") ∷ (token.RightParenthesis, codes ")") ∷
      (token.Identifier, codes "int") ∷ (token.LeftBrace, codes "{") ∷ (token.Identifier, codes "x") ∷ (token.ShiftLeftAssign, codes "<<=") ∷
      (token.Identifier, codes "s") ∷ (token.Semicolon, codes ";") ∷ (token.RightBrace, codes "}") ∷ (token.Semicolon, codes ";") ∷ []) ∷ [])
      ≡ checked_fault code.Operands 1 47 54
  -- package p; ; func g() (int, string) { return 1, "a", 2 }
  pub results_counted :
      reported (
      ((token.Package, codes "package") ∷ (token.Identifier, codes "p") ∷ (token.Semicolon, codes ";") ∷ (token.Func, codes "func") ∷
      (token.Identifier, codes "g") ∷ (token.LeftParenthesis, codes "(") ∷ (token.RightParenthesis, codes ")") ∷ (token.LeftParenthesis, codes "(") ∷
      (token.Identifier, codes "int") ∷ (token.Comma, codes ",") ∷ (token.Identifier, codes "string") ∷ (token.RightParenthesis, codes ")") ∷
      (token.LeftBrace, codes "{") ∷ (token.Return, codes "return") ∷ (token.Integer, codes "1") ∷ (token.Comma, codes ",") ∷
      (token.Text, codes "\"a\"") ∷ (token.Comma, codes ",") ∷ (token.Integer, codes "2") ∷ (token.Semicolon, codes ";") ∷
      (token.RightBrace, codes "}") ∷ (token.Semicolon, codes ";") ∷ []) ∷ [])
      ≡ checked_fault code.Count 0 42 60
  -- package p; ; func two() (int, string) { return 1, "" }; ; func g() { (two()) }
  pub results_dropped :
      reported (
      ((token.Package, codes "package") ∷ (token.Identifier, codes "p") ∷ (token.Semicolon, codes ";") ∷ (token.Func, codes "func") ∷
      (token.Identifier, codes "two") ∷ (token.LeftParenthesis, codes "(") ∷ (token.RightParenthesis, codes ")") ∷
      (token.LeftParenthesis, codes "(") ∷ (token.Identifier, codes "int") ∷ (token.Comma, codes ",") ∷ (token.Identifier, codes "string") ∷
      (token.RightParenthesis, codes ")") ∷ (token.LeftBrace, codes "{") ∷ (token.Return, codes "return") ∷ (token.Integer, codes "1") ∷
      (token.Comma, codes ",") ∷ (token.Text, codes "\"\"") ∷ (token.Semicolon, codes ";") ∷ (token.RightBrace, codes "}") ∷
      (token.Semicolon, codes ";") ∷ (token.Func, codes "func") ∷ (token.Identifier, codes "g") ∷ (token.LeftParenthesis, codes "(") ∷
      (token.RightParenthesis, codes ")") ∷ (token.LeftBrace, codes "{") ∷ (token.LeftParenthesis, codes "(") ∷ (token.Identifier, codes "two") ∷
      (token.LeftParenthesis, codes "(") ∷ (token.RightParenthesis, codes ")") ∷ (token.RightParenthesis, codes ")") ∷ (token.Semicolon, codes ";") ∷
      (token.RightBrace, codes "}") ∷ (token.Semicolon, codes ";") ∷ []) ∷ [])
      ≡ None
  -- package p; ; func two() (int, string) { return 1, "" }; ; func g() { _ = two() }
  pub results_of_blank :
      reported (
      ((token.Package, codes "package") ∷ (token.Identifier, codes "p") ∷ (token.Semicolon, codes ";") ∷ (token.Func, codes "func") ∷
      (token.Identifier, codes "two") ∷ (token.LeftParenthesis, codes "(") ∷ (token.RightParenthesis, codes ")") ∷
      (token.LeftParenthesis, codes "(") ∷ (token.Identifier, codes "int") ∷ (token.Comma, codes ",") ∷ (token.Identifier, codes "string") ∷
      (token.RightParenthesis, codes ")") ∷ (token.LeftBrace, codes "{") ∷ (token.Return, codes "return") ∷ (token.Integer, codes "1") ∷
      (token.Comma, codes ",") ∷ (token.Text, codes "\"\"") ∷ (token.Semicolon, codes ";") ∷ (token.RightBrace, codes "}") ∷
      (token.Semicolon, codes ";") ∷ (token.Func, codes "func") ∷ (token.Identifier, codes "g") ∷ (token.LeftParenthesis, codes "(") ∷
      (token.RightParenthesis, codes ")") ∷ (token.LeftBrace, codes "{") ∷ (token.Identifier, codes "_") ∷ (token.Assign, codes "=") ∷
      (token.Identifier, codes "two") ∷ (token.LeftParenthesis, codes "(") ∷ (token.RightParenthesis, codes ")") ∷ (token.Semicolon, codes ";") ∷
      (token.RightBrace, codes "}") ∷ (token.Semicolon, codes ";") ∷ []) ∷ [])
      ≡ checked_fault code.Count 0 77 88
  -- package p; ; func g() { const k = nil; _ = k }
  pub nil_constant :
      reported (
      ((token.Package, codes "package") ∷ (token.Identifier, codes "p") ∷ (token.Semicolon, codes ";") ∷ (token.Func, codes "func") ∷
      (token.Identifier, codes "g") ∷ (token.LeftParenthesis, codes "(") ∷ (token.RightParenthesis, codes ")") ∷ (token.LeftBrace, codes "{") ∷
      (token.Const, codes "const") ∷ (token.Identifier, codes "k") ∷ (token.Assign, codes "=") ∷ (token.Identifier, codes "nil") ∷
      (token.Semicolon, codes ";") ∷ (token.Identifier, codes "_") ∷ (token.Assign, codes "=") ∷ (token.Identifier, codes "k") ∷
      (token.Semicolon, codes ";") ∷ (token.RightBrace, codes "}") ∷ (token.Semicolon, codes ";") ∷ []) ∷ [])
      ≡ checked_fault code.Operands 0 35 38
  -- package p; ; func g(x int) int { switch x { default: fallthrough; case 1: return 2 } }
  pub fallen_through :
      reported (
      ((token.Package, codes "package") ∷ (token.Identifier, codes "p") ∷ (token.Semicolon, codes ";") ∷ (token.Func, codes "func") ∷
      (token.Identifier, codes "g") ∷ (token.LeftParenthesis, codes "(") ∷ (token.Identifier, codes "x") ∷ (token.Identifier, codes "int") ∷
      (token.RightParenthesis, codes ")") ∷ (token.Identifier, codes "int") ∷ (token.LeftBrace, codes "{") ∷ (token.Switch, codes "switch") ∷
      (token.Identifier, codes "x") ∷ (token.LeftBrace, codes "{") ∷ (token.Default, codes "default") ∷ (token.Colon, codes ":") ∷
      (token.Fallthrough, codes "fallthrough") ∷ (token.Semicolon, codes ";") ∷ (token.Case, codes "case") ∷ (token.Integer, codes "1") ∷
      (token.Colon, codes ":") ∷ (token.Return, codes "return") ∷ (token.Integer, codes "2") ∷ (token.RightBrace, codes "}") ∷
      (token.Semicolon, codes ";") ∷ (token.RightBrace, codes "}") ∷ (token.Semicolon, codes ";") ∷ []) ∷ [])
      ≡ None
  -- package p; ; func g(x int) int { switch x { case 1: fallthrough; case 2: default: return 1 } }
  pub last_not_ended :
      reported (
      ((token.Package, codes "package") ∷ (token.Identifier, codes "p") ∷ (token.Semicolon, codes ";") ∷ (token.Func, codes "func") ∷
      (token.Identifier, codes "g") ∷ (token.LeftParenthesis, codes "(") ∷ (token.Identifier, codes "x") ∷ (token.Identifier, codes "int") ∷
      (token.RightParenthesis, codes ")") ∷ (token.Identifier, codes "int") ∷ (token.LeftBrace, codes "{") ∷ (token.Switch, codes "switch") ∷
      (token.Identifier, codes "x") ∷ (token.LeftBrace, codes "{") ∷ (token.Case, codes "case") ∷ (token.Integer, codes "1") ∷
      (token.Colon, codes ":") ∷ (token.Fallthrough, codes "fallthrough") ∷ (token.Semicolon, codes ";") ∷ (token.Case, codes "case") ∷
      (token.Integer, codes "2") ∷ (token.Colon, codes ":") ∷ (token.Default, codes "default") ∷ (token.Colon, codes ":") ∷
      (token.Return, codes "return") ∷ (token.Integer, codes "1") ∷ (token.RightBrace, codes "}") ∷ (token.Semicolon, codes ";") ∷
      (token.RightBrace, codes "}") ∷ (token.Semicolon, codes ";") ∷ []) ∷ [])
      ≡ checked_fault code.MissingReturn 0 101 102
  -- package p; ; func g(b bool) int { if b { } else { return 2 } }
  pub one_branch :
      reported (
      ((token.Package, codes "package") ∷ (token.Identifier, codes "p") ∷ (token.Semicolon, codes ";") ∷ (token.Func, codes "func") ∷
      (token.Identifier, codes "g") ∷ (token.LeftParenthesis, codes "(") ∷ (token.Identifier, codes "b") ∷ (token.Identifier, codes "bool") ∷
      (token.RightParenthesis, codes ")") ∷ (token.Identifier, codes "int") ∷ (token.LeftBrace, codes "{") ∷ (token.If, codes "if") ∷
      (token.Identifier, codes "b") ∷ (token.LeftBrace, codes "{") ∷ (token.RightBrace, codes "}") ∷ (token.Else, codes "else") ∷
      (token.LeftBrace, codes "{") ∷ (token.Return, codes "return") ∷ (token.Integer, codes "2") ∷ (token.RightBrace, codes "}") ∷
      (token.Semicolon, codes ";") ∷ (token.RightBrace, codes "}") ∷ (token.Semicolon, codes ";") ∷ []) ∷ [])
      ≡ checked_fault code.MissingReturn 0 65 66
  -- package p; ; func g(fv func()) { _ = fv == fv }
  pub functions_compared :
      reported (
      ((token.Package, codes "package") ∷ (token.Identifier, codes "p") ∷ (token.Semicolon, codes ";") ∷ (token.Func, codes "func") ∷
      (token.Identifier, codes "g") ∷ (token.LeftParenthesis, codes "(") ∷ (token.Identifier, codes "fv") ∷ (token.Func, codes "func") ∷
      (token.LeftParenthesis, codes "(") ∷ (token.RightParenthesis, codes ")") ∷ (token.RightParenthesis, codes ")") ∷ (token.LeftBrace, codes "{") ∷
      (token.Identifier, codes "_") ∷ (token.Assign, codes "=") ∷ (token.Identifier, codes "fv") ∷ (token.Equal, codes "==") ∷
      (token.Identifier, codes "fv") ∷ (token.Semicolon, codes ";") ∷ (token.RightBrace, codes "}") ∷ (token.Semicolon, codes ";") ∷ []) ∷ [])
      ≡ checked_fault code.NotComparable 0 41 49
  -- package p; ; func g() { 1 }
  pub value_alone :
      reported (
      ((token.Package, codes "package") ∷ (token.Identifier, codes "p") ∷ (token.Semicolon, codes ";") ∷ (token.Func, codes "func") ∷
      (token.Identifier, codes "g") ∷ (token.LeftParenthesis, codes "(") ∷ (token.RightParenthesis, codes ")") ∷ (token.LeftBrace, codes "{") ∷
      (token.Integer, codes "1") ∷ (token.Semicolon, codes ";") ∷ (token.RightBrace, codes "}") ∷ (token.Semicolon, codes ";") ∷ []) ∷ [])
      ≡ checked_fault code.UnusedValue 0 25 26
