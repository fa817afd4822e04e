-- Worked examples: constants whose values aren't of their type, in specifications that need one another.
--
-- A fault at an assignment blocks the specifications that need it, but not those that its own specification needs in turn. Where three of them
-- need one another in a ring, each is blocked by the next. As nothing else fails, their faults are told all the same.
use Rattle.std.specs.Prelude.{◌≡◌, List, [], ◌∷◌, codes}
use Rattle.go_base.specs.declared.fault.FaultCode.TheVariants as code
use Rattle.go_tokens.specs.declared.token.TokenKind.TheVariants as token
use Rattle.go_package_defs.specs.Sentences.{Word, stated, fault, reported, checked_fault}

-- package p ; const a , b int = "x" , c ; const c , d int = "x" , a ;
abbrev pub two_groups : List (List Word)
two_groups = (
    (token.Package, codes "package") ∷ (token.Identifier, codes "p") ∷ (token.Semicolon, codes ";") ∷ (token.Const, codes "const") ∷ (token.Identifier, codes "a") ∷
    (token.Comma, codes ",") ∷ (token.Identifier, codes "b") ∷ (token.Identifier, codes "int") ∷ (token.Assign, codes "=") ∷ (token.Text, codes "\"x\"") ∷
    (token.Comma, codes ",") ∷ (token.Identifier, codes "c") ∷ (token.Semicolon, codes ";") ∷ (token.Const, codes "const") ∷ (token.Identifier, codes "c") ∷
    (token.Comma, codes ",") ∷ (token.Identifier, codes "d") ∷ (token.Identifier, codes "int") ∷ (token.Assign, codes "=") ∷ (token.Text, codes "\"x\"") ∷
    (token.Comma, codes ",") ∷ (token.Identifier, codes "a") ∷ (token.Semicolon, codes ";") ∷ []) ∷ []

-- package p ; const a , b int = "x" , c ; const c , d int = "x" , e ; const e , f int = "x" , a ;
abbrev pub three_groups : List (List Word)
three_groups = (
    (token.Package, codes "package") ∷ (token.Identifier, codes "p") ∷ (token.Semicolon, codes ";") ∷ (token.Const, codes "const") ∷ (token.Identifier, codes "a") ∷
    (token.Comma, codes ",") ∷ (token.Identifier, codes "b") ∷ (token.Identifier, codes "int") ∷ (token.Assign, codes "=") ∷ (token.Text, codes "\"x\"") ∷
    (token.Comma, codes ",") ∷ (token.Identifier, codes "c") ∷ (token.Semicolon, codes ";") ∷ (token.Const, codes "const") ∷ (token.Identifier, codes "c") ∷
    (token.Comma, codes ",") ∷ (token.Identifier, codes "d") ∷ (token.Identifier, codes "int") ∷ (token.Assign, codes "=") ∷ (token.Text, codes "\"x\"") ∷
    (token.Comma, codes ",") ∷ (token.Identifier, codes "e") ∷ (token.Semicolon, codes ";") ∷ (token.Const, codes "const") ∷ (token.Identifier, codes "e") ∷
    (token.Comma, codes ",") ∷ (token.Identifier, codes "f") ∷ (token.Identifier, codes "int") ∷ (token.Assign, codes "=") ∷ (token.Text, codes "\"x\"") ∷
    (token.Comma, codes ",") ∷ (token.Identifier, codes "a") ∷ (token.Semicolon, codes ";") ∷ []) ∷ []

-- the same, and func g() int { return 1 + a }
abbrev pub with_function : List (List Word)
with_function = (
    (token.Package, codes "package") ∷ (token.Identifier, codes "p") ∷ (token.Semicolon, codes ";") ∷ (token.Const, codes "const") ∷ (token.Identifier, codes "a") ∷
    (token.Comma, codes ",") ∷ (token.Identifier, codes "b") ∷ (token.Identifier, codes "int") ∷ (token.Assign, codes "=") ∷ (token.Text, codes "\"x\"") ∷
    (token.Comma, codes ",") ∷ (token.Identifier, codes "c") ∷ (token.Semicolon, codes ";") ∷ (token.Const, codes "const") ∷ (token.Identifier, codes "c") ∷
    (token.Comma, codes ",") ∷ (token.Identifier, codes "d") ∷ (token.Identifier, codes "int") ∷ (token.Assign, codes "=") ∷ (token.Text, codes "\"x\"") ∷
    (token.Comma, codes ",") ∷ (token.Identifier, codes "e") ∷ (token.Semicolon, codes ";") ∷ (token.Const, codes "const") ∷ (token.Identifier, codes "e") ∷
    (token.Comma, codes ",") ∷ (token.Identifier, codes "f") ∷ (token.Identifier, codes "int") ∷ (token.Assign, codes "=") ∷ (token.Text, codes "\"x\"") ∷
    (token.Comma, codes ",") ∷ (token.Identifier, codes "a") ∷ (token.Semicolon, codes ";") ∷ (token.Func, codes "func") ∷ (token.Identifier, codes "g") ∷
    (token.LeftParenthesis, codes "(") ∷ (token.RightParenthesis, codes ")") ∷ (token.Identifier, codes "int") ∷ (token.LeftBrace, codes "{") ∷ (token.Return, codes "return") ∷
    (token.Integer, codes "1") ∷ (token.Plus, codes "+") ∷ (token.Identifier, codes "a") ∷ (token.Semicolon, codes ";") ∷ (token.RightBrace, codes "}") ∷
    (token.Semicolon, codes ";") ∷ []) ∷ []

pub record Examples : Type 0 where
  -- Of two groups the fault of the first is reported, and so it is of three.
  pub two : stated two_groups ≡ fault code.Assignable 0 30 33
  pub three : stated three_groups ≡ fault code.Assignable 0 30 33
  -- So is a package with a function that names such a constant.
  pub refused : reported with_function ≡ checked_fault code.Assignable 0 30 33
