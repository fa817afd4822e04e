-- Worked examples: a function that nothing names, appended to a package of one file, and to the first of two.
use Rattle.std.specs.Prelude.{◌≡◌, List, [], ◌∷◌, ◌++◌, codes, Ok}
use Rattle.go_ints.specs.declared.kinds.Kind.TheVariants as integer_kind
use Rattle.go_tokens.specs.declared.token.TokenKind.TheVariants as token
use Rattle.go_types.specs.Trees.{TypeTree, integer, function, row}
use Rattle.go_exprs_rules.specs.Sorts.{Stands}
use Rattle.go_typed.specs.Trees as sort
use Rattle.go_package_defs.specs.Sentences.{Word, sources_from, stated}
use Rattle.go_package_defs.specs.Sources.{Source}
use Rattle.go_package_added.specs.Appended.{AreClosed, package_in}

abbrev pub int : TypeTree
int = integer integer_kind.Int

-- what a function of one number to a number stands for, and one of two numbers
abbrev pub of_one : Stands
of_one = sort.Value (function (row (int ∷ [])) (row (int ∷ [])))

abbrev pub of_two : Stands
of_two = sort.Value (function (row (int ∷ int ∷ [])) (row (int ∷ [])))

-- package p ;
abbrev pub clause : List Word
clause = (
    (token.Package, codes "package") ∷ (token.Identifier, codes "p") ∷ (token.Semicolon, codes ";") ∷ [])

-- func f ( a int ) int { b := a + 1 ; b = b * 2 ; return b ; } ;
abbrev pub first : List Word
first = (
    (token.Func, codes "func") ∷ (token.Identifier, codes "f") ∷ (token.LeftParenthesis, codes "(") ∷ (token.Identifier, codes "a") ∷
    (token.Identifier, codes "int") ∷ (token.RightParenthesis, codes ")") ∷ (token.Identifier, codes "int") ∷ (token.LeftBrace, codes "{") ∷
    (token.Identifier, codes "b") ∷ (token.Define, codes ":=") ∷ (token.Identifier, codes "a") ∷ (token.Plus, codes "+") ∷
    (token.Integer, codes "1") ∷ (token.Semicolon, codes ";") ∷ (token.Identifier, codes "b") ∷ (token.Assign, codes "=") ∷
    (token.Identifier, codes "b") ∷ (token.Star, codes "*") ∷ (token.Integer, codes "2") ∷ (token.Semicolon, codes ";") ∷
    (token.Return, codes "return") ∷ (token.Identifier, codes "b") ∷ (token.Semicolon, codes ";") ∷ (token.RightBrace, codes "}") ∷
    (token.Semicolon, codes ";") ∷ [])

-- func g ( x int ) int { y := x + 5 ; y = y * 2 ; return y ; } ;
abbrev pub second : List Word
second = (
    (token.Func, codes "func") ∷ (token.Identifier, codes "g") ∷ (token.LeftParenthesis, codes "(") ∷ (token.Identifier, codes "x") ∷
    (token.Identifier, codes "int") ∷ (token.RightParenthesis, codes ")") ∷ (token.Identifier, codes "int") ∷ (token.LeftBrace, codes "{") ∷
    (token.Identifier, codes "y") ∷ (token.Define, codes ":=") ∷ (token.Identifier, codes "x") ∷ (token.Plus, codes "+") ∷
    (token.Integer, codes "5") ∷ (token.Semicolon, codes ";") ∷ (token.Identifier, codes "y") ∷ (token.Assign, codes "=") ∷
    (token.Identifier, codes "y") ∷ (token.Star, codes "*") ∷ (token.Integer, codes "2") ∷ (token.Semicolon, codes ";") ∷
    (token.Return, codes "return") ∷ (token.Identifier, codes "y") ∷ (token.Semicolon, codes ";") ∷ (token.RightBrace, codes "}") ∷
    (token.Semicolon, codes ";") ∷ [])

-- func addmul ( x int , p0 int ) int { } ;
abbrev pub added : List Word
added = (
    (token.Func, codes "func") ∷ (token.Identifier, codes "addmul") ∷ (token.LeftParenthesis, codes "(") ∷ (token.Identifier, codes "x") ∷
    (token.Identifier, codes "int") ∷ (token.Comma, codes ",") ∷ (token.Identifier, codes "p0") ∷ (token.Identifier, codes "int") ∷
    (token.RightParenthesis, codes ")") ∷ (token.Identifier, codes "int") ∷ (token.LeftBrace, codes "{") ∷ (token.RightBrace, codes "}") ∷
    (token.Semicolon, codes ";") ∷ [])

pub record Examples : Type 0 where
  -- Two functions of one file, and behind them the new one.
  pub one : stated ((clause ++ first ++ second) ∷ []) ≡ Ok (of_one ∷ of_one ∷ [])
  pub one_more : stated ((clause ++ first ++ second ++ added) ∷ []) ≡ Ok (of_one ∷ of_one ∷ of_two ∷ [])
  -- A function in each of two files, and the new one between: the second has the next number.
  pub two : stated ((clause ++ first) ∷ (clause ++ second) ∷ []) ≡ Ok (of_one ∷ of_one ∷ [])
  pub two_more : stated ((clause ++ first ++ added) ∷ (clause ++ second) ∷ []) ≡ Ok (of_one ∷ of_two ∷ of_one ∷ [])

-- package p ; type T [ ] T ; func f ( a T ) T { return a ; } ;
abbrev pub recursive : List Word
recursive = (
    (token.Package, codes "package") ∷ (token.Identifier, codes "p") ∷ (token.Semicolon, codes ";") ∷ (token.Type, codes "type") ∷
    (token.Identifier, codes "T") ∷ (token.LeftBracket, codes "[") ∷ (token.RightBracket, codes "]") ∷ (token.Identifier, codes "T") ∷
    (token.Semicolon, codes ";") ∷ (token.Func, codes "func") ∷ (token.Identifier, codes "f") ∷ (token.LeftParenthesis, codes "(") ∷
    (token.Identifier, codes "a") ∷ (token.Identifier, codes "T") ∷ (token.RightParenthesis, codes ")") ∷ (token.Identifier, codes "T") ∷
    (token.LeftBrace, codes "{") ∷ (token.Return, codes "return") ∷ (token.Identifier, codes "a") ∷ (token.Semicolon, codes ";") ∷
    (token.RightBrace, codes "}") ∷ (token.Semicolon, codes ";") ∷ [])

abbrev pub Closed : List Source → Type 0
Closed ss = AreClosed (package_in ss)

-- A package with a type that needs itself, and a function that needs it: two rounds more find no further needs.
pub record ClosedExamples : Type 0 where
  pub recursive : Closed (sources_from 0 (recursive ∷ []))
