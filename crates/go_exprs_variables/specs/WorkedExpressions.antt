-- Worked expressions: the text of one, lexed and parsed, the text with the names of variables in place of constants, and what is typed of both.
--
-- They stand in the function of the worked expressions of the rules, with these declarations among others:
--   var n int; var u uint; var b bool; var s []int; var a3 [3]int; var f func(int, string) bool; type T struct { a int; b string }
-- Behind its own locals stand p0, p1, ..
use Rattle.std.specs.Prelude.{◌≡◌, ℕ, suc, ◌+◌, true, false, nat_eq, if◌then◌else◌, List, [], ◌∷◌, ◌++◌, map, length, codes, Option, Some, None, slice_get}
use Rattle.go_ints.specs.declared.kinds.Kind.TheVariants as integer_kind
use Rattle.go_grammar.specs.declared.kind.Arithmetic.TheVariants as arithmetic
use Rattle.go_grammar.specs.declared.kind.Category.TheVariants as category
use Rattle.go_grammar.specs.declared.kind.Comparison.TheVariants as comparison
use Rattle.go_grammar.specs.declared.kind.Kind.TheVariants as kind
use Rattle.go_grammar.specs.declared.kind.Level.TheVariants as level
use Rattle.go_grammar.specs.declared.kind.Operator.TheVariants as operator
use Rattle.go_grammar.specs.declared.kind.Place.TheVariants as place
use Rattle.go_grammar.specs.Reader.{read}
use Rattle.go_grammar.specs.Trees.{Tree, node, none, more, skip}
use Rattle.go_tokens.specs.declared.token.TokenKind.{TokenKind}
use Rattle.go_tokens.specs.declared.token.TokenKind.TheVariants as token
use Rattle.go_tokens.specs.Lexing.{join, is_token, tokens, Lexes}
use Rattle.go_tokens.specs.Tokens.{kinds}
use Rattle.go_tree.specs.declared.object.Object.{Object}
use Rattle.go_tree.specs.declared.object.Object.TheVariants as object
use Rattle.go_tree.specs.declared.object.Predeclared.TheVariants as predeclared
use Rattle.go_types.specs.Trees.{TypeTree, boolean, text, integer, slice, declared}
use Rattle.go_typed.specs.declared.sort.Untyped.TheVariants as untyped
use Rattle.go_typed.specs.Trees.{sort_of}
use Rattle.go_typed.specs.Trees as sort
use Rattle.go_exprs_rules.specs.Scopes.{Needed, Scope, value}
use Rattle.go_exprs_rules.specs.Sentences.{Word, word, locals, functions, scope_of, name, number, string, infix_of}
use Rattle.go_exprs_rules.specs.Sorts.{Stands, known, int}
use Rattle.go_exprs_rules.specs.Typing.{typing, faults}
use Rattle.go_exprs_variables.specs.Variables.{Standins, with_variables, begun, no_rule_fails}

-- A text, cut into pieces; the kinds of its tokens; the bytes of its words, each with what it means; and its tree.
pub record Expression : Type 0 where
  pub pieces : List (List ℕ)
  pub kinds : List TokenKind
  pub words : List Word
  pub tree : Tree

abbrev pub without_blanks : List (List ℕ) → List (List ℕ)
without_blanks [] = []
without_blanks (p ∷ ps) = if is_token p then p ∷ without_blanks ps else without_blanks ps

-- the text has this lexing, these words and this tree
pub record IsParsed (e : Expression) : Type 0 where
  pub lexes : Lexes 0 (join e.pieces) (tokens 0 0 e.pieces true) []
  pub kinds : kinds (tokens 0 0 e.pieces true) ≡ e.kinds
  pub words : without_blanks e.pieces ≡ map (λ (w : Word). w.0) e.words
  pub tree : read 60 e.kinds 20 (category.Expression level.Either place.Free) 0 ≡ Some e.tree

-- a constant in place of which a variable stands: its first token, the one behind its last, and the variable's type
pub record Hole : Type 0 where
  pub from : ℕ
  pub upto : ℕ
  pub type : TypeTree

abbrev pub hole : ℕ → ℕ → TypeTree → Hole
hole i j t = record { from = i; upto = j; type = t }

-- p0, p1, .. stand in place of these one after the other; n counts the locals in front
abbrev pub standing : ℕ → List Hole → Standins
standing n [] i = None
standing n (h ∷ hs) i = if nat_eq h.from i then Some (record { upto = h.upto; function = 0; local = n; type = h.type }) else standing (suc n) hs i

abbrev pub sorts_with : List Hole → Needed → Object → Stands
sorts_with hs need (object.Local f n) = known (slice_get (locals ++ map (λ (h : Hole). sort.Value h.type) hs) n)
sorts_with hs need (object.Package n) = known (slice_get functions n)
sorts_with hs need o = sort.Unknown

abbrev pub around : List Hole → Expression → Scope
around hs e = record (scope_of e.words) { sorts = sorts_with hs }

-- With variables in place of these constants the expression is the new one, no rule fails, and what is typed is what was typed, with the
-- variables in it.
pub record Varied (hs : List Hole) (old new : Expression) (result : Stands) : Type 0 where
  pub before : IsParsed old
  pub after : IsParsed new
  pub tree : with_variables (standing (length locals) hs) old.tree ≡ new.tree
  pub typed : typing (around hs new) value new.tree ≡ begun (standing (length locals) hs) false (typing (around hs old) value old.tree)
  pub failing : no_rule_fails (faults (around hs new) value new.tree) ≡ true
  pub stands : sort_of (typing (around hs new) value new.tree) ≡ result

-- ---- words

abbrev pub blank : List ℕ
blank = codes " "

abbrev pub named : List ℕ → Option Object → Word
named bytes o = (bytes, o)

abbrev pub local : ℕ → Option Object
local n = Some (object.Local 0 n)

abbrev pub parameter : ℕ → Option Object
parameter n = local (length locals + n)

abbrev pub int8 : TypeTree
int8 = integer integer_kind.Int8

abbrev pub bytes : TypeTree
bytes = slice (integer integer_kind.Uint8)

-- ---- the expressions

abbrev pub shift_before : Expression
shift_before = record {
  pieces = codes "1" ∷ blank ∷ codes "<<" ∷ blank ∷ codes "n" ∷ [];
  kinds = token.Integer ∷ token.ShiftLeft ∷ token.Identifier ∷ token.Semicolon ∷ [];
  words = word (codes "1") ∷ word (codes "<<") ∷ named (codes "n") (local 0) ∷ [];
  tree = infix_of (operator.Compute arithmetic.ShiftLeft) (number 0) (name 2);
}

abbrev pub shift_after : Expression
shift_after = record {
  pieces = codes "p0" ∷ blank ∷ codes "<<" ∷ blank ∷ codes "n" ∷ [];
  kinds = token.Identifier ∷ token.ShiftLeft ∷ token.Identifier ∷ token.Semicolon ∷ [];
  words = named (codes "p0") (parameter 0) ∷ word (codes "<<") ∷ named (codes "n") (local 0) ∷ [];
  tree = infix_of (operator.Compute arithmetic.ShiftLeft) (name 0) (name 2);
}

abbrev pub compared_shifts_before : Expression
compared_shifts_before = record {
  pieces = codes "1" ∷ codes "<<" ∷ codes "n" ∷ blank ∷ codes "==" ∷ blank ∷ codes "1" ∷ codes "<<" ∷ codes "u" ∷ [];
  kinds = token.Integer ∷ token.ShiftLeft ∷ token.Identifier ∷ token.Equal ∷ token.Integer ∷ token.ShiftLeft ∷ token.Identifier ∷ token.Semicolon ∷ [];
  words = word (codes "1") ∷ word (codes "<<") ∷ named (codes "n") (local 0) ∷ word (codes "==") ∷ word (codes "1") ∷ word (codes "<<") ∷ named (codes "u") (local 1) ∷ [];
  tree = infix_of (operator.Compare comparison.Equal) (infix_of (operator.Compute arithmetic.ShiftLeft) (number 0) (name 2)) (infix_of (operator.Compute arithmetic.ShiftLeft) (number 4) (name 6));
}

abbrev pub compared_shifts_after : Expression
compared_shifts_after = record {
  pieces = codes "p0" ∷ codes "<<" ∷ codes "n" ∷ blank ∷ codes "==" ∷ blank ∷ codes "p1" ∷ codes "<<" ∷ codes "u" ∷ [];
  kinds = token.Identifier ∷ token.ShiftLeft ∷ token.Identifier ∷ token.Equal ∷ token.Identifier ∷ token.ShiftLeft ∷ token.Identifier ∷ token.Semicolon ∷ [];
  words = named (codes "p0") (parameter 0) ∷ word (codes "<<") ∷ named (codes "n") (local 0) ∷ word (codes "==") ∷ named (codes "p1") (parameter 1) ∷ word (codes "<<") ∷ named (codes "u") (local 1) ∷ [];
  tree = infix_of (operator.Compare comparison.Equal) (infix_of (operator.Compute arithmetic.ShiftLeft) (name 0) (name 2)) (infix_of (operator.Compute arithmetic.ShiftLeft) (name 4) (name 6));
}

abbrev pub index_before : Expression
index_before = record {
  pieces = codes "a3" ∷ codes "[" ∷ codes "2" ∷ codes "]" ∷ [];
  kinds = token.Identifier ∷ token.LeftBracket ∷ token.Integer ∷ token.RightBracket ∷ token.Semicolon ∷ [];
  words = named (codes "a3") (local 6) ∷ word (codes "[") ∷ word (codes "2") ∷ word (codes "]") ∷ [];
  tree = node kind.Bracketed 0 4 (more (name 0) (more (number 2) none));
}

abbrev pub index_after : Expression
index_after = record {
  pieces = codes "a3" ∷ codes "[" ∷ codes "p0" ∷ codes "]" ∷ [];
  kinds = token.Identifier ∷ token.LeftBracket ∷ token.Identifier ∷ token.RightBracket ∷ token.Semicolon ∷ [];
  words = named (codes "a3") (local 6) ∷ word (codes "[") ∷ named (codes "p0") (parameter 0) ∷ word (codes "]") ∷ [];
  tree = node kind.Bracketed 0 4 (more (name 0) (more (name 2) none));
}

abbrev pub conjunction_before : Expression
conjunction_before = record {
  pieces = codes "true" ∷ blank ∷ codes "&&" ∷ blank ∷ codes "b" ∷ [];
  kinds = token.Identifier ∷ token.LogicalAnd ∷ token.Identifier ∷ token.Semicolon ∷ [];
  words = named (codes "true") (Some (object.Predeclared predeclared.True)) ∷ word (codes "&&") ∷ named (codes "b") (local 3) ∷ [];
  tree = infix_of operator.Both (name 0) (name 2);
}

abbrev pub conjunction_after : Expression
conjunction_after = record {
  pieces = codes "p0" ∷ blank ∷ codes "&&" ∷ blank ∷ codes "b" ∷ [];
  kinds = token.Identifier ∷ token.LogicalAnd ∷ token.Identifier ∷ token.Semicolon ∷ [];
  words = named (codes "p0") (parameter 0) ∷ word (codes "&&") ∷ named (codes "b") (local 3) ∷ [];
  tree = infix_of operator.Both (name 0) (name 2);
}

abbrev pub text_of_number_before : Expression
text_of_number_before = record {
  pieces = codes "string" ∷ codes "(" ∷ codes "n" ∷ codes "+" ∷ codes "1" ∷ codes ")" ∷ [];
  kinds = token.Identifier ∷ token.LeftParenthesis ∷ token.Identifier ∷ token.Plus ∷ token.Integer ∷ token.RightParenthesis ∷ token.Semicolon ∷ [];
  words = named (codes "string") (Some (object.Predeclared predeclared.String)) ∷ word (codes "(") ∷ named (codes "n") (local 0) ∷ word (codes "+") ∷ word (codes "1") ∷ word (codes ")") ∷ [];
  tree = node kind.Call 0 6 (more (name 0) (more (infix_of (operator.Compute arithmetic.Add) (name 2) (number 4)) none));
}

abbrev pub text_of_number_after : Expression
text_of_number_after = record {
  pieces = codes "string" ∷ codes "(" ∷ codes "n" ∷ codes "+" ∷ codes "p0" ∷ codes ")" ∷ [];
  kinds = token.Identifier ∷ token.LeftParenthesis ∷ token.Identifier ∷ token.Plus ∷ token.Identifier ∷ token.RightParenthesis ∷ token.Semicolon ∷ [];
  words = named (codes "string") (Some (object.Predeclared predeclared.String)) ∷ word (codes "(") ∷ named (codes "n") (local 0) ∷ word (codes "+") ∷ named (codes "p0") (parameter 0) ∷ word (codes ")") ∷ [];
  tree = node kind.Call 0 6 (more (name 0) (more (infix_of (operator.Compute arithmetic.Add) (name 2) (name 4)) none));
}

abbrev pub bytes_of_text_before : Expression
bytes_of_text_before = record {
  pieces = codes "[" ∷ codes "]" ∷ codes "byte" ∷ codes "(" ∷ codes "`ab`" ∷ codes ")" ∷ [];
  kinds = token.LeftBracket ∷ token.RightBracket ∷ token.Identifier ∷ token.LeftParenthesis ∷ token.Text ∷ token.RightParenthesis ∷ token.Semicolon ∷ [];
  words = word (codes "[") ∷ word (codes "]") ∷ named (codes "byte") (Some (object.Predeclared predeclared.Byte)) ∷ word (codes "(") ∷ word (codes "`ab`") ∷ word (codes ")") ∷ [];
  tree = node kind.Call 0 6 (more (node kind.SequenceType 0 3 (skip (more (name 2) none))) (more (string 4) none));
}

abbrev pub bytes_of_text_after : Expression
bytes_of_text_after = record {
  pieces = codes "[" ∷ codes "]" ∷ codes "byte" ∷ codes "(" ∷ codes "p0" ∷ codes ")" ∷ [];
  kinds = token.LeftBracket ∷ token.RightBracket ∷ token.Identifier ∷ token.LeftParenthesis ∷ token.Identifier ∷ token.RightParenthesis ∷ token.Semicolon ∷ [];
  words = word (codes "[") ∷ word (codes "]") ∷ named (codes "byte") (Some (object.Predeclared predeclared.Byte)) ∷ word (codes "(") ∷ named (codes "p0") (parameter 0) ∷ word (codes ")") ∷ [];
  tree = node kind.Call 0 6 (more (node kind.SequenceType 0 3 (skip (more (name 2) none))) (more (name 4) none));
}

abbrev pub arguments_before : Expression
arguments_before = record {
  pieces = codes "f" ∷ codes "(" ∷ codes "1" ∷ codes "," ∷ codes "`ab`" ∷ codes ")" ∷ [];
  kinds = token.Identifier ∷ token.LeftParenthesis ∷ token.Integer ∷ token.Comma ∷ token.Text ∷ token.RightParenthesis ∷ token.Semicolon ∷ [];
  words = named (codes "f") (local 9) ∷ word (codes "(") ∷ word (codes "1") ∷ word (codes ",") ∷ word (codes "`ab`") ∷ word (codes ")") ∷ [];
  tree = node kind.Call 0 6 (more (name 0) (more (number 2) (more (string 4) none)));
}

abbrev pub arguments_after : Expression
arguments_after = record {
  pieces = codes "f" ∷ codes "(" ∷ codes "p0" ∷ codes "," ∷ codes "p1" ∷ codes ")" ∷ [];
  kinds = token.Identifier ∷ token.LeftParenthesis ∷ token.Identifier ∷ token.Comma ∷ token.Identifier ∷ token.RightParenthesis ∷ token.Semicolon ∷ [];
  words = named (codes "f") (local 9) ∷ word (codes "(") ∷ named (codes "p0") (parameter 0) ∷ word (codes ",") ∷ named (codes "p1") (parameter 1) ∷ word (codes ")") ∷ [];
  tree = node kind.Call 0 6 (more (name 0) (more (name 2) (more (name 4) none)));
}

abbrev pub appended_before : Expression
appended_before = record {
  pieces = codes "append" ∷ codes "(" ∷ codes "s" ∷ codes "," ∷ codes "1" ∷ codes ")" ∷ [];
  kinds = token.Identifier ∷ token.LeftParenthesis ∷ token.Identifier ∷ token.Comma ∷ token.Integer ∷ token.RightParenthesis ∷ token.Semicolon ∷ [];
  words = named (codes "append") (Some (object.Predeclared predeclared.Append)) ∷ word (codes "(") ∷ named (codes "s") (local 5) ∷ word (codes ",") ∷ word (codes "1") ∷ word (codes ")") ∷ [];
  tree = node kind.Call 0 6 (more (name 0) (more (name 2) (more (number 4) none)));
}

abbrev pub appended_after : Expression
appended_after = record {
  pieces = codes "append" ∷ codes "(" ∷ codes "s" ∷ codes "," ∷ codes "p0" ∷ codes ")" ∷ [];
  kinds = token.Identifier ∷ token.LeftParenthesis ∷ token.Identifier ∷ token.Comma ∷ token.Identifier ∷ token.RightParenthesis ∷ token.Semicolon ∷ [];
  words = named (codes "append") (Some (object.Predeclared predeclared.Append)) ∷ word (codes "(") ∷ named (codes "s") (local 5) ∷ word (codes ",") ∷ named (codes "p0") (parameter 0) ∷ word (codes ")") ∷ [];
  tree = node kind.Call 0 6 (more (name 0) (more (name 2) (more (name 4) none)));
}

abbrev pub least_before : Expression
least_before = record {
  pieces = codes "min" ∷ codes "(" ∷ codes "n" ∷ codes "," ∷ codes "1" ∷ codes ")" ∷ [];
  kinds = token.Identifier ∷ token.LeftParenthesis ∷ token.Identifier ∷ token.Comma ∷ token.Integer ∷ token.RightParenthesis ∷ token.Semicolon ∷ [];
  words = named (codes "min") (Some (object.Predeclared predeclared.Min)) ∷ word (codes "(") ∷ named (codes "n") (local 0) ∷ word (codes ",") ∷ word (codes "1") ∷ word (codes ")") ∷ [];
  tree = node kind.Call 0 6 (more (name 0) (more (name 2) (more (number 4) none)));
}

abbrev pub least_after : Expression
least_after = record {
  pieces = codes "min" ∷ codes "(" ∷ codes "n" ∷ codes "," ∷ codes "p0" ∷ codes ")" ∷ [];
  kinds = token.Identifier ∷ token.LeftParenthesis ∷ token.Identifier ∷ token.Comma ∷ token.Identifier ∷ token.RightParenthesis ∷ token.Semicolon ∷ [];
  words = named (codes "min") (Some (object.Predeclared predeclared.Min)) ∷ word (codes "(") ∷ named (codes "n") (local 0) ∷ word (codes ",") ∷ named (codes "p0") (parameter 0) ∷ word (codes ")") ∷ [];
  tree = node kind.Call 0 6 (more (name 0) (more (name 2) (more (name 4) none)));
}

abbrev pub field_before : Expression
field_before = record {
  pieces = codes "T" ∷ codes "{" ∷ codes "a" ∷ codes ":" ∷ codes "1" ∷ codes "}" ∷ [];
  kinds = token.Identifier ∷ token.LeftBrace ∷ token.Identifier ∷ token.Colon ∷ token.Integer ∷ token.RightBrace ∷ token.Semicolon ∷ [];
  words = named (codes "T") (local 17) ∷ word (codes "{") ∷ word (codes "a") ∷ word (codes ":") ∷ word (codes "1") ∷ word (codes "}") ∷ [];
  tree = node kind.Composite 0 6 (more (name 0) (more (node kind.Keyed 2 5 (more (name 2) (more (number 4) none))) none));
}

abbrev pub field_after : Expression
field_after = record {
  pieces = codes "T" ∷ codes "{" ∷ codes "a" ∷ codes ":" ∷ codes "p0" ∷ codes "}" ∷ [];
  kinds = token.Identifier ∷ token.LeftBrace ∷ token.Identifier ∷ token.Colon ∷ token.Identifier ∷ token.RightBrace ∷ token.Semicolon ∷ [];
  words = named (codes "T") (local 17) ∷ word (codes "{") ∷ word (codes "a") ∷ word (codes ":") ∷ named (codes "p0") (parameter 0) ∷ word (codes "}") ∷ [];
  tree = node kind.Composite 0 6 (more (name 0) (more (node kind.Keyed 2 5 (more (name 2) (more (name 4) none))) none));
}

pub record WorkedExpressions : Type 0 where
  -- the left operand of a shift takes the type that its place gives: `1 << n`, where that is int8
  pub shift : Varied (hole 0 1 int8 ∷ []) shift_before shift_after (sort.Value int8)
  -- two shifts are compared in the default type: `1<<n == 1<<u`
  pub compared_shifts : Varied (hole 0 1 int ∷ hole 4 5 int ∷ []) compared_shifts_before compared_shifts_after (sort.Open untyped.Boolean)
  -- an index of an array of length 3: `a3[2]`
  pub index : Varied (hole 2 3 int ∷ []) index_before index_after (sort.Value int)
  -- `true && b`
  pub conjunction : Varied (hole 0 1 boolean ∷ []) conjunction_before conjunction_after (sort.Value boolean)
  -- a conversion that isn't constant, since its operand isn't: `string(n+1)`
  pub text_of_number : Varied (hole 4 5 int ∷ []) text_of_number_before text_of_number_after (sort.Value text)
  -- a text becomes bytes, which are no constant: `[]byte(..)`
  pub bytes_of_text : Varied (hole 4 5 text ∷ []) bytes_of_text_before bytes_of_text_after (sort.Value bytes)
  -- arguments of a function take the types of its parameters: `f(1, ..)`
  pub arguments : Varied (hole 2 3 int ∷ hole 4 5 text ∷ []) arguments_before arguments_after (sort.Value boolean)
  -- `append(s, 1)`
  pub appended : Varied (hole 4 5 int ∷ []) appended_before appended_after (sort.Value (slice int))
  -- `min(n, 1)`
  pub least : Varied (hole 4 5 int ∷ []) least_before least_after (sort.Value int)
  -- a field of a literal with its key: `T{a: 1}`
  pub field : Varied (hole 4 5 int ∷ []) field_before field_after (sort.Value (declared 1))
