-- Expressions for worked examples: trees over tokens, and a function in which the examples stand.
--
-- The function has these declarations in scope, with two functions of the package:
--   type A [3]uint8; type T struct { a int; b string }; type D int; type S []int; type G func(int) int
--   var n int; var u uint; var x8 int8; var b bool; var t string; var s []int; var a3 [3]int; var v T; var d D
--   var f func(int, string) bool; var bs []byte; var ss S; const c8 int8 = 5; const k = 300; const cs string = "abc"
--   func two() (int, string); func do()
use Rattle.std.specs.Prelude.{ℕ, ◌+◌, ◌-◌, List, [], ◌∷◌, map, codes, Option, Some, None, Result, Err, pos, slice_get, true, false}
use Rattle.std.specs.Option.{option_map}
use Rattle.go_base.specs.declared.fault.FaultCode.{FaultCode}
use Rattle.go_ints.specs.declared.kinds.Kind.TheVariants as integer_kind
use Rattle.go_constants.specs.declared.values.Const.TheVariants as const
use Rattle.go_grammar.specs.declared.kind.Kind.TheVariants as kind
use Rattle.go_grammar.specs.declared.kind.Operator.{Operator}
use Rattle.go_grammar.specs.declared.kind.Sign.{Sign}
use Rattle.go_grammar.specs.Trees.{Tree, node, none, more, first, last}
use Rattle.go_tree.specs.declared.object.Object.{Object}
use Rattle.go_tree.specs.declared.object.Object.TheVariants as object
use Rattle.go_tree.specs.declared.object.Predeclared.{Predeclared}
use Rattle.go_types.specs.Trees.{boolean, text, integer, array, slice, structure, function, declared, row}
use Rattle.go_types.specs.Relations.{Rights}
use Rattle.go_typed.specs.declared.form.Referent.TheVariants as referent
use Rattle.go_typed.specs.Trees.{sort_of, parts_of, list_of}
use Rattle.go_typed.specs.Trees as sort
use Rattle.go_exprs_rules.specs.declared.fault.TypeFault.{TypeFault}
use Rattle.go_exprs_rules.specs.Faults.{judged, reported}
use Rattle.go_exprs_rules.specs.Sorts.{Stands, known}
use Rattle.go_exprs_rules.specs.Scopes.{Needed, in_full, Scope, Hint, value}
use Rattle.go_exprs_rules.specs.Typing.{typing, faults}

-- ---- trees

-- a token: its text and what it means
abbrev pub Word : Type 0
Word = List ℕ × Option Object

abbrev pub word : List ℕ → Word
word bytes = (bytes, None)

-- an operator, a parenthesis and the like
abbrev pub mark : Word
mark = ([], None)

abbrev pub predeclared_word : Predeclared → Word
predeclared_word p = ([], Some (object.Predeclared p))

abbrev pub local_word : List ℕ → ℕ → Word
local_word bytes n = (bytes, Some (object.Local 0 n))

abbrev pub fmt : Word
fmt = ([], Some object.Import)

-- an expression with its tokens
pub record Sentence : Type 0 where
  pub words : List Word
  pub tree : Tree

abbrev pub sentence : List Word → Tree → Sentence
sentence ws t = record { words = ws; tree = t }

abbrev pub name : ℕ → Tree
name i = node kind.Name i (i + 1) none

abbrev pub number : ℕ → Tree
number i = node kind.Integer i (i + 1) none

abbrev pub character : ℕ → Tree
character i = node kind.Rune i (i + 1) none

abbrev pub string : ℕ → Tree
string i = node kind.Text i (i + 1) none

abbrev pub infix_of : Operator → Tree → Tree → Tree
infix_of o x y = node (kind.Binary o) (first x) (last y) (more x (more y none))

abbrev pub prefix_of : Sign → Tree → Tree
prefix_of o x = node (kind.Unary o) (first x - 1) (last x) (more x none)

abbrev pub parens : Tree → Tree
parens x = node kind.Parenthesized (first x - 1) (last x + 1) (more x none)

-- ---- the function around the examples

-- the right sides of A, T, D, S and G
abbrev pub rights : Rights
rights =
    Some (array 3 (integer integer_kind.Uint8)) ∷
    Some (structure (codes "a" ∷ codes "b" ∷ []) (row ((integer integer_kind.Int) ∷ text ∷ []))) ∷
    Some (integer integer_kind.Int) ∷
    Some (slice (integer integer_kind.Int)) ∷
    Some (function (row ((integer integer_kind.Int) ∷ [])) (row ((integer integer_kind.Int) ∷ []))) ∷ []

-- its locals: the variables and constants, and behind them the types
abbrev pub locals : List Stands
locals =
    (sort.Value (integer integer_kind.Int)) ∷
    (sort.Value (integer integer_kind.Uint)) ∷
    (sort.Value (integer integer_kind.Int8)) ∷
    (sort.Value boolean) ∷
    (sort.Value text) ∷
    (sort.Value (slice (integer integer_kind.Int))) ∷
    (sort.Value (array 3 (integer integer_kind.Int))) ∷
    (sort.Value (declared 1)) ∷
    (sort.Value (declared 2)) ∷
    (sort.Value (function (row ((integer integer_kind.Int) ∷ text ∷ [])) (row (boolean ∷ [])))) ∷
    (sort.Value (slice (integer integer_kind.Uint8))) ∷
    (sort.Value (declared 3)) ∷
    (sort.Constant (integer integer_kind.Int8) (const.Int (pos 5) false)) ∷
    (sort.OpenConstant (const.Int (pos 300) false)) ∷
    (sort.Constant text (const.Text (97 ∷ 98 ∷ 99 ∷ []))) ∷
    sort.Unknown ∷
    (sort.IsType (declared 0)) ∷
    (sort.IsType (declared 1)) ∷
    (sort.IsType (declared 2)) ∷
    (sort.IsType (declared 3)) ∷
    (sort.IsType (declared 4)) ∷
    []

abbrev pub functions : List Stands
functions = (sort.Value (function (row ([])) (row ((integer integer_kind.Int) ∷ text ∷ [])))) ∷ (sort.Value (function (row ([])) (row ([])))) ∷ []

abbrev pub sorts : Needed → Object → Stands
sorts need (object.Local f n) = known (slice_get locals n)
sorts need (object.Package n) = known (slice_get functions n)
sorts need o = sort.Unknown

abbrev pub text_there : Option Word → List ℕ
text_there (Some w) = w.0
text_there None = []

abbrev pub meaning_there : Option Word → Option Object
meaning_there (Some w) = w.1
meaning_there None = None

abbrev pub scope_of : List Word → Scope
scope_of ws = record {
  rights = rights;
  iota = 0;
  texts = λ i. text_there (slice_get ws i);
  characters = λ i. text_there (slice_get ws i);
  objects = λ i. meaning_there (slice_get ws i);
  sorts = sorts;
  referents = λ n. referent.Function n;
  needed = in_full;
  limits = true;
}

-- what the expression stands for where it is told this, or the fault that is reported
abbrev pub told : Hint → Sentence → Result Stands TypeFault
told h e = judged (reported (faults (scope_of e.words) h e.tree)) (sort_of (typing (scope_of e.words) h e.tree))

abbrev pub typed_value : Sentence → Result Stands TypeFault
typed_value e = told value e

-- what the parts of its node stand for in the typed tree
abbrev pub part_sorts : Sentence → List (Option Stands)
part_sorts e = map (option_map sort_of) (list_of (parts_of (typing (scope_of e.words) value e.tree)))

abbrev pub fault : FaultCode → ℕ → ℕ → Result Stands TypeFault
fault c i j = Err (record { code = c; first = i; last = j })

-- ---- its names

abbrev pub n_word : Word
n_word = local_word (codes "n") 0

abbrev pub u_word : Word
u_word = local_word (codes "u") 1

abbrev pub x8_word : Word
x8_word = local_word (codes "x8") 2

abbrev pub b_word : Word
b_word = local_word (codes "b") 3

abbrev pub t_word : Word
t_word = local_word (codes "t") 4

abbrev pub s_word : Word
s_word = local_word (codes "s") 5

abbrev pub a3_word : Word
a3_word = local_word (codes "a3") 6

abbrev pub v_word : Word
v_word = local_word (codes "v") 7

abbrev pub d_word : Word
d_word = local_word (codes "d") 8

abbrev pub f_word : Word
f_word = local_word (codes "f") 9

abbrev pub bs_word : Word
bs_word = local_word (codes "bs") 10

abbrev pub ss_word : Word
ss_word = local_word (codes "ss") 11

abbrev pub k_word : Word
k_word = local_word (codes "k") 13

abbrev pub cs_word : Word
cs_word = local_word (codes "cs") 14

abbrev pub lost_word : Word
lost_word = local_word (codes "lost") 15

abbrev pub A_word : Word
A_word = local_word (codes "A") 16

abbrev pub T_word : Word
T_word = local_word (codes "T") 17

abbrev pub D_word : Word
D_word = local_word (codes "D") 18

abbrev pub S_word : Word
S_word = local_word (codes "S") 19

abbrev pub two_word : Word
two_word = (codes "two", Some (object.Package 0))

abbrev pub do_word : Word
do_word = (codes "do", Some (object.Package 1))
