-- Worked lists with other statements in place of some: the old list, the new one, and what is read of both.
use Rattle.std.specs.Prelude.{◌≡◌, ℕ, ◌+◌, nat_lt, true, if◌then◌else◌, List, [], ◌∷◌, ◌++◌, codes, Some, None}
use Rattle.go_grammar.specs.declared.kind.Arithmetic.TheVariants as arithmetic
use Rattle.go_grammar.specs.declared.kind.Kind.TheVariants as kind
use Rattle.go_grammar.specs.declared.kind.Operator.TheVariants as operator
use Rattle.go_grammar.specs.declared.kind.Sort.TheVariants as declaring
use Rattle.go_grammar.specs.Trees.{Tree, node, Trees, none, more, skip, onto}
use Rattle.go_rewriting.specs.Places.{carries}
use Rattle.go_tree.specs.declared.object.Object.{Object}
use Rattle.go_tree.specs.declared.object.Object.TheVariants as object
use Rattle.go_tree.specs.declared.object.Predeclared.TheVariants as predeclared
use Rattle.go_types.specs.Trees.{function, row}
use Rattle.go_typed.specs.Trees as sort
use Rattle.go_exprs_rules.specs.Faults.{reported}
use Rattle.go_exprs_rules.specs.Scopes.{Needed, value}
use Rattle.go_exprs_rules.specs.Sentences.{Word, word, mark, predeclared_word, local_word, name, number, infix_of}
use Rattle.go_exprs_rules.specs.Sentences as expressions
use Rattle.go_exprs_rules.specs.Sorts.{Stands, int}
use Rattle.go_stmts_defs.specs.Frames.{Frame, local_stands}
use Rattle.go_stmts_defs.specs.Reading.{readings}
use Rattle.go_stmts_defs.specs.Sentences.{one, two, assignment, definition, declared_name}
use Rattle.go_exprs_elsewhere.specs.Elsewhere.{Moves}
use Rattle.go_stmts_elsewhere.specs.Frames.{parts_placed}
use Rattle.go_stmts_elsewhere.specs.Gaps.{run, parts_in, found_in, behind, GapRead}

-- ---- what is known around them

-- of the package only the function of this number: func h(a int, p0 int) int
abbrev pub sorts : Needed → Object → Stands
sorts need (object.Package n) = sort.Value (function (row (int ∷ int ∷ [])) (row (int ∷ [])))
sorts need o = sort.Unknown

-- in func f(a int) int, whose locals are a, b and c, and which has these words
abbrev pub frame_of : List Word → Frame
frame_of ws = record {
  around = record (expressions.scope_of ws) { rights = []; sorts = sorts };
  locals = Some (sort.Value int) ∷ None ∷ None ∷ [];
  types = λ n. 0;
  source = None;
  tag = sort.Value int;
  results = int ∷ [];
}

abbrev pub a_word : Word
a_word = local_word (codes "a") 0

abbrev pub b_word : Word
b_word = local_word (codes "b") 1

abbrev pub c_word : Word
c_word = local_word (codes "c") 2

abbrev pub h_word : Word
h_word = (codes "h", Some (object.Package 0))

-- tokens behind the first k stand n further on
abbrev pub behind_first : ℕ → ℕ → Moves
behind_first k n = record {
  token = λ i. if nat_lt i k then i else n + i;
  spelled = λ i. true;
  local = λ i. i;
  constant = λ i. i;
  type = λ i. i;
  variable = λ i. i;
  function = λ i. i;
}

-- a and b stand for the same in both frames
abbrev pub Known : Frame → Frame → Type 0
Known f g = (local_stands g.locals 0 ≡ local_stands f.locals 0) × (local_stands g.locals 1 ≡ local_stands f.locals 1)

-- ---- statements, by their first tokens

-- b := a + 1
abbrev pub sum : ℕ → Tree
sum i = definition i (2 + i) (5 + i) (one (name i)) (one (infix_of (operator.Compute arithmetic.Add) (name (2 + i)) (number (4 + i))))

-- b = b * 2
abbrev pub double : ℕ → Tree
double i = assignment i (2 + i) (5 + i) (one (name i)) (one (infix_of (operator.Compute arithmetic.Multiply) (name (2 + i)) (number (4 + i))))

-- var b int
abbrev pub declaration : ℕ → Tree
declaration i =
    node (kind.Declaration declaring.Variable) i (3 + i)
    (one (node (kind.Specification declaring.Variable) (1 + i) (3 + i) (two (node kind.NameList (1 + i) (2 + i) (one (declared_name (1 + i)))) (node kind.TypedValues (2 + i) (3 + i) (more (name (2 + i)) (skip none))))))

-- b = h(a, 1)
abbrev pub call : ℕ → Tree
call i = assignment i (2 + i) (8 + i) (one (name i)) (one (node kind.Call (2 + i) (8 + i) (more (name (2 + i)) (two (name (4 + i)) (number (6 + i))))))

-- return b
abbrev pub returned : ℕ → Tree
returned i = node kind.Return i (2 + i) (one (node kind.ExpressionList (1 + i) (2 + i) (one (name (1 + i)))))

abbrev pub sum_words : List Word
sum_words = b_word ∷ mark ∷ a_word ∷ mark ∷ word (codes "1") ∷ mark ∷ []

abbrev pub double_words : List Word
double_words = b_word ∷ mark ∷ b_word ∷ mark ∷ word (codes "2") ∷ mark ∷ []

abbrev pub declaration_words : List Word
declaration_words = mark ∷ b_word ∷ predeclared_word predeclared.Int ∷ mark ∷ []

abbrev pub call_words : List Word
call_words = b_word ∷ mark ∷ h_word ∷ mark ∷ a_word ∷ mark ∷ word (codes "1") ∷ mark ∷ mark ∷ []

abbrev pub return_words : List Word
return_words = mark ∷ b_word ∷ mark ∷ []

-- ---- b := a + 1; b = b * 2; return b, where the first two become var b int; b = h(a, 1)

abbrev pub window : Trees
window = two (sum 0) (double 6)

abbrev pub site : Trees
site = two (declaration 0) (call 4)

abbrev pub first_class : Frame
first_class = frame_of (sum_words ++ double_words ++ return_words)

abbrev pub first_site : Frame
first_site = frame_of (declaration_words ++ call_words ++ return_words)

-- ---- case 1: a = 1; b := a + 1; b = b * 2, with the window at the end of the clause

-- a = 1
abbrev pub first_step : ℕ → Tree
first_step i = assignment i (2 + i) (3 + i) (one (name i)) (one (number (2 + i)))

abbrev pub case_words : List Word
case_words = mark ∷ word (codes "1") ∷ mark ∷ a_word ∷ mark ∷ word (codes "1") ∷ mark ∷ []

abbrev pub clause_before : Frame
clause_before = frame_of (case_words ++ sum_words ++ double_words)

abbrev pub clause_after : Frame
clause_after = frame_of (case_words ++ declaration_words ++ call_words)

abbrev pub case_values : Tree
case_values = node kind.ExpressionList 1 2 (one (number 1))

-- ---- b := a + 1; b = b * 2; a = b; b = b * 2; return b, where b := .. becomes var b int; b = h(a, 1), and the second b = b * 2 becomes b = h(a, 1)

-- a = b
abbrev pub kept : ℕ → Tree
kept i = assignment i (2 + i) (3 + i) (one (name i)) (one (name (2 + i)))

abbrev pub kept_words : List Word
kept_words = a_word ∷ mark ∷ b_word ∷ mark ∷ []

abbrev pub two_before : Frame
two_before = frame_of (sum_words ++ double_words ++ kept_words ++ double_words ++ return_words)

abbrev pub two_after : Frame
two_after = frame_of (declaration_words ++ call_words ++ kept_words ++ call_words ++ return_words)

-- tokens of the statement between the windows stand one further on, and those behind the second one four
abbrev pub twice : Moves
twice = record (behind_first 12 1) { token = λ i. if nat_lt i 12 then i else (if nat_lt i 16 then 1 + i else 4 + i) }

-- what is read of a list with two windows, and of the one with calls in their place
pub record TwoGaps (m : Moves) (f g : Frame) (old between later rest new second : Trees) : Type 0 where
  pub read :
      let b = carries m.token between in
      let whole = run g (onto new (onto b (onto second (carries m.token rest)))) in
      parts_in whole ≡ parts_in (run g new) ++ (parts_placed m (parts_in (run (behind f old) between))
      ++ (parts_in (run (behind (behind g new) b) second) ++ parts_placed m (parts_in (run (behind (behind (behind f old) between) later) rest))))
  pub faultless : reported (found_in (run g (onto new (onto (carries m.token between) (onto second (carries m.token rest)))))) ≡ None

pub record WorkedGaps : Type 0 where
  -- the first worked class
  pub replaced : GapRead (behind_first 12 1) Known first_class first_site none window site (one (returned 12))
  pub no_rule_fails : reported (found_in (run first_site (onto site (one (returned 13))))) ≡ None
  -- the values of a clause, a statement in front of the window, and nothing behind it
  pub clause : GapRead (behind_first 19 1) Known clause_before clause_after (one (first_step 3)) (two (sum 7) (double 13)) (two (declaration 7) (call 11)) none
  pub clause_faultless : reported (found_in (readings clause_after kind.Case value none [] [] (more case_values (more (first_step 3) (two (declaration 7) (call 11)))))) ≡ None
  pub twice_replaced : TwoGaps twice two_before two_after window (one (kept 12)) (one (double 16)) (one (returned 22)) site (one (call 17))
