-- Statements for worked examples, in the function around the examples of expressions, with four locals more: p, q, r and z.
use Rattle.std.specs.Prelude.{ℕ, suc, ◌-◌, List, [], ◌∷◌, ◌++◌, codes, map, Some, None, Result, Ok, Err}
use Rattle.go_base.specs.declared.fault.FaultCode.{FaultCode}
use Rattle.go_grammar.specs.declared.kind.Kind.TheVariants as kind
use Rattle.go_grammar.specs.Trees.{Tree, node, Trees, none, more}
use Rattle.go_types.specs.Trees.{TypeTree}
use Rattle.go_typed.specs.Trees as sort
use Rattle.go_exprs_rules.specs.declared.fault.TypeFault.{TypeFault}
use Rattle.go_exprs_rules.specs.Faults.{judged, reported}
use Rattle.go_exprs_rules.specs.Sorts.{Stands}
use Rattle.go_exprs_rules.specs.Scopes.{free}
use Rattle.go_exprs_rules.specs.Sentences.{Word, local_word, locals}
use Rattle.go_exprs_rules.specs.Sentences as expressions
use Rattle.go_stmts_defs.specs.Frames.{Frame, Locals, local_stands}
use Rattle.go_stmts_defs.specs.Bodies.{numbers_from}
use Rattle.go_stmts_defs.specs.Reading.{Reading, read, reading}

abbrev pub p_word : Word
p_word = local_word (codes "p") 21

abbrev pub q_word : Word
q_word = local_word (codes "q") 22

abbrev pub r_word : Word
r_word = local_word (codes "r") 23

abbrev pub z_word : Word
z_word = local_word (codes "z") 24

abbrev pub all_locals : Locals
all_locals = map (λ x. Some x) locals ++ None ∷ None ∷ None ∷ None ∷ []

-- the frame in a function with these results; a type that is declared is number 5
abbrev pub frame_of : List TypeTree → List Word → Frame
frame_of ts ws = record {
  around = record (expressions.scope_of ws) { rights = expressions.rights ++ None ∷ [] };
  locals = all_locals;
  types = λ n. 5;
  source = None;
  tag = sort.Unknown;
  results = ts;
}

abbrev pub outcome : Reading → Result (List Stands) TypeFault
outcome (read x fs s) = judged (reported fs) (map (local_stands s.locals) (numbers_from 21 4))

-- what the four locals stand for behind the statement, or the fault that is reported
abbrev pub stated_in : List TypeTree → List Word → Tree → Result (List Stands) TypeFault
stated_in ts ws t = outcome (reading (frame_of ts ws) free t)

abbrev pub stated : List Word → Tree → Result (List Stands) TypeFault
stated ws t = stated_in [] ws t

abbrev pub refused : FaultCode → ℕ → ℕ → Result (List Stands) TypeFault
refused c i j = Err (record { code = c; first = i; last = j })

-- none of the four is declared
abbrev pub good : Result (List Stands) TypeFault
good = Ok (sort.Unknown ∷ sort.Unknown ∷ sort.Unknown ∷ sort.Unknown ∷ [])

-- p is declared, and q behind it
abbrev pub one_declared : Stands → Result (List Stands) TypeFault
one_declared x = Ok (x ∷ sort.Unknown ∷ sort.Unknown ∷ sort.Unknown ∷ [])

abbrev pub two_declared : Stands → Stands → Result (List Stands) TypeFault
two_declared x y = Ok (x ∷ y ∷ sort.Unknown ∷ sort.Unknown ∷ [])

-- ---- trees

abbrev pub one : Tree → Trees
one x = more x none

abbrev pub two : Tree → Tree → Trees
two x y = more x (more y none)

-- from i up to j, the values from m on
abbrev pub assignment : ℕ → ℕ → ℕ → Trees → Trees → Tree
assignment i m j ls rs = node kind.Assignment i j (two (node kind.Targets i m (one (node kind.ExpressionList i (m - 1) ls))) (node kind.ExpressionList m j rs))

abbrev pub definition : ℕ → ℕ → ℕ → Trees → Trees → Tree
definition i m j ls rs = node kind.Define i j (two (node kind.NewNames i m (one (node kind.ExpressionList i (m - 1) ls))) (node kind.ExpressionList m j rs))

abbrev pub statement : ℕ → ℕ → Tree → Tree
statement i j x = node kind.ExpressionStatement i j (one x)

abbrev pub block : ℕ → ℕ → Trees → Tree
block i j ps = node kind.Block i j ps

abbrev pub declared_name : ℕ → Tree
declared_name i = node kind.DeclaredName i (suc i) none

-- `= ..`, with values from behind the sign on
abbrev pub values : ℕ → ℕ → Trees → Tree
values i j ps = node kind.Values i j (one (node kind.ExpressionList (suc i) j ps))
