-- Functions with their types, and what is reported of a body.
use Rattle.std.specs.Prelude.{ℕ, zero, suc, ◌-◌, List, [], ◌∷◌, length, map, Option, Some, None, Result}
use Rattle.go_grammar.specs.Trees.{Tree, node, Trees, none, more, skip, last}
use Rattle.go_types.specs.Trees.{TypeTree, function}
use Rattle.go_types.specs.Trees as types
use Rattle.std.specs.Option.{unwrap_or}
use Rattle.go_typed.specs.Contents.{FuncContent}
use Rattle.go_exprs_rules.specs.declared.fault.TypeFault.{TypeFault}
use Rattle.go_exprs_rules.specs.Faults.{judged, reported}
use Rattle.go_exprs_rules.specs.Settling.{Part}
use Rattle.go_exprs_rules.specs.Scopes.{Scope, free}
use Rattle.go_exprs_rules.specs.TypeNodes.{part_type}
use Rattle.go_exprs_rules.specs.Typing.{typing}
use Rattle.go_stmts_defs.specs.Frames.{Frame, Locals, local_stands}
use Rattle.go_stmts_defs.specs.Laying.{local_named}
use Rattle.go_stmts_defs.specs.Reading.{Reading, read, reading, first_parts, entry_names}
use Rattle.go_typed.specs.Trees as sort

-- ---- trees whose tokens are counted from the function's first one

abbrev mutual
  -- the tree with its tokens counted from the token b on
  pub based : ℕ → Tree → Tree
  based b (node k i j ps) = node k (i - b) (j - b) (all_based b ps)

  pub all_based : ℕ → Trees → Trees
  all_based b none = none
  all_based b (more p ps) = more (based b p) (all_based b ps)
  all_based b (skip ps) = skip (all_based b ps)

-- ---- functions

-- the first n numbers
abbrev pub numbers_from : ℕ → ℕ → List ℕ
numbers_from k zero = []
numbers_from k (suc n) = k ∷ numbers_from (suc k) n

abbrev pub no_locals : ℕ → Locals
no_locals zero = []
no_locals (suc n) = None ∷ no_locals n

-- Where a function begins: what is known around it, how many locals it has, and the numbers of its types
abbrev pub start : Scope → ℕ → (ℕ → ℕ) → Frame
start s n types = record { around = s; locals = no_locals n; types = types; source = None; tag = sort.Unknown; results = [] }

-- for each of the first n tokens the local that it names
abbrev pub token_locals : Scope → ℕ → List (Option ℕ)
token_locals s n = map (λ t. local_named (s.objects t)) (numbers_from 0 n)

abbrev pub signature_in : Trees → Option Tree
signature_in (more g ps) = Some g
signature_in ps = None

abbrev pub signature_part : Scope → Option Tree → Option Part
signature_part s (Some g) = Some (typing s free g)
signature_part s None = None

abbrev pub signature_of : Scope → Tree → Option Part
signature_of s (node k i j ps) = signature_part s (signature_in ps)

abbrev pub no_function : TypeTree
no_function = function types.none types.none

-- The function of this number, whose body was read to be x, and the locals of which stand for what the frame says
abbrev pub function_read : Scope → ℕ → ℕ → Option Part → Part → Frame → FuncContent
function_read s number n g x t = record {
  number = number;
  signature = unwrap_or (part_type g) no_function;
  parameters = entry_names (first_parts g);
  locals = map (local_stands t.locals) (numbers_from 0 (length t.locals));
  tokens = token_locals s n;
  tree = x;
}

abbrev pub answer_of : Scope → ℕ → Tree → Reading → Result FuncContent TypeFault
answer_of s number t (read x fs f) = judged (reported fs) (function_read s number (last t) (signature_of s t) x f)

-- Of the function of this number the typed function, or the fault that is reported: of the nodes in post-order the first one
-- that has a rule that fails decides. The tree counts its tokens from the function's first one, as the scope does.
abbrev pub body_answer : Scope → ℕ → ℕ → (ℕ → ℕ) → Tree → Result FuncContent TypeFault
body_answer s number locals types t = answer_of s number t (reading (start s locals types) free t)

-- the same of a tree whose first token has the number b in its file
abbrev pub body_answer_at : ℕ → Scope → ℕ → ℕ → (ℕ → ℕ) → Tree → Result FuncContent TypeFault
body_answer_at b s number locals types t = body_answer s number locals types (based b t)
