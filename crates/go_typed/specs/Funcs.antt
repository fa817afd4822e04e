-- Functions with their types as contracts see them, and what every one of them meets.
use Rattle.std.specs.Prelude.{◌≡◌, ℕ, suc, ◌+◌, ◌^◌, ◌<◌, Bool, true, false, ◌&&◌, ◌||◌, not, nat_eq, nat_lt, nat_le, List, [], ◌∷◌, length, Option, Some, None, slice_get}
use Rattle.go_typed.specs.declared.node.TypedNode.{TypedNode}
use Rattle.go_typed.specs.Views.{view}
use Rattle.go_typed.specs.Forms.{is_function, is_holder, is_statement_list, local_of}
use Rattle.go_typed.specs.Trees.{Sort, Typed, typed, Typeds, none, more, skip, form_of, first_of, last_of}

-- Its number and the number of its type; which local each parameter is and each token names, if it does; what its locals stand
-- for; and its tree.
pub record FuncView : Type 0 where
  pub number : ℕ
  pub signature : ℕ
  pub parameters : List (Option ℕ)
  pub locals : List (Sort ℕ)
  pub tokens : List (Option ℕ)
  pub root : TypedNode

abbrev pub tree_of : FuncView → Typed ℕ
tree_of f = view f.root

-- ---- trees

abbrev mutual
  -- whether the parts of each node lie one after the other inside its range
  pub is_tiled : {T : Type 0} → Typed T → Bool
  is_tiled (typed f i j l ps) = are_tiled i j ps

  -- whether parts lie one after the other from the token i up to j: each begins where the one before ends, or behind that
  pub are_tiled : {T : Type 0} → ℕ → ℕ → Typeds T → Bool
  are_tiled i j none = nat_le i j
  are_tiled i j (more p ps) = nat_le i (first_of p) && is_tiled p && are_tiled (last_of p) j ps
  are_tiled i j (skip ps) = are_tiled i j ps

-- the local that a token names, if it names one
abbrev pub named : Option (Option ℕ) → Option ℕ
named None = None
named (Some o) = o

abbrev pub named_at : List (Option ℕ) → ℕ → Option ℕ
named_at tokens t = named (slice_get tokens t)

-- whether it is this local
abbrev pub is_this : ℕ → Option ℕ → Bool
is_this n None = false
is_this n (Some m) = nat_eq n m

-- whether a node at a token names what the token names, if it names a local
abbrev pub is_named_so : Option ℕ → Option ℕ → Bool
is_named_so named None = true
is_named_so named (Some n) = is_this n named

-- whether no part is left out
abbrev pub is_full : {T : Type 0} → Typeds T → Bool
is_full none = true
is_full (more p ps) = is_full ps
is_full (skip ps) = false

abbrev mutual
  -- whether no node is a holder, each that names a local stands at a token that names the same local, and statement lists have
  -- all their parts
  pub is_whole : {T : Type 0} → List (Option ℕ) → Typed T → Bool
  is_whole tokens (typed f i j l ps) = not (is_holder f) && is_named_so (named_at tokens i) (local_of f) && (not (is_statement_list f) || is_full ps) && are_whole tokens ps

  pub are_whole : {T : Type 0} → List (Option ℕ) → Typeds T → Bool
  are_whole tokens none = true
  are_whole tokens (more p ps) = is_whole tokens p && are_whole tokens ps
  are_whole tokens (skip ps) = are_whole tokens ps

abbrev mutual
  -- how many nodes a tree has
  pub size : {T : Type 0} → Typed T → ℕ
  size (typed f i j l ps) = suc (sizes ps)

  pub sizes : {T : Type 0} → Typeds T → ℕ
  sizes none = 0
  sizes (more p ps) = size p + sizes ps
  sizes (skip ps) = sizes ps

-- ---- functions

-- whether the numbers that are there lie below n
abbrev pub are_below : ℕ → List (Option ℕ) → Bool
are_below n [] = true
are_below n (None ∷ ms) = are_below n ms
are_below n (Some m ∷ ms) = nat_lt m n && are_below n ms

-- What every function meets. Its tokens are counted from its first one, and its tree stands over all of them. The parts of each
-- node lie one after the other inside its range. No node is left that only holds parts, and of a statement list no part is left
-- out. The locals that parameters are and
-- tokens and nodes name are among the locals, and a node and its token name the same local. Nodes can be numbered.
pub record IsTypedFunc (f : FuncView) : Type 0 where
  pub root : is_function (form_of (tree_of f)) ≡ true
  pub first : first_of (tree_of f) ≡ 0
  pub last : last_of (tree_of f) ≡ length f.tokens
  pub tiles : is_tiled (tree_of f) ≡ true
  pub whole : is_whole f.tokens (tree_of f) ≡ true
  pub parameters : are_below (length f.locals) f.parameters ≡ true
  pub tokens : are_below (length f.locals) f.tokens ≡ true
  pub nodes : size (tree_of f) < 2 ^ 32
