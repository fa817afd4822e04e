-- The nodes of a typed tree by number, and the innermost one over a token.
use Rattle.std.specs.Prelude.{◌≡◌, ℕ, ◌+◌, ◌<◌, ◌≤◌, Bool, true, ◌&&◌, if◌then◌else◌, nat_le, nat_lt, List, [], ◌∷◌, ◌++◌, Some, slice_get}
use Rattle.go_typed.specs.Funcs.{size}
use Rattle.go_typed.specs.Trees.{Typed, typed, Typeds, none, more, skip, first_of, last_of}

abbrev mutual
  -- the nodes of a tree, each before those within it and otherwise in order of place
  pub nodes : {T : Type 0} → Typed T → List (Typed T)
  nodes (typed f i j l ps) = typed f i j l ps ∷ nodes_among ps

  pub nodes_among : {T : Type 0} → Typeds T → List (Typed T)
  nodes_among none = []
  nodes_among (more p ps) = nodes p ++ nodes_among ps
  nodes_among (skip ps) = nodes_among ps

-- whether a node stands over a token
abbrev pub covers : {T : Type 0} → Typed T → ℕ → Bool
covers x t = nat_le (first_of x) t && nat_lt t (last_of x)

-- The node of this number stands over the token, and each node that does is this one or has it inside: the numbers of what is
-- inside a node follow its own.
pub record IsInnermost {T : Type 0} (x : Typed T) (t n : ℕ) : Type 0 where
  pub node : Typed T
  pub node_is : slice_get (nodes x) n ≡ Some node
  pub over : covers node t ≡ true
  pub around : (m : ℕ) (y : Typed T) → slice_get (nodes x) m ≡ Some y → covers y t ≡ true → (m ≤ n) × (n < m + size y)

abbrev mutual
  -- the number of the innermost node over a token, where the tree stands over it
  pub innermost : {T : Type 0} → ℕ → Typed T → ℕ
  innermost t (typed f i j l ps) = innermost_among t 1 ps

  -- the same among parts, the first of which has the number n; 0 where none of them stands over the token
  pub innermost_among : {T : Type 0} → ℕ → ℕ → Typeds T → ℕ
  innermost_among t n none = 0
  innermost_among t n (more p ps) = if covers p t then n + innermost t p else innermost_among t (n + size p) ps
  innermost_among t n (skip ps) = innermost_among t n ps
