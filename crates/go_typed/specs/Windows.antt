-- The statements and the tokens of a window, and the locals that are named in it.
use Rattle.std.specs.Prelude.{ℕ, zero, suc, ◌+◌, ◌-◌, List, [], ◌∷◌, ◌++◌, Option, Some, None, slice_get}
use Rattle.go_typed.specs.declared.walk.LocalUse.{LocalUse}
use Rattle.go_typed.specs.declared.window.Window.{Window}
use Rattle.go_typed.specs.Funcs.{FuncView, named_at, tree_of}
use Rattle.go_typed.specs.Lists.{statement_lists, statements_of}
use Rattle.go_typed.specs.Trees.{Typed, first_of, last_of}

-- from one token up to another
pub record Range : Type 0 where
  pub from : ℕ
  pub to : ℕ

-- from the first token of the one to the last one of the other
abbrev pub between : Option (Typed ℕ) → Option (Typed ℕ) → Option Range
between (Some x) (Some y) = Some (record { from = first_of x; to = last_of y })
between x y = None

-- the tokens from the statement of the one number of a statement list to that of the other
abbrev pub range_in : Option (Typed ℕ) → ℕ → ℕ → Option Range
range_in None i j = None
range_in (Some l) i j = between (slice_get (statements_of l) i) (slice_get (statements_of l) j)

-- the tokens of a window of a function with this tree
abbrev pub tokens_of : Typed ℕ → Window → Option Range
tokens_of x w = range_in (slice_get (statement_lists x) w.list) w.first (w.first + w.count - 1)

abbrev pub range_of : FuncView → Window → Option Range
range_of f w = tokens_of (tree_of f) w

-- that a token names this local
abbrev pub use_at : ℕ → Option ℕ → List LocalUse
use_at i None = []
use_at i (Some n) = record { local = n; token = i } ∷ []

-- of each of n tokens from the token i on, the local that it names
abbrev pub uses_from : List (Option ℕ) → ℕ → ℕ → List LocalUse
uses_from tokens i zero = []
uses_from tokens i (suc n) = use_at i (named_at tokens i) ++ uses_from tokens (suc i) n

abbrev pub uses_within : List (Option ℕ) → Option Range → List LocalUse
uses_within tokens None = []
uses_within tokens (Some r) = uses_from tokens r.from (r.to - r.from)

-- the locals that are named in a window, in the order of tokens
abbrev pub uses_in : List (Option ℕ) → Typed ℕ → Window → List LocalUse
uses_in tokens x w = uses_within tokens (tokens_of x w)

abbrev pub local_uses : FuncView → Window → List LocalUse
local_uses f w = uses_in f.tokens (tree_of f) w
