-- Where a function stands in its file says nothing.
use Rattle.std.specs.Prelude.{◌≡◌, ℕ, ◌+◌}
use Rattle.go_grammar.specs.Trees.{Tree}
use Rattle.go_scopes_events.specs.Moved.{moved}
use Rattle.go_exprs_rules.specs.Scopes.{Scope}
use Rattle.go_stmts_defs.specs.Bodies.{based, body_answer_at}

-- A tree whose tokens stand n tokens further on, and with them the function's first one, tells the same.
pub record PlaceSaysNothing : Type 0 where
  pub tree : (n b : ℕ) (t : Tree) → based (n + b) (moved n t) ≡ based b t
  pub function : (n b : ℕ) (s : Scope) (number locals : ℕ) (types : ℕ → ℕ) (t : Tree) → body_answer_at (n + b) s number locals types (moved n t) ≡ body_answer_at b s number locals types t
