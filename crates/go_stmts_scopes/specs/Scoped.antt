-- Expressions and functions that are lexically scoped (Go specification: Blocks, Declarations and scope).
use Rattle.std.specs.Prelude.{◌≡◌, ℕ, Bool, true, false, List}
use Rattle.go_types.specs.Trees.{TypeTree}
use Rattle.go_types.specs.Relations.{Rights}
use Rattle.go_typed.specs.Trees.{Typed}
use Rattle.go_meaning_simulation.specs.Locals.{In}
use Rattle.extract_runs.specs.Lexical.{Locals, lexical_links}
use Rattle.extract_runs.specs.Sound.{SoundExpression}
use Rattle.go_exprs_rules.specs.Scopes.{Hint, declares, free}
use Rattle.go_stmts_scopes.specs.Runs.{EachRead, EachPlaced}

-- locals whose properties are tests
abbrev pub tested : (named written declared : ℕ → Bool) (returns : Bool) → Locals
tested named written declared returns = record { named = λ i. named i ≡ true; written = λ i. written i ≡ true; declared = λ i. declared i ≡ true; returns = returns ≡ true }

-- a local that is in scope, and may be named
abbrev pub Reads : Locals → List ℕ → ℕ → Type 0
Reads n s k = In k s × n.named k

-- An expression is lexically scoped where these locals are in scope: for its value where each local that is read in it is one of them, and
-- as a place where the one that is written may be written too.
pub record IsScoped (n : Locals) (rights : Rights) (local : ℕ → ℕ) (gone : ℕ → Bool) (s : List ℕ) (x : Typed TypeTree) : Type 0 where
  pub value : EachRead (Reads n s) x → SoundExpression (lexical_links n) rights local gone s false x
  pub place : EachPlaced rights (Reads n s) n.written x → SoundExpression (lexical_links n) rights local gone s true x

-- whether a name stands where it is used, and not where it is declared
abbrev pub is_use : Hint → Bool
is_use declares = false
is_use free = false
is_use h = true
