-- What stands around statements of a block or a clause.
use Rattle.std.specs.Prelude.{◌≡◌, ℕ, suc, ◌⊎◌, true, Bool, false, List}
use Rattle.go_tokens.specs.declared.token.TokenKind.{TokenKind}
use Rattle.go_tokens.specs.declared.token.TokenKind.TheVariants as token
use Rattle.go_grammar.specs.declared.kind.Category.{Category}
use Rattle.go_grammar.specs.Grammar.{IsAt}
use Rattle.go_grammar.specs.Rules.{Items}
use Rattle.go_grammar.specs.Trees.{Tree, parts}
use Rattle.go_rewriting.specs.Lists.{IsRun}
use Rattle.go_rewriting.specs.Sites.{run_range}
use Rattle.go_print_laws.specs.Calls.{AreStatements}

-- what may stand directly in front of a statement of a list
abbrev pub opens : TokenKind → Bool
opens token.LeftBrace = true
opens token.Colon = true
opens token.Semicolon = true
opens w = false

-- one of these in front, and a semicolon or a closing brace behind
pub record IsEnclosed (ts : List TokenKind) (from upto : ℕ) : Type 0 where
  pub place : ℕ
  pub next : suc place ≡ from
  pub word : TokenKind
  pub is : IsAt ts place word
  pub opens : opens word ≡ true
  pub behind : (IsAt ts upto token.Semicolon) ⊎ (IsAt ts upto token.RightBrace)

-- Adjoining statements of a block or a clause are enclosed.
abbrev pub RunsAreEnclosed : Type 0
RunsAreEnclosed = (ts : List TokenKind) (c : Category) (t : Tree) (f n : ℕ) (list : Items) → AreStatements list → IsRun ts c t f n list
    → IsEnclosed ts (run_range f n (parts t)).from (run_range f n (parts t)).upto
