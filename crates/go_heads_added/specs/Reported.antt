-- What is asked besides, so that the fault that is reported of names is the same where a function is appended.
use Rattle.std.specs.Prelude.{◌≡◌, ◌<◌, ◌≤◌, ℕ, suc, true, false, List, [], Option, Some, None, codes}
use Rattle.std.specs.List.{AllByRecursion}
use Rattle.go_tokens.specs.Tokens.{TokenList}
use Rattle.go_tokens.specs.declared.token.TokenKind.{TokenKind}
use Rattle.go_grammar.specs.Grammar.{IsFile}
use Rattle.go_grammar.specs.Trees.{Tree, first, last}
use Rattle.go_tokens.specs.Spellings.{same_text}
use Rattle.go_tree.specs.Contexts.{file_context, is_package}
use Rattle.go_tree.specs.Events.{events}
use Rattle.go_tree.specs.declared.event.Event.{Event}
use Rattle.go_tree.specs.declared.event.Event.TheVariants as event
use Rattle.go_tree.specs.Declarations.{Found}
use Rattle.go_tree.specs.Duplicates.{second_members}
use Rattle.go_tree.specs.Faults.{lookup_faults}
use Rattle.go_tree.specs.Lookups.{asked_in}
use Rattle.go_tree.specs.Meanings.{Meaning, meanings}
use Rattle.go_tree.specs.Units.{Unit, bytes_of, is_fmt, word}
use Rattle.go_scopes_events.specs.Scopes.{AreOrderly}
use Rattle.go_heads_added.specs.Added.{IsAdded}

-- The tokens in front of the token n stand at the same bytes.
pub record KeepsBytes (n : ℕ) (a b : TokenList) : Type 0 where
  pub places : (m i j : ℕ) → i < n → j ≤ n → bytes_of m b i j ≡ bytes_of m a i j

-- Statements, second defaults and functions without a body stand in front of the token n.
abbrev pub EventPlaced : ℕ → Event → Type 0
EventPlaced n (event.Statement i j) = (i < n) × (j ≤ n)
EventPlaced n (event.Misplaced i j) = (i < n) × (j ≤ n)
EventPlaced n (event.SecondDefault i) = i < n
EventPlaced n (event.Bodiless i j) = suc i < n
EventPlaced n e = Prim.Unit {0}

-- What a name means is declared in the package block, or it has no declaration and is no import.
abbrev pub SourceIsShared : Option Found → Type 0
SourceIsShared None = ⊥
SourceIsShared (Some d) = is_package d.it.block ≡ true

abbrev pub MeansShared : Option Meaning → Type 0
MeansShared None = Prim.Unit {0}
MeansShared (Some m) = SourceIsShared m.source

-- The names that a function tells mean objects of the package, or predeclared ones.
abbrev pub NamesShared : ℕ → TokenList → List Event → List Unit → Type 0
NamesShared k b told new = AllByRecursion (λ a. MeansShared a.meaning) (asked_in (meanings new) k b told)

-- The tokens of the file stand at the bytes where they stood, those of its statements too; names stand in order; and the function's names mean
-- objects of the package or predeclared ones.
pub record StaysPlaced (k n : ℕ) (name : List ℕ) (old new : List Unit) (h : IsAdded k n name old new) : Type 0 where
  pub bytes : KeepsBytes n h.a.tokens h.b.tokens
  pub events : AllByRecursion (EventPlaced n) h.a.events
  pub orderly : AreOrderly old
  pub shared : NamesShared k h.b.tokens h.longer.added new

-- The file has a tree.
pub record IsDerived (u : Unit) : Type 0 where
  pub kinds : List TokenKind
  pub tree : Tree
  pub is : IsFile kinds tree
  pub told : u.events ≡ events (file_context (last tree)) tree

-- What is asked of a function with an empty body and this signature besides its derivation, so that the same fault of names is reported: its
-- name may be that of a function, and no token of the signature says it; no two of its parameters have one name; no rule fails at the names
-- that it looks up, and these mean objects of the package or predeclared ones.
pub record MayJoin (k : ℕ) (name : List ℕ) (signature : Tree) (b : TokenList) (told : List Event) (new : List Unit) : Type 0 where
  pub initial : same_text name (codes "init") ≡ false
  pub imported : is_fmt name ≡ false
  pub own : (i : ℕ) → first signature ≤ i → i < last signature → same_text name (word b i) ≡ false
  pub members : second_members [] k b told ≡ []
  pub asks : lookup_faults (asked_in (meanings new) k b told) ≡ []
  pub shared : NamesShared k b told new
