-- A file with a declaration behind all others.
use Rattle.std.specs.Prelude.{◌≡◌, ℕ, suc, ◌<◌, ◌≤◌, true, false, List, length, Option, None}
use Rattle.go_tokens.specs.Tokens.{TokenList}
use Rattle.go_tokens.specs.declared.token.TokenKind.{TokenKind}
use Rattle.go_grammar.specs.Grammar.{IsFile}
use Rattle.go_grammar.specs.declared.kind.Kind.TheVariants as kind
use Rattle.go_grammar.specs.Trees.{Tree, node, Trees, none, more, skip, kind_of, first, last, parts}
use Rattle.go_tree.specs.declared.context.Block.TheVariants as block
use Rattle.go_tree.specs.declared.context.Entity.TheVariants as entity
use Rattle.go_tree.specs.declared.context.Manner.TheVariants as manner
use Rattle.go_tree.specs.declared.context.Context.{Context}
use Rattle.go_tree.specs.declared.event.Declaration.{Declaration}
use Rattle.go_tree.specs.Contexts.{source_of, file_context}
use Rattle.go_tree.specs.Events.{events}
use Rattle.go_tree.specs.Declarations.{is_function}
use Rattle.go_tree.specs.Units.{Unit, word, is_blank, bytes_at}
use Rattle.go_scopes_events.specs.Orders.{EachDeclared}
use Rattle.go_heads_added.specs.Added.{IsLonger, IsAdded, AreLater, LiesIn}

-- the specification whose values a constant has behind these parts
abbrev pub passed : Option ℕ → Trees → Option ℕ
passed s none = s
passed s (more p ps) = passed (source_of s (kind_of p) (first p) (parts p)) ps
passed s (skip ps) = passed s ps

-- the number of the part behind these, the first of which has the number n
abbrev pub slots : ℕ → Trees → ℕ
slots n none = n
slots n (more p ps) = slots (suc n) ps
slots n (skip ps) = slots (suc n) ps

-- the context of a declaration behind these parts of a file, which ends before the token `end`
abbrev pub context_behind : ℕ → Trees → Tree → Context
context_behind end ps d = record (file_context end) { source = source_of (passed None ps) (kind_of d) (first d) (parts d); column = slots 0 ps }

-- a function with this signature and an empty body
abbrev pub empty_function : ℕ → ℕ → Tree → ℕ → ℕ → Tree
empty_function i j s a b = node kind.FunctionDeclaration i j (more s (more (node kind.Block a b none) none))

-- a parameter of the function whose body begins at this token
pub record IsParameterOf (body : ℕ) (d : Declaration) : Type 0 where
  pub entity : d.entity ≡ entity.Parameter
  pub manner : d.manner ≡ manner.Declared
  pub block : d.block ≡ block.Local body
  pub scope : d.scope.from ≡ body

-- ---- tokens

-- The first n tokens of the second file are those of the first: they say the same, at the same bytes.
pub record IsFront (n : ℕ) (a b : TokenList) : Type 0 where
  pub count : length a.tokens ≡ n
  pub more : n ≤ length b.tokens
  pub words : (t : ℕ) → t < n → word b t ≡ word a t
  pub places : (m t : ℕ) → t < n → bytes_at m b t ≡ bytes_at m a t

-- a file as names see it
abbrev pub unit_of : TokenList → Tree → Unit
unit_of ts t = record { tokens = ts; events = events (file_context (last t)) t }

-- The second file has the function d behind what the first has, and tells what follows from that.
pub record TellsMore (k n : ℕ) (name : List ℕ) (a b : Unit) : Type 0 where
  pub longer : IsLonger k n name a b
  pub later : AreLater n longer.added

-- Each function that is declared has a name.
abbrev pub HasNames : Unit → Type 0
HasNames u = EachDeclared (λ d. is_function d.entity ≡ true → is_blank (word u.tokens d.name) ≡ false) u.events

-- The file has a tree, and its functions have names.
pub record IsParsed (u : Unit) : Type 0 where
  pub kinds : List TokenKind
  pub tree : Tree
  pub is : IsFile kinds tree
  pub told : u.events ≡ events (file_context (last tree)) tree
  pub names : HasNames u

-- A package in which a file has one function more, as names see it.
pub record AreAdded (k n : ℕ) (name : List ℕ) (old new : List Unit) : Type 0 where
  pub added : IsAdded k n name old new
  pub lies : LiesIn k n name old new added
