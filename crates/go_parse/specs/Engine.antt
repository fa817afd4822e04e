-- What the functions of the engine find is what the reader finds.
use Rattle.std.specs.Prelude.{◌≡◌, ℕ, suc, ◌+◌, ◌<◌, ◌≤◌, Bool, true, false, List, ◌∷◌, Option, Some, None, slice_get, length}
use Rattle.go_tokens.specs.declared.token.TokenKind.{TokenKind}
use Rattle.go_grammar.specs.declared.kind.Kind.{Kind}
use Rattle.go_grammar.specs.declared.kind.Kind.TheVariants as kind
use Rattle.go_grammar.specs.declared.kind.Place.{Place}
use Rattle.go_grammar.specs.declared.kind.Category.{Category}
use Rattle.go_grammar.specs.declared.production.Symbol.{Symbol}
use Rattle.go_grammar.specs.declared.production.Symbol.TheVariants as symbol
use Rattle.go_grammar.specs.Categories.{place_of}
use Rattle.go_grammar.specs.Grammar.{rule, agrees}
use Rattle.go_grammar.specs.Rules.{Rule, End, Then, Maybe, Unless, Many}
use Rattle.go_grammar.specs.Trees.{Tree, node, Trees, none, more, skip, kind_of, first, last, weight, depth, depths, onto}
use Rattle.go_grammar.specs.Reader.{opens_before, continues, read, grow, spell, option, after_first, Tends}
use Rattle.go_tree.specs.Views.{view, views}
use Rattle.go_parse.specs.declared.error.Stop.{Stop}
use Rattle.go_parse.specs.declared.error.Stop.TheVariants as stop
use Rattle.go_parse.specs.declared.row.Grown.{Grown}
use Rattle.go_parse.specs.declared.row.Row.{Row}

-- the refusal that a stop names
abbrev pub stop_refusal : Stop → Option Stop
stop_refusal stop.Syntax = Some stop.Syntax
stop_refusal stop.Memory = None

-- some parts in front
abbrev pub prefix : Trees → Option (Trees × ℕ) → Option (Trees × ℕ)
prefix qs None = None
prefix qs (Some x) = Some (onto qs x.0, x.1)

-- the node is the one that f finds
pub record IsFound (f : ℕ → Option Tree) (g : Grown) : Type 0 where
  pub told : g.depth ≡ depth (view g.node)
  pub tends : Tends f (Some (view g.node))

-- a right side that begins with a word
abbrev pub is_worded : Rule → Bool
is_worded (End (x ∷ ws)) = true
is_worded (Then (x ∷ ws) c r) = true
is_worded (Maybe (x ∷ ws) c r) = true
is_worded (Unless (x ∷ ws) c us r) = true
is_worded (Many (x ∷ ws) l) = true
is_worded r = false

-- a right side whose texts have a token
abbrev pub is_solid : Rule → Bool
is_solid (Then ws c r) = true
is_solid r = is_worded r

-- A node of kind k that stands at i: what the reader makes of it, it makes of the tokens from i on.
pub record IsOpened (ts : List TokenKind) (m : ℕ) (p : Place) (k : Kind) (i : ℕ) (g : Grown) : Type 0 where
  pub told : g.depth ≡ depth (view g.node)
  pub low : g.depth ≤ m
  pub begins : first (view g.node) ≡ i
  pub grows : i < last (view g.node)
  pub ends : last (view g.node) ≤ length ts
  pub leads : (c : Category) (x : Option Tree) → place_of c ≡ p → opens_before c (slice_get ts i) ≡ Some k → Tends (λ n. grow n ts m c (view g.node)) x → Tends (λ n. read n ts m c i) x

-- no node of kind k stands at i
abbrev pub IsNotOpened : List TokenKind → ℕ → Place → Kind → ℕ → Type 0
IsNotOpened ts m p k i = (c : Category) → place_of c ≡ p → opens_before c (slice_get ts i) ≡ Some k → Tends (λ n. read n ts m c i) None

-- A node of kind k that begins with t: what the reader makes of it, it makes of t.
pub record IsJoined (ts : List TokenKind) (m : ℕ) (p : Place) (k : Kind) (t : Tree) (g : Grown) : Type 0 where
  pub told : g.depth ≡ depth (view g.node)
  pub low : g.depth ≤ m
  pub begins : first (view g.node) ≡ first t
  pub kind : kind_of (view g.node) ≡ k
  pub later : last t ≤ last (view g.node)
  pub moves : is_solid (after_first (rule p k)) ≡ true → last t < last (view g.node)
  pub ends : last (view g.node) ≤ length ts
  pub leads : (c : Category) (x : Option Tree) → place_of c ≡ p → continues c (kind_of t) (slice_get ts (last t)) ≡ Some k → Tends (λ n. grow n ts m c (view g.node)) x → Tends (λ n. grow n ts m c t) x

-- no node of kind k begins with t
abbrev pub IsNotJoined : List TokenKind → ℕ → Place → Kind → Tree → Type 0
IsNotJoined ts m p k t = (c : Category) → place_of c ≡ p → continues c (kind_of t) (slice_get ts (last t)) ≡ Some k → Tends (λ n. grow n ts m c t) None

-- the node with these parts
pub record IsFinished (k : Kind) (i : ℕ) (row : Row) (g : Grown) : Type 0 where
  pub is : view g.node ≡ node k i row.last (views row.parts.items)
  pub levels : g.depth ≡ weight k + row.levels
  pub agree : agrees k (views row.parts.items) ≡ true

-- the row's levels are told, and there is room for them
pub record IsLow (m : ℕ) (row : Row) : Type 0 where
  pub told : row.levels ≡ depths (views row.parts.items)
  pub low : row.levels ≤ m

-- What f finds stands behind the first row in the second one.
pub record IsRowOn (f : ℕ → Option (Trees × ℕ)) (before after : Row) : Type 0 where
  pub behind : Trees
  pub are : views after.parts.items ≡ onto (views before.parts.items) behind
  pub tends : Tends f (Some (behind, after.last))

-- What f finds is what stands behind the first row in the second one, and then what g finds.
pub record LeadsOn (f g : ℕ → Option (Trees × ℕ)) (before after : Row) : Type 0 where
  pub behind : Trees
  pub are : views after.parts.items ≡ onto (views before.parts.items) behind
  pub leads : (x : Option (Trees × ℕ)) → Tends g x → Tends f (prefix behind x)

-- whatever follows the part, the row goes on with it, or without it
abbrev pub IsOptionOn : List TokenKind → ℕ → Category → Bool → Row → Row → Type 0
IsOptionOn ts m c b row after = (r : Rule) → LeadsOn (λ n. option n ts m c r row.last b) (λ n. spell n ts m r after.last) row after

-- how many joins without a token a finished node may see
abbrev pub rank : Kind → ℕ
rank kind.ExpressionStatement = 1
rank (kind.Specification s) = 1
rank kind.Signature = 1
rank kind.ExpressionList = 2
rank kind.NameList = 2
rank k = 3

-- the row of symbols begins with a word
abbrev pub is_word_first : List Symbol → Bool
is_word_first (symbol.Word w ∷ xs) = true
is_word_first xs = false

-- 1 behind the first symbol of a row that begins with a word
abbrev pub lag : List Symbol → ℕ → ℕ
lag (symbol.Word w ∷ xs) (suc i) = 1
lag xs i = 0
