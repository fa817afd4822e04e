-- What a stack of blocks says of names, and how it stands to the local meanings of a file.
use Rattle.std.specs.Prelude.{◌≡◌, ℕ, ◌<◌, ◌≤◌, ◌⊎◌, nat_eq, nat_le, nat_lt, Bool, true, false, ◌&&◌, if◌then◌else◌, List, [], ◌∷◌, Option, Some, None}
use Rattle.std.specs.Option.{option_map}
use Rattle.std.specs.Borrow.{Bor}
use Rattle.std.specs.Cmp.Lexicographic.{pointwise}
use Rattle.go_tokens.specs.Spellings.{same_text}
use Rattle.go_tree.specs.declared.context.Scope.{Scope}
use Rattle.go_tree.specs.Meanings.{Meaning}
use Rattle.go_scopes_events.specs.Orders.{Nests}
use Rattle.go_scopes_events.specs.Scopes.{is_local, inmost, otherwise, over, scope_of, Each}
use Rattle.indexmap.specs.IndexMap.{get}
use Rattle.go_scopes_lookup.specs.declared.scopes.Block.{Block}
use Rattle.go_scopes_lookup.specs.Views.{meaning_view}

abbrev pub same_name : Bor (List ℕ) → Bor (List ℕ) → Bool
same_name a b = pointwise nat_eq a.now b.now

-- what a block says of a name at a token: nothing if it has ended
abbrev pub said_in : Block → ℕ → Bor (List ℕ) → Option Meaning
said_in b t w = if nat_lt t b.end then option_map meaning_view (get same_name b.names w) else None

-- What the blocks say of it. The last block is the innermost; o is what the blocks around them say.
abbrev pub said_by : List Block → ℕ → Bor (List ℕ) → Option Meaning → Option Meaning
said_by [] t w o = o
said_by (b ∷ bs) t w o = said_by bs t w (otherwise (said_in b t w) o)

abbrev pub said : List Block → ℕ → Bor (List ℕ) → Option Meaning
said bs t w = said_by bs t w None

-- the same with one more meaning, in a block that ends at the token e
abbrev pub with_one : ℕ → Meaning → ℕ → Bor (List ℕ) → Option Meaning → Option Meaning
with_one e m t w o = if nat_lt t e && same_text m.name w.now then Some m else o

-- whether there is a block that ends at the token or before it
abbrev pub ended_by : ℕ → Option Block → Bool
ended_by t None = false
ended_by t (Some b) = nat_le b.end t

-- what holds of the end of each block
abbrev pub EachEnd : (ℕ → Type 0) → List Block → Type 0
EachEnd Q [] = Unit
EachEnd Q (b ∷ bs) = Q b.end × EachEnd Q bs

-- A scope lies behind the token e, or ends there or before it.
abbrev pub Parts : ℕ → Scope → Type 0
Parts e s = (e ≤ s.from) ⊎ (s.to ≤ e)

-- each of the scopes lies behind a block, or inside it if it covers one of its tokens
abbrev pub ArePartedBy : List Meaning → ℕ → Type 0
ArePartedBy ms e = Each (λ m. Parts e (scope_of m.extent)) ms

abbrev pub AreParted : List Block → List Meaning → Type 0
AreParted bs ms = EachEnd (ArePartedBy ms) bs

-- Meanings in the blocks of the file n, none of which ends before it begins. Their scopes nest.
abbrev pub AreReady : ℕ → List Meaning → Type 0
AreReady n [] = Unit
AreReady n (m ∷ ms) = (is_local n m.extent ≡ true) × ((scope_of m.extent).from ≤ (scope_of m.extent).to) × Each (λ x. Nests (scope_of m.extent) (scope_of x.extent)) ms × AreReady n ms

-- From the token t on the blocks news say what the blocks olds say, and the local meaning m over that.
abbrev pub SaysOver : ℕ → Meaning → List Block → List Block → Type 0
SaysOver t m olds news = (n u : ℕ) → (w : Bor (List ℕ)) → is_local n m.extent ≡ true → (scope_of m.extent).from ≤ t → t ≤ u → EachEnd (λ e. Parts e (scope_of m.extent)) olds → said news u w ≡ over n u w.now (said olds u w) m

-- the scopes begin behind the token t
abbrev pub BeginBehind : ℕ → List Meaning → Type 0
BeginBehind t ms = Each (λ m. t < (scope_of m.extent).from) ms

-- How a walk along a file stands at the token t. From there on the blocks say what the local meanings in front of those that are
-- left give.
pub record IsSweeping (n t : ℕ) (all : List Meaning) (bs : List Block) (left : List Meaning) : Type 0 where
  pub says : (u : ℕ) (w : Bor (List ℕ)) → t ≤ u → inmost n u w.now (said bs u w) left ≡ inmost n u w.now None all
  pub parted : AreParted bs left
  pub ready : AreReady n left
