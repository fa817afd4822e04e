-- Runs of tokens in whose place other tokens stand, and where the tokens stand then that stay.
use Rattle.std.specs.Prelude.{◌≡◌, ℕ, ◌+◌, ◌<◌, ◌≤◌, ◌⊎◌, nat_le, if◌then◌else◌, List, [], ◌∷◌, length, Option}
use Rattle.go_rewriting.specs.Places.{Range, range}
use Rattle.go_rewriting.specs.Replacing.{moved}
use Rattle.go_tree.specs.declared.context.Block.{Block}
use Rattle.go_tree.specs.declared.context.Block.TheVariants as block
use Rattle.go_scopes_bodies.specs.Meant.{Meant}

-- A local that a run declares and that is declared in its gap too: the token of its name in the run; and among the new tokens of the
-- gap that of its name, and the one from which on it is in scope.
pub record Redeclared : Type 0 where
  pub old : ℕ
  pub token : ℕ
  pub begins : ℕ

-- A run of statements, by its tokens, and what stands in its place: the texts of the new tokens, what each of these has to mean, if it
-- is a name, and the locals that are declared there. What is meant is said by the objects of the old function.
pub record Gap : Type 0 where
  pub from : ℕ
  pub upto : ℕ
  pub texts : List (List ℕ)
  pub means : ℕ → Option Meant
  pub declared : List Redeclared

-- where an old token stands that is not inside a run
abbrev pub moved_by : List Gap → ℕ → ℕ
moved_by [] t = t
moved_by (g ∷ gs) t = if nat_le t g.from then t else moved g.upto (g.from + length g.texts) (moved_by gs t)

abbrev pub ranges : List Gap → List Range
ranges [] = []
ranges (g ∷ gs) = range g.from g.upto ∷ ranges gs

abbrev pub Among : {A : Type 0} → A → List A → Type 0
Among x [] = ⊥
Among x (y ∷ ys) = (x ≡ y) ⊎ Among x ys

abbrev pub IsInRun : Gap → ℕ → Type 0
IsInRun g t = (g.from ≤ t) × (t < g.upto)

-- The runs lie one behind the other, from the token i on; each has a token, and so has each gap.
abbrev pub AreApart : ℕ → List Gap → Type 0
AreApart i [] = Unit {0}
AreApart i (g ∷ gs) = (i ≤ g.from) × (g.from < g.upto) × (0 < length g.texts) × AreApart g.upto gs

-- the token is in none of the runs
abbrev pub Stays : List Gap → ℕ → Type 0
Stays [] t = Unit {0}
Stays (g ∷ gs) t = ((t < g.from) ⊎ (g.upto ≤ t)) × Stays gs t

-- the token is inside none of the runs; it may be the first of one
abbrev pub AtEdge : List Gap → ℕ → Type 0
AtEdge [] t = Unit {0}
AtEdge (g ∷ gs) t = ((t ≤ g.from) ⊎ (g.upto ≤ t)) × AtEdge gs t

abbrev pub BlockAtEdge : List Gap → Block → Type 0
BlockAtEdge gs block.Package = Unit {0}
BlockAtEdge gs (block.Local i) = AtEdge gs i

-- what holds of each gap
abbrev pub EachGap : (Gap → Type 0) → List Gap → Type 0
EachGap Q [] = Unit {0}
EachGap Q (g ∷ gs) = Q g × EachGap Q gs
