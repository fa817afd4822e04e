-- The meanings of a name in the blocks of a file, from the outer ones to the inner.
use Rattle.std.specs.Prelude.{ℕ, ◌≤◌, Bool, true, false, ◌&&◌, if◌then◌else◌, nat_eq, List, [], ◌∷◌, Option, Some, None}
use Rattle.go_tokens.specs.Spellings.{same_text}
use Rattle.go_tree.specs.declared.context.Scope.{Scope}
use Rattle.go_tree.specs.declared.object.Extent.{Extent}
use Rattle.go_tree.specs.declared.object.Extent.TheVariants as extent
use Rattle.go_tree.specs.declared.event.Event.{Event}
use Rattle.go_tree.specs.Declarations.{Found}
use Rattle.go_tree.specs.Extents.{covers, lies_inside}
use Rattle.go_tree.specs.Meanings.{Meaning}
use Rattle.go_tree.specs.Units as names
use Rattle.go_scopes_events.specs.Orders.{AreInOrder, EachDeclared, Nests, ScopesNest, IsFollowed, LocalsFollow}

abbrev pub is_local : ℕ → Extent → Bool
is_local n (extent.Between m s) = nat_eq m n
is_local n e = false

abbrev pub is_import : ℕ → Extent → Bool
is_import n (extent.Throughout m) = nat_eq m n
is_import n e = false

abbrev pub is_package : Extent → Bool
is_package extent.Everywhere = true
is_package e = false

-- the meanings in the blocks of a file
abbrev pub locals_of : ℕ → List Meaning → List Meaning
locals_of n [] = []
locals_of n (m ∷ ms) = if is_local n m.extent then m ∷ locals_of n ms else locals_of n ms

-- the first meaning of a name with such an extent
abbrev pub first_by : (Extent → Bool) → List ℕ → List Meaning → Option Meaning
first_by f w [] = None
first_by f w (m ∷ ms) = if same_text m.name w && f m.extent then Some m else first_by f w ms

-- the inner of two meanings: of equal extents the first counts
abbrev pub inner : Option Meaning → Meaning → Option Meaning
inner None m = Some m
inner (Some a) m = if lies_inside a.extent m.extent then Some a else Some m

-- the same if the second is one of the name at the place
abbrev pub over : ℕ → ℕ → List ℕ → Option Meaning → Meaning → Option Meaning
over n t w a m = if same_text m.name w && covers m.extent n t then inner a m else a

-- the innermost of a meaning and those of a list that are of the name at the place
abbrev pub inmost : ℕ → ℕ → List ℕ → Option Meaning → List Meaning → Option Meaning
inmost n t w a [] = a
inmost n t w a (m ∷ ms) = inmost n t w (over n t w a m) ms

abbrev pub otherwise : Option Meaning → Option Meaning → Option Meaning
otherwise None b = b
otherwise (Some a) b = Some a

-- a local meaning, else that of the import, else that of the package
abbrev pub reached : Option Meaning → Option Meaning → Option Meaning → Option Meaning
reached l i p = otherwise l (otherwise i p)

abbrev pub scope_of : Extent → Scope
scope_of (extent.Between m s) = s
scope_of e = record { from = 0; to = 0 }

abbrev pub Each : (Meaning → Type 0) → List Meaning → Type 0
Each Q [] = Unit
Each Q (m ∷ ms) = Q m × Each Q ms

-- the scope of each meaning lies behind those of the earlier ones, or inside them
abbrev pub AreNested : List Meaning → Type 0
AreNested [] = Unit
AreNested (m ∷ ms) = Each (λ x. Nests (scope_of m.extent) (scope_of x.extent)) ms × AreNested ms

-- the token of the name that is declared
abbrev pub token_of : Option Found → ℕ
token_of None = 0
token_of (Some d) = d.it.name

-- The names stand in order from the token i on, and the scope of each begins at the name or behind it and ends there or later.
abbrev pub AreSwept : ℕ → List Meaning → Type 0
AreSwept i [] = Unit
AreSwept i (m ∷ ms) = (i ≤ token_of m.source) × (token_of m.source ≤ (scope_of m.extent).from) × ((scope_of m.extent).from ≤ (scope_of m.extent).to) × AreSwept (token_of m.source) ms

-- what the tree of a file tells
pub record IsOrderly (es : List Event) : Type 0 where
  pub end : ℕ
  pub order : AreInOrder 0 end es
  pub nest : ScopesNest es
  pub follow : EachDeclared IsFollowed es
  pub behind : LocalsFollow false es

abbrev pub AreOrderly : List names.Unit → Type 0
AreOrderly [] = Unit
AreOrderly (u ∷ us) = IsOrderly u.events × AreOrderly us
