-- What a name means along a file, cut where that changes.
use Rattle.std.specs.Prelude.{◌≡◌, ℕ, ◌≤◌, nat_eq, nat_le, Bool, false, if◌then◌else◌, List, [], ◌∷◌, ◌++◌, Option, Some, None}
use Rattle.std.specs.List.{AllByRecursion}
use Rattle.std.specs.Option.{option_map}
use Rattle.std.specs.declared.vec.Vec.{Vec}
use Rattle.go_tree.specs.declared.context.Scope.{Scope}
use Rattle.go_tree.specs.declared.object.Extent.TheVariants as extent
use Rattle.go_tree.specs.Extents.{covers, lies_inside}
use Rattle.go_tree.specs.Meanings as names
use Rattle.go_scopes_events.specs.Orders.{Nests}
use Rattle.go_scopes_events.specs.Scopes.{inner, scope_of, Each}
use Rattle.go_scopes_lookup.specs.declared.meaning.Meaning.{Meaning}
use Rattle.go_scopes_lookup.specs.Stacks.{Parts}
use Rattle.go_scopes_lookup.specs.Views.{meaning_view}
use Rattle.go_scopes_named.specs.declared.segments.Segment.{Segment}

-- the inner of two meanings where the second covers the token t of the file n, else the first
abbrev pub over_covering : ℕ → ℕ → Option names.Meaning → names.Meaning → Option names.Meaning
over_covering n t a m = if covers m.extent n t then inner a m else a

-- the innermost of a meaning that may be there and those of a list that cover the token
abbrev pub inmost_among : ℕ → ℕ → Option names.Meaning → List names.Meaning → Option names.Meaning
inmost_among n t a [] = a
inmost_among n t a (m ∷ ms) = inmost_among n t (over_covering n t a m) ms

abbrev pub segments_of : {A : Type 0} → Option (Vec Segment A) → List Segment
segments_of None = []
segments_of (Some v) = v.items

-- What is said at the token t, where a is said in front of the segments: what the last of those says that begin at it or before.
abbrev pub said_over : ℕ → Option names.Meaning → List Segment → Option names.Meaning
said_over t a [] = a
said_over t a (s ∷ ss) = said_over t (if nat_le s.from t then option_map meaning_view s.meaning else a) ss

abbrev pub said : ℕ → List Segment → Option names.Meaning
said t ss = said_over t None ss

-- The segments begin in order.
abbrev pub AreRising : List Segment → Type 0
AreRising [] = Unit
AreRising (s ∷ ss) = AllByRecursion (λ r. s.from ≤ r.from) ss × AreRising ss

-- The segments say at each token of the file n which of the meanings is the innermost there. A scope that nests in those of the
-- meanings has none of the segments' beginnings inside.
pub record AreSegments (n : ℕ) (ss : List Segment) (ms : List names.Meaning) : Type 0 where
  pub rising : AreRising ss
  pub says : (t : ℕ) → said t ss ≡ inmost_among n t None ms
  pub parted : (r : Scope) → Each (λ m. Nests (scope_of m.extent) r) ms → AllByRecursion (λ s. Parts s.from r) ss

-- One more meaning, with the scope r: its scope nests in the earlier ones.
abbrev pub Adds : Scope → names.Meaning → List Segment → List Segment → Type 0
Adds r m olds news = (n : ℕ) (ms : List names.Meaning) → m.extent ≡ extent.Between n r → Each (λ a. Nests (scope_of a.extent) r) ms → AreSegments n olds ms → AreSegments n news (ms ++ m ∷ [])

-- whether there is an outer meaning that lies inside the other
abbrev pub lies_in : Option names.Meaning → names.Meaning → Bool
lies_in None m = false
lies_in (Some a) m = lies_inside a.extent m.extent

-- whether there is a segment that begins at the token
abbrev pub begins_at : ℕ → Option Segment → Bool
begins_at t None = false
begins_at t (Some s) = nat_eq s.from t

-- the segments behind a scope that ends at the token e, where o is said there again
abbrev pub closed_at : ℕ → Option Meaning → List Segment → List Segment
closed_at e o [] = record { from = e; meaning = o } ∷ []
closed_at e o (s ∷ ss) = if nat_eq s.from e then s ∷ ss else record { from = e; meaning = o } ∷ s ∷ ss
