-- The meanings of a package by their blocks, and what names mean along the tokens of a file.
use Rattle.std.specs.Prelude.{◌≡◌, ℕ, ◌≤◌, Bool, nat_eq, List, [], ◌∷◌, Option, Some, None, map}
use Rattle.std.specs.HashMap.{HashMap, get}
use Rattle.indexmap.specs.IndexMap.{IndexMap}
use Rattle.indexmap.specs.IndexMap as index
use Rattle.std.specs.Option.{option_map}
use Rattle.std.specs.Borrow.{Bor}
use Rattle.std.specs.declared.vec.Vec.{Vec}
use Rattle.go_tokens.specs.Tokens.{TokenList}
use Rattle.go_tree.specs.declared.object.Extent.{Extent}
use Rattle.go_tree.specs.declared.object.Extent.TheVariants as extent
use Rattle.go_tree.specs.declared.event.Event.{Event}
use Rattle.go_tree.specs.declared.event.Use.{Use}
use Rattle.go_tree.specs.declared.event.Event.TheVariants as event
use Rattle.go_tree.specs.Lookups.{Asked, asked_in}
use Rattle.go_tree.specs.Units.{word}
use Rattle.go_tree.specs.Meanings.{meaning_at}
use Rattle.go_tree.specs.Meanings as meanings
use Rattle.go_tree.specs.Units as units
use Rattle.go_scopes_events.specs.Orders.{AreInOrder}
use Rattle.go_scopes_events.specs.Scopes.{is_import, is_package, locals_of, first_by, inmost}
use Rattle.go_scopes_lookup.specs.declared.meaning.Meaning.{Meaning}
use Rattle.go_scopes_lookup.specs.declared.scopes.Block.{Block}
use Rattle.go_scopes_lookup.specs.declared.sorted.Outer.{Outer}
use Rattle.go_scopes_lookup.specs.declared.sorted.Sorted.{Sorted}
use Rattle.go_scopes_lookup.specs.contracts.sorted.OuterPartialEq.TheImpl as outer_eq
use Rattle.go_scopes_lookup.specs.Stacks.{said, IsSweeping, BeginBehind}
use Rattle.go_scopes_lookup.specs.Views.{meaning_view}

-- whether it is the extent of the block of a file, or of the package's
abbrev pub in_block : Option ℕ → Extent → Bool
in_block None e = is_package e
in_block (Some n) e = is_import n e

-- the name and the block of a meaning that is not local
abbrev pub outer_by : Meaning → Extent → Option Outer
outer_by m extent.Everywhere = Some (record { file = None; name = m.entry.now.name })
outer_by m (extent.Throughout n) = Some (record { file = Some n; name = m.entry.now.name })
outer_by m (extent.Between n s) = None

abbrev pub same_outer : Outer → Outer → Bool
same_outer = (outer_eq.ghosts).eq

-- The map has the first meaning of each name in the block of the package and in those of the files.
abbrev pub KnowsOuter : {S : Type 0} → IndexMap Outer Meaning S → List meanings.Meaning → Type 0
KnowsOuter m ms = (k : Outer) → option_map meaning_view (index.get same_outer m k) ≡ first_by (in_block k.file) k.name.now ms

abbrev pub items_of : {A : Type 0} → Option (Vec Meaning A) → List meanings.Meaning
items_of None = []
items_of (Some v) = map meaning_view v.items

-- The map has the local meanings of each file, in order.
abbrev pub KnowsLocals : {A S : Type 0} → HashMap ℕ (Vec Meaning A) S → List meanings.Meaning → Type 0
KnowsLocals m ms = (n : ℕ) → items_of (get nat_eq m n) ≡ locals_of n ms

-- all the meanings
abbrev pub all_of : Sorted → List meanings.Meaning
all_of s = map meaning_view s.all.items

-- the local meanings of the file of this number
abbrev pub file_locals : Sorted → ℕ → List meanings.Meaning
file_locals s n = locals_of n (all_of s)

pub record IsSorted (s : Sorted) : Type 0 where
  pub outer : KnowsOuter s.outer (all_of s)
  pub locals : KnowsLocals s.locals (all_of s)

-- the token of the name that is declared or looked up
abbrev pub name_of : Event → Option ℕ
name_of (event.Use u) = Some u.name
name_of (event.Declaration d) = Some d.name
name_of e = None

abbrev pub named_meaning : List meanings.Meaning → ℕ → TokenList → Option ℕ → Option meanings.Meaning
named_meaning ms n ts None = None
named_meaning ms n ts (Some t) = meaning_at ms n t (word ts t)

-- for each event what its name means at its place, if it has one
abbrev pub event_meanings : List meanings.Meaning → ℕ → TokenList → List Event → List (Option meanings.Meaning)
event_meanings ms n ts es = map (λ e. named_meaning ms n ts (name_of e)) es

-- The name that is looked up by u means m.
abbrev pub IsMeant : List meanings.Meaning → ℕ → TokenList → Use → Option Meaning → Type 0
IsMeant ms n ts u m = option_map meaning_view m ≡ meaning_at ms n u.name (word ts u.name)

-- The name of the event e, if it has one, means m.
abbrev pub IsNamed : List meanings.Meaning → ℕ → TokenList → Event → Option Meaning → Type 0
IsNamed ms n ts e m = option_map meaning_view m ≡ named_meaning ms n ts (name_of e)

-- The names of the events mean what is told of them.
abbrev pub AreNamed : List meanings.Meaning → ℕ → TokenList → List Event → List (Option Meaning) → Type 0
AreNamed ms n ts es told = map (option_map meaning_view) told ≡ event_meanings ms n ts es

-- the same of all events of a file
abbrev pub AreTold : List meanings.Meaning → ℕ → units.Unit → List (Option Meaning) → Type 0
AreTold ms n u told = AreNamed ms n u.tokens u.events told

-- the names of a file that are looked up
abbrev pub unit_asked : List meanings.Meaning → ℕ → units.Unit → List Asked
unit_asked ms n u = asked_in ms n u.tokens u.events

-- How a walk along a file stands in front of the events that are left.
pub record IsUnderway (n : ℕ) (all : List meanings.Meaning) (es : List Event) (bs : List Block) (left : List meanings.Meaning) : Type 0 where
  pub place : ℕ
  pub end : ℕ
  pub order : AreInOrder place end es
  pub sweeps : IsSweeping n place all bs left

-- The blocks say what the local meanings give at the token, if there is one.
abbrev pub IsReached : ℕ → List meanings.Meaning → Option ℕ → List Block → Type 0
IsReached n all None bs = Unit
IsReached n all (Some t) bs = (w : Bor (List ℕ)) → said bs t w ≡ inmost n t w.now None all

-- What becomes of the blocks olds and the meanings that are left on the way to the token t.
abbrev pub Advances : ℕ → List Block → List meanings.Meaning → List Block → List meanings.Meaning → Type 0
Advances t olds left news behind = (n i : ℕ) → (all : List meanings.Meaning) → i ≤ t → IsSweeping n i all olds left → IsSweeping n t all news behind × BeginBehind t behind

-- the same on the way to the token of an event, if it has one
abbrev pub AdvancesTo : Option ℕ → List Block → List meanings.Meaning → List Block → List meanings.Meaning → Type 0
AdvancesTo t olds left news behind = (n : ℕ) → (all : List meanings.Meaning) → (e : Event) → (es : List Event) → t ≡ name_of e → IsUnderway n all (e ∷ es) olds left → IsReached n all t news × IsUnderway n all es news behind
