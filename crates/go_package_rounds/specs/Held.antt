-- What is known of an object, as the program holds it.
use Rattle.std.specs.Prelude.{◌≡◌, ℕ, ◌<◌, Bool, true, false, ◌&&◌, if◌then◌else◌, List, [], ◌∷◌, map, Option, Some, None, is_some}
use Rattle.std.specs.List.{AllByRecursion}
use Rattle.std.specs.Option.{option_map}
use Rattle.go_types.specs.Trees.{TypeTree}
use Rattle.go_types.specs.Tables.{Table, type_of}
use Rattle.go_typed.specs.declared.sort.Sort.{Sort}
use Rattle.go_typed.specs.declared.sort.Sort.TheVariants as sort
use Rattle.go_typed.specs.Views.{sort_seen, KnownSort}
use Rattle.go_exprs_rules.specs.declared.fault.TypeFault.{TypeFault}
use Rattle.go_exprs_rules.specs.Faults.{least}
use Rattle.go_exprs_rules.specs.Sorts.{Stands}
use Rattle.go_exprs_types.specs.declared.standing.Standing.{Standing}
use Rattle.go_needs.specs.declared.needs.Passing.{Passing}
use Rattle.go_package_defs.specs.Knowledge.{State}
use Rattle.go_package_rounds.specs.declared.held.Held.{Held}

-- a state with the least of its faults alone
pub record Summary : Type 0 where
  pub right : Option TypeTree
  pub stands : Stands
  pub fault : Option TypeFault
  pub assigning : Option TypeFault

abbrev pub summary : State → Summary
summary s = record { right = s.right; stands = s.stands; fault = least s.faults; assigning = least s.assigning }

-- what is held, with the types of a table
abbrev pub held_seen : Table → Held → Summary
held_seen t h = record { right = option_map (type_of t.shapes) h.right; stands = sort_seen t h.stands; fault = h.fault; assigning = h.assigning }

abbrev pub all_seen : Table → List Held → List Summary
all_seen t hs = map (held_seen t) hs

abbrev pub KnownRight : ℕ → Option ℕ → Type 0
KnownRight n None = Unit {0}
KnownRight n (Some i) = i < n

-- The types are among the first n of a table.
pub record KnownHeld (n : ℕ) (h : Held) : Type 0 where
  pub right : KnownRight n h.right
  pub stands : KnownSort n h.stands

abbrev pub AllHeld : ℕ → List Held → Type 0
AllHeld n hs = AllByRecursion (KnownHeld n) hs

-- ---- tests

abbrev pub is_clear : Option TypeFault → Bool
is_clear None = true
is_clear (Some f) = false

-- no rule fails
abbrev pub is_sound : Held → Bool
is_sound h = is_clear h.fault && is_clear h.assigning

-- it has a right side, if it is a type, or else stands for something
abbrev pub is_told_as : Sort → Option ℕ → Bool
is_told_as (sort.Type t) r = is_some r
is_told_as sort.Unknown r = false
is_told_as x r = true

abbrev pub is_told : Held → Bool
is_told h = is_told_as h.stands h.right

-- ---- what scopes read

-- Scopes can't tell the two from each other.
pub record ReadAlike (h k : Held) : Type 0 where
  pub right : h.right ≡ k.right
  pub stands : h.stands ≡ k.stands
  pub sound : is_sound h ≡ is_sound k

abbrev pub AllReadAlike : List Held → List Held → Type 0
AllReadAlike [] [] = Unit {0}
AllReadAlike (h ∷ hs) (k ∷ ks) = ReadAlike h k × AllReadAlike hs ks
AllReadAlike _ _ = ⊥

-- ---- what objects stand for in scopes

abbrev pub sort_if : Bool → Sort → Sort
sort_if true x = x
sort_if false x = sort.Unknown

-- what an object stands for by the way in which it is needed, where it passes a test with all that it needs
abbrev pub standing_of : Held → Passing → Standing
standing_of h p = record { in_full = sort_if p.in_full h.stands; at_once = sort_if p.at_once h.stands; loosely = h.stands }

abbrev pub standings_of : List Held → List Passing → List Standing
standings_of (h ∷ hs) (p ∷ ps) = standing_of h p ∷ standings_of hs ps
standings_of _ _ = []
