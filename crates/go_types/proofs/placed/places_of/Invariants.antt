use Rattle.std.proofs.Common.{◌≡◌, ℕ, List, drop}
use Rattle.std.specs.Option.{option_or}
use Rattle.go_types.specs.FieldPlaces.{place_from, field_names, entry_of}
use Rattle.go_types.proofs.placed.places_of.Given as goal

-- the places so far, over those of the fields that are left, are those of all
abbrev pub invariant-loop-number : goal.invariant-loop-number
invariant-loop-number l = (name : List ℕ) → option_or (entry_of (λ k. k.items) l.places.entries name) (place_from l.number (field_names (drop l.number l.fields)) name) ≡ place_from 0 (field_names l.fields) name
