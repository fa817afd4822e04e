-- The objects of a file's tokens, as they come from its events one by one, from the last one on.
use Rattle.std.specs.Prelude.{ℕ, ◌≡◌, Bool, ◌&&◌, if◌then◌else◌, nat_eq, List, [], ◌∷◌, Option, Some, None, length, set}
use Rattle.std.specs.HashMap.{HashMap}
use Rattle.std.specs.HashMap as hash
use Rattle.go_tokens.specs.Tokens.{TokenList}
use Rattle.go_tree.specs.declared.event.Event.{Event}
use Rattle.go_tree.specs.declared.event.Event.TheVariants as event
use Rattle.go_tree.specs.declared.object.Object.{Object}
use Rattle.go_tree.specs.Units.{word}
use Rattle.go_tree.specs.Meanings.{Meaning}
use Rattle.go_tree.specs.Objects.{is_declared_at, own_object, object_at, token_objects}
use Rattle.go_tree.specs.Units as names
use Rattle.go_scopes_events.specs.Inside.{LocalsInside, nowhere}
use Rattle.go_scopes_events.specs.Orders.{AreInOrder}

-- the object that is declared at a place, if one is
abbrev pub declared_object : ℕ → ℕ → List Meaning → Option Object
declared_object n t [] = None
declared_object n t (m ∷ ms) = if is_declared_at n t m.source then Some m.object else declared_object n t ms

-- whether two places, each the number of a file and that of a token, are the same
abbrev pub same_spot : ℕ × ℕ → ℕ × ℕ → Bool
same_spot a b = nat_eq a.0 b.0 && nat_eq a.1 b.1

-- The table has the objects that are declared, by their places.
abbrev pub Owns : {S : Type 0} → HashMap (ℕ × ℕ) Object S → List Meaning → Type 0
Owns owners ms = (n t : ℕ) → hash.get same_spot owners (n, t) ≡ declared_object n t ms

-- what one more event in front makes of the objects of the tokens
abbrev pub over_event : List Meaning → ℕ → TokenList → Event → List (Option Object) → List (Option Object)
over_event ms n ts (event.Use u) os = set os u.name (object_at ms n u.name (word ts u.name))
over_event ms n ts (event.Declaration d) os = set os d.name (own_object n d.name (word ts d.name) ms ms)
over_event ms n ts e os = os

-- the objects of all tokens of a file
abbrev pub unit_objects : List Meaning → ℕ → names.Unit → List (Option Object)
unit_objects ms n u = token_objects ms n u.tokens u.events 0 (length u.tokens.tokens)

-- The names of each file are tokens of it, in order.
abbrev pub AreCounted : List names.Unit → Type 0
AreCounted [] = Unit
AreCounted (u ∷ us) = AreInOrder 0 (length u.tokens.tokens) u.events × AreCounted us

-- The locals of each file stand inside its functions.
abbrev pub AreInside : List names.Unit → Type 0
AreInside [] = Unit
AreInside (u ∷ us) = LocalsInside nowhere u.events × AreInside us
