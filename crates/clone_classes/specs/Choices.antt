-- The members of a class that are chosen.
use Rattle.std.specs.Prelude.{◌≡◌, ℕ, suc, Bool, ◌&&◌, nat_eq, nat_le, nat_lt, if◌then◌else◌, List, [], ◌∷◌, ◌++◌, length, Option, Some, None, Result, Ok, Err, slice_get}
use Rattle.std.specs.List.{list_any}
use Rattle.go_typed.specs.declared.window.Window.{Window}
use Rattle.go_typed.specs.Trees.{Typeds, none, more, skip, first_of, last_of}
use Rattle.clone_window.specs.Spans.{last_from}
use Rattle.clone_window.specs.Bodies.{Body, statements_at}
use Rattle.clone_classes.specs.declared.choose.Choice.{Choice}
use Rattle.clone_classes.specs.declared.choose.Choice.TheVariants as choice
use Rattle.clone_classes.specs.declared.choose.ChooseError.{ChooseError}
use Rattle.clone_classes.specs.declared.choose.ChooseError.TheVariants as error
use Rattle.clone_classes.specs.declared.place.Place.{Place}

-- ---- where windows lie

-- from the first token of statements up to the one behind the last, of a function of some number
abbrev pub place_over : {T : Type 0} → ℕ → Typeds T → Place
place_over func none = record { func = func; from = 0; to = 0 }
place_over func (more p ps) = record { func = func; from = first_of p; to = last_from (last_of p) ps }
place_over func (skip ps) = record { func = func; from = 0; to = 0 }

abbrev pub place_of : {T : Type 0} → List (Body T) → Window → Place
place_of bodies w = place_over w.func (statements_at (slice_get bodies w.func) w)

-- Two places share a token, and so a byte.
abbrev pub meets : Place → Place → Bool
meets p q = nat_eq p.func q.func && nat_lt p.from q.to && nat_lt q.from p.to

-- ---- the choice

-- The numbers of the members that overlap no earlier chosen one, in order, behind the places of chosen ones; the first of the
-- members has the number n.
abbrev pub apart : List Place → ℕ → List Place → List ℕ
apart taken n [] = []
apart taken n (p ∷ ps) = if list_any (meets p) taken then apart taken (suc n) ps else n ∷ apart (taken ++ p ∷ []) (suc n) ps

-- members have the numbers from 1 on
abbrev pub is_member : ℕ → ℕ → Bool
is_member count n = nat_le 1 n && nat_le n count

-- the first number that is none of so many members
abbrev pub first_other : ℕ → List ℕ → Option ℕ
first_other count [] = None
first_other count (n ∷ ns) = if is_member count n then first_other count ns else Some n

abbrev pub numbers_unless : List ℕ → Option ℕ → Result (List ℕ) ℕ
numbers_unless ns None = Ok ns
numbers_unless ns (Some n) = Err n

-- the numbers of the chosen ones of members at some places, or the first number that is no member's
abbrev pub chosen : List Place → Choice → Result (List ℕ) ℕ
chosen ps choice.All = Ok (apart [] 1 ps)
chosen ps (choice.Members ns) = numbers_unless ns (first_other (length ps) ns)

-- What an error says of the choice: the number that is no member's; nothing where memory ran out.
abbrev pub IsRefused : Result (List ℕ) ℕ → ChooseError → Type 0
IsRefused r (error.NoMember n) = r ≡ Err n
IsRefused r error.Memory = Unit {0}
