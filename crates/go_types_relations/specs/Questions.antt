-- Questions about types: what is known of declared types is an argument, and is found out in rounds over the right sides.
use Rattle.std.specs.Prelude.{ℕ, zero, suc, List, Option, Some, None, map, length, slice_get}
use Rattle.go_types.specs.Trees.{TypeTree}
use Rattle.go_types.specs.Relations.{Rights}

-- the answer about a type, from the answers about declared types
abbrev pub Question : Type 0 → Type 0
Question X = (ℕ → Option X) → TypeTree → Option X

abbrev pub flat : {X : Type 0} → Option (Option X) → Option X
flat None = None
flat (Some o) = o

-- what a list has at a number, if it has something
abbrev pub entry : {X : Type 0} → List (Option X) → ℕ → Option X
entry xs n = flat (slice_get xs n)

abbrev pub asked_right : {X : Type 0} → Question X → (ℕ → Option X) → Option TypeTree → Option X
asked_right q known None = None
asked_right q known (Some r) = q known r

-- Each declared type is told what its right side is told by the round before.
abbrev pub round : {X : Type 0} → Question X → Rights → List (Option X) → List (Option X)
round q rights before = map (asked_right q (entry before)) rights

abbrev pub rounds : {X : Type 0} → Question X → Rights → ℕ → List (Option X)
rounds q rights zero = map (λ r. None) rights
rounds q rights (suc k) = round q rights (rounds q rights k)

-- the answers about declared types; as many rounds as there are such types tell all
unfoldable pub answers : {X : Type 0} → Question X → Rights → ℕ → Option X
answers q rights n = entry (rounds q rights (length rights)) n

abbrev pub asked : {X : Type 0} → Question X → Rights → TypeTree → Option X
asked q rights t = q (answers q rights) t

-- an answer that is put together from two
abbrev pub on_both : {X Y Z : Type 0} → (X → Y → Z) → Option X → Option Y → Option Z
on_both f (Some x) (Some y) = Some (f x y)
on_both f _ _ = None
