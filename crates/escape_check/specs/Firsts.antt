-- The first item of a list.
use Rattle.std.specs.Prelude.{Bool, List, [], ◌∷◌, filter, Option, Some, None}

abbrev pub first : {X : Type 0} → List X → Option X
first [] = None
first (x ∷ xs) = Some x

-- the first one that passes a test
abbrev pub first_where : {X : Type 0} → (X → Bool) → List X → Option X
first_where test xs = first (filter test xs)

abbrev pub either : {X : Type 0} → Option X → Option X → Option X
either (Some x) y = Some x
either None y = y
