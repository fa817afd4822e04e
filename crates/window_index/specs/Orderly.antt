-- Windows in the order of their places.
use Rattle.std.specs.Prelude.{◌≡◌, ℕ, List, [], ◌∷◌}
use Rattle.std.specs.declared.cmp.Ordering.TheVariants.{Less}
use Rattle.std.specs.List.{AllByRecursion}
use Rattle.go_typed.specs.declared.window.Window.{Window}
use Rattle.clone_classes.specs.declared.place.Place.{Place}
use Rattle.clone_classes.specs.Orders.{place_cmp}

-- Each stands before those behind it.
abbrev pub Ascends : {A : Type 0} → (A → A → Type 0) → List A → Type 0
Ascends R [] = Unit {0}
Ascends R (x ∷ xs) = AllByRecursion (R x) xs × Ascends R xs

-- The one window lies before the other, by function, first and last token.
abbrev pub IsBefore : (Window → Place) → Window → Window → Type 0
IsBefore place w v = place_cmp (place w) (place v) ≡ Less

-- The windows of a package lie in their order: no two of them have one place, and each lies behind those in front of it. It is so in
-- trees of files, where a block has tokens of its own.
abbrev pub AreInOrder : (Window → Place) → List Window → Type 0
AreInOrder place ws = Ascends (IsBefore place) ws
