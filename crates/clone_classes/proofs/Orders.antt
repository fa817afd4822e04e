-- Groups in order, one more.
use Rattle.std.proofs.Common.{List, [], ◌∷◌, ◌++◌}
use Rattle.go_typed.specs.declared.window.Class.{Class}
use Rattle.go_typed.specs.declared.window.Window.{Window}
use Rattle.clone_classes.specs.declared.place.Place.{Place}
use Rattle.clone_classes.specs.Orders.{AreOrdered, IsOrdered}

pub ordered-more : (place : Window → Place) (cs ds : List Class) (c d : Class) → AreOrdered place cs ds → IsOrdered place c d → AreOrdered place (cs ++ c ∷ []) (ds ++ d ∷ [])
ordered-more place [] [] c d h k = (k, tt)
ordered-more place [] (y ∷ ds) c d h k = absurd h
ordered-more place (x ∷ cs) [] c d h k = absurd h
ordered-more place (x ∷ cs) (y ∷ ds) c d h k = (h.0, ordered-more place cs ds c d h.1 k)
