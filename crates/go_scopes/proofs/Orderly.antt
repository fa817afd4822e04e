-- Files that are orderly, and one more behind them.
use Rattle.std.proofs.Common.{◌≡◌, List, [], ◌∷◌, ◌++◌, length, sym, subst}
use Rattle.go_scopes_events.specs.Inside.{LocalsInside, nowhere}
use Rattle.go_scopes_events.specs.Orders.{AreInOrder}
use Rattle.go_scopes_events.specs.Scopes.{IsOrderly, AreOrderly}
use Rattle.go_scopes_lookup.specs.Tables.{AreCounted, AreInside}
use Rattle.go_scopes_lookup.specs.declared.unit.Unit.{Unit}
use Rattle.go_scopes_lookup.specs.Views.{units_view}

behind : (us : List Unit) (u : Unit) → AreOrderly (units_view us) → IsOrderly u.events.items → AreOrderly (units_view (us ++ u ∷ []))
behind [] u h g = (g, tt)
behind (x ∷ us) u h g = (h.0, behind us u h.1 g)

pub orderly_more : (us vs : List Unit) (u : Unit) → vs ≡ us ++ u ∷ [] → AreOrderly (units_view us) → IsOrderly u.events.items → AreOrderly (units_view vs)
orderly_more us vs u e h g = subst (λ l. AreOrderly (units_view l)) (sym e) (behind us u h g)

-- the same of their tokens
counted_behind : (us : List Unit) (u : Unit) → AreCounted (units_view us) → AreInOrder 0 (length u.tokens.now.tokens) u.events.items → AreCounted (units_view (us ++ u ∷ []))
counted_behind [] u h g = (g, tt)
counted_behind (x ∷ us) u h g = (h.0, counted_behind us u h.1 g)

pub counted_more : (us vs : List Unit) (u : Unit) → vs ≡ us ++ u ∷ [] → AreCounted (units_view us) → AreInOrder 0 (length u.tokens.now.tokens) u.events.items → AreCounted (units_view vs)
counted_more us vs u e h g = subst (λ l. AreCounted (units_view l)) (sym e) (counted_behind us u h g)

-- and of the locals in its functions
inside_behind : (us : List Unit) (u : Unit) → AreInside (units_view us) → LocalsInside nowhere u.events.items → AreInside (units_view (us ++ u ∷ []))
inside_behind [] u h g = (g, tt)
inside_behind (x ∷ us) u h g = (h.0, inside_behind us u h.1 g)

pub inside_more : (us vs : List Unit) (u : Unit) → vs ≡ us ++ u ∷ [] → AreInside (units_view us) → LocalsInside nowhere u.events.items → AreInside (units_view vs)
inside_more us vs u e h g = subst (λ l. AreInside (units_view l)) (sym e) (inside_behind us u h g)
