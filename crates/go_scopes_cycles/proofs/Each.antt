-- What holds of each of the declarations that are needed.
use Rattle.std.proofs.Common.{◌≡◌, Bool, List, [], ◌∷◌, ◌++◌, sym, subst, refl, arith, Option, Some, None, inl, inr}
use Rattle.go_tree.specs.Declarations.{Found}
use Rattle.go_tree.specs.Lookups.{Asked}
use Rattle.go_tree.specs.Needs.{Needed, needs}
use Rattle.go_scopes_cycles.specs.Columns.{IsSource}
use Rattle.go_scopes_cycles.specs.Needs.{source_of, way_of, needed_in, needed_by}
use Rattle.go_scopes_cycles.proofs.AllNeeded.{needs_some, needs_none, AllKnown}

abbrev pub Each : (Needed → Type 0) → List Needed → Type 0
Each P [] = Unit {0}
Each P (x ∷ xs) = P x × Each P xs

pub each_more : (P Q : Needed → Type 0) (xs : List Needed) → ((x : Needed) → P x → Q x) → Each P xs → Each Q xs
each_more P Q [] f h = tt
each_more P Q (x ∷ xs) f h = (f x h.0, each_more P Q xs f h.1)

pub needs_by : (P : Needed → Type 0) (a : Asked) (asks : List Asked) (x : Needed) (o : Option Needed) → needed_by a x ≡ o → ((y : Needed) → needed_by a x ≡ Some y → P y) → Each P (needs asks x) → Each P (needs (a ∷ asks) x)
needs_by P a asks x None e p h = subst (Each P) (sym (needs_none a asks x e)) h
needs_by P a asks x (Some y) e p h = subst (Each P) (sym (needs_some a asks x y e)) (p y e, h)

pub needed_source_of : (w : Option Bool) (s : Option Found) (y : Needed) → needed_in w s ≡ Some y → s ≡ Some y.it
needed_source_of None s y e = absurd (grind (arith, e))
needed_source_of (Some f) None y e = absurd (grind (arith, e))
needed_source_of (Some f) (Some d) y e = grind (arith, e)

-- A name calls for it.
pub record IsCalled (asks : List Asked) (x : Needed) : Type 0 where
  pub called : IsSource x.it asks

pub needs_called : (asks : List Asked) (x : Needed) → Each (IsCalled asks) (needs asks x)
needs_called [] x = tt
needs_called (a ∷ asks) x =
    needs_by (IsCalled (a ∷ asks)) a asks x (needed_by a x) refl
    (λ y e. record { called = inl (needed_source_of (way_of a x) (source_of a.meaning) y e) })
    (each_more (IsCalled asks) (IsCalled (a ∷ asks)) (needs asks x) (λ y h. record { called = inr h.called }) (needs_called asks x))

pub all_known_append : (xs ys zs : List Needed) → AllKnown xs zs → AllKnown ys zs → AllKnown (xs ++ ys) zs
all_known_append [] ys zs h k = k
all_known_append (x ∷ xs) ys zs h k = (h.0, all_known_append xs ys zs h.1 k)
