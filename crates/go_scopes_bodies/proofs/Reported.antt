-- What it is that no fault is reported.
use Rattle.std.proofs.Common.{◌≡◌, ◌∙◌, Bool, true, false, List, [], ◌∷◌, Option, Some, None, refl, ap}
use Rattle.std.specs.Prelude.{if◌then◌else◌}
use Rattle.go_base.specs.declared.fault.FaultCode.{FaultCode}
use Rattle.go_tree.specs.Failures.{Failure, failing, is_earlier, least_from, least, or_else}
use Rattle.go_tree.specs.Faults.{clause_faults, name_faults, reported}
use Rattle.go_tree.specs.Units as names
use Rattle.go_tree.specs.Units.{Place}
use Rattle.go_scopes_bodies.proofs.Each.{Iff}

some_least : (f : Failure) (gs : List Failure) → least_from (Some f) gs ≡ None → ⊥
some_least f [] e = cc
some_least f (g ∷ gs) e = by (is_earlier g f) (some_least g gs) (some_least f gs) e
  where
    by : (b : Bool) → (least_from (Some g) gs ≡ None → ⊥) → (least_from (Some f) gs ≡ None → ⊥) → least_from (if b then Some g else Some f) gs ≡ None → ⊥
    by true x y e = x e
    by false x y e = y e

none_least : (fs : List Failure) → least fs ≡ None → fs ≡ []
none_least [] e = refl
none_least (f ∷ fs) e = absurd (some_least f fs e)

or_none : (f g : Option Failure) → or_else f g ≡ None → (f ≡ None) × (g ≡ None)
or_none None g e = (refl, e)
or_none (Some f) g e = cc

pub none_reported : (us : List names.Unit) → Iff (reported us ≡ None) ((clause_faults us ≡ []) × (name_faults us ≡ []))
none_reported us = record {
  to = λ e. let x = or_none (least (clause_faults us)) (least (name_faults us)) e in (none_least (clause_faults us) x.0, none_least (name_faults us) x.1);
  from = λ e. ap (λ fs. or_else (least fs) (least (name_faults us))) e.0 ∙ ap least e.1;
}

-- A rule fails nowhere where it has no place.
pub none_failing : (c : FaultCode) (ss : List Place) → Iff (failing c ss ≡ []) (ss ≡ [])
none_failing c [] = record { to = λ e. refl; from = λ e. refl }
none_failing c (s ∷ ss) = record { to = λ e. cc; from = λ e. cc }
