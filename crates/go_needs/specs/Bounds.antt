-- Numbers that bound the ranks of objects with all that they need.
use Rattle.std.specs.Prelude.{◌≡◌, ℕ, suc, ◌-◌, ◌≤◌, Bool, true, false, ◌&&◌, nat_le, List, [], ◌∷◌, slice_get, Option, Some, None}
use Rattle.go_package_defs.specs.Knowledge.{Outline}
use Rattle.go_needs.specs.declared.bounds.Bound.{Bound}
use Rattle.go_needs.specs.declared.levels.Levels.{Levels}
use Rattle.go_needs.specs.declared.owners.Owner.{Owner}
use Rattle.go_needs.specs.Levels.{near}
use Rattle.go_scopes_cycles.specs.Ranks.{Place}

-- No object of the list has a rank above k, and each has one.
abbrev pub AtMost : Option ℕ → ℕ → Type 0
AtMost None k = ⊥
AtMost (Some r) k = r ≤ k

abbrev pub AllAtMost : List ℕ → ℕ → List ℕ → Type 0
AllAtMost ranks k [] = Unit {0}
AllAtMost ranks k (n ∷ ns) = AtMost (slice_get ranks n) k × AllAtMost ranks k ns

-- Of each object its bounds are above no rank of its own and of what it needs, in part and in full.
pub record AreBounds (ranks : List ℕ) (bounds : List Bound) (os : List Outline) : Type 0 where
  pub at_once : (n : ℕ) (o : Outline) → slice_get os n ≡ Some o → (b : Bound) × (slice_get bounds n ≡ Some b) × AllAtMost ranks b.at_once (n ∷ o.partly)
  pub in_full : (n : ℕ) (o : Outline) → slice_get os n ≡ Some o → (b : Bound) × (slice_get bounds n ≡ Some b) × AllAtMost ranks b.in_full (n ∷ o.fully)

-- ---- the test

-- how far a bound is below the top
abbrev pub level_under : ℕ → Bound → Levels
level_under top b = record { partly = Some (top - b.at_once); fully = Some (top - b.in_full) }

abbrev pub is_low : ℕ → Option ℕ → Bool
is_low l None = true
is_low l (Some j) = nat_le l j

abbrev pub bounds_one : ℕ → ℕ → ℕ → Option ℕ → Bool
bounds_one top r b next = nat_le r b && nat_le b top && is_low (top - b) next

abbrev pub bounds_by : (Place → Option ℕ) → ℕ → Option ℕ → Option Bound → Owner → Bool
bounds_by g top None b o = false
bounds_by g top (Some r) None o = false
bounds_by g top (Some r) (Some b) o = bounds_one top r b.at_once (near g o false) && bounds_one top r b.in_full (near g o true)

abbrev pub is_bounded : (Place → Option ℕ) → ℕ → List ℕ → List Bound → ℕ → Owner → Bool
is_bounded g top ranks bounds n o = bounds_by g top (slice_get ranks n) (slice_get bounds n) o

-- whether the objects from the number n on have such numbers
abbrev pub are_bounded : (Place → Option ℕ) → ℕ → List ℕ → List Bound → ℕ → List Owner → Bool
are_bounded g top ranks bounds n [] = true
are_bounded g top ranks bounds n (o ∷ os) = is_bounded g top ranks bounds n o && are_bounded g top ranks bounds (suc n) os
