-- The names that are looked up outside the bodies of functions, in packages with equal heads.
use Rattle.std.specs.Prelude.{◌≡◌, ℕ, ◌⊎◌, List, [], ◌∷◌}
use Rattle.go_tree.specs.declared.event.Event.{Event}
use Rattle.go_tree.specs.declared.event.Event.TheVariants as event
use Rattle.go_tree.specs.Uses.{uses, object_of}
use Rattle.go_heads.specs.Heads.{File}
use Rattle.go_heads.specs.Objects.{units_of, file_in, head_place}
use Rattle.go_heads.specs.Told.{file_events}
use Rattle.go_heads.specs.Meanings.{StandsOutside}

-- whether the token is a name that is looked up
abbrev pub HasUse : ℕ → List Event → Type 0
HasUse t [] = ⊥
HasUse t (event.Use u ∷ es) = (u.name ≡ t) ⊎ HasUse t es
HasUse t (e ∷ es) = HasUse t es

abbrev pub IsLookedUp : List File → ℕ → ℕ → Type 0
IsLookedUp fs n t = HasUse t (file_events (file_in fs n))

-- Two tokens of a file stand outside of bodies, at one place of the heads.
pub record AtOnePlace (old new : List File) (n t u : ℕ) : Type 0 where
  pub before : StandsOutside old n t
  pub after : StandsOutside new n u
  pub place : head_place new n u ≡ head_place old n t

-- A name that is looked up outside of bodies is looked up in both packages, and its object is the same.
pub record KeepsLookups (old new : List File) : Type 0 where
  pub names : (n t u : ℕ) → AtOnePlace old new n t u → IsLookedUp old n t → IsLookedUp new n u
  pub objects : (n t u : ℕ) → AtOnePlace old new n t u → IsLookedUp old n t → object_of (uses (units_of new)) n u ≡ object_of (uses (units_of old)) n t
