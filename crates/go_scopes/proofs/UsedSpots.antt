-- A name uses the declaration at the place that it notes, and no other.
use Rattle.std.proofs.Common.{◌≡◌, ℕ, refl, ap, ◌∙◌, Bool, true, false, ◌&&◌, Option, Some, None, not, arith}
use Rattle.go_tree.specs.Declarations.{Found}
use Rattle.go_tree.specs.Meanings.{Meaning}
use Rattle.go_tree.specs.Lookups.{Asked, means, is_assigned}
use Rattle.go_scopes_lookup.specs.Tables.{same_spot}
use Rattle.go_scopes.specs.Used.{source_spot, meaning_spot, unless, used_spot, uses}

-- whether the place is that of the declaration
abbrev pub is_spot : Option (ℕ × ℕ) → Found → Bool
is_spot None d = false
is_spot (Some p) d = same_spot p (d.file, d.it.name)

spot_of : (b : Bool) (m : Option Meaning) (d : Found) → (means d m && not b) ≡ is_spot (unless b (meaning_spot m)) d
spot_of true None d = refl
spot_of false None d = refl
spot_of true (Some m) d = by_source m.source
  where
    by_source : (s : Option Found) → (means d (Some (record m { source = s })) && false) ≡ false
    by_source None = refl
    by_source (Some x) = grind arith
spot_of false (Some m) d = by_source m.source
  where
    by_source : (s : Option Found) → (means d (Some (record m { source = s })) && true) ≡ is_spot (source_spot s) d
    by_source None = refl
    by_source (Some x) = grind arith

pub uses-spot : (a : Asked) (d : Found) → uses d a ≡ is_spot (used_spot a) d
uses-spot a d = spot_of (is_assigned a.it.role) a.meaning d

pub uses-some : (a : Asked) (d : Found) (p : ℕ × ℕ) → used_spot a ≡ Some p → uses d a ≡ same_spot p (d.file, d.it.name)
uses-some a d p h = uses-spot a d ∙ ap (λ o. is_spot o d) h
