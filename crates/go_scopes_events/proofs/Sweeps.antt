-- The innermost local meaning, while meanings come one by one.
use Rattle.std.proofs.Common.{◌≡◌, ℕ, ◌<◌, ◌≤◌, Bool, true, false, ◌&&◌, if◌then◌else◌, List, [], ◌∷◌, Option, refl, arith}
use Rattle.std.proofs.lemmas.Bool.Decides.{nat_tests}
use Rattle.go_tokens.specs.Spellings.{same_text}
use Rattle.go_tree.specs.declared.object.Extent.{Extent}
use Rattle.go_tree.specs.declared.object.Extent.TheVariants as extent
use Rattle.go_tree.specs.Extents.{covers}
use Rattle.go_tree.specs.Meanings.{Meaning}
use Rattle.go_scopes_events.specs.Scopes.{is_local, locals_of, inner, over, scope_of, Each}

-- local meanings are local
pub locals_are : (n : ℕ) (ms : List Meaning) → Each (λ m. is_local n m.extent ≡ true) (locals_of n ms)
locals_are n [] = tt
locals_are n (m ∷ ms) = by (is_local n m.extent) refl (locals_are n ms)
  where
    by : (b : Bool) → is_local n m.extent ≡ b → Each (λ x. is_local n x.extent ≡ true) (locals_of n ms) → Each (λ x. is_local n x.extent ≡ true) (if b then m ∷ locals_of n ms else locals_of n ms)
    by true e h = (e, h)
    by false e h = h

outside : (n t : ℕ) (e : Extent) → is_local n e ≡ true → covers e n t ≡ true → ((scope_of e).from ≤ t) × (t < (scope_of e).to)
outside n t (extent.Between m s) l h = (grind (arith, nat_tests), grind (arith, nat_tests))
outside n t extent.Everywhere l h = cc
outside n t (extent.Throughout m) l h = cc

uncovered : (b c : Bool) (x y : Option Meaning) → (c ≡ true → ⊥) → (if b && c then x else y) ≡ y
uncovered true true x y f = absurd (f refl)
uncovered true false x y f = refl
uncovered false c x y f = refl

-- and one that hasn't begun doesn't yet
pub over_later : (n t : ℕ) (w : List ℕ) (a : Option Meaning) (m : Meaning) → is_local n m.extent ≡ true → t < (scope_of m.extent).from → over n t w a m ≡ a
over_later n t w a m l lt = uncovered (same_text m.name w) (covers m.extent n t) (inner a m) a (λ h. let p = outside n t m.extent l h in omega (arith, p.0, lt))
