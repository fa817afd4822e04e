-- The lower of levels.
use Rattle.std.proofs.Common.{◌≡◌, ◌∙◌, ℕ, Bool, true, false, min, nat_le, Option, Some, None, refl, ap, arith, inl, inr, ◌⊎◌}
use Rattle.std.specs.Prelude.{if◌then◌else◌}
use Rattle.go_scopes_cycles.specs.declared.ranks.Part.{Part}
use Rattle.go_scopes_cycles.specs.declared.ranks.Part.TheVariants as part
use Rattle.go_needs.specs.Levels.{nearer, here, near_in}
use Rattle.go_scopes_cycles.specs.Ranks.{Place, same_place, own_part}
use Rattle.go_scopes_cycles.proofs.Public.{place_sound}
use Rattle.go_needs.proofs.Standing.{IsOwnPart, place_itself}

pub left_none : (a b : Option ℕ) → nearer a b ≡ None → a ≡ None
left_none None b e = refl
left_none (Some x) None e = absurd (grind (arith, e))
left_none (Some x) (Some y) e = absurd (grind (arith, e))

pub right_none : (a b : Option ℕ) → nearer a b ≡ None → b ≡ None
right_none None b e = e
right_none (Some x) None e = refl
right_none (Some x) (Some y) e = absurd (grind (arith, e))

lower : (x y j : ℕ) (b : Bool) → nat_le x y ≡ b → ◌≡◌ {A = Option ℕ} (Some (min x y)) (Some j) → (◌≡◌ {A = Option ℕ} (Some x) (Some j)) ⊎ (◌≡◌ {A = Option ℕ} (Some y) (Some j))
lower x y j true h e = inl (grind (arith, h, e))
lower x y j false h e = inr (grind (arith, h, e))

pub one_some : (a b : Option ℕ) (j : ℕ) → nearer a b ≡ Some j → (a ≡ Some j) ⊎ (b ≡ Some j)
one_some None b j e = inr e
one_some (Some x) None j e = inl e
one_some (Some x) (Some y) j e = lower x y j (nat_le x y) refl e

pub here_itself : (k : Place) (l : Option ℕ) → here (Some k) k l ≡ l
here_itself k l = ap (λ b. if b then l else None) (place_itself k)

-- The name stands in this part, and what it calls for has this level.
pub record StandsHere (o : Option Place) (k : Place) (l : Option ℕ) (j : ℕ) : Type 0 where
  pub place : o ≡ Some k
  pub level : l ≡ Some j

here_by : (q k : Place) (l : Option ℕ) (j : ℕ) (b : Bool) → same_place q k ≡ b → (if b then l else None) ≡ Some j → StandsHere (Some q) k l j
here_by q k l j true h e = record { place = ap Some (place_sound q k h); level = e }
here_by q k l j false h e = absurd (grind (arith, e))

pub here_some : (o : Option Place) (k : Place) (l : Option ℕ) (j : ℕ) → here o k l ≡ Some j → StandsHere o k l j
here_some None k l j e = absurd (grind (arith, e))
here_some (Some q) k l j e = here_by q k l j (same_place q k) refl e

-- ---- the three parts of a declaration

module _ (g : Place → Option ℕ) (n s c : ℕ) (f : Bool) where
  pub none_near : near_in g n (Some s) c f ≡ None → (q : Part) → IsOwnPart c f q → g ((n, s), q) ≡ None
  none_near e q (inl h) = ap (λ r. g ((n, s), r)) h ∙ left_none (g ((n, s), part.Always)) (nearer (g ((n, s), part.Value c)) (g ((n, s), own_part f))) e
  none_near e q (inr o) =
      let rest = right_none (g ((n, s), part.Always)) (nearer (g ((n, s), part.Value c)) (g ((n, s), own_part f))) e in
      among q o rest
    where
      among : (q : Part) → (q ≡ part.Value c) ⊎ (q ≡ own_part f) → nearer (g ((n, s), part.Value c)) (g ((n, s), own_part f)) ≡ None → g ((n, s), q) ≡ None
      among q (inl h) r = ap (λ r. g ((n, s), r)) h ∙ left_none (g ((n, s), part.Value c)) (g ((n, s), own_part f)) r
      among q (inr h) r = ap (λ r. g ((n, s), r)) h ∙ right_none (g ((n, s), part.Value c)) (g ((n, s), own_part f)) r

  -- One of the parts has this level.
  pub record OwnLevel (j : ℕ) : Type 0 where
    pub part : Part
    pub own : IsOwnPart c f part
    pub level : g ((n, s), part) ≡ Some j

  own_level : (j : ℕ) → (g ((n, s), part.Always) ≡ Some j) ⊎ (nearer (g ((n, s), part.Value c)) (g ((n, s), own_part f)) ≡ Some j) → OwnLevel j
  own_level j (inl e) = record { part = part.Always; own = inl refl; level = e }
  own_level j (inr e) = by (one_some (g ((n, s), part.Value c)) (g ((n, s), own_part f)) j e)
    where
      by : (g ((n, s), part.Value c) ≡ Some j) ⊎ (g ((n, s), own_part f) ≡ Some j) → OwnLevel j
      by (inl h) = record { part = part.Value c; own = inr (inl refl); level = h }
      by (inr h) = record { part = own_part f; own = inr (inr refl); level = h }

  pub some_near : (j : ℕ) → near_in g n (Some s) c f ≡ Some j → OwnLevel j
  some_near j e = own_level j (one_some (g ((n, s), part.Always)) (nearer (g ((n, s), part.Value c)) (g ((n, s), own_part f))) j e)
