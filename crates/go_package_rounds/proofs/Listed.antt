-- Lists that are made from the front.
use Rattle.std.proofs.Common.{◌≡◌, ℕ, zero, suc, ◌+◌, ◌<◌, ◌≤◌, List, [], ◌∷◌, ◌++◌, length, map, drop, Some, refl, ap, ◌∙◌, append_assoc, arith}
use Rattle.std.specs.Prelude.{slice_get}
use Rattle.std.proofs.lemmas.List.{map-append, length-map, drop_all}
use Rattle.go_types.specs.Tables.{Table}
use Rattle.go_package_defs.specs.Knowledge.{Outline, State, outline_by, declaring}
use Rattle.go_package_defs.specs.Sources.{Package}
use Rattle.go_package_defs.specs.Verdicts.{first_state, first_states, next_states}
use Rattle.go_package_rounds.specs.declared.held.Held.{Held}
use Rattle.go_package_rounds.specs.Held.{Summary, summary, held_seen, all_seen, KnownHeld, AllHeld}
use Rattle.go_package_rounds.specs.declared.world.World.{World}
use Rattle.go_package_rounds.specs.World.{package_in, specifications_in, outlines_in}

-- the element of this number, where the list is so long
pub element : {A : Type 0} (xs : List A) (n : ℕ) → n < length xs → (x : A) × (slice_get xs n ≡ Some x) × (drop n xs ≡ x ∷ drop (suc n) xs)
element [] n h = absurd (omega (arith, h))
element (x ∷ xs) zero h = (x, refl, refl)
element (x ∷ xs) (suc n) h = element xs n (let l : n < length xs = omega (arith, h) in l)

pub all_append : (n : ℕ) (hs : List Held) (h : Held) → AllHeld n hs → KnownHeld n h → AllHeld n (hs ++ h ∷ [])
all_append n [] h a k = (k, tt)
all_append n (x ∷ hs) h a k = (a.0, all_append n hs h a.1 k)

-- one more that is held
module _ (t : Table) (hs : List Held) (h : Held) where
  pub seen_more : (s : State) (ss : List State) (all : List Summary) → held_seen t h ≡ summary s → all_seen t hs ++ map summary (s ∷ ss) ≡ all → all_seen t (hs ++ h ∷ []) ++ map summary ss ≡ all
  seen_more s ss all e f =
      ap (λ xs. xs ++ map summary ss) (map-append (held_seen t) hs (h ∷ []))
      ∙ append_assoc (all_seen t hs) (held_seen t h ∷ []) (map summary ss)
      ∙ ap (λ x. all_seen t hs ++ x ∷ map summary ss) e ∙ f

module _ (p : Package) where
  pub first_step : (n : ℕ) (os : List Outline) (o : Outline) → drop n os ≡ o ∷ drop (suc n) os → first_states p n (drop n os) ≡ first_state p n o.specification.entity ∷ first_states p (suc n) (drop (suc n) os)
  first_step n os o e = ap (first_states p n) e

  pub first_end : (n m : ℕ) (os : List Outline) → length os ≤ n → first_states p m (drop n os) ≡ []
  first_end n m os h = ap (first_states p m) (drop_all n os h)

  pub next_end : (all : List Outline) (ss : List State) (n m : ℕ) (os : List Outline) → length os ≤ n → next_states p all ss m (drop n os) ≡ []
  next_end all ss n m os h = ap (next_states p all ss m) (drop_all n os h)

  pub first_length : (n : ℕ) (os : List Outline) → length (first_states p n os) ≡ length os
  first_length n [] = refl
  first_length n (o ∷ os) = ap suc (first_length (suc n) os)

  pub next_length : (all : List Outline) (ss : List State) (n : ℕ) (os : List Outline) → length (next_states p all ss n os) ≡ length os
  next_length all ss n [] = refl
  next_length all ss n (o ∷ os) = ap suc (next_length all ss (suc n) os)

pub outlines_length : (w : World) → length (outlines_in w) ≡ length w.uses.now.package_level
outlines_length w = length-map w.uses.now.package_level (λ d. outline_by (package_in w) d (declaring (specifications_in w) d.file d.name))
