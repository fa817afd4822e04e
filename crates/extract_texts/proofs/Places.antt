-- Holes that are parameters by their numbers, and texts with names in place of parts.
use Rattle.std.proofs.Common.{◌≡◌, ◌∙◌, ℕ, zero, suc, Bool, true, false, List, [], ◌∷◌, ◌++◌, map, drop, Option, Some, None, slice_get, refl, sym, ap}
use Rattle.std.specs.Prelude.{if◌then◌else◌}
use Rattle.go_tree.specs.Units.{Place}
use Rattle.go_typed.specs.Trees.{Sort}
use Rattle.param_choose.specs.declared.choice.Choice.{Choice as Found}
use Rattle.param_choose.specs.Choosing.{HoleParameter, choice, is_parameter, parameter_with, parameters_from, type_in}
use Rattle.param_choose.specs.Handed.{choice_shown, handed}
use Rattle.param_choose.specs.Holes.{Hole, holes}
use Rattle.param_choose.specs.Members.{Member}
use Rattle.escape_check.specs.Places.{Sources}
use Rattle.escape_check.specs.Shown.{unnumbered}
use Rattle.escape_check.specs.Types.{hole_numbers}
use Rattle.extract_texts.specs.Shown.{numbers_shown, place_at, places_at}
use Rattle.extract_texts.specs.Texts.{hole_bytes}
use Rattle.extract_texts.proofs.Rows.{numbers_told}

got : {A : Type 0} (xs : List A) (n : ℕ) (y : A) (ys : List A) → drop n xs ≡ y ∷ ys → slice_get xs n ≡ Some y
got [] zero y ys e = cc
got [] (suc n) y ys e = cc
got (x ∷ xs) zero y ys e = let same : x ≡ y = cc in ap Some same
got (x ∷ xs) (suc n) y ys e = got xs n y ys e

behind : {A : Type 0} (xs : List A) (n : ℕ) (y : A) (ys : List A) → drop n xs ≡ y ∷ ys → drop (suc n) xs ≡ ys
behind [] zero y ys e = cc
behind [] (suc n) y ys e = cc
behind (x ∷ xs) zero y ys e = cc
behind (x ∷ xs) (suc n) y ys e = behind xs n y ys e

module _ {T : Type 0} (s : Sources) (m : Member T) where
  abbrev own : List (HoleParameter T) → List Place
  own ps = map (λ p. hole_bytes s m p.hole) ps

  one-place : (start n : ℕ) (h : Hole T) (o : Option T) (b : Bool) (rest : List (HoleParameter T)) → slice_get (holes m) n ≡ Some h → own rest ≡ places_at s m (hole_numbers rest) →
      own ((if b then parameter_with start n h o else []) ++ rest) ≡ places_at s m (hole_numbers ((if b then parameter_with start n h o else []) ++ rest))
  one-place start n h None true rest e k = k
  one-place start n h (Some t) true rest e k = ap (λ ps. hole_bytes s m h ∷ ps) k ∙ ap (λ o. place_at s m o ++ places_at s m (hole_numbers rest)) (sym e)
  one-place start n h o false rest e k = k

  -- the places of parameters among the last holes
  places-from : (ms : List (Member T)) (t : Member T) (n : ℕ) (hs : List (Hole T)) → drop n (holes m) ≡ hs →
      own (parameters_from ms t n hs) ≡ places_at s m (hole_numbers (parameters_from ms t n hs))
  places-from ms t n [] e = refl
  places-from ms t n (h ∷ hs) e =
      one-place t.start n h (type_in h.sort) (is_parameter ms t n h) (parameters_from ms t (suc n) hs) (got (holes m) n h hs e) (places-from ms t (suc n) hs (behind (holes m) n h hs e))

-- by the numbers that the program holds
pub places_told : (s : Sources) (m t : Member ℕ) (array : Sort ℕ → Bool) (ms : List (Member ℕ)) (c : Found) → m ≡ unnumbered t → choice_shown c ≡ handed (choice array ms t) →
    places_at s m (numbers_shown c.holes.items) ≡ map (λ p. hole_bytes s m p.hole) (choice array ms t).holes
places_told s m t array ms c same e = ap (places_at s m) (numbers_told c (choice array ms t) e) ∙ sym (places-from s m ms t 0 (holes t) (ap (λ x. holes x) same))
