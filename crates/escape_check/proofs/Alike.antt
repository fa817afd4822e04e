-- Lists of refusals that are the same of other words for members.
use Rattle.std.proofs.Common.{◌≡◌, ◌∙◌, ℕ, suc, Bool, List, [], ◌∷◌, ◌++◌, map, Option, Some, None, refl, sym, ap}
use Rattle.std.proofs.lemmas.List.{map-append}
use Rattle.std.specs.Prelude.{◌||◌, slice_get}
use Rattle.std.specs.List.{list_any}
use Rattle.param_choose.specs.Members.{Member}
use Rattle.escape_check.specs.Names.{declaring_places}
use Rattle.escape_check.specs.Places.{Sources, Place, Refused, declaring_place, first_of, or_refused, place_if, refused_at, refused_from, window_place}
use Rattle.escape_check.specs.Places as places
use Rattle.escape_check.specs.Statements.{meets, overlapping, overlap_from}

pub cons_alike : {A : Type 0} (x y : A) (xs ys : List A) → x ≡ y → xs ≡ ys → x ∷ xs ≡ y ∷ ys
cons_alike x y xs ys e h = ap (λ z. z ∷ xs) e ∙ ap (λ zs. y ∷ zs) h

pub any_mapped : {A B : Type 0} (h : A → B) (p : B → Bool) (q : A → Bool) → ((x : A) → p (h x) ≡ q x) → (xs : List A) → list_any p (map h xs) ≡ list_any q xs
any_mapped h p q e [] = refl
any_mapped h p q e (x ∷ xs) = ap (λ b. b || list_any p (map h xs)) (e x) ∙ ap (λ b. q x || b) (any_mapped h p q e xs)

pub any_alike : {A : Type 0} (p q : A → Bool) → ((x : A) → p x ≡ q x) → (xs : List A) → list_any p xs ≡ list_any q xs
any_alike p q e [] = refl
any_alike p q e (x ∷ xs) = ap (λ b. b || list_any p xs) (e x) ∙ ap (λ b. q x || b) (any_alike p q e xs)

-- of the first refusals of two lists the first one
pub first_both : (xs ys : List (Option Refused)) → places.first_refused (xs ++ ys) ≡ or_refused (places.first_refused xs) (places.first_refused ys)
first_both [] ys = refl
first_both (x ∷ xs) ys = ap (or_refused x) (first_both xs ys) ∙ either_way x (places.first_refused xs) (places.first_refused ys)
  where
    either_way : (x y z : Option Refused) → or_refused x (or_refused y z) ≡ or_refused (or_refused x y) z
    either_way None y z = refl
    either_way (Some x) y z = refl

pub or_none : (x : Option Refused) → or_refused x None ≡ x
or_none None = refl
or_none (Some x) = refl

-- the places where locals are declared rest on where they are declared alone
pub declaring_alike : {T U : Type 0} (m : Member T) (n : Member U) → m.declared ≡ n.declared → (ns : List ℕ) → declaring_places m ns ≡ declaring_places n ns
declaring_alike m n e [] = refl
declaring_alike m n e (k ∷ ks) =
    ap (λ ds. declaring_place (slice_get ds k) ++ declaring_places m ks) e ∙ ap (λ ps. declaring_place (slice_get n.declared k) ++ ps) (declaring_alike m n e ks)

module _ {T U : Type 0} (h : Member T → Member U) where
  pub refused_alike : (code : ℕ) (r : Member U → List Place) (q : Member T → List Place) → ((m : Member T) → r (h m) ≡ q m) → (n : ℕ) (ms : List (Member T)) →
      refused_from code r n (map h ms) ≡ refused_from code q n ms
  refused_alike code r q e n [] = refl
  refused_alike code r q e n (m ∷ ms) =
      ap (λ ps. refused_at code n (first_of ps) (refused_from code r (suc n) (map h ms))) (e m)
      ∙ ap (refused_at code n (first_of (q m))) (refused_alike code r q e (suc n) ms)

  pub overlap_alike : ((m n : Member T) → meets (h m) (h n) ≡ meets m n) → ((s : Sources) (m : Member T) → window_place s (h m) ≡ window_place s m) → (s : Sources) (n : ℕ) (earlier ms : List (Member T)) →
      overlap_from s n (map h earlier) (map h ms) ≡ overlap_from s n earlier ms
  overlap_alike d e s n earlier [] = refl
  overlap_alike d e s n earlier (m ∷ ms) =
      let others = overlap_from s (suc n) (map h earlier ++ h m ∷ []) (map h ms) in
      ap (λ b. refused_at 3 n (first_of (place_if b (window_place s (h m)))) others) (any_mapped h (meets (h m)) (meets m) (d m) earlier)
      ∙ ap (λ p. refused_at 3 n (first_of (place_if (list_any (meets m) earlier) p)) others) (e s m)
      ∙ ap (λ es. refused_at 3 n (first_of (overlapping s earlier m)) (overlap_from s (suc n) es (map h ms))) (sym (map-append h earlier (m ∷ [])))
      ∙ ap (refused_at 3 n (first_of (overlapping s earlier m))) (overlap_alike d e s (suc n) (earlier ++ m ∷ []) ms)
