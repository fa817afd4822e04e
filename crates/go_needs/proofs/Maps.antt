-- Items of lists that are made from one another.
use Rattle.std.proofs.Common.{◌≡◌, ◌∙◌, ℕ, zero, suc, ◌<◌, List, [], ◌∷◌, length, map, Option, Some, None, IfSome, refl, ap, sym, arith}
use Rattle.std.specs.Prelude.{slice_get}

pub map_length : {A B : Type 0} (f : A → B) (xs : List A) → length (map f xs) ≡ length xs
map_length f [] = refl
map_length f (x ∷ xs) = ap suc (map_length f xs)

pub map_same : {A B : Type 0} (f g : A → B) (xs : List A) → ((x : A) → f x ≡ g x) → map f xs ≡ map g xs
map_same f g [] e = refl
map_same f g (x ∷ xs) e = ap (λ y. y ∷ map f xs) (e x) ∙ ap (λ ys. g x ∷ ys) (map_same f g xs e)

pub some_is : {A : Type 0} (x y : A) → ◌≡◌ {A = Option A} (Some x) (Some y) → x ≡ y
some_is x y e = grind (arith, e)

pub at_map : {A B : Type 0} (f : A → B) (xs : List A) (m : ℕ) (x : A) → slice_get xs m ≡ Some x → slice_get (map f xs) m ≡ Some (f x)
at_map f [] m x e = absurd (grind (arith, e))
at_map f (y ∷ ys) zero x e = ap (λ v. Some (f v)) (some_is y x e)
at_map f (y ∷ ys) (suc m) x e = at_map f ys m x e

-- There is an item at this place, of which f makes y.
pub record Made {A B : Type 0} (f : A → B) (xs : List A) (m : ℕ) (y : B) : Type 0 where
  pub it : A
  pub there : slice_get xs m ≡ Some it
  pub is : f it ≡ y

pub made : {A B : Type 0} (f : A → B) (xs : List A) (m : ℕ) (y : B) → slice_get (map f xs) m ≡ Some y → Made f xs m y
made f [] m y e = absurd (grind (arith, e))
made f (x ∷ xs) zero y e = record { it = x; there = refl; is = some_is (f x) y e }
made f (x ∷ xs) (suc m) y e = let w = made f xs m y e in record { it = w.it; there = w.there; is = w.is }

-- where two lists have the same images, an item of the one has the image of that of the other
pub from_one : {A B C : Type 0} (f : A → C) (g : B → C) (xs : List A) (ys : List B) (m : ℕ) (x : A) → map f xs ≡ map g ys → slice_get xs m ≡ Some x → Made g ys m (f x)
from_one f g xs ys m x e h = made g ys m (f x) (sym (ap (λ l. slice_get l m) e) ∙ at_map f xs m x h)

-- There is an item at this place.
pub record At {A : Type 0} (xs : List A) (m : ℕ) : Type 0 where
  pub it : A
  pub there : slice_get xs m ≡ Some it

pub item_at : {A : Type 0} (xs : List A) (m : ℕ) → m < length xs → At xs m
item_at [] m l = absurd (omega (arith, l))
item_at (x ∷ xs) zero l = record { it = x; there = refl }
item_at (x ∷ xs) (suc m) l = let w = item_at xs m (omega (arith, l)) in record { it = w.it; there = w.there }

pub below : {A : Type 0} (xs : List A) (k : ℕ) (x : A) → slice_get xs k ≡ Some x → k < length xs
below [] k x e = absurd (grind (arith, e))
below (y ∷ ys) zero x e = omega arith
below (y ∷ ys) (suc k) x e = let h = below ys k x e in omega (arith, h)

pub if_there : {A : Type 0} (o : Option A) (P : A → Type 0) → ((x : A) → o ≡ Some x → P x) → IfSome o P
if_there None P f = tt
if_there (Some x) P f = f x refl
