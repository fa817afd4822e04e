-- One more local is declared.
use Rattle.std.proofs.Common.{◌≡◌, ℕ, zero, suc, List, [], ◌∷◌, map, Option, Some, refl, ap, subst}
use Rattle.std.specs.Prelude.{slice_set, slice_get}
use Rattle.go_stmts_defs.specs.Frames.{placed}

pub placed_is : {A B : Type 0} (f : A → B) (n : ℕ) (x : A) (xs : List A) → map f (slice_set xs n x) ≡ placed n (f x) (map f xs)
placed_is f n x [] = refl
placed_is f zero x (y ∷ ys) = refl
placed_is f (suc n) x (y ∷ ys) = ap (λ zs. f y ∷ zs) (placed_is f n x ys)

-- what holds of all that are there, and of one more
pub all_set : {A : Type 0} (P : A → Type 0) (n : ℕ) (x : A) (xs : List (Option A)) → ((k : ℕ) (y : A) → slice_get xs k ≡ Some (Some y) → P y) → P x → (k : ℕ) (y : A) → slice_get (slice_set xs n (Some x)) k ≡ Some (Some y) → P y
all_set P n x [] h p k y e = h k y e
all_set P zero x (z ∷ zs) h p zero y e = let same : x ≡ y = cc in subst P same p
all_set P zero x (z ∷ zs) h p (suc k) y e = h (suc k) y e
all_set P (suc n) x (z ∷ zs) h p zero y e = h zero y e
all_set P (suc n) x (z ∷ zs) h p (suc k) y e = all_set P n x zs (λ j w q. h (suc j) w q) p k y e
