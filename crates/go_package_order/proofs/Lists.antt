-- Lists with one element put in.
use Rattle.std.proofs.Common.{◌≡◌, ℕ, zero, suc, List, [], ◌∷◌, ◌++◌, map, refl, ap}
use Rattle.std.specs.Prelude.{slice_set}
use Rattle.std.specs.List.{AllByRecursion}
use Rattle.go_stmts_defs.specs.Frames.{placed}

pub all_set : {X : Type 0} (P : X → Type 0) (xs : List X) (i : ℕ) (x : X) → AllByRecursion P xs → P x → AllByRecursion P (slice_set xs i x)
all_set P [] i x a h = tt
all_set P (y ∷ ys) zero x a h = (h, a.1)
all_set P (y ∷ ys) (suc i) x a h = (a.0, all_set P ys i x a.1 h)

pub all_placed : {X : Type 0} (P : X → Type 0) (xs : List X) (i : ℕ) (x : X) → AllByRecursion P xs → P x → AllByRecursion P (placed i x xs)
all_placed P [] i x a h = tt
all_placed P (y ∷ ys) zero x a h = (h, a.1)
all_placed P (y ∷ ys) (suc i) x a h = (a.0, all_placed P ys i x a.1 h)

pub placed_mapped : {X Y : Type 0} (f : X → Y) (xs : List X) (i : ℕ) (x : X) → map f (placed i x xs) ≡ placed i (f x) (map f xs)
placed_mapped f [] i x = refl
placed_mapped f (y ∷ ys) zero x = refl
placed_mapped f (y ∷ ys) (suc i) x = ap (λ zs. f y ∷ zs) (placed_mapped f ys i x)

pub all_snoc : {X : Type 0} (P : X → Type 0) (xs : List X) (x : X) → AllByRecursion P xs → P x → AllByRecursion P (xs ++ x ∷ [])
all_snoc P [] x a h = (h, tt)
all_snoc P (y ∷ ys) x a h = (a.0, all_snoc P ys x a.1 h)
