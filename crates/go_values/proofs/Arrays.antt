-- The arrays of the heap.
use Rattle.std.proofs.Common.{◌≡◌, ℕ, zero, suc, ◌+◌, ◌<◌, ◌≤◌, List, [], ◌∷◌, ◌++◌, Vec, Global, get_or, slice_set, take, drop, length, refl, ap, ◌∙◌, arith, add-one}
use Rattle.std.proofs.Math.Seq.{map-set_same}
use Rattle.std.proofs.lemmas.List.{map-set, take-set, drop-set-lt}
use Rattle.go_meaning.specs.Values as meant
use Rattle.go_meaning.specs.Values.{nth}
use Rattle.go_meaning.specs.Computations.{World}
use Rattle.go_meaning.specs.Operations.{put_at, with_cells}
use Rattle.go_values.specs.Views.{views}
use Rattle.go_values.specs.Worlds.{array_views}
use Rattle.go_values.specs.declared.value.Value.{Value}

pub arrays_set : (xs : List (Vec Value Global)) (i : ℕ) (a : Vec Value Global) → array_views (slice_set xs i a) ≡ slice_set (array_views xs) i (views a.items)
arrays_set xs i a = map-set (λ x. views x.items) xs i a

pub array_within : (xs : List (Vec Value Global)) (i : ℕ) (d : Vec Value Global) → i < length xs → views (get_or xs i d).items ≡ get_or (array_views xs) i []
array_within [] i d h = absurd (omega arith)
array_within (a ∷ xs) zero d h = refl
array_within (a ∷ xs) (suc i) d h = array_within xs i d (omega arith)

pub arrays_beyond : (xs : List (Vec Value Global)) (i : ℕ) (vs : List meant.Value) → length xs ≤ i → slice_set (array_views xs) i vs ≡ array_views xs
arrays_beyond [] i vs h = refl
arrays_beyond (a ∷ xs) zero vs h = absurd (omega arith)
arrays_beyond (a ∷ xs) (suc i) vs h = ap (λ us. views a.items ∷ us) (arrays_beyond xs i vs (omega arith))

pub same_array : (xs : List (Vec Value Global)) (i : ℕ) (a d : Vec Value Global) → views a.items ≡ views (get_or xs i d).items → array_views (slice_set xs i a) ≡ array_views xs
same_array xs i a d e = map-set_same (λ x. views x.items) xs i a d e

pub none_there : (xs : List (Vec Value Global)) (i place : ℕ) → length xs ≤ i → nth (get_or (array_views xs) i []) place ≡ meant.NilFunction
none_there [] i place h = refl
none_there (a ∷ xs) zero place h = absurd (omega arith)
none_there (a ∷ xs) (suc i) place h = none_there xs i place (omega arith)

-- ---- a value that was taken out, and is put there again

put_over : (xs : List meant.Value) (p : ℕ) (u v : meant.Value) → put_at p (v ∷ []) (slice_set xs p u) ≡ put_at p (v ∷ []) xs
put_over xs p u v = ap (λ us. us ++ v ∷ [] ++ drop (p + 1) (slice_set xs p u)) (take-set xs p u) ∙ ap (λ us. take p xs ++ v ∷ [] ++ us) (drop-set-lt (p + 1) xs p u (omega arith))

put_again : (ys : List (List meant.Value)) (a p : ℕ) (u v : meant.Value) → slice_set (slice_set ys a (slice_set (get_or ys a []) p u)) a (put_at p (v ∷ []) (get_or (slice_set ys a (slice_set (get_or ys a []) p u)) a [])) ≡ slice_set ys a (put_at p (v ∷ []) (get_or ys a []))
put_again [] a p u v = refl
put_again (x ∷ xs) zero p u v = ap (λ y. y ∷ xs) (put_over x p u v)
put_again (x ∷ xs) (suc a) p u v = ap (λ ys. x ∷ ys) (put_again xs a p u v)

pub cell_again : (w : World) (bs : List (List meant.Value)) (a i n c k : ℕ) (u v : meant.Value) → bs ≡ slice_set w.arrays a (slice_set (get_or w.arrays a []) (i + k) u)
    → with_cells (meant.Slice a i n c) k (v ∷ []) (record w { arrays = bs }) ≡ with_cells (meant.Slice a i n c) k (v ∷ []) w
cell_again w bs a i n c k u v e =
    ap (λ ys. with_cells (meant.Slice a i n c) k (v ∷ []) (record w { arrays = ys })) e ∙ ap (λ ys. record w { arrays = ys }) (put_again w.arrays a (i + k) u v)
