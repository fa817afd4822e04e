-- Functions by number, file by file.
use Rattle.std.proofs.Common.{◌≡◌, ℕ, zero, suc, ◌+◌, ◌<◌, List, [], ◌∷◌, ◌++◌, length, map, drop, get_or, Some, Ok, Err, slice_get, sym, ap, ◌∙◌, arith, drop-cons}
use Rattle.go_tree.specs.File.{FileTree}
use Rattle.clone_window.specs.Spans.{place_at, places_from, sought, starts_in}

pub sought-here : {A : Type 0} (f : ℕ → A) (ts : List ℕ) (xs : List A) (n t : ℕ) → sought ts n ≡ Ok t → slice_get (map f ts ++ xs) n ≡ Some (f t)
sought-here f [] xs n t e = cc
sought-here f (u ∷ ts) xs zero t e = let k : u ≡ t = cc in ap (λ v. Some (f v)) k
sought-here f (u ∷ ts) xs (suc n) t e = sought-here f ts xs n t e

pub sought-behind : {A : Type 0} (f : ℕ → A) (ts : List ℕ) (xs : List A) (n m : ℕ) → sought ts n ≡ Err m → slice_get (map f ts ++ xs) n ≡ slice_get xs m
sought-behind f [] xs n m e = let k : n ≡ m = cc in ap (slice_get xs) k
sought-behind f (u ∷ ts) xs zero m e = cc
sought-behind f (u ∷ ts) xs (suc n) m e = sought-behind f ts xs n m e

-- those of the file of a number and of the files behind it
pub places-at : (files : List FileTree) (i : ℕ) (f : FileTree) → i < length files → f ≡ get_or files i f →
    places_from i (drop i files) ≡ map (place_at i) (starts_in f) ++ places_from (i + 1) (drop (i + 1) files)
places-at files i f h e =
    ap (places_from i) (drop-cons files i f h ∙ ap (λ x. x ∷ drop (suc i) files) (sym e))
    ∙ ap (λ k. map (place_at i) (starts_in f) ++ places_from k (drop k files)) (let n : suc i ≡ i + 1 = omega arith in n)
