-- The files in which functions stand, in packages with equal heads.
use Rattle.std.proofs.Common.{◌≡◌, ◌∙◌, ℕ, zero, suc, List, [], ◌∷◌, ◌++◌, map, length, Some, refl, sym, ap, arith}
use Rattle.std.specs.Prelude.{slice_get}
use Rattle.go_grammar.specs.Trees.{Tree, parts}
use Rattle.go_tree.specs.Lists.{functions}
use Rattle.go_heads.specs.Functions.{Function, AreRead, KeepsFunctions}
use Rattle.go_heads.specs.Heads.{File, head_of, heads}
use Rattle.go_heads.specs.Tokens.{function_files}
use Rattle.go_heads.proofs.Public.{first_same, others_same, some_not_none}

abbrev pub KeepNumbers : Type 0
KeepNumbers = (old new : List File) → AreRead old → AreRead new → heads old ≡ heads new → KeepsFunctions old new

length_row : {A B : Type 0} (f : A → B) (xs : List A) → length (map f xs ++ []) ≡ length xs
length_row f [] = refl
length_row f (x ∷ xs) = ap suc (length_row f xs)

-- a number for each
same_numbers : (n : ℕ) (ts us : List Tree) → length us ≡ length ts → map (λ (t : Tree). n) us ≡ map (λ (t : Tree). n) ts
same_numbers n [] [] e = refl
same_numbers n [] (u ∷ us) e = absurd (omega (arith, e))
same_numbers n (t ∷ ts) [] e = absurd (omega (arith, e))
same_numbers n (t ∷ ts) (u ∷ us) e = ap (λ ns. n ∷ ns) (same_numbers n ts us (omega (arith, e)))

abbrev in_file : File → Tree → Function
in_file f t = record { file = f; tree = t }

pub files_same : KeepNumbers → (n : ℕ) (old new : List File) → AreRead old → AreRead new → heads old ≡ heads new → function_files n new ≡ function_files n old
files_same keep n [] [] h k e = refl
files_same keep n [] (b ∷ bs) h k e = absurd (some_not_none (head_of b) (heads bs) (sym e))
files_same keep n (a ∷ xs) [] h k e = absurd (some_not_none (head_of a) (heads xs) e)
files_same keep n (a ∷ xs) (b ∷ bs) h k e =
    let one : head_of a ≡ head_of b = first_same (head_of a) (head_of b) (heads xs) (heads bs) e in
    let keeps : KeepsFunctions (a ∷ []) (b ∷ []) = keep (a ∷ []) (b ∷ []) (h.0, tt) (k.0, tt) (ap (λ x. x ∷ []) one) in
    let many : length (functions (parts b.tree)) ≡ length (functions (parts a.tree)) = sym (length_row (in_file b) (functions (parts b.tree))) ∙ keeps.count ∙ length_row (in_file a) (functions (parts a.tree)) in
    ap (λ ns. ns ++ function_files (suc n) bs) (same_numbers n (functions (parts a.tree)) (functions (parts b.tree)) many)
    ∙ ap (λ ns. map (λ (t : Tree). n) (functions (parts a.tree)) ++ ns) (files_same keep (suc n) xs bs h.1 k.1 (others_same (head_of a) (head_of b) (heads xs) (heads bs) e))

-- the old function of a number
pub there_too : {A : Type 0} (xs ys : List A) → length ys ≡ length xs → (k : ℕ) (y : A) → slice_get ys k ≡ Some y → (x : A) × (slice_get xs k ≡ Some x)
there_too [] [] e k y h = absurd cc
there_too [] (z ∷ ys) e k y h = absurd (omega (arith, e))
there_too (x ∷ xs) [] e k y h = absurd cc
there_too (x ∷ xs) (z ∷ ys) e zero y h = (x, refl)
there_too (x ∷ xs) (z ∷ ys) e (suc k) y h = there_too xs ys (omega (arith, e)) k y h
