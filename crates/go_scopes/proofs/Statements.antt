-- Of the statements of several files, those behind the first ones.
use Rattle.std.proofs.Common.{◌≡◌, ℕ, zero, suc, ◌+◌, ◌∙◌, List, [], ◌∷◌, ◌++◌, Some, length, drop, slice_get, ap, sym, arith}
use Rattle.std.proofs.Math.Seq.{drop-append-add}
use Rattle.go_tree.specs.Units.{Place}
use Rattle.go_tree.specs.Branches.{first_place}

pub first_behind : (a b : List Place) (n : ℕ) (s : Place) → slice_get a n ≡ Some s → first_place (drop n (a ++ b)) ≡ s ∷ []
first_behind [] b n s h = cc
first_behind (x ∷ a) b zero s h = let same : x ≡ s = cc in ap (λ y. y ∷ []) same
first_behind (x ∷ a) b (suc n) s h = first_behind a b n s h

pub left_behind : (a b : List Place) (left n : ℕ) → left + length a ≡ n → drop n (a ++ b) ≡ drop left b
left_behind a b left n h = let e : n ≡ length a + left = omega (arith, h) in ap (λ k. drop k (a ++ b)) e ∙ drop-append-add a b left

-- at a file that has the statement that is one too many
pub first_found : (whole now here rest : List Place) (left : ℕ) (s : Place) → now ≡ here ++ rest → slice_get here left ≡ Some s → first_place (drop left now) ≡ first_place whole → s ∷ [] ≡ first_place whole
first_found whole now here rest left s e h before = sym (first_behind here rest left s h) ∙ ap (λ l. first_place (drop left l)) (sym e) ∙ before

-- and at one that doesn't
pub none_found : (whole now here rest : List Place) (n left : ℕ) → now ≡ here ++ rest → left + length here ≡ n → first_place (drop n now) ≡ first_place whole → first_place (drop left rest) ≡ first_place whole
none_found whole now here rest n left e h before = ap first_place (sym (left_behind here rest left n h)) ∙ ap (λ l. first_place (drop n l)) (sym e) ∙ before
