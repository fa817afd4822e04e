-- Rows of different lengths, and conjunctions.
use Rattle.std.proofs.Common.{◌≡◌, ◌∙◌, suc, Bool, true, false, List, [], ◌∷◌, length, Option, Some, None, refl, ap}
use Rattle.std.specs.Prelude.{◌&&◌, nat_eq}
use Rattle.go_typed.specs.declared.node.TypedNode.{TypedNode}
use Rattle.go_typed.specs.Views.{view, views}
use Rattle.clone_window.specs.Sameness.{agree, all_agree}

pub and-false : (b : Bool) → (b && false) ≡ false
and-false true = refl
and-false false = refl

-- rows of different lengths don't agree
pub lengths-apart : (a b : Bool) (xs ys : List (Option TypedNode)) → (length xs ≡ length ys → ⊥) → all_agree nat_eq a b (views xs) (views ys) ≡ false
lengths-apart a b [] [] h = absurd (h refl)
lengths-apart a b [] (None ∷ ys) h = refl
lengths-apart a b [] (Some y ∷ ys) h = refl
lengths-apart a b (None ∷ xs) [] h = refl
lengths-apart a b (Some x ∷ xs) [] h = refl
lengths-apart a b (None ∷ xs) (None ∷ ys) h = lengths-apart a b xs ys (λ e. h (ap suc e))
lengths-apart a b (None ∷ xs) (Some y ∷ ys) h = refl
lengths-apart a b (Some x ∷ xs) (None ∷ ys) h = refl
lengths-apart a b (Some x ∷ xs) (Some y ∷ ys) h = ap (λ t. agree nat_eq a b (view x) (view y) && t) (lengths-apart a b xs ys (λ e. h (ap suc e))) ∙ and-false (agree nat_eq a b (view x) (view y))

-- parts that agree change nothing for the rest, and parts that don't decide
pub agreeing : (t r : Bool) → t ≡ true → (t && r) ≡ r
agreeing true r e = refl
agreeing false r e = cc

pub differing : (t r : Bool) → t ≡ false → (t && r) ≡ false
differing true r e = cc
differing false r e = refl
