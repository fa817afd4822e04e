-- Lists from the end on.
use Rattle.std.proofs.Common.{◌≡◌, ◌∙◌, ℕ, suc, ◌+◌, ◌<◌, List, ◌∷◌, length, drop, get_or, sym, ap, arith, refl, slice_index_or, zero, ◌≤◌, drop-cons}

pub drop-back : {X : Type 0} (l : List X) (i j : ℕ) (d : X) → j + 1 ≡ i → j < length l → d ≡ get_or l j d → drop j l ≡ d ∷ drop i l
drop-back l i j d e less is = let next : suc j ≡ i = omega (arith, e) in drop-cons l j d less ∙ (ap (λ x. x ∷ drop (suc j) l) (sym is) ∙ ap (λ n. d ∷ drop n l) next)

pub drop-one : {X : Type 0} (l : List X) (i j : ℕ) (d : X) → j + 1 ≡ i → j < length l → drop j l ≡ slice_index_or l j d ∷ drop i l
drop-one l i j d e less = let next : suc j ≡ i = omega (arith, e) in drop-cons l j d less ∙ ap (λ n. slice_index_or l j d ∷ drop n l) next

pub drop-next : {X : Type 0} (l : List X) (i : ℕ) (d : X) → i < length l → d ≡ get_or l i d → drop i l ≡ d ∷ drop (i + 1) l
drop-next l i d less is = let next : suc i ≡ i + 1 = omega arith in drop-cons l i d less ∙ (ap (λ x. x ∷ drop (suc i) l) (sym is) ∙ ap (λ n. d ∷ drop n l) next)

pub drop-nothing : {X Y : Type 0} (f : List X → Y) (l : List X) (i : ℕ) → i ≤ 0 → f (drop i l) ≡ f l
drop-nothing f l zero e = refl
drop-nothing f l (suc i) e = absurd (omega arith)
