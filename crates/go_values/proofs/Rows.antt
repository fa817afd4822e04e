-- Lists of values: parts of them, and lists that are filled up.
use Rattle.std.proofs.Common.{◌≡◌, ℕ, zero, suc, ◌+◌, ◌≤◌, List, [], ◌∷◌, ◌++◌, length, take, drop, replicate, refl, sym, ap, ◌∙◌, arith, add-one, length-drop, ◌-◌}
use Rattle.go_meaning.specs.Values as meant
use Rattle.go_values.specs.Views.{view, views}
use Rattle.go_values.specs.declared.value.Value.{Value}

pub views_push : (vs : List Value) (v : Value) → views (vs ++ v ∷ []) ≡ views vs ++ view v ∷ []
views_push [] v = refl
views_push (x ∷ xs) v = ap (λ us. view x ∷ us) (views_push xs v)

replicate_end : (i : ℕ) (x : meant.Value) → replicate i x ++ x ∷ [] ≡ replicate (suc i) x
replicate_end zero x = refl
replicate_end (suc i) x = ap (λ us. x ∷ us) (replicate_end i x)

append_end : (us vs : List meant.Value) (x : meant.Value) → us ++ vs ++ x ∷ [] ≡ us ++ (vs ++ x ∷ [])
append_end [] vs x = refl
append_end (u ∷ us) vs x = ap (λ ws. u ∷ ws) (append_end us vs x)

pub one_more : (us : List meant.Value) (i : ℕ) (x : meant.Value) → us ++ replicate i x ++ x ∷ [] ≡ us ++ replicate (i + 1) x
one_more us i x = append_end us (replicate i x) x ∙ ap (λ ws. us ++ ws) (replicate_end i x) ∙ ap (λ n. us ++ replicate n x) (sym (add-one i))

pub none_more : (us : List meant.Value) (x : meant.Value) → us ≡ us ++ replicate 0 x
none_more [] x = refl
none_more (u ∷ us) x = ap (λ ws. u ∷ ws) (none_more us x)

pub take_views : (vs : List Value) (n : ℕ) → views (take n vs) ≡ take n (views vs)
take_views vs zero = refl
take_views [] (suc n) = refl
take_views (v ∷ vs) (suc n) = ap (λ us. view v ∷ us) (take_views vs n)

pub views_window : (vs : List Value) (s n : ℕ) → views (take n (drop s vs)) ≡ take n (drop s (views vs))
views_window vs zero n = take_views vs n
views_window [] (suc s) n = take_views [] n
views_window (v ∷ vs) (suc s) n = views_window vs s n

take_all : (vs : List Value) (n : ℕ) → length vs ≤ n → views vs ≡ take n (views vs)
take_all [] zero h = refl
take_all [] (suc n) h = refl
take_all (v ∷ vs) zero h = absurd (omega arith)
take_all (v ∷ vs) (suc n) h = ap (λ us. view v ∷ us) (take_all vs n (omega arith))

pub window_all : (vs : List Value) (s n : ℕ) → length (drop s vs) ≤ n → views (drop s vs) ≡ take n (drop s (views vs))
window_all vs zero n h = take_all vs n h
window_all [] (suc s) n h = take_all [] n h
window_all (v ∷ vs) (suc s) n h = window_all vs s n h

pub window_past : (vs : List Value) (s n : ℕ) → length vs ≤ s → [] ≡ take n (drop s (views vs))
window_past [] zero zero h = refl
window_past [] zero (suc n) h = refl
window_past [] (suc s) zero h = refl
window_past [] (suc s) (suc n) h = refl
window_past (v ∷ vs) zero n h = absurd (omega arith)
window_past (v ∷ vs) (suc s) n h = window_past vs s n (omega arith)

pub whole : (vs : List Value) (n : ℕ) → length vs ≤ n → take n vs ≡ vs
whole [] zero h = refl
whole [] (suc n) h = refl
whole (v ∷ vs) zero h = absurd (omega arith)
whole (v ∷ vs) (suc n) h = ap (λ us. v ∷ us) (whole vs n (omega arith))

rest_is : (vs : List Value) (s : ℕ) → take (length vs - s) (drop s vs) ≡ drop s vs
rest_is vs s = whole (drop s vs) (length vs - s) (omega (arith, length-drop s vs))

pub window_part : (vs : List Value) (s n : ℕ) → views (take n (take (length vs - s) (drop s vs))) ≡ take n (drop s (views vs))
window_part vs s n = ap (λ r. views (take n r)) (rest_is vs s) ∙ views_window vs s n

pub window_rest : (vs : List Value) (s n : ℕ) → length vs - s ≤ n → views (take (length vs - s) (drop s vs)) ≡ take n (drop s (views vs))
window_rest vs s n h = ap views (rest_is vs s) ∙ window_all vs s n (omega (arith, length-drop s vs, h))

pub rest_length : (vs : List Value) (s : ℕ) → length (take (length vs - s) (drop s vs)) ≡ length vs - s
rest_length vs s = ap length (rest_is vs s) ∙ length-drop s vs
