-- One more part takes what is said for it.
use Rattle.std.proofs.Common.{◌≡◌, ℕ, ◌+◌, ◌<◌, ◌≤◌, min, length-drop, List, [], ◌∷◌, ◌++◌, length, drop, take, set, get_or, map, Option, refl, ap, sym, ◌∙◌, append_assoc, drop-set-lt, take-append-drop, arith}
use Rattle.std.proofs.lemmas.List.{take_more_set, map-append, length-map}
use Rattle.go_exprs_rules.specs.Settling.{Part}
use Rattle.go_exprs_rules.specs.Tables.{Parts}
use Rattle.go_stmts_defs.specs.Assigning.{Taking}
use Rattle.go_stmts_defs.specs.Rules.{given_optional, all_given}
use Rattle.go_exprs_engine.proofs.Public.{drop_step}

drop_set : {A : Type 0} (xs : List A) (i : ℕ) (x : A) → drop (i + 1) (set xs i x) ≡ drop (i + 1) xs
drop_set xs i x = drop-set-lt (i + 1) xs i x (omega arith)

module _ {A B : Type 0} (f : A → Option Part) (g : B → Taking) where
  pub given_step : (ks : List B) (xs : List A) (i : ℕ) (k : B) (x y : A) (due : Parts) → i < length ks → i < length xs → k ≡ get_or ks i k → x ≡ get_or xs i x
      → f y ≡ given_optional (g k) (f x)
      → map f (take i xs) ++ all_given (map g (drop i ks)) (map f (drop i xs)) ≡ due
      → map f (take (i + 1) (set xs i y)) ++ all_given (map g (drop (i + 1) ks)) (map f (drop (i + 1) (set xs i y))) ≡ due
  given_step ks xs i k x y due lk lx ik ix e h =
      let front : map f (take (i + 1) (set xs i y)) ≡ map f (take i xs) ++ f y ∷ [] = ap (map f) (take_more_set xs i y lx) ∙ map-append f (take i xs) (y ∷ []) in
      let rest = all_given (map g (drop (i + 1) ks)) (map f (drop (i + 1) xs)) in
      let here : all_given (map g (drop i ks)) (map f (drop i xs)) ≡ given_optional (g k) (f x) ∷ rest =
      ap (λ js. all_given (map g js) (map f (drop i xs))) (drop_step ks i k k lk ik) ∙ ap (λ ys. all_given (map g (k ∷ drop (i + 1) ks)) (map f ys)) (drop_step xs i x x lx ix) in
      ap (λ ys. ys ++ all_given (map g (drop (i + 1) ks)) (map f (drop (i + 1) (set xs i y)))) front
      ∙ ap (λ ys. (map f (take i xs) ++ f y ∷ []) ++ all_given (map g (drop (i + 1) ks)) (map f ys)) (drop_set xs i y)
      ∙ append_assoc (map f (take i xs)) (f y ∷ []) rest
      ∙ ap (λ z. map f (take i xs) ++ z ∷ rest) e
      ∙ ap (λ zs. map f (take i xs) ++ zs) (sym here)
      ∙ h

  short : (js : List Taking) (ys : Parts) → min (length ys) (length js) ≡ 0 → all_given js ys ≡ ys
  short [] ys h = refl
  short (j ∷ js) [] h = refl
  short (j ∷ js) (y ∷ ys) h = absurd (omega (arith, h))

  none_given : (ks : List B) (xs : List A) (i : ℕ) → min (length xs) (length ks) ≤ i → all_given (map g (drop i ks)) (map f (drop i xs)) ≡ map f (drop i xs)
  none_given ks xs i h =
      let a = length-map (drop i ks) g ∙ length-drop i ks in
      let b = length-map (drop i xs) f ∙ length-drop i xs in
      short (map g (drop i ks)) (map f (drop i xs)) (omega (arith, a, b, h))

  pub given_end : (ks : List B) (xs : List A) (i : ℕ) (due : Parts) → min (length xs) (length ks) ≤ i → map f (take i xs) ++ all_given (map g (drop i ks)) (map f (drop i xs)) ≡ due → map f xs ≡ due
  given_end ks xs i due out h =
      ap (map f) (sym (take-append-drop i xs)) ∙ map-append f (take i xs) (drop i xs) ∙ ap (λ ys. map f (take i xs) ++ ys) (sym (none_given ks xs i out)) ∙ h
