-- How windows are grouped one by one.
use Rattle.std.proofs.Common.{◌≡◌, ◌∙◌, ℕ, zero, suc, ◌+◌, Bool, true, false, List, [], ◌∷◌, ◌++◌, filter, drop, length, Some, slice_get, refl, sym, ap, arith}
use Rattle.std.specs.Prelude.{◌||◌, not, nat_eq, nat_lt, if◌then◌else◌}
use Rattle.std.specs.List.{list_any}
use Rattle.std.proofs.lemmas.Bool.{eqb-true, and_parts}
use Rattle.std.proofs.lemmas.List.{append_assoc}
use Rattle.std.proofs.lemmas.Option.{same_Some}
use Rattle.go_typed.specs.declared.window.Window.{Window}
use Rattle.go_typed.specs.Funcs.{FuncView}
use Rattle.go_typed.specs.Packages.{are_numbered}
use Rattle.clone_window.specs.declared.bounds.Bounds.{Bounds}
use Rattle.clone_window.specs.Windows.{windows}
use Rattle.clone_window.specs.Bodies.{body_of, bodies_of}
use Rattle.clone_classes.specs.Classes.{class_led_by}
use Rattle.clone_classes.specs.Listing.{windows_of_all}

-- some pass where the ones that are kept are some
pub some-kept : {A : Type 0} (test : A → Bool) (w : A) (xs : List A) → nat_lt 1 (length (w ∷ filter test xs)) ≡ list_any test xs
some-kept test w [] = refl
some-kept {A} test w (x ∷ xs) = step (test x) (some-kept test w xs) where
  step : (b : Bool) → nat_lt 1 (length (w ∷ filter test xs)) ≡ list_any test xs → nat_lt 1 (length (w ∷ (if b then x ∷ filter test xs else filter test xs))) ≡ (b || list_any test xs)
  step true e = grind arith
  step false e = e

pub led-if : {A : Type 0} (same : A → A → Bool) (earlier : List A) (w : A) (later : List A) → list_any (same w) earlier ≡ false →
    class_led_by same earlier w later ≡ (if nat_lt 1 (length (w ∷ filter (same w) later)) then (w ∷ filter (same w) later) ∷ [] else [])
led-if {A} same earlier w later e =
    ap (λ b. if b || not (list_any (same w) later) then [] else (w ∷ filter (same w) later) ∷ []) e
    ∙ turned (list_any (same w) later)
    ∙ ap (λ b. if b then (w ∷ filter (same w) later) ∷ [] else []) (sym (some-kept (same w) w later)) where
      turned : (b : Bool) → (if not b then [] else (w ∷ filter (same w) later) ∷ []) ≡ (if b then (w ∷ filter (same w) later) ∷ [] else [])
      turned true = refl
      turned false = refl

-- ---- one window after the other

rest-from : {A : Type 0} (xs : List A) (i : ℕ) (x : A) → slice_get xs i ≡ Some x → drop i xs ≡ x ∷ drop (i + 1) xs
rest-from [] i x e = cc
rest-from (y ∷ xs) zero x e = ap (λ z. z ∷ xs) (same_Some y x e)
rest-from (y ∷ xs) (suc i) x e = rest-from xs i x e ∙ (let n : suc (i + 1) ≡ suc i + 1 = omega arith in ap (λ k. x ∷ drop k (y ∷ xs)) n)

-- ---- the functions of a package

-- the number of a function is its place
pub number-is : (fs : List FuncView) (n i : ℕ) (f : FuncView) → are_numbered n fs ≡ true → slice_get fs i ≡ Some f → f.number ≡ n + i
number-is [] n i f h e = cc
number-is (g ∷ fs) n zero f h e =
    let p = and_parts (nat_eq g.number n) (are_numbered (suc n) fs) h in
    ap (λ x. x.number) (sym (same_Some g f e)) ∙ eqb-true g.number n p.0 ∙ (let k : n ≡ n + 0 = omega arith in k)
number-is (g ∷ fs) n (suc i) f h e =
    let p = and_parts (nat_eq g.number n) (are_numbered (suc n) fs) h in
    number-is fs (suc n) i f p.1 e ∙ (let k : suc n + i ≡ n + suc i = omega arith in k)

pub functions-step : (bounds : Bounds) (fs : List FuncView) (i : ℕ) (f : FuncView) (all old new : List Window) → are_numbered 0 fs ≡ true → slice_get fs i ≡ Some f →
    all ≡ old ++ windows_of_all bounds i (bodies_of (drop i fs)) → new ≡ old ++ windows bounds f.number (body_of f).root →
    all ≡ new ++ windows_of_all bounds (i + 1) (bodies_of (drop (i + 1) fs))
functions-step bounds fs i f all old new h e a n =
    let here : f.number ≡ i = number-is fs 0 i f h e ∙ (let z : 0 + i ≡ i = omega arith in z) in
    let s : suc i ≡ i + 1 = omega arith in
    a
    ∙ ap (λ l. old ++ windows_of_all bounds i (bodies_of l)) (rest-from fs i f e)
    ∙ sym (append_assoc old (windows bounds i (body_of f).root) (windows_of_all bounds (suc i) (bodies_of (drop (i + 1) fs))))
    ∙ ap (λ k. (old ++ windows bounds k (body_of f).root) ++ windows_of_all bounds (suc i) (bodies_of (drop (i + 1) fs))) (sym here)
    ∙ ap (λ l. l ++ windows_of_all bounds (suc i) (bodies_of (drop (i + 1) fs))) (sym n)
    ∙ ap (λ k. new ++ windows_of_all bounds k (bodies_of (drop (i + 1) fs))) s
