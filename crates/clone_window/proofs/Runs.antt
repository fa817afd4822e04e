-- Runs of statements: one count further, and masses that end at the greatest number.
use Rattle.std.proofs.Common.{◌≡◌, ℕ, zero, suc, ◌+◌, ◌-◌, ◌^◌, ◌≤◌, ◌<◌, Bool, true, false, ◌&&◌, List, [], ◌∷◌, ◌++◌, length, map, filter, take, refl, sym, ap, ◌∙◌, arith, append_assoc}
use Rattle.std.specs.Prelude.{nat_le, min, sum, if◌then◌else◌}
use Rattle.std.specs.List.{range_with_len}
use Rattle.std.proofs.lemmas.Bool.{leb-true, leb-false}
use Rattle.std.proofs.lemmas.Bool.Decides.{nat_tests}
use Rattle.std.proofs.lemmas.List.{append-nil}
use Rattle.std.proofs.lemmas.List.Sums.{sum_by-cons}
use Rattle.std.proofs.lemmas.List.Elements.{filter-append}
use Rattle.go_typed.specs.declared.window.Window.{Window}
use Rattle.clone_window.specs.declared.bounds.Bounds.{Bounds}
use Rattle.clone_window.specs.Caps.{capped}
use Rattle.clone_window.specs.Windows.{is_heavy, run_at, windows_at}

range-more : (a n : ℕ) → range_with_len a (suc n) ≡ range_with_len a n ++ (a + n) ∷ []
range-more a zero = ap (λ k. k ∷ []) (let e : a ≡ a + 0 = omega arith in e)
range-more a (suc n) =
    ap (λ l. a ∷ l) (range-more (a + 1) n ∙ ap (λ k. range_with_len (a + 1) n ++ k ∷ []) (let e : a + 1 + n ≡ a + suc n = omega arith in e))

map-join : {A B : Type 0} (f : A → B) (xs ys : List A) → map f (xs ++ ys) ≡ map f xs ++ map f ys
map-join f [] ys = refl
map-join f (x ∷ xs) ys = ap (λ l. f x ∷ l) (map-join f xs ys)

kept-one : {A : Type 0} (b : Bool) (f : ℕ → A) (k : ℕ) → map f (if b then k ∷ [] else []) ≡ (if b then f k ∷ [] else [])
kept-one true f k = refl
kept-one false f k = refl

-- The counts up to i + 1 are those up to i and this one, if it isn't too small.
counts-at : {A : Type 0} (p : ℕ → Bool) (f : ℕ → A) (a i : ℕ) (few : Bool) → nat_le a (suc i) ≡ few →
    map f (filter p (range_with_len a (suc (suc i) - a))) ≡ map f (filter p (range_with_len a (suc i - a))) ++ (if few && p (suc i) then f (suc i) ∷ [] else [])
counts-at p f a i true h =
    let low : a ≤ suc i = leb-true a (suc i) h in
    ap (λ n. map f (filter p (range_with_len a n))) (let e : suc (suc i) - a ≡ suc (suc i - a) = omega arith in e)
    ∙ ap (λ l. map f (filter p l)) (range-more a (suc i - a))
    ∙ ap (λ k. map f (filter p (range_with_len a (suc i - a) ++ k ∷ []))) (let e : a + (suc i - a) ≡ suc i = omega arith in e)
    ∙ ap (map f) (filter-append p (range_with_len a (suc i - a)) (suc i ∷ []))
    ∙ map-join f (filter p (range_with_len a (suc i - a))) (filter p (suc i ∷ []))
    ∙ ap (λ l. map f (filter p (range_with_len a (suc i - a))) ++ l) (kept-one (p (suc i)) f (suc i))
counts-at p f a i false h =
    let high : suc i < a = leb-false a (suc i) h in
    ap (λ n. map f (filter p (range_with_len a n))) (let e : suc (suc i) - a ≡ suc i - a = omega arith in e)
    ∙ sym (append-nil (map f (filter p (range_with_len a (suc i - a)))))

pub counts-more : {A : Type 0} (p : ℕ → Bool) (f : ℕ → A) (a i : ℕ) →
    map f (filter p (range_with_len a (suc (suc i) - a))) ≡ map f (filter p (range_with_len a (suc i - a))) ++ (if nat_le a (suc i) && p (suc i) then f (suc i) ∷ [] else [])
counts-more p f a i = counts-at p f a i (nat_le a (suc i)) refl

-- ---- masses that end at the greatest number

pub sum-capped : (ms : List ℕ) → capped (sum (map capped ms)) ≡ capped (sum ms)
sum-capped [] = refl
sum-capped (m ∷ ms) =
    let e : capped (sum (map capped ms)) ≡ capped (sum ms) = sum-capped ms in
    omega (arith, sum_by-cons (λ x. x) (capped m) (map capped ms), sum_by-cons (λ x. x) m ms)

take-map : {A B : Type 0} (f : A → B) (n : ℕ) (xs : List A) → take n (map f xs) ≡ map f (take n xs)
take-map f zero xs = refl
take-map f (suc n) [] = refl
take-map f (suc n) (x ∷ xs) = ap (λ l. f x ∷ l) (take-map f n xs)

-- a number is at most another one exactly where it is at most that one's cap
pub le-capped : (a b c : ℕ) → a ≤ 2 ^ 32 - 1 → capped b ≡ capped c → nat_le a b ≡ nat_le a c
le-capped a b c h e = grind (arith, nat_tests)

heavy-capped : (bounds : Bounds) (ms : List ℕ) → bounds.least ≤ 2 ^ 32 - 1 → (count : ℕ) → is_heavy bounds (map capped ms) count ≡ is_heavy bounds ms count
heavy-capped bounds ms h count =
    le-capped bounds.least (sum (take count (map capped ms))) (sum (take count ms)) h (ap (λ l. capped (sum l)) (take-map capped count ms) ∙ sum-capped (take count ms))

filter-same : {A : Type 0} (p q : A → Bool) → ((x : A) → p x ≡ q x) → (xs : List A) → filter p xs ≡ filter q xs
filter-same p q h [] = refl
filter-same p q h (x ∷ xs) = ap (λ b. if b then x ∷ filter p xs else filter p xs) (h x) ∙ ap (λ l. if q x then x ∷ l else l) (filter-same p q h xs)

length-map : {A B : Type 0} (f : A → B) (xs : List A) → length (map f xs) ≡ length xs
length-map f [] = refl
length-map f (x ∷ xs) = ap suc (length-map f xs)

pub windows-capped : (bounds : Bounds) (func list at : ℕ) (ms : List ℕ) → bounds.least ≤ 2 ^ 32 - 1 →
    windows_at bounds func list at (map capped ms) ≡ windows_at bounds func list at ms
windows-capped bounds func list at ms h =
    ap (λ n. map (run_at func list at) (filter (is_heavy bounds (map capped ms)) (range_with_len bounds.fewest (suc (min 32 n) - bounds.fewest)))) (length-map capped ms)
    ∙ ap (map (run_at func list at)) (filter-same (is_heavy bounds (map capped ms)) (is_heavy bounds ms) (heavy-capped bounds ms h) (range_with_len bounds.fewest (suc (min 32 (length ms)) - bounds.fewest)))

-- the runs of one statement more
pub windows-next : (b : Bounds) (f : ℕ → Window) (ms : List ℕ) (i s : ℕ) (old out out' : List Window) → b.least ≤ 2 ^ 32 - 1 → s ≡ capped (sum (take (i + 1) ms)) →
    out ≡ old ++ map f (filter (is_heavy b ms) (range_with_len b.fewest (suc i - b.fewest))) →
    out' ≡ out ++ (if nat_le b.fewest (i + 1) && nat_le b.least s then f (i + 1) ∷ [] else []) →
    out' ≡ old ++ map f (filter (is_heavy b ms) (range_with_len b.fewest (suc (i + 1) - b.fewest)))
windows-next b f ms i s old out out' h t e e' =
    let p = is_heavy b ms in
    let before = map f (filter p (range_with_len b.fewest (suc i - b.fewest))) in
    let n : i + 1 ≡ suc i = omega arith in
    let heavy : nat_le b.least s ≡ p (i + 1) = le-capped b.least s (sum (take (i + 1) ms)) h (let k : capped s ≡ capped (sum (take (i + 1) ms)) = omega arith in k) in
    e'
    ∙ ap (λ o. o ++ (if nat_le b.fewest (i + 1) && nat_le b.least s then f (i + 1) ∷ [] else [])) e
    ∙ append_assoc old before (if nat_le b.fewest (i + 1) && nat_le b.least s then f (i + 1) ∷ [] else [])
    ∙ ap (λ v. old ++ (before ++ (if nat_le b.fewest (i + 1) && v then f (i + 1) ∷ [] else []))) heavy
    ∙ ap (λ k. old ++ (before ++ (if nat_le b.fewest k && p k then f k ∷ [] else []))) n
    ∙ ap (λ l. old ++ l) (sym (counts-more p f b.fewest i))
    ∙ ap (λ k. old ++ map f (filter p (range_with_len b.fewest (suc k - b.fewest)))) (sym n)
