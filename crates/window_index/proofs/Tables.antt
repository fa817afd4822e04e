-- Tables of groups that are changed in place.
use Rattle.std.proofs.Common.{◌≡◌, ◌∙◌, ℕ, zero, suc, ◌+◌, ◌<◌, ◌≤◌, Bool, true, false, List, [], ◌∷◌, ◌++◌, length, get_or, map, refl, sym, ap, arith, Vec, Global}
use Rattle.std.specs.Prelude.{Result, Ok, Err, OnErr, OnOk, if◌then◌else◌, filter, slice_set}
use Rattle.go_typed.specs.declared.window.Window.{Window}
use Rattle.window_index.specs.Buckets.{is_some_left, others_in}
use Rattle.window_index.specs.Groups.{changed, rows, with_one}

pub always : {A E P : Type 0} → (r : Result A E) → P → OnErr r P
always (Ok a) p = tt
always (Err e) p = p

pub weaker-ok : {A E P Q : Type 0} → (r : Result A E) → (P → Q) → OnOk r P → OnOk r Q
weaker-ok (Ok a) f h = f h
weaker-ok (Err e) f h = tt

pub weaker-err : {A E P Q : Type 0} → (r : Result A E) → (P → Q) → OnErr r P → OnErr r Q
weaker-err (Ok a) f h = tt
weaker-err (Err e) f h = f h

pub rows-length : (vs : List (Vec Window Global)) → length (rows vs) ≡ length vs
rows-length [] = refl
rows-length (v ∷ vs) = ap suc (rows-length vs)

pub set-one : (vs : List (Vec Window Global)) (n : ℕ) (g v : Vec Window Global) (w : Window) → n < length vs → g ≡ get_or vs n g → v.items ≡ g.items ++ w ∷ [] → rows (slice_set vs n v) ≡ with_one n w (rows vs)
set-one [] n g v w l e h = absurd (omega (arith, l))
set-one (x ∷ xs) zero g v w l e h = ap (λ k. k ∷ rows xs) (h ∙ ap (λ y. y.items ++ w ∷ []) e)
set-one (x ∷ xs) (suc n) g v w l e h = ap (λ k. x.items ∷ k) (set-one xs n g v w (omega (arith, l)) e h)

pub set-same : (vs : List (Vec Window Global)) (n : ℕ) (g v : Vec Window Global) → n < length vs → g ≡ get_or vs n g → v.items ≡ g.items → rows (slice_set vs n v) ≡ rows vs
set-same [] n g v l e h = absurd (omega (arith, l))
set-same (x ∷ xs) zero g v l e h = ap (λ k. k ∷ rows xs) (h ∙ ap (λ y. y.items) e)
set-same (x ∷ xs) (suc n) g v l e h = ap (λ k. x.items ∷ k) (set-same xs n g v (omega (arith, l)) e h)

pub set-changed : (f : List Window → List Window) (vs : List (Vec Window Global)) (n : ℕ) (g v : Vec Window Global) (gs : List (List Window)) → n < length vs → g ≡ get_or vs n g → v.items ≡ f g.items →
    rows vs ≡ changed f n gs → rows (slice_set vs n v) ≡ changed f (suc n) gs
set-changed f [] n g v gs l e h c = absurd (omega (arith, l))
set-changed f (x ∷ xs) zero g v [] l e h c = cc
set-changed f (x ∷ xs) zero g v (k ∷ gs) l e h c =
    let a : x.items ≡ k = cc in
    let b : rows xs ≡ gs = cc in
    ap (λ z. z ∷ rows xs) (h ∙ ap (λ y. f y.items) e ∙ ap f a) ∙ ap (λ z. f k ∷ z) b
set-changed f (x ∷ xs) (suc n) g v [] l e h c = cc
set-changed f (x ∷ xs) (suc n) g v (k ∷ gs) l e h c =
    let a : x.items ≡ f k = cc in
    let b : rows xs ≡ changed f n gs = cc in
    ap (λ z. z ∷ rows (slice_set xs n v)) a ∙ ap (λ z. f k ∷ z) (set-changed f xs n g v gs (omega (arith, l)) e h b)

pub all-changed : (f : List Window → List Window) (n : ℕ) (gs : List (List Window)) → length gs ≤ n → changed f n gs ≡ map f gs
all-changed f zero [] l = refl
all-changed f (suc n) [] l = refl
all-changed f zero (g ∷ gs) l = absurd (omega (arith, l))
all-changed f (suc n) (g ∷ gs) l = ap (λ k. f g ∷ k) (all-changed f n gs (omega (arith, l)))

pub kept-rows : (vs : List (Vec Window Global)) → rows (filter (λ v. is_some_left v.items) vs) ≡ filter is_some_left (rows vs)
kept-rows [] = refl
kept-rows (v ∷ vs) = by (is_some_left v.items) (kept-rows vs) where
  by : (b : Bool) → rows (filter (λ v. is_some_left v.items) vs) ≡ filter is_some_left (rows vs) → rows (if b then v ∷ filter (λ v. is_some_left v.items) vs else filter (λ v. is_some_left v.items) vs) ≡ (if b then v.items ∷ filter is_some_left (rows vs) else filter is_some_left (rows vs))
  by true h = ap (λ l. v.items ∷ l) h
  by false h = h
