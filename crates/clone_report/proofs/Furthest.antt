-- The furthest ends tell which statements stand in members.
use Rattle.std.proofs.Common.{◌≡◌, ◌∙◌, ℕ, zero, suc, ◌+◌, ◌-◌, Bool, true, false, ◌&&◌, ◌||◌, List, [], ◌∷◌, ◌++◌, cond, Option, Some, None, slice_get, refl, sym, ap, arith}
use Rattle.std.specs.Prelude.{max, nat_eq, nat_le, nat_lt, unwrap_or, if◌then◌else◌}
use Rattle.std.specs.List.{flat_map, list_any}
use Rattle.std.proofs.lemmas.Bool.{eqb-true, and_parts}
use Rattle.std.proofs.lemmas.Bool.Decides.{nat_tests}
use Rattle.go_typed.specs.declared.window.Window.{Window}
use Rattle.go_typed.specs.Forms.{is_statement_list, values_count}
use Rattle.go_typed.specs.Trees.{Typed, typed, Typeds, none, more, skip}
use Rattle.clone_window.specs.declared.span.FunctionPlace.{FunctionPlace}
use Rattle.clone_window.specs.Bodies.{Body}
use Rattle.clone_window.specs.Windows.{list_count}
use Rattle.clone_report.specs.declared.ends.Start.{Start}
use Rattle.clone_report.specs.Covered.{is_covered, is_placed, own, stands, stands_in, statements_along, statements_among, statements_from, statements_in, statements_there}
use Rattle.clone_report.specs.Ends.{end_at, furthest, goes_past, Reaches, same_start, stands_by, start_at, start_of}
use Rattle.clone_report.proofs.Lists.{and-assoc, any-equal, any-join, any-or}

-- ---- one member more

same-parts : (s t : Start) → same_start s t ≡ (nat_eq s.func t.func && nat_eq s.list t.list && nat_eq s.first t.first)
same-parts s t = and-assoc (nat_eq s.func t.func) (nat_eq s.list t.list) (nat_eq s.first t.first)

made : ℕ → ℕ → ℕ → Start
made a b c = record { func = a; list = b; first = c }

pub one-start : (s t : Start) → same_start s t ≡ true → s ≡ t
unfolding made
one-start s t h =
    let p = and_parts (nat_eq s.func t.func && nat_eq s.list t.list) (nat_eq s.first t.first) (sym (same-parts s t) ∙ h) in
    let q = and_parts (nat_eq s.func t.func) (nat_eq s.list t.list) p.0 in
    ap (λ x. made x s.list s.first) (eqb-true s.func t.func q.0) ∙ ap (λ x. made t.func x s.first) (eqb-true s.list t.list q.1) ∙ ap (λ x. made t.func t.list x) (eqb-true s.first t.first p.1)

lt-max : (x a b : ℕ) → nat_lt x (max a b) ≡ (nat_lt x a || nat_lt x b)
lt-max x a b = grind (arith, nat_tests)

or-false : (b : Bool) → (b || false) ≡ b
or-false true = refl
or-false false = refl

none-below : (n : ℕ) → nat_lt n 0 ≡ false
none-below n = grind (arith, nat_tests)

pub reaches-none : (g : Start → Option ℕ) → ((s : Start) → g s ≡ None) → Reaches g []
reaches-none g e s x = ap (λ o. nat_lt x (unwrap_or o 0)) (e s) ∙ none-below x

pub reaches-more : (g g' : Start → Option ℕ) (ws : List Window) (w : Window) (end : ℕ) → Reaches g ws → end ≡ max (end_at g (start_of w)) (w.first + w.count) →
    ((s : Start) → g' s ≡ cond (same_start (start_of w) s) (Some end) (g s)) → Reaches g' (ws ++ w ∷ [])
reaches-more g g' ws w end h e u s x =
    ap (λ o. nat_lt x (unwrap_or o 0)) (u s)
    ∙ step (same_start (start_of w) s) refl
    ∙ sym (any-join (goes_past s x) ws (w ∷ []) ∙ ap (λ b. list_any (goes_past s x) ws || b) (or-false (goes_past s x w))) where
      step : (b : Bool) → same_start (start_of w) s ≡ b → nat_lt x (unwrap_or (cond b (Some end) (g s)) 0) ≡ (list_any (goes_past s x) ws || goes_past s x w)
      step true k =
          let at : start_of w ≡ s = one-start (start_of w) s k in
          ap (nat_lt x) (e ∙ ap (λ t. max (end_at g t) (w.first + w.count)) at)
          ∙ lt-max x (end_at g s) (w.first + w.count)
          ∙ ap (λ b. b || nat_lt x (w.first + w.count)) (h s x)
          ∙ ap (λ b. list_any (goes_past s x) ws || (b && nat_lt x (w.first + w.count))) (sym k)
      step false k =
          h s x
          ∙ sym (or-false (list_any (goes_past s x) ws))
          ∙ ap (λ b. list_any (goes_past s x) ws || (b && nat_lt x (w.first + w.count))) (sym k)

-- ---- the furthest end

-- a window of this list that begins before the statement of number n and goes past x
abbrev begun : ℕ → ℕ → ℕ → ℕ → Window → Bool
begun func list n x w = nat_eq w.func func && nat_eq w.list list && nat_lt w.first n && nat_lt x (w.first + w.count)

any-never : {A : Type 0} (f : A → Bool) → ((x : A) → f x ≡ false) → (xs : List A) → list_any f xs ≡ false
any-never f e [] = refl
any-never f e (x ∷ xs) = ap (λ b. b || list_any f xs) (e x) ∙ any-never f e xs

never-begun : (func list x : ℕ) (w : Window) → begun func list 0 x w ≡ false
never-begun func list x w = ap (λ b. nat_eq w.func func && nat_eq w.list list && b && nat_lt x (w.first + w.count)) (none-below w.first) ∙ and-none (nat_eq w.func func && nat_eq w.list list) (nat_lt x (w.first + w.count)) where
  and-none : (a b : Bool) → (a && false && b) ≡ false
  and-none true b = refl
  and-none false b = refl

lt-more : (m n : ℕ) → nat_lt m (suc n) ≡ (nat_lt m n || nat_eq m n)
lt-more m n = grind (arith, nat_tests)

split-and : (a l e p : Bool) → ((a && l && p) || ((a && e) && p)) ≡ (a && (l || e) && p)
split-and true true e true = refl
split-and true true true false = refl
split-and true true false false = refl
split-and true false true p = refl
split-and true false false p = refl
split-and false l e p = refl

begun-more : (func list n x : ℕ) (w : Window) → (begun func list n x w || goes_past (start_at func list n) x w) ≡ begun func list (suc n) x w
begun-more func list n x w =
    ap (λ b. begun func list n x w || (b && nat_lt x (w.first + w.count))) (same-parts (start_of w) (start_at func list n))
    ∙ split-and (nat_eq w.func func && nat_eq w.list list) (nat_lt w.first n) (nat_eq w.first n) (nat_lt x (w.first + w.count))
    ∙ ap (λ b. (nat_eq w.func func && nat_eq w.list list) && b && nat_lt x (w.first + w.count)) (sym (lt-more w.first n))

furthest-says : (g : Start → Option ℕ) (ws : List Window) → Reaches g ws → (func list n x : ℕ) → nat_lt x (furthest g func list n) ≡ list_any (begun func list n x) ws
furthest-says g ws h func list zero x = none-below x ∙ sym (any-never (begun func list 0 x) (never-begun func list x) ws)
furthest-says g ws h func list (suc n) x =
    lt-max x (furthest g func list n) (end_at g (start_at func list n))
    ∙ ap (λ b. b || nat_lt x (end_at g (start_at func list n))) (furthest-says g ws h func list n x)
    ∙ ap (λ b. list_any (begun func list n x) ws || b) (h (start_at func list n) x)
    ∙ sym (any-or (begun func list n x) (goes_past (start_at func list n) x) ws)
    ∙ any-equal (λ w. begun func list n x w || goes_past (start_at func list n) x w) (begun func list (suc n) x) (begun-more func list n x) ws

le-lt : (m n : ℕ) → nat_lt m (suc n) ≡ nat_le m n
le-lt m n = grind (arith, nat_tests)

begun-stands : (func list at : ℕ) (w : Window) → begun func list (suc at) at w ≡ stands_in func list at w
begun-stands func list at w = ap (λ b. nat_eq w.func func && nat_eq w.list list && b && nat_lt at (w.first + w.count)) (le-lt w.first at)

any-flat : {A : Type 0} (f : A → Bool) (xss : List (List A)) → list_any f (flat_map (λ xs. xs) xss) ≡ list_any (λ xs. list_any f xs) xss
any-flat f [] = refl
any-flat f (xs ∷ xss) = any-join f xs (flat_map (λ ys. ys) xss) ∙ ap (λ b. list_any f xs || b) (any-flat f xss)

pub stands-says : (g : Start → Option ℕ) (cs : List (List Window)) → Reaches g (flat_map (λ c. c) cs) → (func list at : ℕ) → stands_by g func list at ≡ stands cs func list at
stands-says g cs h func list at =
    furthest-says g (flat_map (λ c. c) cs) h func list (suc at) at
    ∙ any-equal (begun func list (suc at) at) (stands_in func list at) (begun-stands func list at) (flat_map (λ c. c) cs)
    ∙ any-flat (stands_in func list at) cs

-- ---- tests that agree count alike

module _ (s t : ℕ → ℕ → Bool) (e : (list at : ℕ) → s list at ≡ t list at) where
  covered-same : (inside : Bool) (list ahead index : ℕ) → is_covered s inside list ahead index ≡ is_covered t inside list ahead index
  covered-same inside list ahead index = ap (λ b. inside || (nat_le ahead index && b)) (e list (index - ahead))

  mutual
    in-same : {T : Type 0} (inside : Bool) (k : ℕ) (x : Typed T) → statements_in s inside k x ≡ statements_in t inside k x
    in-same inside k (typed f i j l ps) =
        ap (λ a. if is_statement_list f then a else statements_among s inside k ps) (along-same inside k (values_count f) (suc k) 0 ps)
        ∙ ap (λ a. if is_statement_list f then statements_along t inside k (values_count f) (suc k) 0 ps else a) (among-same inside k ps)

    among-same : {T : Type 0} (inside : Bool) (k : ℕ) (ps : Typeds T) → statements_among s inside k ps ≡ statements_among t inside k ps
    among-same inside k none = refl
    among-same inside k (more p ps) =
        ap (λ a. a ++ statements_among s inside (k + list_count p) ps) (in-same inside k p)
        ∙ ap (λ a. statements_in t inside k p ++ a) (among-same inside (k + list_count p) ps)
    among-same inside k (skip ps) = among-same inside k ps

    along-same : {T : Type 0} (inside : Bool) (list ahead k index : ℕ) (ps : Typeds T) → statements_along s inside list ahead k index ps ≡ statements_along t inside list ahead k index ps
    along-same inside list ahead k index none = refl
    along-same inside list ahead k index (more p ps) =
        let b = is_covered s inside list ahead index in
        let c = is_covered t inside list ahead index in
        let rest = statements_along s inside list ahead (k + list_count p) (suc index) ps in
        ap (λ a. own ahead index a ++ statements_in s a k p ++ rest) (covered-same inside list ahead index)
        ∙ ap (λ a. own ahead index c ++ a ++ rest) (in-same c k p)
        ∙ ap (λ a. own ahead index c ++ statements_in t c k p ++ a) (along-same inside list ahead (k + list_count p) (suc index) ps)
    along-same inside list ahead k index (skip ps) = along-same inside list ahead k index ps

pub from-same : {T : Type 0} (s t : ℕ → ℕ → ℕ → Bool) → ((func list at : ℕ) → s func list at ≡ t func list at) → (places : List FunctionPlace) (file n : ℕ) (bs : List (Body T)) →
    statements_from s places file n bs ≡ statements_from t places file n bs
from-same s t e places file n [] = refl
from-same s t e places file n (b ∷ bs) =
    ap (λ a. (if is_placed file (slice_get places n) then a else []) ++ statements_from s places file (suc n) bs) (in-same (s n) (t n) (e n) false 0 b.root)
    ∙ ap (λ a. statements_there t places file n b ++ a) (from-same s t e places file (suc n) bs)
