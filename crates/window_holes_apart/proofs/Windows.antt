-- The holes of adjoining statements of a function lie apart.
use Rattle.std.proofs.Common.{◌≡◌, ℕ, zero, suc, ◌+◌, ◌<◌, ◌≤◌, Bool, true, false, List, [], ◌∷◌, ◌++◌, drop, take, Option, Some, None, slice_get, refl, subst, arith}
use Rattle.std.specs.Prelude.{if◌then◌else◌}
use Rattle.go_types.specs.Trees.{TypeTree}
use Rattle.go_typed.specs.declared.window.Window.{Window}
use Rattle.go_typed.specs.Forms.{is_statement_list, values_count}
use Rattle.go_typed.specs.Funcs.{size}
use Rattle.go_typed.specs.Lists.{own_list, statement_lists, lists_among, present, statements_of}
use Rattle.go_typed.specs.Trees.{Typed, typed, Typeds, none, more, skip, first_of, last_of}
use Rattle.go_typed.specs.Windows.{Range}
use Rattle.clone_window.specs.Masses.{is_hole, is_inside}
use Rattle.clone_window.specs.Spans.{last_from, range_over}
use Rattle.clone_window.specs.Windows.{row_of, statements_in, window_statements}
use Rattle.param_choose.specs.Holes.{Hole, holes_in, holes_among}
use Rattle.window_holes_apart.specs.Apart.{LieApart}
use Rattle.go_stmts_tokens.specs.Lying.{Lies, AllLie}

-- ---- tokens

spans : (a b : ℕ) (x : Typed TypeTree) → Lies a b x → a < last_of x
spans a b (typed f i j l ps) h = omega (arith, h.0, h.1)

ends : (a b : ℕ) (x : Typed TypeTree) → Lies a b x → last_of x ≤ b
ends a b (typed f i j l ps) h = h.2

-- it ends where its last token is
exact : (a b : ℕ) (x : Typed TypeTree) → Lies a b x → Lies a (last_of x) x
exact a b (typed f i j l ps) h = (h.0, h.1, omega arith, h.3)

wider : (a b c d : ℕ) (x : Typed TypeTree) → c ≤ a → b ≤ d → Lies a b x → Lies c d x
wider a b c d (typed f i j l ps) u v h = (omega (arith, u, h.0), h.1, omega (arith, v, h.2), h.3)

-- ---- holes

chosen : {A : Type 0} (P : A → Type 0) (b : Bool) (x y : A) → P x → P y → P (if b then x else y)
chosen P true x y f g = f
chosen P false x y f g = g

apart_wider : (i k m j : ℕ) (hs : List (Hole TypeTree)) → k ≤ i → m ≤ j → LieApart i hs m → LieApart k hs j
apart_wider i k m j [] u v h = omega (arith, u, v, h)
apart_wider i k m j (x ∷ hs) u v h = (omega (arith, u, h.0), h.1, apart_wider x.upto x.upto m j hs (omega arith) v h.2)

apart_append : (i m j : ℕ) (hs gs : List (Hole TypeTree)) → LieApart i hs m → LieApart m gs j → LieApart i (hs ++ gs) j
apart_append i m j [] gs h g = apart_wider m i j j gs h (omega arith) g
apart_append i m j (x ∷ hs) gs h g = (h.0, h.1, apart_append x.upto m j hs gs h.2 g)

mutual
  holes_apart : (k : ℕ) (inside : Bool) (a b : ℕ) (x : Typed TypeTree) → Lies a b x → LieApart a (holes_in k inside x) b
  holes_apart k inside a b (typed f i j l ps) h =
      chosen {A = List (Hole TypeTree)} (λ hs. LieApart a hs b) (is_hole inside f l) (record { node = k; from = i; upto = j; sort = l.sort } ∷ []) (holes_among (suc k) (is_inside inside f l) ps) (h.0, h.1, h.2)
      (apart_wider i a j b (holes_among (suc k) (is_inside inside f l) ps) h.0 h.2 (all_holes_apart (suc k) (is_inside inside f l) i j ps h.3))

  all_holes_apart : (k : ℕ) (inside : Bool) (a b : ℕ) (ps : Typeds TypeTree) → AllLie a b ps → LieApart a (holes_among k inside ps) b
  all_holes_apart k inside a b none h = h
  all_holes_apart k inside a b (more p ps) h =
      apart_append a (last_of p) b (holes_in k inside p) (holes_among (k + size p) inside ps) (holes_apart k inside a (last_of p) p (exact a b p h.0)) (all_holes_apart (k + size p) inside (last_of p) b ps h.1)
  all_holes_apart k inside a b (skip ps) h = all_holes_apart k inside a b ps h

-- ---- statement lists

-- each one lies at its own tokens
abbrev EachOwn : List (Typed TypeTree) → Type 0
EachOwn [] = Unit {0}
EachOwn (x ∷ xs) = Lies (first_of x) (last_of x) x × EachOwn xs

own_append : (xs ys : List (Typed TypeTree)) → EachOwn xs → EachOwn ys → EachOwn (xs ++ ys)
own_append [] ys h g = g
own_append (x ∷ xs) ys h g = (h.0, own_append xs ys h.1 g)

own_at : (xs : List (Typed TypeTree)) (n : ℕ) (x : Typed TypeTree) → EachOwn xs → slice_get xs n ≡ Some x → Lies (first_of x) (last_of x) x
own_at [] n x h e = absurd cc
own_at (y ∷ xs) zero x h e = let same : y ≡ x = cc in subst (λ z. Lies (first_of z) (last_of z) z) same h.0
own_at (y ∷ xs) (suc n) x h e = own_at xs n x h.1 e

at_own : (a b : ℕ) (x : Typed TypeTree) → Lies a b x → Lies (first_of x) (last_of x) x
at_own a b (typed f i j l ps) h = (omega arith, h.1, omega arith, h.3)

mutual
  lists_lie : (a b : ℕ) (x : Typed TypeTree) → Lies a b x → EachOwn (statement_lists x)
  lists_lie a b (typed f i j l ps) h =
      own_append (own_list (typed f i j l ps)) (lists_among ps) (chosen EachOwn (is_statement_list f) (typed f i j l ps ∷ []) [] (at_own a b (typed f i j l ps) h, tt) tt) (all_lists_lie i j ps h.3)

  all_lists_lie : (a b : ℕ) (ps : Typeds TypeTree) → AllLie a b ps → EachOwn (lists_among ps)
  all_lists_lie a b none h = tt
  all_lists_lie a b (more p ps) h = own_append (statement_lists p) (lists_among ps) (lists_lie a b p h.0) (all_lists_lie (last_of p) b ps h.1)
  all_lists_lie a b (skip ps) h = all_lists_lie a b ps h

-- ---- statements

abbrev Row : (a b : ℕ) → List (Typed TypeTree) → Type 0
Row a b [] = a ≤ b
Row a b (x ∷ xs) = Lies a b x × Row (last_of x) b xs

row_order : (a b : ℕ) (xs : List (Typed TypeTree)) → Row a b xs → a ≤ b
row_order a b [] h = h
row_order a b (x ∷ xs) h = let u = spans a b x h.0 in let v = ends a b x h.0 in omega (arith, u, v)

row_later : (a c b : ℕ) (xs : List (Typed TypeTree)) → c ≤ a → Row a b xs → Row c b xs
row_later a c b [] u h = omega (arith, u, h)
row_later a c b (x ∷ xs) u h = (wider a b c b x u (omega arith) h.0, h.1)

present_lie : (a b : ℕ) (ps : Typeds TypeTree) → AllLie a b ps → Row a b (present ps)
present_lie a b none h = h
present_lie a b (more p ps) h = (h.0, present_lie (last_of p) b ps h.1)
present_lie a b (skip ps) h = present_lie a b ps h

drop_lie : (n a b : ℕ) (xs : List (Typed TypeTree)) → Row a b xs → Row a b (drop n xs)
drop_lie zero a b xs h = h
drop_lie (suc n) a b [] h = h
drop_lie (suc n) a b (x ∷ xs) h = let u = spans a b x h.0 in row_later (last_of x) a b (drop n xs) (omega (arith, u)) (drop_lie n (last_of x) b xs h.1)

take_lie : (n a b : ℕ) (xs : List (Typed TypeTree)) → Row a b xs → Row a b (take n xs)
take_lie zero a b xs h = row_order a b xs h
take_lie (suc n) a b [] h = h
take_lie (suc n) a b (x ∷ xs) h = (h.0, take_lie n (last_of x) b xs h.1)

row_of_lies : (a b : ℕ) (xs : List (Typed TypeTree)) → Row a b xs → AllLie a b (row_of xs)
row_of_lies a b [] h = h
row_of_lies a b (x ∷ xs) h = (h.0, row_of_lies (last_of x) b xs h.1)

statements_lie : (x : Typed TypeTree) → Lies (first_of x) (last_of x) x → Row (first_of x) (last_of x) (statements_of x)
statements_lie (typed f i j l ps) h = drop_lie (values_count f) i j (present ps) (present_lie i j ps h.3)

-- ---- a window

all_order : (a b : ℕ) (ps : Typeds TypeTree) → AllLie a b ps → a ≤ b
all_order a b none h = h
all_order a b (more p ps) h = let u = spans a b p h.0 in let v = ends a b p h.0 in omega (arith, u, v)
all_order a b (skip ps) h = all_order a b ps h

-- they end where the last one does
exactly : (a b : ℕ) (ps : Typeds TypeTree) → AllLie a b ps → AllLie a (last_from a ps) ps
exactly a b none h = omega arith
exactly a b (more p ps) h =
    let rest = exactly (last_of p) b ps h.1 in (wider a (last_of p) a (last_from (last_of p) ps) p (omega arith) (all_order (last_of p) (last_from (last_of p) ps) ps rest) (exact a b p h.0), rest)
exactly a b (skip ps) h = exactly a b ps h

begin_own : (a b : ℕ) (x : Typed TypeTree) → Lies a b x → Lies (first_of x) b x
begin_own a b (typed f i j l ps) h = (omega arith, h.1, h.2, h.3)

range_same : (r s : Range) → (let x : Option Range = Some r in x) ≡ Some s → r ≡ s
range_same r s e = cc

row_holes : (a b : ℕ) (ps : Typeds TypeTree) (r : Range) → AllLie a b ps → range_over ps ≡ Some r → LieApart r.from (holes_among 0 false ps) r.to
row_holes a b none r h e = absurd cc
row_holes a b (skip ps) r h e = absurd cc
row_holes a b (more p ps) r h e =
    let whole : Range = record { from = first_of p; to = last_from (last_of p) ps } in
    let lies = exactly (first_of p) b (more p ps) (begin_own a b p h.0, h.1) in
    subst (λ (z : Range). LieApart z.from (holes_among 0 false (more p ps)) z.to) (range_same whole r e) (all_holes_apart 0 false (first_of p) (last_from (last_of p) ps) (more p ps) lies)

there : (o : Option (Typed TypeTree)) (first count : ℕ) (r : Range) → ((x : Typed TypeTree) → o ≡ Some x → Lies (first_of x) (last_of x) x) → range_over (row_of (take count (drop first (statements_in o)))) ≡ Some r
    → LieApart r.from (holes_among 0 false (row_of (take count (drop first (statements_in o))))) r.to
there None zero zero r f e = absurd cc
there None (suc m) zero r f e = absurd cc
there None zero (suc n) r f e = absurd cc
there None (suc m) (suc n) r f e = absurd cc
there (Some x) m n r f e =
    let a = first_of x in
    let b = last_of x in
    row_holes a b (row_of (take n (drop m (statements_of x)))) r (row_of_lies a b (take n (drop m (statements_of x))) (take_lie n a b (drop m (statements_of x)) (drop_lie m a b (statements_of x) (statements_lie x (f x refl))))) e

pub window_holes : (root : Typed TypeTree) (a b : ℕ) (w : Window) (r : Range) → Lies a b root → range_over (window_statements root w) ≡ Some r → LieApart r.from (holes_among 0 false (window_statements root w)) r.to
window_holes root a b w r h e = there (slice_get (statement_lists root) w.list) w.first w.count r (λ x g. own_at (statement_lists root) w.list x (lists_lie a b root h) g) e
