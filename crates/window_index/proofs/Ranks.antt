-- The windows of a tree whose parts lie one behind the other stand in ascending order.
use Rattle.std.proofs.Common.{◌≡◌, ◌∙◌, ℕ, zero, suc, ◌+◌, ◌-◌, ◌<◌, ◌≤◌, inl, inr, Bool, true, false, cond, List, [], ◌∷◌, ◌++◌, length, map, filter, take, drop, Some, slice_get, refl, sym, ap, subst, arith, append_assoc}
use Rattle.std.specs.Prelude.{◌==◌, if◌then◌else◌, min, nat_le, nat_lt}
use Rattle.std.specs.List.{AllByRecursion, range_with_len}
use Rattle.std.specs.Ordering.{nat_cmp, ordering_then}
use Rattle.std.specs.declared.cmp.Ordering.TheVariants.{Less, Equal, Greater}
use Rattle.std.proofs.lemmas.Bool.{eq-eqb, lt-ltb}
use Rattle.std.proofs.lemmas.Bool.Decides.{nat_tests}
use Rattle.go_typed.specs.declared.window.Window.{Window}
use Rattle.go_typed.specs.Forms.{is_statement_list, values_count}
use Rattle.go_typed.specs.Lists.{lists_among, present, statement_lists, statements_of}
use Rattle.go_typed.specs.Trees.{Typed, typed, Typeds, none, more, skip, first_of, last_of}
use Rattle.clone_window.specs.declared.bounds.Bounds.{Bounds}
use Rattle.clone_window.specs.Masses.{each_mass}
use Rattle.clone_window.specs.Windows.{is_heavy, list_count, row_of, run_at, statements_in, window_statements, windows_along, windows_among, windows_at, windows_from, windows_in}
use Rattle.clone_window.specs.Spans.{last_from}
use Rattle.clone_window.proofs.Public.{drop-both}
use Rattle.clone_classes.specs.declared.place.Place.{Place}
use Rattle.clone_classes.specs.Choices.{place_over}
use Rattle.clone_classes.specs.Orders.{place_cmp}
use Rattle.window_index.specs.Orderly.{Ascends, IsBefore}
use Rattle.window_index.proofs.Ascents.{kept-ascends, kept-members}
use Rattle.window_index.proofs.Nested.{choice, Flat, AllFlat, Nested, Within, Row, Listed, within-first, within-grows, within-last, within-nested}

-- ---- the order of places

nat-less : (a b : ℕ) → a < b → nat_cmp a b ≡ Less
nat-less a b h = ap (λ c. cond c Less (cond (a == b) Equal Greater)) (lt-ltb a b h)

not-below : (a : ℕ) → nat_lt a a ≡ false
not-below a = grind (arith, nat_tests)

nat-equal : (a b : ℕ) → a ≡ b → nat_cmp a b ≡ Equal
nat-equal a b e =
    ap (nat_cmp a) (sym e)
    ∙ ap (λ c. cond c Less (cond (a == a) Equal Greater)) (not-below a)
    ∙ ap (λ c. cond c Equal Greater) (eq-eqb a a refl)

pub by-function : (p q : Place) → p.func < q.func → place_cmp p q ≡ Less
by-function p q h = ap (λ o. ordering_then o (ordering_then (nat_cmp p.from q.from) (nat_cmp p.to q.to))) (nat-less p.func q.func h)

pub by-first : (p q : Place) → p.func ≡ q.func → p.from < q.from → place_cmp p q ≡ Less
by-first p q e h =
    ap (λ o. ordering_then o (ordering_then (nat_cmp p.from q.from) (nat_cmp p.to q.to))) (nat-equal p.func q.func e)
    ∙ ap (λ o. ordering_then o (nat_cmp p.to q.to)) (nat-less p.from q.from h)

pub by-last : (p q : Place) → p.func ≡ q.func → p.from ≡ q.from → p.to < q.to → place_cmp p q ≡ Less
by-last p q e d h =
    ap (λ o. ordering_then o (ordering_then (nat_cmp p.from q.from) (nat_cmp p.to q.to))) (nat-equal p.func q.func e)
    ∙ ap (λ o. ordering_then o (nat_cmp p.to q.to)) (nat-equal p.from q.from d)
    ∙ nat-less p.to q.to h

-- ---- lists

pub all-weaker : {A : Type 0} (P Q : A → Type 0) → ((x : A) → P x → Q x) → (xs : List A) → AllByRecursion P xs → AllByRecursion Q xs
all-weaker P Q f [] h = tt
all-weaker P Q f (x ∷ xs) h = (f x h.0, all-weaker P Q f xs h.1)

pub all-both : {A : Type 0} (P : A → Type 0) (xs ys : List A) → AllByRecursion P xs → AllByRecursion P ys → AllByRecursion P (xs ++ ys)
all-both P [] ys h k = k
all-both P (x ∷ xs) ys h k = (h.0, all-both P xs ys h.1 k)

all-made : {A B : Type 0} (f : A → B) (P : A → Type 0) (Q : B → Type 0) → ((x : A) → P x → Q (f x)) → (xs : List A) → AllByRecursion P xs → AllByRecursion Q (map f xs)
all-made f P Q g [] h = tt
all-made f P Q g (x ∷ xs) h = (g x h.0, all-made f P Q g xs h.1)

made-ascends : {A B : Type 0} (f : A → B) (R : A → A → Type 0) (S : B → B → Type 0) → ((x y : A) → R x y → S (f x) (f y)) → (xs : List A) → Ascends R xs → Ascends S (map f xs)
made-ascends f R S g [] h = tt
made-ascends f R S g (x ∷ xs) h = (all-made f (R x) (S (f x)) (g x) xs h.0, made-ascends f R S g xs h.1)

pub joined-ascends : {A : Type 0} (R : A → A → Type 0) (xs ys : List A) → Ascends R xs → Ascends R ys → AllByRecursion (λ x. AllByRecursion (R x) ys) xs → Ascends R (xs ++ ys)
joined-ascends R [] ys h k c = k
joined-ascends R (x ∷ xs) ys h k c = (all-both (R x) xs ys h.0 c.0, joined-ascends R xs ys h.1 k c.1)

abbrev Counted : ℕ → ℕ → ℕ → Type 0
Counted a e c = (a ≤ c) × (c < e)

abbrev Rising : ℕ → ℕ → ℕ → ℕ → Type 0
Rising a e c d = (a ≤ c) × (c < d) × (d < e)

range-all : (b n a e : ℕ) → a ≤ b → b + n ≤ e → AllByRecursion (Counted a e) (range_with_len b n)
range-all b zero a e h k = tt
range-all b (suc n) a e h k = ((h, omega (arith, k)), range-all (b + 1) n a e (omega (arith, h)) (omega (arith, k)))

range-ascends : (b n a e : ℕ) → a ≤ b → b + n ≤ e → Ascends (Rising a e) (range_with_len b n)
range-ascends b zero a e h k = tt
range-ascends b (suc n) a e h k = (
  all-weaker (Counted (b + 1) e) (Rising a e b) (λ c r. (h, omega (arith, r.0), r.1)) (range_with_len (b + 1) n) (range-all (b + 1) n (b + 1) e (omega arith) (omega (arith, k))),
  range-ascends (b + 1) n a e (omega (arith, h)) (omega (arith, k)),
)

drop-next : {A : Type 0} (n : ℕ) (xs : List A) (y : A) (ys : List A) → drop n xs ≡ y ∷ ys → drop (suc n) xs ≡ ys
drop-next zero [] y ys e = cc
drop-next zero (x ∷ xs) y ys e = cc
drop-next (suc n) [] y ys e = cc
drop-next (suc n) (x ∷ xs) y ys e = drop-next n xs y ys e

get_right : {A : Type 0} (xs ys : List A) (k : ℕ) → slice_get (xs ++ ys) (length xs + k) ≡ slice_get ys k
get_right [] ys k = ap (slice_get ys) (omega arith)
get_right (x ∷ xs) ys k = let e : length (x ∷ xs) + k ≡ suc (length xs + k) = omega arith in ap (slice_get ((x ∷ xs) ++ ys)) e ∙ get_right xs ys k

get_left : {A : Type 0} (xs ys : List A) (k : ℕ) (x : A) → slice_get xs k ≡ Some x → slice_get (xs ++ ys) k ≡ Some x
get_left [] ys k x e = cc
get_left (y ∷ xs) ys zero x e = e
get_left (y ∷ xs) ys (suc k) x e = get_left xs ys k x e

-- ---- the ends of runs

module _ {T : Type 0} where
  -- the token behind the last one of d parts, or this one
  abbrev end : ℕ → Typeds T → ℕ → ℕ
  end m ps d = last_from m (row_of (take d (present ps)))

  pub end-within : (m j : ℕ) (ps : Typeds T) (d : ℕ) → Listed zero m j ps → m ≤ j → (m ≤ end m ps d) × (end m ps d ≤ j)
  end-within m j none zero h k = (omega arith, k)
  end-within m j none (suc d) h k = (omega arith, k)
  end-within m j (more p ps) zero h k = (omega arith, k)
  end-within m j (more p ps) (suc d) h k =
      let r = end-within (last_of p) j ps d h.1 (within-last m j p h.0) in
      (omega (arith, r.0, within-first m j p h.0, within-grows m j p h.0), r.1)
  end-within m j (skip ps) d h k = end-within m j ps d h k

  end-grows : (m j : ℕ) (ps : Typeds T) (d e : ℕ) → Listed zero m j ps → d < e → e ≤ length (present ps) → end m ps d < end m ps e
  end-grows m j none d e h l k = absurd (omega (arith, l, k))
  end-grows m j (more p ps) d zero h l k = absurd (omega (arith, l))
  end-grows m j (more p ps) zero (suc e) h l k =
      let r = end-within (last_of p) j ps e h.1 (within-last m j p h.0) in
      omega (arith, r.0, within-first m j p h.0, within-grows m j p h.0)
  end-grows m j (more p ps) (suc d) (suc e) h l k = end-grows (last_of p) j ps d e h.1 (omega (arith, l)) (omega (arith, k))
  end-grows m j (skip ps) d e h l k = end-grows m j ps d e h l k

  each-length : (ps : Typeds T) → length (each_mass ps) ≡ length (present ps)
  each-length none = refl
  each-length (more p ps) = ap suc (each-length ps)
  each-length (skip ps) = each-length ps

  pub over-function : (func : ℕ) (ps : Typeds T) → (place_over func ps).func ≡ func
  over-function func none = refl
  over-function func (more p ps) = refl
  over-function func (skip ps) = refl

-- ---- trees without windows

module _ {T : Type 0} (bounds : Bounds) (func : ℕ) where
  mutual
    flat-none : (k : ℕ) (x : Typed T) → Flat x → windows_in bounds func k x ≡ []
    flat-none k (typed f i j l ps) h = ap (λ b. if b then windows_along bounds func k (values_count f) (suc k) 0 ps else windows_among bounds func k ps) h.0 ∙ flat-among k ps h.1

    flat-among : (k : ℕ) (ps : Typeds T) → AllFlat ps → windows_among bounds func k ps ≡ []
    flat-among k none h = refl
    flat-among k (more p ps) h = ap (λ ws. ws ++ windows_among bounds func (k + list_count p) ps) (flat-none k p h.0) ∙ flat-among (k + list_count p) ps h.1
    flat-among k (skip ps) h = flat-among k ps h

module _ (bounds : Bounds) (func : ℕ) where
  from-none : (list ahead index : ℕ) (ms : List ℕ) → index < ahead → windows_from bounds func list ahead index ms ≡ []
  from-none list ahead index ms h = ap (λ b. if b then windows_at bounds func list (index - ahead) ms else []) (let e : nat_le ahead index ≡ false = grind (arith, nat_tests) in e)

  from-some : (list ahead index : ℕ) (ms : List ℕ) → ahead ≤ index → windows_from bounds func list ahead index ms ≡ windows_at bounds func list (index - ahead) ms
  from-some list ahead index ms h = ap (λ b. if b then windows_at bounds func list (index - ahead) ms else []) (let e : nat_le ahead index ≡ true = grind (arith, nat_tests) in e)

-- ---- windows in order

module _ {T : Type 0} (bounds : Bounds) (some : 1 ≤ bounds.fewest) (func : ℕ) (root : Typed T) where
  -- where a window lies
  abbrev pub place : Window → Place
  place w = place_over func (window_statements root w)

  -- It is of the function, and lies between two tokens.
  abbrev pub Lies : ℕ → ℕ → Window → Type 0
  Lies i j w = (w.func ≡ func) × (i ≤ (place w).from) × ((place w).from < (place w).to) × ((place w).to ≤ j)

  -- They ascend, and lie between two tokens.
  abbrev pub Good : ℕ → ℕ → List Window → Type 0
  Good i j ws = Ascends (IsBefore place) ws × AllByRecursion (Lies i j) ws

  one-function : (w v : Window) → (place w).func ≡ (place v).func
  one-function w v = over-function func (window_statements root w) ∙ sym (over-function func (window_statements root v))

  lies-wider : (i i' j j' : ℕ) → i' ≤ i → j ≤ j' → (w : Window) → Lies i j w → Lies i' j' w
  lies-wider i i' j j' u v w h = (h.0, omega (arith, u, h.1), h.2, omega (arith, v, h.3))

  wider : (i i' j j' : ℕ) (ws : List Window) → i' ≤ i → j ≤ j' → Good i j ws → Good i' j' ws
  wider i i' j j' ws u v h = (h.0, all-weaker (Lies i j) (Lies i' j') (lies-wider i i' j j' u v) ws h.1)

  joined : (i m j : ℕ) (ws vs : List Window) → i ≤ m → m ≤ j → Good i m ws → Good m j vs → Good i j (ws ++ vs)
  joined i m j ws vs u v h k = (
    joined-ascends (IsBefore place) ws vs h.0 k.0
        (all-weaker (Lies i m) (λ x. AllByRecursion (IsBefore place x) vs)
        (λ x a. all-weaker (Lies m j) (IsBefore place x) (λ y b. by-first (place x) (place y) (one-function x y) (omega (arith, a.2, a.3, b.1))) vs k.1) ws h.1),
    all-both (Lies i j) ws vs (all-weaker (Lies i m) (Lies i j) (lies-wider i i m j (omega arith) v) ws h.1) (all-weaker (Lies m j) (Lies i j) (lies-wider m i j j u (omega arith)) vs k.1),
  )

  abbrev Begins : ℕ → Window → Type 0
  Begins i w = (place w).from ≡ i

  -- the windows that begin at a token, and those behind it
  behind-own : (i j : ℕ) (ws vs : List Window) → AllByRecursion (Begins i) ws → Good i j ws → Good (suc i) j vs → Good i j (ws ++ vs)
  behind-own i j ws vs o h k = (
    joined-ascends (IsBefore place) ws vs h.0 k.0
        (all-weaker (Begins i) (λ x. AllByRecursion (IsBefore place x) vs)
        (λ x a. all-weaker (Lies (suc i) j) (IsBefore place x) (λ y b. by-first (place x) (place y) (one-function x y) (omega (arith, a, b.1))) vs k.1) ws o),
    all-both (Lies i j) ws vs h.1 (all-weaker (Lies (suc i) j) (Lies i j) (lies-wider (suc i) i j j (omega arith) (omega arith)) vs k.1),
  )

  -- ---- the windows that begin with one statement

  abbrev statements : ℕ → List (Typed T)
  statements list = statements_in (slice_get (statement_lists root) list)

  run-place : (list at d : ℕ) (p : Typed T) (xs : List (Typed T)) → drop at (statements list) ≡ p ∷ xs →
      place (run_at func list at (suc d)) ≡ record { func = func; from = first_of p; to = last_from (last_of p) (row_of (take d xs)) }
  run-place list at d p xs e = ap (λ ys. place_over func (row_of (take (suc d) ys))) e

  module _ (list at : ℕ) (p : Typed T) (ps : Typeds T) (i j : ℕ) (e : drop at (statements list) ≡ p ∷ present ps) (here : Within i j p) (rest : Listed zero (last_of p) j ps) where
    run-lies : (c : ℕ) → 1 ≤ c → Lies (first_of p) j (run_at func list at c)
    run-lies zero h = absurd (omega (arith, h))
    run-lies (suc d) h =
        let at-place = run-place list at d p (present ps) e in
        let r = end-within (last_of p) j ps d rest (within-last i j p here) in
        let from : (place (run_at func list at (suc d))).from ≡ first_of p = ap (λ x. x.from) at-place in
        let to : (place (run_at func list at (suc d))).to ≡ end (last_of p) ps d = ap (λ x. x.to) at-place in
        (refl, omega (arith, from), omega (arith, from, to, r.0, within-grows i j p here), omega (arith, to, r.1))

    run-begins : (c : ℕ) → 1 ≤ c → Begins (first_of p) (run_at func list at c)
    run-begins zero h = absurd (omega (arith, h))
    run-begins (suc d) h = ap (λ x. x.from) (run-place list at d p (present ps) e)

    runs-ascend : (c d : ℕ) → 1 ≤ c → c < d → d ≤ suc (length (present ps)) → IsBefore place (run_at func list at c) (run_at func list at d)
    runs-ascend zero d h l k = absurd (omega (arith, h))
    runs-ascend (suc c) zero h l k = absurd (omega (arith, l))
    runs-ascend (suc c) (suc d) h l k =
        let w = run_at func list at (suc c) in
        let v = run_at func list at (suc d) in
        let a : (place w).to ≡ end (last_of p) ps c = ap (λ x. x.to) (run-place list at c p (present ps) e) in
        let b : (place v).to ≡ end (last_of p) ps d = ap (λ x. x.to) (run-place list at d p (present ps) e) in
        by-last (place w) (place v) (one-function w v) (run-begins (suc c) (omega arith) ∙ sym (run-begins (suc d) (omega arith)))
        (omega (arith, a, b, end-grows (last_of p) j ps c d rest (omega (arith, l)) (omega (arith, k))))

    abbrev own : List Window
    own = windows_at bounds func list at (each_mass (more p ps))

    pub own-good : Good (first_of p) j own × AllByRecursion (Begins (first_of p)) own
    own-good =
        let ms = each_mass (more p ps) in
        let a = bounds.fewest in
        let n = suc (min 32 (length ms)) - bounds.fewest in
        let z = a + n in
        let heavy = is_heavy bounds ms in
        let f = run_at func list at in
        let size : length ms ≡ suc (length (present ps)) = ap suc (each-length ps) in
        let counted = kept-members (Counted a z) heavy (range_with_len a n) (range-all a n a z (omega arith) (omega arith)) in (
          (
            made-ascends f (Rising a z) (IsBefore place) (λ c d r. runs-ascend c d (omega (arith, some, r.0)) r.1 (omega (arith, size, r.0, r.1, r.2))) (filter heavy (range_with_len a n))
                (kept-ascends (Rising a z) heavy (range_with_len a n) (range-ascends a n a z (omega arith) (omega arith))),
            all-made f (Counted a z) (Lies (first_of p) j) (λ c r. run-lies c (omega (arith, some, r.0))) (filter heavy (range_with_len a n)) counted,
          ),
          all-made f (Counted a z) (Begins (first_of p)) (λ c r. run-begins c (omega (arith, some, r.0))) (filter heavy (range_with_len a n)) counted,
        )

  -- ---- the statement lists of parts are among those of the whole

  abbrev pub Finds : ℕ → List (Typed T) → Type 0
  Finds k ls = (m : ℕ) (x : Typed T) → slice_get ls m ≡ Some x → slice_get (statement_lists root) (k + m) ≡ Some x

  finds-left : (k : ℕ) (xs ys : List (Typed T)) → Finds k (xs ++ ys) → Finds k xs
  finds-left k xs ys h m x e = h m x (get_left xs ys m x e)

  finds-right : (k : ℕ) (xs ys : List (Typed T)) → Finds k (xs ++ ys) → Finds (k + length xs) ys
  finds-right k xs ys h m x e =
      let n : k + length xs + m ≡ k + (length xs + m) = omega arith in
      ap (slice_get (statement_lists root)) n ∙ h (length xs + m) x (get_right xs ys m ∙ e)

  finds-rest : (k : ℕ) (x : Typed T) (ys : List (Typed T)) → Finds k (x ∷ ys) → Finds (suc k) ys
  finds-rest k x ys h m y e =
      let n : suc k + m ≡ k + suc m = omega arith in
      ap (slice_get (statement_lists root)) n ∙ h (suc m) y e

  finds-own : (k : ℕ) (x : Typed T) (ys : List (Typed T)) → Finds k (x ∷ ys) → statements k ≡ statements_of x
  finds-own k x ys h = let n : k ≡ k + 0 = omega arith in ap (λ o. statements_in o) (ap (slice_get (statement_lists root)) n ∙ h 0 x refl)

  by-form : (k i j : ℕ) (b : Bool) (x : Typed T) (ls : List (Typed T)) (P Q : Type 0) (ws vs : List Window) → choice b P Q → Finds k ((if b then x ∷ [] else []) ++ ls) →
      (P → Finds k (x ∷ ls) → Good i j ws) → (Q → Finds k ls → Good i j vs) → Good i j (if b then ws else vs)
  by-form k i j true x ls P Q ws vs c h f g = f c h
  by-form k i j false x ls P Q ws vs c h f g = g c h

  mutual
    pub in-good : (k : ℕ) (x : Typed T) → Nested x → Finds k (statement_lists x) → Good (suc (first_of x)) (last_of x) (windows_in bounds func k x)
    in-good k (typed f i j l ps) n h =
        by-form k (suc i) j (is_statement_list f) (typed f i j l ps) (lists_among ps) (Listed (values_count f) (suc i) j ps) (Row false i j ps)
        (windows_along bounds func k (values_count f) (suc k) 0 ps) (windows_among bounds func k ps) n h
        (λ c found. along-good k (values_count f) (suc k) 0 (values_count f) (suc i) j (present ps) ps c (omega arith) (finds-own k (typed f i j l ps) (lists_among ps) found) refl
        (finds-rest k (typed f i j l ps) (lists_among ps) found))
        (λ c found. among-good k i j ps c found)

    among-good : (k i j : ℕ) (ps : Typeds T) → Row false i j ps → Finds k (lists_among ps) → Good (suc i) j (windows_among bounds func k ps)
    among-good k i j none c h = (tt, tt)
    among-good k i j (more p ps) (inl c) h =
        subst (λ ws. Good (suc i) j (ws ++ windows_among bounds func (k + list_count p) ps)) (sym (flat-none bounds func k p c.1))
        (among-good (k + list_count p) i j ps c.2 (finds-right k (statement_lists p) (lists_among ps) h))
    among-good k i j (more p ps) (inr c) h =
        let a : i ≤ first_of p = within-first i j p c.0 in
        let b : first_of p < last_of p = within-grows i j p c.0 in
        let e : last_of p ≤ j = within-last i j p c.0 in
        joined (suc i) (last_of p) j (windows_in bounds func k p) (windows_among bounds func (k + list_count p) ps) (omega (arith, a, b)) e
        (wider (suc (first_of p)) (suc i) (last_of p) (last_of p) (windows_in bounds func k p) (omega (arith, a)) (omega arith)
        (in-good k p (within-nested i j p c.0) (finds-left k (statement_lists p) (lists_among ps) h)))
        (wider (suc (last_of p)) (last_of p) j j (windows_among bounds func (k + list_count p) ps) (omega arith) (omega arith)
        (among-good (k + list_count p) (last_of p) j ps c.1 (finds-right k (statement_lists p) (lists_among ps) h)))
    among-good k i j (skip ps) c h = among-good k i j ps c h

    along-good : (list ahead k index n i j : ℕ) (all : List (Typed T)) (ps : Typeds T) → Listed n i j ps → n ≡ ahead - index → statements list ≡ drop ahead all → drop index all ≡ present ps →
        Finds k (lists_among ps) → Good i j (windows_along bounds func list ahead k index ps)
    along-good list ahead k index n i j all none c m s e h = (tt, tt)
    along-good list ahead k index zero i j all (more p ps) c m s e h =
        let own = windows_at bounds func list (index - ahead) (each_mass (more p ps)) in
        let inner = windows_in bounds func k p in
        let rest = windows_along bounds func list ahead (k + list_count p) (suc index) ps in
        let a : i ≤ first_of p = within-first i j p c.0 in
        let b : first_of p < last_of p = within-grows i j p c.0 in
        let z : last_of p ≤ j = within-last i j p c.0 in
        let low : ahead ≤ index = omega (arith, m) in
        let sum : index - ahead + ahead ≡ index = omega (arith, low) in
        let there : drop (index - ahead) (statements list) ≡ p ∷ present ps = ap (drop (index - ahead)) s ∙ drop-both ahead (index - ahead) all ∙ ap (λ d. drop d all) sum ∙ e in
        let its = own-good list (index - ahead) p ps i j there c.0 c.1 in
        let others : Good (suc (first_of p)) j (inner ++ rest) =
        joined (suc (first_of p)) (last_of p) j inner rest (omega (arith, b)) z (in-good k p (within-nested i j p c.0) (finds-left k (statement_lists p) (lists_among ps) h))
        (along-good list ahead (k + list_count p) (suc index) zero (last_of p) j all ps c.1 (omega (arith, m)) s (drop-next index all p (present ps) e) (finds-right k (statement_lists p) (lists_among ps) h)) in
        subst (λ ws. Good i j (ws ++ inner ++ rest)) (sym (from-some bounds func list ahead index (each_mass (more p ps)) low))
        (subst (Good i j) (sym (append_assoc own inner rest))
        (wider (first_of p) i j j (own ++ (inner ++ rest)) a (omega arith) (behind-own (first_of p) j own (inner ++ rest) its.1 its.0 others)))
    along-good list ahead k index (suc n) i j all (more p ps) (inl c) m s e h =
        let rest = windows_along bounds func list ahead (k + list_count p) (suc index) ps in
        subst (λ ws. Good i j (ws ++ windows_in bounds func k p ++ rest)) (sym (from-none bounds func list ahead index (each_mass (more p ps)) (omega (arith, m))))
        (subst (λ ws. Good i j (ws ++ rest)) (sym (flat-none bounds func k p c.0))
        (along-good list ahead (k + list_count p) (suc index) n i j all ps c.1 (omega (arith, m)) s (drop-next index all p (present ps) e) (finds-right k (statement_lists p) (lists_among ps) h)))
    along-good list ahead k index (suc n) i j all (more p ps) (inr c) m s e h =
        let inner = windows_in bounds func k p in
        let rest = windows_along bounds func list ahead (k + list_count p) (suc index) ps in
        let a : i ≤ first_of p = within-first i j p c.0 in
        let b : first_of p < last_of p = within-grows i j p c.0 in
        let z : last_of p ≤ j = within-last i j p c.0 in
        subst (λ ws. Good i j (ws ++ inner ++ rest)) (sym (from-none bounds func list ahead index (each_mass (more p ps)) (omega (arith, m))))
        (joined i (last_of p) j inner rest (omega (arith, a, b)) z
        (wider (suc (first_of p)) i (last_of p) (last_of p) inner (omega (arith, a)) (omega arith) (in-good k p (within-nested i j p c.0) (finds-left k (statement_lists p) (lists_among ps) h)))
        (along-good list ahead (k + list_count p) (suc index) n (last_of p) j all ps c.1 (omega (arith, m)) s (drop-next index all p (present ps) e) (finds-right k (statement_lists p) (lists_among ps) h)))
    along-good list ahead k index n i j all (skip ps) c m s e h = along-good list ahead k index n i j all ps c m s e h

  -- the windows of the whole tree
  pub tree-good : Nested root → Good (suc (first_of root)) (last_of root) (windows_in bounds func 0 root)
  tree-good n = in-good 0 root n (λ m x e. let k : 0 + m ≡ m = omega arith in ap (slice_get (statement_lists root)) k ∙ e)
