-- The windows of a function are of it, and among those of its package.
use Rattle.std.proofs.Common.{◌≡◌, ◌∙◌, ℕ, zero, suc, ◌+◌, ◌-◌, Bool, true, false, List, [], ◌∷◌, ◌++◌, length, map, filter, take, Option, Some, None, slice_get, inl, inr, refl, sym, ap, subst, arith}
use Rattle.std.specs.Prelude.{if◌then◌else◌, nat_eq, nat_le, min}
use Rattle.std.specs.List.{AllByRecursion, range_with_len}
use Rattle.std.proofs.lemmas.Bool.{eq-eqb}
use Rattle.std.proofs.lemmas.Option.{same_Some}
use Rattle.go_typed.specs.declared.window.Window.{Window}
use Rattle.go_typed.specs.Forms.{is_statement_list, values_count}
use Rattle.go_typed.specs.Trees.{Typed, typed, Typeds, none, more, skip}
use Rattle.clone_window.specs.declared.bounds.Bounds.{Bounds}
use Rattle.clone_window.specs.Masses.{each_mass}
use Rattle.clone_window.specs.Windows.{is_heavy, list_count, run_at, windows, windows_along, windows_among, windows_at, windows_from, windows_in}
use Rattle.clone_window.specs.Bodies.{Body}
use Rattle.clone_classes.specs.Classes.{Among}
use Rattle.clone_classes.specs.Listing.{windows_of_all}
use Rattle.alpha_hash_defs.specs.Sharing.{numbered, windows_of_func, windows_there}
use Rattle.window_index.specs.Buckets.{is_of}

-- ---- each is of the function

abbrev Own : ℕ → Window → Type 0
Own func w = is_of func w ≡ true

all-both : (func : ℕ) (xs ys : List Window) → AllByRecursion (Own func) xs → AllByRecursion (Own func) ys → AllByRecursion (Own func) (xs ++ ys)
all-both func [] ys h k = k
all-both func (x ∷ xs) ys h k = (h.0, all-both func xs ys h.1 k)

all-runs : (func list at : ℕ) (cs : List ℕ) → AllByRecursion (Own func) (map (run_at func list at) cs)
all-runs func list at [] = tt
all-runs func list at (c ∷ cs) = (eq-eqb func func refl, all-runs func list at cs)

own-from : (bounds : Bounds) (func list ahead index : ℕ) (ms : List ℕ) → AllByRecursion (Own func) (windows_from bounds func list ahead index ms)
own-from bounds func list ahead index ms = by (nat_le ahead index) where
  by : (b : Bool) → AllByRecursion (Own func) (if b then windows_at bounds func list (index - ahead) ms else [])
  by true = all-runs func list (index - ahead) (filter (is_heavy bounds ms) (range_with_len bounds.fewest (suc (min 32 (length ms)) - bounds.fewest)))
  by false = tt

either : (func : ℕ) (xs ys : List Window) → AllByRecursion (Own func) xs → AllByRecursion (Own func) ys → (b : Bool) → AllByRecursion (Own func) (if b then xs else ys)
either func xs ys h k true = h
either func xs ys h k false = k

mutual
  own-in : (bounds : Bounds) (func k : ℕ) (t : Typed ℕ) → AllByRecursion (Own func) (windows_in bounds func k t)
  own-in bounds func k (typed f i j l ps) = either func (windows_along bounds func k (values_count f) (suc k) 0 ps) (windows_among bounds func k ps) (own-along bounds func k (values_count f) (suc k) 0 ps) (own-among bounds func k ps) (is_statement_list f)

  own-among : (bounds : Bounds) (func k : ℕ) (ps : Typeds ℕ) → AllByRecursion (Own func) (windows_among bounds func k ps)
  own-among bounds func k none = tt
  own-among bounds func k (more p ps) = all-both func (windows_in bounds func k p) (windows_among bounds func (k + list_count p) ps) (own-in bounds func k p) (own-among bounds func (k + list_count p) ps)
  own-among bounds func k (skip ps) = own-among bounds func k ps

  own-along : (bounds : Bounds) (func list ahead k index : ℕ) (ps : Typeds ℕ) → AllByRecursion (Own func) (windows_along bounds func list ahead k index ps)
  own-along bounds func list ahead k index none = tt
  own-along bounds func list ahead k index (more p ps) =
      all-both func (windows_from bounds func list ahead index (each_mass (more p ps)) ++ windows_in bounds func k p) (windows_along bounds func list ahead (k + list_count p) (suc index) ps)
      (all-both func (windows_from bounds func list ahead index (each_mass (more p ps))) (windows_in bounds func k p) (own-from bounds func list ahead index (each_mass (more p ps))) (own-in bounds func k p))
      (own-along bounds func list ahead (k + list_count p) (suc index) ps)
  own-along bounds func list ahead k index (skip ps) = own-along bounds func list ahead k index ps

own-there : (bounds : Bounds) (func : ℕ) (b : Option (Body ℕ)) → AllByRecursion (Own func) (windows_there bounds func b)
own-there bounds func None = tt
own-there bounds func (Some b) = own-in bounds func 0 b.root

own-numbered : (number : Window → ℕ) (func : ℕ) (ws : List Window) → AllByRecursion (Own func) ws → AllByRecursion (λ x. is_of func x.0 ≡ true) (numbered number ws)
own-numbered number func [] h = tt
own-numbered number func (w ∷ ws) h = (h.0, own-numbered number func ws h.1)

pub own-windows : (number : Window → ℕ) (bounds : Bounds) (bodies : List (Body ℕ)) (func : ℕ) → AllByRecursion (λ x. is_of func x.0 ≡ true) (numbered number (windows_of_func bounds bodies func))
own-windows number bounds bodies func = own-numbered number func (windows_of_func bounds bodies func) (own-there bounds func (slice_get bodies func))

pub own-first : (P : Window × ℕ → Type 0) (n : ℕ) (xs : List (Window × ℕ)) → AllByRecursion P xs → AllByRecursion P (take n xs)
own-first P zero [] h = tt
own-first P (suc n) [] h = tt
own-first P zero (x ∷ xs) h = tt
own-first P (suc n) (x ∷ xs) h = (h.0, own-first P n xs h.1)

-- ---- each is among those of the package

among-left : {A : Type 0} (xs ys : List A) (x : A) → Among xs x → Among (xs ++ ys) x
among-left [] ys x h = absurd h
among-left (z ∷ xs) ys x (inl e) = inl e
among-left (z ∷ xs) ys x (inr h) = inr (among-left xs ys x h)

among-right : {A : Type 0} (xs ys : List A) (x : A) → Among ys x → Among (xs ++ ys) x
among-right [] ys x h = h
among-right (z ∷ xs) ys x h = inr (among-right xs ys x h)

within : {A : Type 0} (xs ys : List A) → ((x : A) → Among ys x → Among xs x) → AllByRecursion (Among xs) ys
within xs [] f = tt
within xs (y ∷ ys) f = (f y (inl refl), within xs ys (λ x h. f x (inr h)))

each-among : {A : Type 0} (xs : List A) → AllByRecursion (Among xs) xs
each-among xs = within xs xs (λ x h. h)

all-weaker : {A : Type 0} (P Q : A → Type 0) → ((x : A) → P x → Q x) → (xs : List A) → AllByRecursion P xs → AllByRecursion Q xs
all-weaker P Q f [] h = tt
all-weaker P Q f (x ∷ xs) h = (f x h.0, all-weaker P Q f xs h.1)

among-from : (bounds : Bounds) (n i func : ℕ) (bodies : List (Body ℕ)) → func ≡ n + i → AllByRecursion (Among (windows_of_all bounds n bodies)) (windows_there bounds func (slice_get bodies i))
among-from bounds n i func [] e = tt
among-from bounds n zero func (b ∷ bs) e =
    let k : func ≡ n = omega (arith, e) in
    subst (λ m. AllByRecursion (Among (windows bounds n b.root ++ windows_of_all bounds (suc n) bs)) (windows bounds m b.root)) (sym k)
    (all-weaker (Among (windows bounds n b.root)) (Among (windows bounds n b.root ++ windows_of_all bounds (suc n) bs)) (λ x h. among-left (windows bounds n b.root) (windows_of_all bounds (suc n) bs) x h) (windows bounds n b.root) (each-among (windows bounds n b.root)))
among-from bounds n (suc i) func (b ∷ bs) e =
    all-weaker (Among (windows_of_all bounds (suc n) bs)) (Among (windows bounds n b.root ++ windows_of_all bounds (suc n) bs)) (λ x h. among-right (windows bounds n b.root) (windows_of_all bounds (suc n) bs) x h) (windows_there bounds func (slice_get bs i))
    (among-from bounds (suc n) i func bs (omega (arith, e)))

pub windows-among : (bounds : Bounds) (bodies : List (Body ℕ)) (func : ℕ) → AllByRecursion (Among (windows_of_all bounds 0 bodies)) (windows_of_func bounds bodies func)
windows-among bounds bodies func = among-from bounds 0 func func bodies (omega arith)
