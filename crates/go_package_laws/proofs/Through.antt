-- What is needed through others.
use Rattle.std.proofs.Common.{◌≡◌, ℕ, zero, suc, ◌<◌, ◌≤◌, Bool, true, false, List, [], ◌∷◌, ◌++◌, Option, Some, None, refl, arith}
use Rattle.std.specs.Prelude.{if◌then◌else◌}
use Rattle.std.specs.List.{AllByRecursion}
use Rattle.go_tree.specs.Lookups.{Asked}
use Rattle.go_tree.specs.Needs.{Needed, needs, needs_of, is_known, with_one, with_all, all_needed}
use Rattle.go_package_defs.specs.Sources.{Package, number_at, number_before, needed_numbers, rounds, needed_by}
use Rattle.go_package_laws.specs.Ranks.{AllBefore, Falls, IsBound}

module _ (P : Needed → Type 0) where
  append_all : (xs ys : List Needed) → AllByRecursion P xs → AllByRecursion P ys → AllByRecursion P (xs ++ ys)
  append_all [] ys w h = h
  append_all (x ∷ xs) ys w h = (w.0, append_all xs ys w.1 h)

  one_more : (b : Bool) (x : Needed) (xs : List Needed) → P x → AllByRecursion P xs → AllByRecursion P (if b then xs else xs ++ x ∷ [])
  one_more true x xs h w = w
  one_more false x xs h w = append_all xs (x ∷ []) w (h, tt)

  with_more : (ys xs : List Needed) → AllByRecursion P ys → AllByRecursion P xs → AllByRecursion P (with_all ys xs)
  with_more [] xs h w = w
  with_more (y ∷ ys) xs h w = with_more ys (with_one y xs) h.1 (one_more (is_known y xs) y xs h.0 w)

  module _ (asks : List Asked) (closed : (x : Needed) → P x → AllByRecursion P (needs asks x)) where
    needs_all : (xs : List Needed) → AllByRecursion P xs → AllByRecursion P (needs_of asks xs)
    needs_all [] w = tt
    needs_all (x ∷ xs) w = append_all (needs asks x) (needs_of asks xs) (closed x w.0) (needs_all xs w.1)

    all_through : (k : ℕ) (xs : List Needed) → AllByRecursion P xs → AllByRecursion P (all_needed asks k xs)
    all_through zero xs w = w
    all_through (suc k) xs w = all_through k (with_all (needs_of asks xs) xs) (with_more (needs_of asks xs) xs (needs_all xs w) w)

module _ (p : Package) (f : ℕ → ℕ) (g : Needed → ℕ) (k : ℕ) (falls : Falls p g) (bound : IsBound p f g) where
  abbrev Low : Needed → Type 0
  Low x = g x < k

  lower : (x : Needed) (ys : List Needed) → g x < k → AllByRecursion (λ y. g y ≤ g x) ys → AllByRecursion Low ys
  lower x [] h w = tt
  lower x (y ∷ ys) h w = let e = w.0 in let q : g y < k = omega (arith, e, h) in (q, lower x ys h w.1)

  closed : (x : Needed) → Low x → AllByRecursion Low (needs p.asked x)
  closed x h = lower x (needs p.asked x) h (falls x)

  number_low : (x : Needed) (o : Option ℕ) (ns : List ℕ) → number_at p x.it.file x.it.it.name ≡ o → Low x → AllBefore f k ns → AllBefore f k (number_before o ns)
  number_low x None ns e h w = w
  number_low x (Some n) ns e h w = let b = bound x n e in let q : f n < k = omega (arith, b, h) in (q, w)

  numbers_low : (xs : List Needed) → AllByRecursion Low xs → AllBefore f k (needed_numbers p xs)
  numbers_low [] w = tt
  numbers_low (x ∷ xs) w = number_low x (number_at p x.it.file x.it.it.name) (needed_numbers p xs) refl w.0 (numbers_low xs w.1)

  pub before : (x : Needed) → g x < k → AllBefore f k (needed_by p x)
  before x h =
      let start = with_all (needs p.asked x) [] in
      numbers_low (all_needed p.asked (rounds p) start) (all_through Low p.asked closed (rounds p) start (with_more Low (needs p.asked x) [] (closed x h) tt))
