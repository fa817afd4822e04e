-- The mass of a window is at most the count of nodes of its function, so the program tells it whole.
use Rattle.std.proofs.Common.{◌≡◌, ◌∙◌, ℕ, zero, suc, ◌+◌, ◌^◌, ◌<◌, ◌≤◌, Bool, true, false, List, [], ◌∷◌, ◌++◌, take, drop, Option, Some, None, slice_get, ap, refl, sym, arith}
use Rattle.std.proofs.lemmas.Option.{slice_get-map}
use Rattle.std.specs.Prelude.{if◌then◌else◌}
use Rattle.std.specs.Option.{option_map}
use Rattle.go_typed.specs.declared.window.Window.{Window}
use Rattle.go_typed.specs.Forms.{is_statement_list, values_count}
use Rattle.go_typed.specs.Funcs.{FuncView, size, sizes, tree_of}
use Rattle.go_typed.specs.Lists.{own_list, statement_lists, lists_among, present, statements_of}
use Rattle.go_typed.specs.Packages.{PackageView}
use Rattle.go_typed.specs.Trees.{Typed, typed, Typeds, none, more, skip}
use Rattle.clone_window.specs.Caps.{capped}
use Rattle.clone_window.specs.Masses.{masses}
use Rattle.clone_window.specs.Windows.{row_of, statements_in, window_mass, window_statements}
use Rattle.clone_window.proofs.Public.{masses-few}
use Rattle.clone_window.specs.Bodies.{Body, body_of, statements_at}
use Rattle.clone_replies.specs.Classes.{listed_package}
use Rattle.clone_replies.specs.Classes as listed

module _ {T : Type 0} where
  -- how many nodes trees have together
  abbrev total : List (Typed T) → ℕ
  total xs = sizes (row_of xs)

  -- each tree of a list has at most so many nodes
  abbrev AreFew : ℕ → List (Typed T) → Type 0
  AreFew n [] = Unit {0}
  AreFew n (x ∷ xs) = (size x ≤ n) × AreFew n xs

  fewer : (n m : ℕ) → n ≤ m → (xs : List (Typed T)) → AreFew n xs → AreFew m xs
  fewer n m h [] k = tt
  fewer n m h (x ∷ xs) k = (omega (arith, h, k.0), fewer n m h xs k.1)

  both-few : (n : ℕ) (xs ys : List (Typed T)) → AreFew n xs → AreFew n ys → AreFew n (xs ++ ys)
  both-few n [] ys h k = k
  both-few n (x ∷ xs) ys h k = (h.0, both-few n xs ys h.1 k)

  own-few : (b : Bool) (x : Typed T) → AreFew (size x) (if b then x ∷ [] else [])
  own-few true x = (omega arith, tt)
  own-few false x = tt

  mutual
    lists-few : (x : Typed T) → AreFew (size x) (statement_lists x)
    lists-few (typed f i j l ps) =
        both-few (suc (sizes ps)) (own_list (typed f i j l ps)) (lists_among ps) (own-few (is_statement_list f) (typed f i j l ps))
        (fewer (sizes ps) (suc (sizes ps)) (omega arith) (lists_among ps) (among-few ps))

    among-few : (ps : Typeds T) → AreFew (sizes ps) (lists_among ps)
    among-few none = tt
    among-few (more p ps) =
        both-few (size p + sizes ps) (statement_lists p) (lists_among ps)
        (fewer (size p) (size p + sizes ps) (omega arith) (statement_lists p) (lists-few p))
        (fewer (sizes ps) (size p + sizes ps) (omega arith) (lists_among ps) (among-few ps))
    among-few (skip ps) = among-few ps

  present-total : (ps : Typeds T) → total (present ps) ≡ sizes ps
  present-total none = refl
  present-total (more p ps) = ap (λ n. size p + n) (present-total ps)
  present-total (skip ps) = present-total ps

  drop-total : (n : ℕ) (xs : List (Typed T)) → total (drop n xs) ≤ total xs
  drop-total zero xs = omega arith
  drop-total (suc n) [] = omega arith
  drop-total (suc n) (x ∷ xs) = omega (arith, drop-total n xs)

  take-total : (n : ℕ) (xs : List (Typed T)) → total (take n xs) ≤ total xs
  take-total zero xs = omega arith
  take-total (suc n) [] = omega arith
  take-total (suc n) (x ∷ xs) = omega (arith, take-total n xs)

  statements-total : (x : Typed T) → total (statements_of x) ≤ size x
  statements-total (typed f i j l ps) = omega (arith, drop-total (values_count f) (present ps), present-total ps)

  found-total : (m n : ℕ) (xs : List (Typed T)) → AreFew m xs → total (statements_in (slice_get xs n)) ≤ m
  found-total m n [] h = omega arith
  found-total m zero (x ∷ xs) h = omega (arith, statements-total x, h.0)
  found-total m (suc n) (x ∷ xs) h = found-total m n xs h.1

  window-few : (root : Typed T) (w : Window) → window_mass root w ≤ size root
  window-few root w =
      let found = statements_in (slice_get (statement_lists root) w.list) in
      omega (arith, masses-few false (window_statements root w), take-total w.count (drop w.first found), drop-total w.first found, found-total (size root) w.list (statement_lists root) (lists-few root))

abbrev mass_at : Option (Body ℕ) → Window → ℕ
mass_at o w = masses false (statements_at o w)

found-mass : (p : PackageView) (w : Window) (o : Option FuncView) → slice_get p.functions w.func ≡ o → masses false (listed.statements_in (listed_package p) w) ≡ mass_at (option_map body_of o) w
found-mass p w o h = ap (λ x. mass_at x w) (slice_get-map body_of p.functions w.func ∙ ap (option_map body_of) h)

pub mass-told : (p : PackageView) (w : Window) (f : FuncView) → slice_get p.functions w.func ≡ Some f → size (tree_of f) < 2 ^ 32 → capped (window_mass (tree_of f) w) ≡ masses false (listed.statements_in (listed_package p) w)
mass-told p w f h few =
    let whole : capped (window_mass (tree_of f) w) ≡ window_mass (tree_of f) w = omega (arith, few, window-few (tree_of f) w) in
    whole ∙ sym (found-mass p w (Some f) h)

pub mass-none : (p : PackageView) (w : Window) → slice_get p.functions w.func ≡ None → 0 ≡ masses false (listed.statements_in (listed_package p) w)
mass-none p w h = sym (found-mass p w None h)
