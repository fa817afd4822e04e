-- The windows of all functions of a package, one function behind the other.
use Rattle.std.proofs.Common.{◌≡◌, ◌∙◌, ℕ, suc, ◌+◌, ◌≤◌, List, [], ◌∷◌, map, Some, slice_get, refl, sym, ap, subst, arith}
use Rattle.std.specs.List.{AllByRecursion}
use Rattle.go_types.specs.Tables.{type_of}
use Rattle.go_types.specs.Trees.{TypeTree}
use Rattle.go_types_relations.specs.Renaming.{renamed}
use Rattle.go_typed.specs.declared.window.Window.{Window}
use Rattle.go_typed.specs.Contents.{FuncContent, func_content, func_renamed}
use Rattle.go_typed.specs.Funcs.{FuncView, tree_of}
use Rattle.go_typed.specs.Packages.{PackageView}
use Rattle.go_typed.specs.Trees.{first_of, last_of, mapped}
use Rattle.clone_window.specs.declared.bounds.Bounds.{Bounds}
use Rattle.clone_window.specs.Windows.{window_statements, windows}
use Rattle.clone_window.specs.Bodies.{Body, bodies_of, statements_at}
use Rattle.clone_classes.specs.declared.place.Place.{Place}
use Rattle.clone_classes.specs.Choices.{place_of, place_over}
use Rattle.clone_classes.specs.Listing.{windows_of_all}
use Rattle.clone_classes.specs.Orders.{place_cmp}
use Rattle.window_index.specs.Orderly.{AreInOrder, Ascends, IsBefore}
use Rattle.window_index.proofs.Ascents.{joined-members}
use Rattle.go_package_defs.specs.Checked.{IsCheckedPackage, texts_of}
use Rattle.window_index.proofs.Functions.{AllNested, checked-nested}
use Rattle.window_index.proofs.Nested.{Nested, nested-alike, shape-mapped}
use Rattle.window_index.proofs.Ranks.{Lies, all-both, all-weaker, by-function, joined-ascends, over-function, tree-good}

-- ---- the trees of the program's packages

renamed-nested : (name : ℕ → ℕ) (fs : List FuncContent) → AllNested fs → AllNested (map (func_renamed name) fs)
renamed-nested name [] h = tt
renamed-nested name (f ∷ fs) h = (nested-alike f.tree (mapped (renamed name) f.tree) (sym (shape-mapped (renamed name) f.tree)) h.0, renamed-nested name fs h.1)

abbrev pub RootsNested : List (Body ℕ) → Type 0
RootsNested bs = AllByRecursion (λ (b : Body ℕ). Nested b.root) bs

roots-nested : (g : ℕ → TypeTree) (fs : List FuncView) → AllNested (map (func_content g) fs) → RootsNested (bodies_of fs)
roots-nested g [] h = tt
roots-nested g (f ∷ fs) h = (nested-alike (mapped g (tree_of f)) (tree_of f) (shape-mapped g (tree_of f)) h.0, roots-nested g fs h.1)

pub package-nested : (p : PackageView) → IsCheckedPackage p → RootsNested (bodies_of p.functions)
package-nested p h =
    roots-nested (type_of p.types.shapes) p.functions
    (subst AllNested (sym h.same.1.functions) (renamed-nested h.same.0 h.given.functions (checked-nested (texts_of p) h.given h.checked)))

-- ---- all windows

moved-ascends : {A : Type 0} (R S : A → A → Type 0) (P : A → Type 0) → ((x y : A) → P x → P y → R x y → S x y) → (xs : List A) → AllByRecursion P xs → Ascends R xs → Ascends S xs
moved-ascends R S P f [] h k = tt
moved-ascends R S P f (x ∷ xs) h k = (joined-members P (R x) (S x) xs (λ y a b. f x y h.0 a b) h.1 k.0, moved-ascends R S P f xs h.1 k.1)

module _ (bounds : Bounds) (some : 1 ≤ bounds.fewest) (all : List (Body ℕ)) where
  place-function : (w : Window) → (place_of all w).func ≡ w.func
  place-function w = over-function w.func (statements_at (slice_get all w.func) w)

  same-place : (n : ℕ) (b : Body ℕ) (w : Window) → slice_get all n ≡ Some b → w.func ≡ n → place_of all w ≡ place_over n (window_statements b.root w)
  same-place n b w h e = ap (λ f. place_over f (statements_at (slice_get all f) w)) e ∙ ap (λ o. place_over n (statements_at o w)) h

  abbrev From : ℕ → Window → Type 0
  From n w = n ≤ w.func

  all-good : (n : ℕ) (bs : List (Body ℕ)) → RootsNested bs → ((i : ℕ) (b : Body ℕ) → slice_get bs i ≡ Some b → slice_get all (n + i) ≡ Some b) →
      Ascends (IsBefore (place_of all)) (windows_of_all bounds n bs) × AllByRecursion (From n) (windows_of_all bounds n bs)
  all-good n [] h there = (tt, tt)
  all-good n (b ∷ bs) h there =
      let here : slice_get all n ≡ Some b = (let e : n ≡ n + 0 = omega arith in ap (slice_get all) e) ∙ there 0 b refl in
      let place : Window → Place = λ w. place_over n (window_statements b.root w) in
      let good = tree-good bounds some n b.root h.0 in
      let own : AllByRecursion (λ (w : Window). w.func ≡ n) (windows bounds n b.root) =
      all-weaker (Lies bounds some n b.root (suc (first_of b.root)) (last_of b.root)) (λ (w : Window). w.func ≡ n) (λ w k. k.0) (windows bounds n b.root) good.1 in
      let rest = all-good (suc n) bs h.1 (λ i c e. let k : suc n + i ≡ n + suc i = omega arith in ap (slice_get all) k ∙ there (suc i) c e) in
      let first : Ascends (IsBefore (place_of all)) (windows bounds n b.root) =
      moved-ascends (IsBefore place) (IsBefore (place_of all)) (λ (w : Window). w.func ≡ n)
      (λ w v d e r. ap (λ q. place_cmp q (place_of all v)) (same-place n b w here d) ∙ ap (place_cmp (place w)) (same-place n b v here e) ∙ r) (windows bounds n b.root) own good.0 in (
        joined-ascends (IsBefore (place_of all)) (windows bounds n b.root) (windows_of_all bounds (suc n) bs) first rest.0
            (all-weaker (λ (w : Window). w.func ≡ n) (λ w. AllByRecursion (IsBefore (place_of all) w) (windows_of_all bounds (suc n) bs))
            (λ w d. all-weaker (From (suc n)) (IsBefore (place_of all) w)
            (λ v e. by-function (place_of all w) (place_of all v) (let a : (place_of all w).func ≡ w.func = place-function w in let c : (place_of all v).func ≡ v.func = place-function v in omega (arith, a, c, d, e)))
            (windows_of_all bounds (suc n) bs) rest.1) (windows bounds n b.root) own),
        all-both (From n) (windows bounds n b.root) (windows_of_all bounds (suc n) bs) (all-weaker (λ (w : Window). w.func ≡ n) (From n) (λ w d. omega (arith, d)) (windows bounds n b.root) own)
            (all-weaker (From (suc n)) (From n) (λ w d. omega (arith, d)) (windows_of_all bounds (suc n) bs) rest.1),
      )

pub in-order : (p : PackageView) (bounds : Bounds) → IsCheckedPackage p → 1 ≤ bounds.fewest → AreInOrder (place_of (bodies_of p.functions)) (windows_of_all bounds 0 (bodies_of p.functions))
in-order p bounds h some =
    (all-good bounds some (bodies_of p.functions) 0 (bodies_of p.functions) (package-nested p h) (λ i b e. let k : 0 + i ≡ i = omega arith in ap (slice_get (bodies_of p.functions)) k ∙ e)).0
