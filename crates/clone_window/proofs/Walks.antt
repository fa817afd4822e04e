-- The windows of a row of parts, part by part.
use Rattle.std.proofs.Common.{◌≡◌, ℕ, zero, suc, ◌+◌, ◌-◌, ◌^◌, ◌<◌, ◌≤◌, false, List, [], ◌∷◌, ◌++◌, length, take, drop, get_or, Option, Some, subst, refl, sym, ap, ◌∙◌, arith, length-append, length-drop, append_assoc, drop-cons}
use Rattle.go_typed.specs.declared.window.Window.{Window}
use Rattle.go_typed.specs.declared.node.TypedNode.{TypedNode}
use Rattle.go_typed.specs.Trees.{Typed, Typeds, more, skip}
use Rattle.go_typed.specs.Funcs.{size, sizes}
use Rattle.go_typed.specs.Lists.{statement_lists, lists_among}
use Rattle.go_typed.specs.Views.{view, views}
use Rattle.clone_window.specs.declared.bounds.Bounds.{Bounds}
use Rattle.clone_window.specs.Caps.{capped}
use Rattle.clone_window.specs.Masses.{mass, each_mass}
use Rattle.clone_window.specs.Weights.{row_masses, weights, weights_among}
use Rattle.clone_window.specs.Windows.{list_count, windows_from, windows_in, windows_among, windows_along}
use Rattle.clone_window.proofs.Sizes.{some-size, lists-few}
use Rattle.clone_window.proofs.Weights.{as-many, table-split}

-- the parts from one on
pub views-at : (xs : List (Option TypedNode)) (i : ℕ) (part : Option TypedNode) → i < length xs → part ≡ get_or xs i part → views (drop i xs) ≡ views (part ∷ drop (i + 1) xs)
views-at xs i part h e =
    ap views (drop-cons xs i part h ∙ ap (λ x. x ∷ drop (suc i) xs) (sym e) ∙ ap (λ k. part ∷ drop k xs) (let n : suc i ≡ i + 1 = omega arith in n))

pub drop-tail : {A : Type 0} (i : ℕ) (xs ys : List A) (x : A) → drop i xs ≡ x ∷ ys → drop (suc i) xs ≡ ys
drop-tail zero [] ys x h = cc
drop-tail zero (z ∷ xs) ys x h = let e : xs ≡ ys = cc in e
drop-tail (suc i) [] ys x h = cc
drop-tail (suc i) (z ∷ xs) ys x h = drop-tail i xs ys x h

take-whole : {A : Type 0} (xs : List A) (n : ℕ) → length xs ≤ n → take n xs ≡ xs
take-whole [] zero h = refl
take-whole [] (suc n) h = refl
take-whole (x ∷ xs) zero h = absurd (omega arith)
take-whole (x ∷ xs) (suc n) h = ap (λ l. x ∷ l) (take-whole xs n (omega arith))

-- a slice up to the end
pub take-rest : {A : Type 0} (i : ℕ) (xs : List A) → take (length xs - i) (drop i xs) ≡ drop i xs
take-rest i xs = take-whole (drop i xs) (length xs - i) (omega (arith, length-drop i xs))

-- the rows of the parts behind one
pub table-behind : (next next' : ℕ) (table : List (List ℕ)) (p : Typed ℕ) (ps : Typeds ℕ) → next' ≡ next + list_count p →
    take (length (weights_among (more p ps))) (drop next table) ≡ weights_among (more p ps) → take (length (weights_among ps)) (drop next' table) ≡ weights_among ps
table-behind next next' table p ps n h =
    let k : next' ≡ next + length (weights p) = omega (arith, n, as-many p) in
    ap (λ m. take (length (weights_among ps)) (drop m table)) k ∙ (table-split next table (weights p) (weights_among ps) h).1

-- ---- a node that is no statement list

-- What is left to do: the number of the next list counts on to the one behind, and the windows to come make all.
pub record AmongLeft (bounds : Bounds) (func first next : ℕ) (all left : Typeds ℕ) (table : List (List ℕ)) (old out : List Window) : Type 0 where
  pub number : next + length (lists_among left) ≡ first + length (lists_among all)
  pub room : next + sizes left < 2 ^ 32
  pub table_left : take (length (weights_among left)) (drop next table) ≡ weights_among left
  pub windows : old ++ windows_among bounds func first all ≡ out ++ windows_among bounds func next left

pub among-more : (bounds : Bounds) (func first next next' : ℕ) (all : Typeds ℕ) (p : Typed ℕ) (ps : Typeds ℕ) (table : List (List ℕ)) (old out out' : List Window) →
    AmongLeft bounds func first next all (more p ps) table old out → next' ≡ next + list_count p → out' ≡ out ++ windows_in bounds func next p →
    AmongLeft bounds func first next' all ps table old out'
among-more bounds func first next next' all p ps table old out out' h n e = record {
  number = omega (arith, h.number, length-append (statement_lists p) (lists_among ps));
  room = omega (arith, h.room, lists-few p);
  table_left = table-behind next next' table p ps n h.table_left;
  windows =
      h.windows
      ∙ sym (append_assoc out (windows_in bounds func next p) (windows_among bounds func (next + list_count p) ps))
      ∙ ap (λ o. o ++ windows_among bounds func (next + list_count p) ps) (sym e)
      ∙ ap (λ k. out' ++ windows_among bounds func k ps) (sym n);
}

-- the rows of the next part
pub among-row : (bounds : Bounds) (func first next : ℕ) (all : Typeds ℕ) (p : Typed ℕ) (ps : Typeds ℕ) (table : List (List ℕ)) (old out : List Window) →
    AmongLeft bounds func first next all (more p ps) table old out → take (length (weights p)) (drop next table) ≡ weights p
among-row bounds func first next all p ps table old out h = (table-split next table (weights p) (weights_among ps) h.table_left).0

pub among-skip : (bounds : Bounds) (func first next : ℕ) (all ps : Typeds ℕ) (table : List (List ℕ)) (old out : List Window) →
    AmongLeft bounds func first next all (skip ps) table old out → AmongLeft bounds func first next all ps table old out
among-skip bounds func first next all ps table old out h = record { number = h.number; room = h.room; table_left = h.table_left; windows = h.windows }

-- ---- a statement list

-- The same, with the masses of the statements from the present part on.
pub record AlongLeft (bounds : Bounds) (func list ahead first next index : ℕ) (all left : Typeds ℕ) (masses : List ℕ) (table : List (List ℕ)) (old out : List Window) : Type 0 where
  pub number : next + length (lists_among left) ≡ first + length (lists_among all)
  pub room : next + sizes left < 2 ^ 32
  pub small : index + sizes left < 2 ^ 32
  pub masses_left : drop index masses ≡ row_masses left
  pub table_left : take (length (weights_among left)) (drop next table) ≡ weights_among left
  pub windows : old ++ windows_along bounds func list ahead first 0 all ≡ out ++ windows_along bounds func list ahead next index left

-- the rows of the next part
pub along-row : (bounds : Bounds) (func list ahead first next index : ℕ) (all : Typeds ℕ) (p : Typed ℕ) (ps : Typeds ℕ) (masses : List ℕ) (table : List (List ℕ)) (old out : List Window) →
    AlongLeft bounds func list ahead first next index all (more p ps) masses table old out → take (length (weights p)) (drop next table) ≡ weights p
along-row bounds func list ahead first next index all p ps masses table old out h = (table-split next table (weights p) (weights_among ps) h.table_left).0

pub along-more : (bounds : Bounds) (func list ahead first next next' index index' : ℕ) (all : Typeds ℕ) (p : Typed ℕ) (ps : Typeds ℕ) (masses : List ℕ) (table : List (List ℕ)) (old out mid out' : List Window) →
    AlongLeft bounds func list ahead first next index all (more p ps) masses table old out →
    mid ≡ out ++ windows_from bounds func list ahead index (each_mass (more p ps)) → next' ≡ next + list_count p → out' ≡ mid ++ windows_in bounds func next p → index' ≡ index + 1 →
    AlongLeft bounds func list ahead first next' index' all ps masses table old out'
along-more bounds func list ahead first next next' index index' all p ps masses table old out mid out' h m n e i =
    let a = windows_from bounds func list ahead index (each_mass (more p ps)) in
    let b = windows_in bounds func next p in
    let s : index' ≡ suc index = omega arith in
    record {
      number = omega (arith, h.number, length-append (statement_lists p) (lists_among ps));
      room = omega (arith, h.room, lists-few p);
      small = omega (arith, h.small, some-size p);
      table_left = table-behind next next' table p ps n h.table_left;
      masses_left = ap (λ k. drop k masses) s ∙ drop-tail index masses (row_masses ps) (capped (mass false p)) h.masses_left;
      windows =
          h.windows
          ∙ sym (append_assoc out (a ++ b) (windows_along bounds func list ahead (next + list_count p) (suc index) ps))
          ∙ ap (λ o. o ++ windows_along bounds func list ahead (next + list_count p) (suc index) ps) (sym (append_assoc out a b) ∙ ap (λ o. o ++ b) (sym m) ∙ sym e)
          ∙ ap (λ k. out' ++ windows_along bounds func list ahead k (suc index) ps) (sym n)
          ∙ ap (λ k. out' ++ windows_along bounds func list ahead next' k ps) (sym s);
    }

pub along-skip : (bounds : Bounds) (func list ahead first next index : ℕ) (all ps : Typeds ℕ) (masses : List ℕ) (table : List (List ℕ)) (old out : List Window) →
    AlongLeft bounds func list ahead first next index all (skip ps) masses table old out → AlongLeft bounds func list ahead first next index all ps masses table old out
along-skip bounds func list ahead first next index all ps masses table old out h =
    record { number = h.number; room = h.room; small = h.small; masses_left = h.masses_left; table_left = h.table_left; windows = h.windows }

-- ---- the calls for a part

pub among-call : (bounds : Bounds) (func first next i : ℕ) (all : Typeds ℕ) (parts : List (Option TypedNode)) (part : Option TypedNode) (node : TypedNode) (table : List (List ℕ)) (old out : List Window) →
    AmongLeft bounds func first next all (views (drop i parts)) table old out → i < length parts → part ≡ get_or parts i part → part ≡ Some node →
    (next + size (view node) < 2 ^ 32) × (take (length (weights (view node))) (drop next table) ≡ weights (view node))
among-call bounds func first next i all parts part node table old out h lt e s =
    let rest = views (drop (i + 1) parts) in
    let P : Typeds ℕ → Type 0 = λ ps. AmongLeft bounds func first next all ps table old out in
    let k : AmongLeft bounds func first next all (more (view node) rest) table old out = subst P (views-at parts i part lt e ∙ ap (λ p. views (p ∷ drop (i + 1) parts)) s) h in
    (omega (arith, k.room), among-row bounds func first next all (view node) rest table old out k)

pub along-call : (bounds : Bounds) (func list ahead first next index i : ℕ) (all : Typeds ℕ) (parts : List (Option TypedNode)) (part : Option TypedNode) (node : TypedNode) (masses : List ℕ) (table : List (List ℕ)) (old out : List Window) →
    AlongLeft bounds func list ahead first next index all (views (drop i parts)) masses table old out → i < length parts → part ≡ get_or parts i part → part ≡ Some node →
    ((next + size (view node) < 2 ^ 32) × (take (length (weights (view node))) (drop next table) ≡ weights (view node))) × (index + 1 < 2 ^ 32)
along-call bounds func list ahead first next index i all parts part node masses table old out h lt e s =
    let rest = views (drop (i + 1) parts) in
    let P : Typeds ℕ → Type 0 = λ ps. AlongLeft bounds func list ahead first next index all ps masses table old out in
    let k : AlongLeft bounds func list ahead first next index all (more (view node) rest) masses table old out = subst P (views-at parts i part lt e ∙ ap (λ p. views (p ∷ drop (i + 1) parts)) s) h in
    ((omega (arith, k.room), along-row bounds func list ahead first next index all (view node) rest masses table old out k), omega (arith, k.small, some-size (view node)))
