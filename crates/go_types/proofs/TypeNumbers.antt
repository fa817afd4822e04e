-- Numbers of a table are equal exactly where their types are.
use Rattle.std.proofs.Common.{◌≡◌, ℕ, zero, suc, ◌<◌, ◌≤◌, List, [], ◌∷◌, ◌++◌, Some, map, length, refl, sym, ◌∙◌, ap, arith}
use Rattle.std.specs.List.{AllByRecursion}
use Rattle.go_types.specs.declared.shape.Field.{Field}
use Rattle.go_types.specs.declared.shape.Shape.{Shape}
use Rattle.go_types.specs.declared.shape.Shape.TheVariants as shape
use Rattle.go_types.specs.Trees.{TypeTree, row, Identical}
use Rattle.go_types.specs.Tables.{Table, IsTable, tree_of, type_of, parts, HasPartsBelow}
use Rattle.go_types.proofs.Places.{all_of, get_there}
use Rattle.go_types.proofs.NumberedTypes.{type_of_shape}
use Rattle.go_types.proofs.TreeIdentity.{equal_trees, identical_equal}
use Rattle.go_types.proofs.ShapeKeys.{same_field}

abbrev Below : ℕ → List ℕ → Type 0
Below n ps = AllByRecursion (λ p. p < n) ps

-- numbers below n with one type are equal
abbrev Injective : (ℕ → TypeTree) → ℕ → Type 0
Injective f n = (p q : ℕ) → p < n → q < n → f p ≡ f q → p ≡ q

below_left : (n : ℕ) (ps rs : List ℕ) → Below n (ps ++ rs) → Below n ps
below_left n [] rs b = tt
below_left n (p ∷ ps) rs b = (b.0, below_left n ps rs b.1)

below_right : (n : ℕ) (ps rs : List ℕ) → Below n (ps ++ rs) → Below n rs
below_right n [] rs b = b
below_right n (p ∷ ps) rs b = below_right n ps rs b.1

rows_equal : (f : ℕ → TypeTree) (n : ℕ) → Injective f n → (ps qs : List ℕ) → Below n ps → Below n qs → row (map f ps) ≡ row (map f qs) → ps ≡ qs
rows_equal f n inj [] [] b d e = refl
rows_equal f n inj [] (q ∷ qs) b d e = cc
rows_equal f n inj (p ∷ ps) [] b d e = cc
rows_equal f n inj (p ∷ ps) (q ∷ qs) b d e =
    let heads : f p ≡ f q = cc in
    let tails : row (map f ps) ≡ row (map f qs) = cc in
    let head : p ≡ q = inj p q b.0 d.0 heads in
    let tail : ps ≡ qs = rows_equal f n inj ps qs b.1 d.1 tails in
    cc

fields_equal : (f : ℕ → TypeTree) (n : ℕ) → Injective f n → (fs gs : List Field) → Below n (map (λ x. x.ty) fs) → Below n (map (λ x. x.ty) gs) → map (λ x. x.name) fs ≡ map (λ x. x.name) gs → row (map (λ x. f x.ty) fs) ≡ row (map (λ x. f x.ty) gs) → fs ≡ gs
fields_equal f n inj [] [] b d m e = refl
fields_equal f n inj [] (y ∷ ys) b d m e = cc
fields_equal f n inj (x ∷ xs) [] b d m e = cc
fields_equal f n inj (x ∷ xs) (y ∷ ys) b d m e =
    let name : x.name ≡ y.name = cc in
    let names : map (λ z. z.name) xs ≡ map (λ z. z.name) ys = cc in
    let type : f x.ty ≡ f y.ty = cc in
    let types : row (map (λ z. f z.ty) xs) ≡ row (map (λ z. f z.ty) ys) = cc in
    let head : x ≡ y = same_field x y name (inj x.ty y.ty b.0 d.0 type) in
    let tail : xs ≡ ys = fields_equal f n inj xs ys b.1 d.1 names types in
    cc

shapes_equal : (f : ℕ → TypeTree) (n : ℕ) → Injective f n → (s t : Shape) → HasPartsBelow n s → HasPartsBelow n t → tree_of f s ≡ tree_of f t → s ≡ t
shapes_equal f n inj shape.Bool shape.Bool b d e = refl
shapes_equal f n inj shape.Bool _ b d e = cc
shapes_equal f n inj shape.Text shape.Text b d e = refl
shapes_equal f n inj shape.Text _ b d e = cc
shapes_equal f n inj (shape.Int k) (shape.Int l) b d e = let same : k ≡ l = cc in ap shape.Int same
shapes_equal f n inj (shape.Int k) _ b d e = cc
shapes_equal f n inj (shape.Array m p) (shape.Array l q) b d e =
    let sizes : m ≡ l = cc in
    let types : f p ≡ f q = cc in
    let elements : p ≡ q = inj p q b.0 d.0 types in
    cc
shapes_equal f n inj (shape.Array m p) _ b d e = cc
shapes_equal f n inj (shape.Slice p) (shape.Slice q) b d e = let types : f p ≡ f q = cc in ap shape.Slice (inj p q b.0 d.0 types)
shapes_equal f n inj (shape.Slice p) _ b d e = cc
shapes_equal f n inj (shape.Struct fs) (shape.Struct gs) b d e =
    let names : map (λ x. x.name) fs ≡ map (λ x. x.name) gs = cc in
    let types : row (map (λ x. f x.ty) fs) ≡ row (map (λ x. f x.ty) gs) = cc in
    ap shape.Struct (fields_equal f n inj fs gs b d names types)
shapes_equal f n inj (shape.Struct fs) _ b d e = cc
shapes_equal f n inj (shape.Func ps rs) (shape.Func qs ss) b d e =
    let first : row (map f ps) ≡ row (map f qs) = cc in
    let second : row (map f rs) ≡ row (map f ss) = cc in
    let params : ps ≡ qs = rows_equal f n inj ps qs (below_left n ps rs b) (below_left n qs ss d) first in
    let results : rs ≡ ss = rows_equal f n inj rs ss (below_right n ps rs b) (below_right n qs ss d) second in
    cc
shapes_equal f n inj (shape.Func ps rs) _ b d e = cc
shapes_equal f n inj (shape.Named m) (shape.Named l) b d e = let same : m ≡ l = cc in ap shape.Named same
shapes_equal f n inj (shape.Named m) _ b d e = cc

numbers_below : (t : Table) → IsTable t → (n : ℕ) → n ≤ length t.shapes → Injective (type_of t.shapes) n
numbers_below t ok zero h i j a b e = absurd (omega arith)
numbers_below t ok (suc n) h i j a b e =
    let at_i = get_there t.shapes i (omega arith) in
    let at_j = get_there t.shapes j (omega arith) in
    let trees = (sym (type_of_shape t.shapes ok.parts_below i at_i.0 at_i.1) ∙ e) ∙ type_of_shape t.shapes ok.parts_below j at_j.0 at_j.1 in
    let below_i = all_of (λ p. p < i) (λ p. p < n) (parts at_i.0) (λ p l. omega arith) (ok.parts_below i at_i.0 at_i.1) in
    let below_j = all_of (λ p. p < j) (λ p. p < n) (parts at_j.0) (λ p l. omega arith) (ok.parts_below j at_j.0 at_j.1) in
    let same = shapes_equal (type_of t.shapes) n (numbers_below t ok n (omega arith)) at_i.0 at_j.0 below_i below_j trees in
    ok.distinct i j at_j.0 (at_i.1 ∙ ap Some same) at_j.1

-- equal types, equal numbers
pub same_number : (t : Table) → IsTable t → (i j : ℕ) → i < length t.shapes → j < length t.shapes → type_of t.shapes i ≡ type_of t.shapes j → i ≡ j
same_number t ok i j a b e = numbers_below t ok (length t.shapes) (omega arith) i j a b e

-- identical types, equal numbers
pub number_from_identical : (t : Table) → IsTable t → (i j : ℕ) → i < length t.shapes → j < length t.shapes → Identical (type_of t.shapes i) (type_of t.shapes j) → i ≡ j
number_from_identical t ok i j a b h = same_number t ok i j a b (equal_trees (type_of t.shapes i) (type_of t.shapes j) h)

pub identical_from_number : (t : Table) (i j : ℕ) → i ≡ j → Identical (type_of t.shapes i) (type_of t.shapes j)
identical_from_number t i j e = identical_equal (type_of t.shapes i) (type_of t.shapes j) (ap (type_of t.shapes) e)
