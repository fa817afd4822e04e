-- The types that the numbers of a table stand for.
use Rattle.std.proofs.Common.{◌≡◌, ℕ, zero, suc, ◌<◌, ◌≤◌, List, [], ◌∷◌, ◌++◌, Some, map, take, length, refl, sym, ◌∙◌, ap, arith}
use Rattle.std.specs.Prelude.{slice_get}
use Rattle.std.specs.List.{AllByRecursion}
use Rattle.go_types.specs.declared.shape.Field.{Field}
use Rattle.go_types.specs.declared.shape.Shape.{Shape}
use Rattle.go_types.specs.declared.shape.Shape.TheVariants as shape
use Rattle.go_types.specs.Trees.{TypeTree, array, slice, structure, row}
use Rattle.go_types.specs.Tables.{tree_of, tree_at, type_below, type_of, parts, HasPartsBelow}
use Rattle.go_types.proofs.Places.{all_of, get_left, get_within, take_get, get_there}

-- the parts of each shape have smaller numbers
abbrev pub Descends : List Shape → Type 0
Descends shapes = (i : ℕ) (s : Shape) → slice_get shapes i ≡ Some s → HasPartsBelow i s

-- two ways to read parts that agree on these
abbrev Agree : (ℕ → TypeTree) → (ℕ → TypeTree) → List ℕ → Type 0
Agree f g ps = AllByRecursion (λ p. f p ≡ g p) ps

row_alike : (f g : ℕ → TypeTree) (ps : List ℕ) → Agree f g ps → row (map f ps) ≡ row (map g ps)
row_alike f g [] a = refl
row_alike f g (p ∷ ps) a = let here : f p ≡ g p = a.0 in let there : row (map f ps) ≡ row (map g ps) = row_alike f g ps a.1 in cc

fields_alike : (f g : ℕ → TypeTree) (fs : List Field) → Agree f g (map (λ x. x.ty) fs) → row (map (λ x. f x.ty) fs) ≡ row (map (λ x. g x.ty) fs)
fields_alike f g [] a = refl
fields_alike f g (x ∷ xs) a =
    let here : f x.ty ≡ g x.ty = a.0 in
    let there : row (map (λ y. f y.ty) xs) ≡ row (map (λ y. g y.ty) xs) = fields_alike f g xs a.1 in
    cc

agree_left : (f g : ℕ → TypeTree) (ps rs : List ℕ) → Agree f g (ps ++ rs) → Agree f g ps
agree_left f g [] rs a = tt
agree_left f g (p ∷ ps) rs a = (a.0, agree_left f g ps rs a.1)

agree_right : (f g : ℕ → TypeTree) (ps rs : List ℕ) → Agree f g (ps ++ rs) → Agree f g rs
agree_right f g [] rs a = a
agree_right f g (p ∷ ps) rs a = agree_right f g ps rs a.1

tree_alike : (f g : ℕ → TypeTree) (s : Shape) → Agree f g (parts s) → tree_of f s ≡ tree_of g s
tree_alike f g shape.Bool a = refl
tree_alike f g shape.Text a = refl
tree_alike f g (shape.Int k) a = refl
tree_alike f g (shape.Array n e) a = ap (array n) a.0
tree_alike f g (shape.Slice e) a = ap slice a.0
tree_alike f g (shape.Struct fs) a = ap (structure (map (λ x. x.name) fs)) (fields_alike f g fs a)
tree_alike f g (shape.Func ps rs) a =
    let params : row (map f ps) ≡ row (map g ps) = row_alike f g ps (agree_left f g ps rs a) in
    let results : row (map f rs) ≡ row (map g rs) = row_alike f g rs (agree_right f g ps rs a) in
    cc
tree_alike f g (shape.Named n) a = refl

-- A number's type is the same read with any bounds above it, and in all lists that agree up to it.
pub same_below : (k l i n : ℕ) (xs ys : List Shape) → Descends xs → ((j : ℕ) (s : Shape) → j < n → slice_get xs j ≡ Some s → slice_get ys j ≡ Some s) → n ≤ length xs → i < n → i < k → i < l → type_below k xs i ≡ type_below l ys i
unfolding type_below
same_below zero l i n xs ys d e h b p q = absurd (omega arith)
same_below (suc k) zero i n xs ys d e h b p q = absurd (omega arith)
same_below (suc k) (suc l) i n xs ys d e h b p q =
    let there = get_there xs i (omega arith) in
    let s = there.0 in
    let other = e i s b there.1 in
    let agree = all_of (λ j. j < i) (λ j. type_below k xs j ≡ type_below l ys j) (parts s) (λ j below. same_below k l j n xs ys d e h (omega arith) (omega arith) (omega arith)) (d i s there.1) in
    ap (tree_at (type_below k xs)) there.1 ∙ tree_alike (type_below k xs) (type_below l ys) s agree ∙ sym (ap (tree_at (type_below l ys)) other)

-- the type of a number whose shape is known
pub type_of_shape : (xs : List Shape) → Descends xs → (i : ℕ) (s : Shape) → slice_get xs i ≡ Some s → type_of xs i ≡ tree_of (type_of xs) s
unfolding type_of type_below
type_of_shape xs d i s e =
    let within : i < length xs = get_within xs i s e in
    let agree = all_of (λ j. j < i) (λ j. type_below i xs j ≡ type_below (suc j) xs j) (parts s) (λ j below. same_below i (suc j) j (length xs) xs xs d (λ k u b h. h) (omega arith) (omega arith) below (omega arith)) (d i s e) in
    ap (tree_at (type_below i xs)) e ∙ tree_alike (type_below i xs) (type_of xs) s agree

-- types keep when the table grows
pub type_of_longer : (xs ys : List Shape) → Descends xs → (i : ℕ) → i < length xs → type_of (xs ++ ys) i ≡ type_of xs i
unfolding type_of
type_of_longer xs ys d i h = sym (same_below (suc i) (suc i) i (length xs) xs (xs ++ ys) d (λ j s b e. get_left xs ys j s e) (omega arith) h (omega arith) (omega arith))

-- and when it is cut
pub type_of_first : (xs : List Shape) (n : ℕ) → Descends xs → (i : ℕ) → n ≤ length xs → i < n → type_of (take n xs) i ≡ type_of xs i
unfolding type_of
type_of_first xs n d i h b = sym (same_below (suc i) (suc i) i n xs (take n xs) d (λ j s below e. take_get n xs j s e below) h b (omega arith) (omega arith))
