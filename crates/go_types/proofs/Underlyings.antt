-- Underlying types and comparability, by the right sides of a table.
use Rattle.std.proofs.Common.{◌≡◌, ℕ, zero, suc, ◌<◌, List, [], ◌∷◌, Some, None, map, length, refl, sym, ◌∙◌, ap, subst, false}
use Rattle.std.specs.Prelude.{slice_get}
use Rattle.std.specs.Option.{option_map}
use Rattle.std.proofs.lemmas.Option.{slice_get-map}
use Rattle.go_types.specs.declared.shape.Field.{Field}
use Rattle.go_types.specs.declared.shape.Shape.{Shape}
use Rattle.go_types.specs.declared.shape.Shape.TheVariants as shape
use Rattle.go_types.specs.Trees.{TypeTree, array, slice, structure, function, declared, TypeRow, more, row, is_declared}
use Rattle.go_types.specs.Relations.{Rights, HasRight, Underlying, itself, Comparable, AllComparable, no_part, a_part, arrays, structures, by_right}
use Rattle.go_types.specs.Relations as relations
use Rattle.go_types.specs.Tables.{Table, IsTable, HasShape, HasRightId, tree_of, type_of, rights_of, held, Holds, Contains, at_once, IsDefined, IsSettled}
use Rattle.go_types.specs.Tables as tables
use Rattle.go_types.specs.Changes.{declaration, Leads, stays, goes}
use Rattle.go_types.proofs.Places.{get_there}
use Rattle.go_types.proofs.NumberedTypes.{type_of_shape}

-- ---- the right sides as types

pub right_type : (t : Table) (n r : ℕ) → HasRightId t n r → HasRight (rights_of t) n (type_of t.shapes r)
unfolding rights_of
right_type t n r h = slice_get-map (option_map (type_of t.shapes)) t.rights n ∙ ap (option_map (option_map (type_of t.shapes))) h

pub declared_type : (t : Table) → IsTable t → (i n : ℕ) → HasShape t i (shape.Named n) → type_of t.shapes i ≡ declared n
declared_type t ok i n s = type_of_shape t.shapes ok.parts_below i (shape.Named n) s

pub same_right : (rights : Rights) (n : ℕ) (r s : TypeTree) → HasRight rights n r → HasRight rights n s → r ≡ s
same_right rights n r s h k = cc

-- ---- underlying types

undeclared_tree : (f : ℕ → TypeTree) (s : Shape) → declaration (Some s) ≡ None → is_declared (tree_of f s) ≡ false
undeclared_tree f shape.Bool e = refl
undeclared_tree f shape.Text e = refl
undeclared_tree f (shape.Int k) e = refl
undeclared_tree f (shape.Array n p) e = refl
undeclared_tree f (shape.Slice p) e = refl
undeclared_tree f (shape.Struct fs) e = refl
undeclared_tree f (shape.Func ps rs) e = refl
undeclared_tree f (shape.Named n) e = cc

pub undeclared_type : (t : Table) → IsTable t → (i : ℕ) → i < length t.shapes → declaration (slice_get t.shapes i) ≡ None → is_declared (type_of t.shapes i) ≡ false
undeclared_type t ok i h e =
    let there = get_there t.shapes i h in
    ap is_declared (type_of_shape t.shapes ok.parts_below i there.0 there.1) ∙ undeclared_tree (type_of t.shapes) there.0 (ap declaration (sym there.1) ∙ e)

pub right_within : (t : Table) → IsTable t → (n r : ℕ) → HasRightId t n r → r < length t.shapes
right_within t ok n r h = (ok.right_sides n r h).0

pub leads_within : (t : Table) → IsTable t → (i u : ℕ) → i < length t.shapes → Leads t i u → u < length t.shapes
leads_within t ok i u h (stays _ _) = h
leads_within t ok i u h (goes _ n r _ s k l) = leads_within t ok r u (right_within t ok n r k) l

pub leads_undeclared : (t : Table) (i u : ℕ) → Leads t i u → declaration (slice_get t.shapes u) ≡ None
leads_undeclared t i u (stays _ e) = e
leads_undeclared t i u (goes _ n r _ s k l) = leads_undeclared t r u l

pub leads_underlying : (t : Table) → IsTable t → (i u : ℕ) → i < length t.shapes → Leads t i u → Underlying (rights_of t) (type_of t.shapes i) (type_of t.shapes u)
leads_underlying t ok i u h (stays _ e) = itself (type_of t.shapes i) (undeclared_type t ok i h e)
leads_underlying t ok i u h (goes _ n r _ s k l) =
    subst (λ x. Underlying (rights_of t) x (type_of t.shapes u)) (sym (declared_type t ok i n s))
    (relations.through n (type_of t.shapes r) (type_of t.shapes u) (right_type t n r k) (leads_underlying t ok r u (right_within t ok n r k) l))

itself_only : (rights : Rights) (x y : TypeTree) → is_declared x ≡ false → Underlying rights x y → x ≡ y
itself_only rights x y d (itself _ _) = refl
itself_only rights x y d (relations.through n r _ h l) = cc

pub right_underlying : (rights : Rights) (n : ℕ) (x y : TypeTree) → x ≡ declared n → Underlying rights x y → (r : TypeTree) × HasRight rights n r × Underlying rights r y
right_underlying rights n x y e (itself _ d) = let both : is_declared (declared n) ≡ false = ap is_declared (sym e) ∙ d in cc
right_underlying rights n x y e (relations.through m r _ h l) = let same : m ≡ n = cc in (r, subst (λ k. HasRight rights k r) same h, l)

-- a type has one underlying type
pub one_underlying : (rights : Rights) (t u v : TypeTree) → Underlying rights t u → Underlying rights t v → u ≡ v
one_underlying rights t u v (itself _ d) k = itself_only rights t v d k
one_underlying rights t u v (relations.through n r _ h l) k =
    let other = right_underlying rights n (declared n) v refl k in
    one_underlying rights r u v l (subst (λ x. Underlying rights x v) (same_right rights n other.0 r other.1 h) other.2)

-- ---- comparability

pub comparable_up : (t : Table) → IsTable t → (i u : ℕ) → Leads t i u → Comparable (rights_of t) (type_of t.shapes u) → Comparable (rights_of t) (type_of t.shapes i)
comparable_up t ok i u (stays _ _) c = c
comparable_up t ok i u (goes _ n r _ s k l) c =
    subst (Comparable (rights_of t)) (sym (declared_type t ok i n s))
    (by_right n (type_of t.shapes r) (right_type t n r k) (comparable_up t ok r u l c))

pub comparable_right : (rights : Rights) (n : ℕ) (x : TypeTree) → x ≡ declared n → Comparable rights x → (r : TypeTree) × HasRight rights n r × Comparable rights r
comparable_right rights n x e (by_right m r h c) = let same : m ≡ n = cc in (r, subst (λ k. HasRight rights k r) same h, c)
comparable_right rights n x e _ = cc

pub comparable_down : (t : Table) → IsTable t → (i u : ℕ) → Leads t i u → Comparable (rights_of t) (type_of t.shapes i) → Comparable (rights_of t) (type_of t.shapes u)
comparable_down t ok i u (stays _ _) c = c
comparable_down t ok i u (goes _ n r _ s k l) c =
    let right = comparable_right (rights_of t) n (type_of t.shapes i) (declared_type t ok i n s) c in
    comparable_down t ok r u l (subst (Comparable (rights_of t)) (same_right (rights_of t) n right.0 (type_of t.shapes r) right.1 (right_type t n r k)) right.2)

pub element_comparable : (rights : Rights) (n : ℕ) (x t : TypeTree) → x ≡ array n t → Comparable rights x → Comparable rights t
element_comparable rights n x t e (arrays m u c) = let same : u ≡ t = cc in subst (Comparable rights) same c
element_comparable rights n x t e _ = cc

pub slices_not : (rights : Rights) (x t : TypeTree) → x ≡ slice t → Comparable rights x → ⊥
slices_not rights x t e (arrays _ _ _) = cc
slices_not rights x t e _ = cc

pub functions_not : (rights : Rights) (x : TypeTree) (ps rs : TypeRow) → x ≡ function ps rs → Comparable rights x → ⊥
functions_not rights x ps rs e (arrays _ _ _) = cc
functions_not rights x ps rs e _ = cc

row_head : (rights : Rights) (t : TypeTree) (ts xs : TypeRow) → xs ≡ more t ts → AllComparable rights xs → Comparable rights t × AllComparable rights ts
row_head rights t ts xs e no_part = cc
row_head rights t ts xs e (a_part u us c cs) =
    let head : u ≡ t = cc in
    let tail : us ≡ ts = cc in
    (subst (Comparable rights) head c, subst (AllComparable rights) tail cs)

struct_row : (rights : Rights) (names : List (List ℕ)) (ts : TypeRow) (x : TypeTree) → x ≡ structure names ts → Comparable rights x → AllComparable rights ts
struct_row rights names ts x e (structures ms us cs) = let same : us ≡ ts = cc in subst (AllComparable rights) same cs
struct_row rights names ts x e _ = cc

row_at : (rights : Rights) (f : ℕ → TypeTree) (fs : List Field) (k : ℕ) (x : Field) → AllComparable rights (row (map (λ y. f y.ty) fs)) → slice_get fs k ≡ Some x → Comparable rights (f x.ty)
row_at rights f [] k x c e = cc
row_at rights f (y ∷ ys) zero x c e =
    let same : y ≡ x = cc in
    subst (λ z. Comparable rights (f z.ty)) same (row_head rights (f y.ty) (row (map (λ z. f z.ty) ys)) (row (map (λ z. f z.ty) (y ∷ ys))) refl c).0
row_at rights f (y ∷ ys) (suc k) x c e =
    row_at rights f ys k x (row_head rights (f y.ty) (row (map (λ z. f z.ty) ys)) (row (map (λ z. f z.ty) (y ∷ ys))) refl c).1 e

-- a field of a comparable struct
pub field_comparable : (rights : Rights) (f : ℕ → TypeTree) (fs : List Field) (k : ℕ) (x : Field) → Comparable rights (tree_of f (shape.Struct fs)) → slice_get fs k ≡ Some x → Comparable rights (f x.ty)
field_comparable rights f fs k x c e = row_at rights f fs k x (struct_row rights (map (λ y. y.name) fs) (row (map (λ y. f y.ty) fs)) (tree_of f (shape.Struct fs)) refl c) e

pub all_fields : (rights : Rights) (f : ℕ → TypeTree) (fs : List Field) → ((k : ℕ) (x : Field) → slice_get fs k ≡ Some x → Comparable rights (f x.ty)) → AllComparable rights (row (map (λ y. f y.ty) fs))
all_fields rights f [] c = no_part
all_fields rights f (y ∷ ys) c = a_part (f y.ty) (row (map (λ z. f z.ty) ys)) (c zero y refl) (all_fields rights f ys (λ k x e. c (suc k) x e))

-- ---- declared types that have their right sides

pub settled_held : (t : Table) (i j : ℕ) → IsSettled t i → Holds t i j → IsSettled t j
settled_held t i j s h = record { itself = s.contained j (at_once i j h); contained = λ k c. s.contained k (tables.through i j k h c) }

-- ---- laws

pub underlying_itself : (rights : Rights) (t u : TypeTree) → Underlying rights t u → Underlying rights u u
underlying_itself rights t u (itself _ d) = itself t d
underlying_itself rights t u (relations.through n r _ h l) = underlying_itself rights r u l

pub first_field_comparable : (rights : Rights) (names : List (List ℕ)) (t : TypeTree) (ts : TypeRow) (x : TypeTree) → x ≡ structure names (more t ts) → Comparable rights x → Comparable rights t
first_field_comparable rights names t ts x e c = (row_head rights t ts (more t ts) refl (struct_row rights names (more t ts) x e c)).0
