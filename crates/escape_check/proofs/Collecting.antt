-- What is known of names while they are collected.
use Rattle.std.proofs.Common.{◌≡◌, ◌∙◌, ℕ, ◌<◌, Bool, true, false, List, [], ◌∷◌, ◌++◌, map, ap, refl, sym}
use Rattle.std.proofs.Math.Bool.{or_assoc}
use Rattle.std.proofs.lemmas.List.Folds.{list_any-append}
use Rattle.std.specs.Prelude.{◌||◌}
use Rattle.std.specs.List.{AllByRecursion, list_any}
use Rattle.go_types.specs.declared.shape.Field.{Field}
use Rattle.go_types.specs.declared.shape.Shape.TheVariants as shape
use Rattle.go_types.specs.Trees.{TypeTree, row}
use Rattle.go_types.specs.Tables.{HasPartsBelow, type_of, tree_of}
use Rattle.go_typed.specs.Packages.{PackageView}
use Rattle.escape_check.specs.Collecting.{names_of_type, names_of_types}
use Rattle.escape_check.specs.Places.{sources_in}
use Rattle.escape_check.specs.Types.{TypeName, declared_text, row_names, type_names}

-- the names in a row of types are those in its types
pub row_of_names : (p : PackageView) (ts : List ℕ) → row_names (declared_text (sources_in p)) (row (map (type_of p.types.shapes) ts)) ≡ names_of_types p ts
row_of_names p [] = refl
row_of_names p (t ∷ ts) = ap (λ ns. names_of_type p t ++ ns) (row_of_names p ts)

pub fields_of_names : (p : PackageView) (fs : List Field) →
    row_names (declared_text (sources_in p)) (row (map (λ f. type_of p.types.shapes f.ty) fs)) ≡ names_of_types p (map (λ f. f.ty) fs)
fields_of_names p [] = refl
fields_of_names p (f ∷ fs) = ap (λ ns. names_of_type p f.ty ++ ns) (fields_of_names p fs)

-- ---- by shapes

pub names_by_shape : (p : PackageView) (i : ℕ) (t : TypeTree) → type_of p.types.shapes i ≡ t → names_of_type p i ≡ type_names (declared_text (sources_in p)) t
names_by_shape p i t e = ap (type_names (declared_text (sources_in p))) e

pub names_of_struct : (p : PackageView) (i : ℕ) (fs : List Field) → type_of p.types.shapes i ≡ tree_of (type_of p.types.shapes) (shape.Struct fs) →
    names_of_type p i ≡ names_of_types p (map (λ f. f.ty) fs)
names_of_struct p i fs e = ap (type_names (declared_text (sources_in p))) e ∙ fields_of_names p fs

pub names_of_function : (p : PackageView) (i : ℕ) (ps rs : List ℕ) → type_of p.types.shapes i ≡ tree_of (type_of p.types.shapes) (shape.Func ps rs) →
    names_of_type p i ≡ names_of_types p ps ++ names_of_types p rs
names_of_function p i ps rs e =
    ap (type_names (declared_text (sources_in p))) e
    ∙ ap (λ ns. ns ++ row_names (declared_text (sources_in p)) (row (map (type_of p.types.shapes) rs))) (row_of_names p ps)
    ∙ ap (λ ns. names_of_types p ps ++ ns) (row_of_names p rs)

fields_in : (n : ℕ) (fs : List Field) → AllByRecursion (λ p. p < n) (map (λ f. f.ty) fs) → AllByRecursion (λ f. f.ty < n) fs
fields_in n [] h = h
fields_in n (f ∷ fs) h = (h.0, fields_in n fs h.1)

pub fields_below : (n : ℕ) (fs : List Field) → HasPartsBelow n (shape.Struct fs) → AllByRecursion (λ f. f.ty < n) fs
fields_below n fs h = fields_in n fs h

pub first_below : (n : ℕ) (ps rs : List ℕ) → AllByRecursion (λ p. p < n) (ps ++ rs) → AllByRecursion (λ p. p < n) ps
first_below n [] rs h = tt
first_below n (p ∷ ps) rs h = (h.0, first_below n ps rs h.1)

pub second_below : (n : ℕ) (ps rs : List ℕ) → AllByRecursion (λ p. p < n) (ps ++ rs) → AllByRecursion (λ p. p < n) rs
second_below n [] rs h = h
second_below n (p ∷ ps) rs h = second_below n ps rs h.1

-- ---- tests

pub any_of_function : (p : PackageView) (i : ℕ) (ps rs : List ℕ) (test : TypeName → Bool) → type_of p.types.shapes i ≡ tree_of (type_of p.types.shapes) (shape.Func ps rs) →
    list_any test (names_of_type p i) ≡ (list_any test (names_of_types p ps) || list_any test (names_of_types p rs))
any_of_function p i ps rs test e = ap (list_any test) (names_of_function p i ps rs e) ∙ list_any-append test (names_of_types p ps) (names_of_types p rs)

-- what is among the names already adds nothing
pub nothing_added : (a b : Bool) → (b ≡ true → a ≡ true) → a ≡ (a || b)
nothing_added true b h = refl
nothing_added false true h = h refl
nothing_added false false h = refl

-- one behind the others
pub one_added : (a b c d : Bool) → b ≡ (a || c) → c ≡ d → b ≡ (a || d)
one_added a b c d e f = e ∙ ap (λ x. a || x) f

pub kept_left : (a b c : Bool) → b ≡ (a || c) → a ≡ true → b ≡ true
kept_left a b c e t = e ∙ ap (λ x. x || c) t

pub kept_right : (a b c : Bool) → b ≡ (a || c) → c ≡ true → b ≡ true
kept_right true b c e t = e
kept_right false b c e t = e ∙ t

-- the names of two rows, one behind the other
pub two_added : (a b c x y z : Bool) → b ≡ (a || x) → c ≡ (b || y) → z ≡ (x || y) → c ≡ (a || z)
two_added a b c x y z e f g = f ∙ ap (λ v. v || y) e ∙ or_assoc a x y ∙ ap (λ v. a || v) (sym g)
