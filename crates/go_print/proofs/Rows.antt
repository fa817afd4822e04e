-- The texts of the parts of a type, by their numbers.
use Rattle.std.proofs.Common.{◌≡◌, ℕ, ◌<◌, List, [], ◌∷◌, ◌++◌, map, codes, refl, ap, ◌∙◌}
use Rattle.std.specs.List.{AllByRecursion}
use Rattle.go_types.specs.declared.shape.Field.{Field}
use Rattle.go_types.specs.declared.shape.Shape.TheVariants as shape
use Rattle.go_types.specs.Trees.{TypeTree, row}
use Rattle.go_types.specs.Tables.{HasPartsBelow, type_of, tree_of}
use Rattle.go_typed.specs.Packages.{PackageView}
use Rattle.go_print.specs.Texts.{type_text, row_texts, named, fields_text, function_text}
use Rattle.go_print.specs.Names.{declared_name}
use Rattle.go_print.specs.Printed.{printed, printed_field}

texts_of_row : (name : ℕ → List ℕ) (tree : ℕ → TypeTree) (ts : List ℕ) → row_texts name (row (map tree ts)) ≡ map (λ t. type_text name (tree t)) ts
texts_of_row name tree [] = refl
texts_of_row name tree (t ∷ ts) = ap (λ xs. type_text name (tree t) ∷ xs) (texts_of_row name tree ts)

texts_of_fields : (name : ℕ → List ℕ) (tree : ℕ → TypeTree) (fs : List Field) →
    named (map (λ f. f.name) fs) (row_texts name (row (map (λ f. tree f.ty) fs))) ≡ map (λ f. f.name ++ codes " " ++ type_text name (tree f.ty)) fs
texts_of_fields name tree [] = refl
texts_of_fields name tree (f ∷ fs) = ap (λ xs. (f.name ++ codes " " ++ type_text name (tree f.ty)) ∷ xs) (texts_of_fields name tree fs)

pub printed_struct : (p : PackageView) (i : ℕ) (fs : List Field) → type_of p.types.shapes i ≡ tree_of (type_of p.types.shapes) (shape.Struct fs) →
    printed p i ≡ fields_text (map (printed_field p) fs)
printed_struct p i fs e = ap (type_text (declared_name p)) e ∙ ap fields_text (texts_of_fields (declared_name p) (type_of p.types.shapes) fs)

pub printed_function : (p : PackageView) (i : ℕ) (ps rs : List ℕ) → type_of p.types.shapes i ≡ tree_of (type_of p.types.shapes) (shape.Func ps rs) →
    printed p i ≡ function_text (map (printed p) ps) (map (printed p) rs)
printed_function p i ps rs e =
    ap (type_text (declared_name p)) e
    ∙ ap (λ ts. function_text ts (row_texts (declared_name p) (row (map (type_of p.types.shapes) rs)))) (texts_of_row (declared_name p) (type_of p.types.shapes) ps)
    ∙ ap (function_text (map (printed p) ps)) (texts_of_row (declared_name p) (type_of p.types.shapes) rs)

fields_in : (n : ℕ) (fs : List Field) → AllByRecursion (λ p. p < n) (map (λ f. f.ty) fs) → AllByRecursion (λ f. f.ty < n) fs
fields_in n [] h = h
fields_in n (f ∷ fs) h = (h.0, fields_in n fs h.1)

pub fields_below : (n : ℕ) (fs : List Field) → HasPartsBelow n (shape.Struct fs) → AllByRecursion (λ f. f.ty < n) fs
fields_below n fs h = fields_in n fs h

pub first_below : (n : ℕ) (ps rs : List ℕ) → AllByRecursion (λ p. p < n) (ps ++ rs) → AllByRecursion (λ p. p < n) ps
first_below n [] rs h = tt
first_below n (p ∷ ps) rs h = (h.0, first_below n ps rs h.1)

pub second_below : (n : ℕ) (ps rs : List ℕ) → AllByRecursion (λ p. p < n) (ps ++ rs) → AllByRecursion (λ p. p < n) rs
second_below n [] rs h = h
second_below n (p ∷ ps) rs h = second_below n ps rs h.1
