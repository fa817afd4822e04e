-- The places that a table keeps are those of the rules.
use Rattle.std.proofs.Common.{◌≡◌, ℕ, suc, ◌<◌, List, [], ◌∷◌, length, map, Option, Some, refl, ap, sym, ◌∙◌, subst}
use Rattle.std.specs.Prelude.{◌&&◌, nat_eq, if◌then◌else◌, IfSome}
use Rattle.std.specs.Cmp.Lexicographic.{pointwise}
use Rattle.std.proofs.lemmas.Bool.{eqb-true, eq-eqb}
use Rattle.go_types.specs.declared.shape.Shape.{Shape}
use Rattle.go_types.specs.declared.shape.Shape.TheVariants as shape
use Rattle.go_types.specs.Trees.{TypeTree}
use Rattle.go_types.specs.Relations.{Underlying}
use Rattle.go_types.specs.Tables.{Table, IsTable, HasShape, type_of, rights_of, tree_of}
use Rattle.go_types.specs.FieldPlaces.{place_from as kept_place, field_place}
use Rattle.go_types.proofs.Public.{get_there, field_within}
use Rattle.go_types_relations.specs.Identity.{same_name}
use Rattle.go_types_relations.specs.Tests.{underlying_of}
use Rattle.go_types_relations.proofs.Public.{underlying_told, shape_tree, same_truth}
use Rattle.go_exprs_rules.specs.Indexes.{place_from, field_number}
use Rattle.go_exprs_rules.specs.Tables.{field_count}
use Rattle.go_exprs_types.proofs.Structs.{length_of_row}

same_number : (x y : ℕ) → nat_eq x y ≡ nat_eq y x
same_number x y = same_truth (nat_eq x y) (nat_eq y x) (λ e. eq-eqb y x (sym (eqb-true x y e))) (λ e. eq-eqb x y (sym (eqb-true y x e)))

same_is : (xs ys : List ℕ) → same_name xs ys ≡ pointwise nat_eq ys xs
same_is [] [] = refl
same_is [] (y ∷ ys) = refl
same_is (x ∷ xs) [] = refl
same_is (x ∷ xs) (y ∷ ys) = ap (λ b. b && same_name xs ys) (same_number x y) ∙ ap (λ b. nat_eq y x && b) (same_is xs ys)

pub places_agree : (n : ℕ) (xs : List (List ℕ)) (name : List ℕ) → place_from n xs name ≡ kept_place n xs name
places_agree n [] name = refl
places_agree n (x ∷ xs) name =
    ap (λ b. if b then Some n else place_from (suc n) xs name) (same_is x name)
    ∙ ap (λ o. if pointwise nat_eq name x then Some n else o) (places_agree (suc n) xs name)

pub number_of_shape : (f : ℕ → TypeTree) (s : Shape) (name : List ℕ) → field_number (Some (tree_of f s)) name ≡ field_place s name
number_of_shape f shape.Bool name = refl
number_of_shape f shape.Text name = refl
number_of_shape f (shape.Int k) name = refl
number_of_shape f (shape.Array n e) name = refl
number_of_shape f (shape.Slice e) name = refl
number_of_shape f (shape.Struct fs) name = places_agree 0 (map (λ g. g.name) fs) name
number_of_shape f (shape.Func ps rs) name = refl
number_of_shape f (shape.Named n) name = refl

count_of_shape : (f : ℕ → TypeTree) (s : Shape) (name : List ℕ) → IfSome (field_place s name) (λ n. n < field_count (Some (tree_of f s)))
count_of_shape f (shape.Struct fs) name = subst (λ k. IfSome (field_place (shape.Struct fs) name) (λ n. n < k)) (sym (length_of_row f fs)) (field_within fs name)
count_of_shape f shape.Bool name = tt
count_of_shape f shape.Text name = tt
count_of_shape f (shape.Int k) name = tt
count_of_shape f (shape.Array n e) name = tt
count_of_shape f (shape.Slice e) name = tt
count_of_shape f (shape.Func ps rs) name = tt
count_of_shape f (shape.Named n) name = tt

-- what is kept of the underlying type u of a type
module _ (t : Table) (ok : IsTable t) (of u : ℕ) (within : u < length t.shapes) (leads : Underlying (rights_of t) (type_of t.shapes of) (type_of t.shapes u)) (name : List ℕ) where
  its_form : (s : Shape) → HasShape t u s → underlying_of (rights_of t) (type_of t.shapes of) ≡ Some (tree_of (type_of t.shapes) s)
  its_form s h = underlying_told (rights_of t) (type_of t.shapes of) (type_of t.shapes u) leads ∙ ap Some (shape_tree t ok u s h)

  pub kept_number : (r : Option ℕ) → ((s : Shape) → HasShape t u s → r ≡ field_place s name) → r ≡ field_number (underlying_of (rights_of t) (type_of t.shapes of)) name
  kept_number r is =
      let there = get_there t.shapes u within in
      (is there.0 there.1 ∙ sym (number_of_shape (type_of t.shapes) there.0 name)) ∙ sym (ap (λ o. field_number o name) (its_form there.0 there.1))

  pub kept_within : (r : Option ℕ) → ((s : Shape) → HasShape t u s → r ≡ field_place s name) → IfSome r (λ n. n < field_count (underlying_of (rights_of t) (type_of t.shapes of)))
  kept_within r is =
      let there = get_there t.shapes u within in
      subst (λ o. IfSome r (λ n. n < field_count o)) (sym (its_form there.0 there.1))
      (subst (λ o. IfSome o (λ n. n < field_count (Some (tree_of (type_of t.shapes) there.0)))) (sym (is there.0 there.1)) (count_of_shape (type_of t.shapes) there.0 name))
