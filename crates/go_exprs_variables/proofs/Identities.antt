-- What is told to be identical is the same type, and each type is told to be identical to itself.
use Rattle.std.proofs.Common.{◌≡◌, ℕ, Bool, List, [], ◌∷◌, refl, ap, ◌∙◌, true, false}
use Rattle.std.specs.Prelude.{◌&&◌, nat_eq}
use Rattle.std.proofs.lemmas.Bool.{eqb-true, eq-eqb}
use Rattle.go_ints.specs.declared.kinds.Kind.{Kind}
use Rattle.go_types.specs.declared.shape.Shape.TheVariants as shape
use Rattle.go_types.specs.Trees.{TypeTree, boolean, text, integer, array, slice, structure, function, declared, TypeRow, none, more}
use Rattle.go_types.specs.Keys.{key, kind_number}
use Rattle.go_types.proofs.Public.{same_shape}
use Rattle.go_types_relations.specs.Identity.{same_name, same_names, is_identical, are_identical}

and_parts : (a b : Bool) → (a && b) ≡ true → (a ≡ true) × (b ≡ true)
and_parts true b e = (refl, e)
and_parts false b e = cc

and_true : (a b : Bool) → a ≡ true → b ≡ true → (a && b) ≡ true
and_true a b e f = ap (λ z. z && b) e ∙ f

same_kind : (k l : Kind) → kind_number k ≡ kind_number l → k ≡ l
unfolding key
same_kind k l e =
    let shapes : shape.Int k ≡ shape.Int l = same_shape (shape.Int k) (shape.Int l) (ap (λ n. 2 ∷ n ∷ []) e) in
    cc

name_same : (xs ys : List ℕ) → same_name xs ys ≡ true → xs ≡ ys
name_same [] [] e = refl
name_same [] (y ∷ ys) e = cc
name_same (x ∷ xs) [] e = cc
name_same (x ∷ xs) (y ∷ ys) e =
    let p = and_parts (nat_eq x y) (same_name xs ys) e in
    let head : x ≡ y = eqb-true x y p.0 in
    let tail : xs ≡ ys = name_same xs ys p.1 in
    cc

name_self : (xs : List ℕ) → same_name xs xs ≡ true
name_self [] = refl
name_self (x ∷ xs) = and_true (nat_eq x x) (same_name xs xs) (eq-eqb x x refl) (name_self xs)

names_same : (xs ys : List (List ℕ)) → same_names xs ys ≡ true → xs ≡ ys
names_same [] [] e = refl
names_same [] (y ∷ ys) e = cc
names_same (x ∷ xs) [] e = cc
names_same (x ∷ xs) (y ∷ ys) e =
    let p = and_parts (same_name x y) (same_names xs ys) e in
    let head : x ≡ y = name_same x y p.0 in
    let tail : xs ≡ ys = names_same xs ys p.1 in
    cc

names_self : (xs : List (List ℕ)) → same_names xs xs ≡ true
names_self [] = refl
names_self (x ∷ xs) = and_true (same_name x x) (same_names xs xs) (name_self x) (names_self xs)

mutual
  pub trees_same : (t u : TypeTree) → is_identical t u ≡ true → t ≡ u
  trees_same boolean boolean e = refl
  trees_same boolean _ e = cc
  trees_same text text e = refl
  trees_same text _ e = cc
  trees_same (integer k) (integer l) e = ap integer (same_kind k l (eqb-true (kind_number k) (kind_number l) e))
  trees_same (integer k) _ e = cc
  trees_same (array n t) (array m u) e =
      let p = and_parts (nat_eq n m) (is_identical t u) e in
      let sizes : n ≡ m = eqb-true n m p.0 in
      let elements : t ≡ u = trees_same t u p.1 in
      cc
  trees_same (array n t) _ e = cc
  trees_same (slice t) (slice u) e = ap slice (trees_same t u e)
  trees_same (slice t) _ e = cc
  trees_same (structure ns ts) (structure ms us) e =
      let p = and_parts (same_names ns ms) (are_identical ts us) e in
      let names : ns ≡ ms = names_same ns ms p.0 in
      let types : ts ≡ us = rows_same ts us p.1 in
      cc
  trees_same (structure ns ts) _ e = cc
  trees_same (function ps rs) (function qs ss) e =
      let p = and_parts (are_identical ps qs) (are_identical rs ss) e in
      let first : ps ≡ qs = rows_same ps qs p.0 in
      let second : rs ≡ ss = rows_same rs ss p.1 in
      cc
  trees_same (function ps rs) _ e = cc
  trees_same (declared n) (declared m) e = ap declared (eqb-true n m e)
  trees_same (declared n) _ e = cc

  rows_same : (ts us : TypeRow) → are_identical ts us ≡ true → ts ≡ us
  rows_same none none e = refl
  rows_same none (more u us) e = cc
  rows_same (more t ts) none e = cc
  rows_same (more t ts) (more u us) e =
      let p = and_parts (is_identical t u) (are_identical ts us) e in
      let head : t ≡ u = trees_same t u p.0 in
      let tail : ts ≡ us = rows_same ts us p.1 in
      cc

mutual
  pub tree_self : (t : TypeTree) → is_identical t t ≡ true
  tree_self boolean = refl
  tree_self text = refl
  tree_self (integer k) = eq-eqb (kind_number k) (kind_number k) refl
  tree_self (array n t) = and_true (nat_eq n n) (is_identical t t) (eq-eqb n n refl) (tree_self t)
  tree_self (slice t) = tree_self t
  tree_self (structure ns ts) = and_true (same_names ns ns) (are_identical ts ts) (names_self ns) (row_self ts)
  tree_self (function ps rs) = and_true (are_identical ps ps) (are_identical rs rs) (row_self ps) (row_self rs)
  tree_self (declared n) = eq-eqb n n refl

  row_self : (ts : TypeRow) → are_identical ts ts ≡ true
  row_self none = refl
  row_self (more t ts) = and_true (is_identical t t) (are_identical ts ts) (tree_self t) (row_self ts)
