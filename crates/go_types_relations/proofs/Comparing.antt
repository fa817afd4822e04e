-- What is told to be comparable is so.
use Rattle.std.proofs.Common.{◌≡◌, ℕ, Option, Some, None, refl, ap, ◌∙◌, Bool, true, false}
use Rattle.std.specs.Prelude.{◌&&◌}
use Rattle.std.proofs.lemmas.Option.{same_Some}
use Rattle.go_types.specs.Trees.{TypeTree, boolean, text, integer, array, slice, structure, function, declared, TypeRow, none, more}
use Rattle.go_types.specs.Relations.{Rights, Comparable, AllComparable, booleans, texts, integers, arrays, structures, by_right, no_part, a_part}
use Rattle.go_types_relations.specs.Questions.{answers}
use Rattle.go_types_relations.specs.Tests.{comparable_by, all_comparable_by, comparability_of, is_yes, is_comparable}
use Rattle.go_types_relations.proofs.Booleans.{and_parts, both_parts, both_some}
use Rattle.go_types_relations.proofs.Rounds.{Within, Monotone, right_answers, asked_holds}

mutual
  pub comparable_monotone : Monotone comparable_by
  comparable_monotone f g w boolean x e = e
  comparable_monotone f g w text x e = e
  comparable_monotone f g w (integer _) x e = e
  comparable_monotone f g w (array n t) x e = comparable_monotone f g w t x e
  comparable_monotone f g w (slice _) x e = e
  comparable_monotone f g w (structure ns ts) x e = all_monotone f g w ts x e
  comparable_monotone f g w (function _ _) x e = e
  comparable_monotone f g w (declared n) x e = w n x e

  all_monotone : (f g : ℕ → Option Bool) → Within f g → (ts : TypeRow) (x : Bool) → all_comparable_by f ts ≡ Some x → all_comparable_by g ts ≡ Some x
  all_monotone f g w none x e = e
  all_monotone f g w (more t ts) x e =
      let p = both_parts (λ a b. a && b) (comparable_by f t) (all_comparable_by f ts) x e in
      both_some (λ a b. a && b) (comparable_by g t) (all_comparable_by g ts) p.0 p.1 (comparable_monotone f g w t p.0 p.2) (all_monotone f g w ts p.1 p.3) ∙ ap Some p.4

module _ (rights : Rights) where
  mutual
    comparable_told : (t : TypeTree) → Comparable rights t → comparability_of rights t ≡ Some true
    comparable_told t booleans = refl
    comparable_told t texts = refl
    comparable_told t (integers k) = refl
    comparable_told t (arrays n u c) = comparable_told u c
    comparable_told t (structures ns ts cs) = all_told ts cs
    comparable_told t (by_right n r h c) = right_answers comparable_by comparable_monotone rights n r h ∙ comparable_told r c

    all_told : (ts : TypeRow) → AllComparable rights ts → all_comparable_by (answers comparable_by rights) ts ≡ Some true
    all_told ts no_part = refl
    all_told ts (a_part u us c cs) = both_some (λ a b. a && b) (comparability_of rights u) (all_comparable_by (answers comparable_by rights) us) true true (comparable_told u c) (all_told us cs)

  mutual
    step : (known : ℕ → Option Bool) → ((n : ℕ) (x : Bool) → known n ≡ Some x → x ≡ true → Comparable rights (declared n)) → (t : TypeTree) (x : Bool) → comparable_by known t ≡ Some x → x ≡ true → Comparable rights t
    step known f boolean x e y = booleans
    step known f text x e y = texts
    step known f (integer k) x e y = integers k
    step known f (array n t) x e y = arrays n t (step known f t x e y)
    step known f (slice t) x e y = let wrong : false ≡ x = same_Some false x e in cc
    step known f (structure ns ts) x e y = structures ns ts (row_step known f ts x e y)
    step known f (function ps rs) x e y = let wrong : false ≡ x = same_Some false x e in cc
    step known f (declared n) x e y = f n x e y

    row_step : (known : ℕ → Option Bool) → ((n : ℕ) (x : Bool) → known n ≡ Some x → x ≡ true → Comparable rights (declared n)) → (ts : TypeRow) (x : Bool) → all_comparable_by known ts ≡ Some x → x ≡ true → AllComparable rights ts
    row_step known f none x e y = no_part
    row_step known f (more t ts) x e y =
        let p = both_parts (λ a b. a && b) (comparable_by known t) (all_comparable_by known ts) x e in
        let q = and_parts p.0 p.1 (p.4 ∙ y) in
        a_part t ts (step known f t p.0 p.2 q.0) (row_step known f ts p.1 p.3 q.1)

  pub comparable_test : (t : TypeTree) → Comparable rights t → is_comparable rights t ≡ true
  comparable_test t c = ap is_yes (comparable_told t c)

  pub test_comparable : (t : TypeTree) → is_comparable rights t ≡ true → Comparable rights t
  test_comparable t e = by (comparability_of rights t) refl e
    where
      by : (o : Option Bool) → comparability_of rights t ≡ o → is_yes o ≡ true → Comparable rights t
      by None h e = cc
      by (Some b) h e = asked_holds comparable_by rights (λ u x. x ≡ true → Comparable rights u) (λ n r x h c y. by_right n r h (c y)) step t b h e
