-- What is around a function stands for something known, also under the right sides of types that functions declare.
use Rattle.std.proofs.Common.{◌≡◌, ℕ, zero, suc, ◌<◌, true, List, [], ◌∷◌, length, Option, Some, None, refl, sym, subst, arith}
use Rattle.std.specs.Prelude.{slice_get}
use Rattle.go_constants.specs.declared.values.Const.{Const}
use Rattle.go_tree.specs.Uses.{UsesView}
use Rattle.go_types.specs.Trees.{TypeTree}
use Rattle.go_types.specs.Relations.{Rights, HasRight, Underlying, itself, through}
use Rattle.go_types_relations.specs.Tests.{underlying_of}
use Rattle.go_types_relations.proofs.Public.{told_underlying, underlying_told}
use Rattle.go_typed.specs.Trees as sort
use Rattle.go_exprs_rules.specs.Sorts.{Stands, is_family, family_of_const, family_of_type}
use Rattle.go_package_defs.specs.Answer.{Environment}
use Rattle.go_package_defs.specs.Bodies.{Portion, stands_there, scope_of}
use Rattle.go_package_defs.specs.Checked.{surroundings_of}
use Rattle.go_package_defs.specs.Knowledge.{referent_at}
use Rattle.go_package_defs.specs.Sources.{Source, package_of}
use Rattle.go_stmts_final_types.specs.Names.{KeepsFamily}
use Rattle.go_stmts_final_types.specs.Placed.{IsKnownObject, IsGood, ObjectsAreGood}
use Rattle.go_package_checked.specs.Objects.{ObjectsAreKnown}

inside : {A : Type 0} (xs : List A) (n : ℕ) → n < length xs → (x : A) × (slice_get xs n ≡ Some x)
inside [] n l = absurd (omega (arith, l))
inside (x ∷ xs) zero l = (x, refl)
inside (x ∷ xs) (suc n) l = inside xs n (omega (arith, l))

module _ (old new : Rights) (kept : (n : ℕ) (r : TypeTree) → HasRight old n r → HasRight new n r) where
  underlying_stays : (t u : TypeTree) → Underlying old t u → Underlying new t u
  underlying_stays t u (itself v h) = itself v h
  underlying_stays t u (through n r v h g) = through n r v (kept n r h) (underlying_stays r v g)

  underlying_same : (t u : TypeTree) → underlying_of old t ≡ Some u → underlying_of new t ≡ Some u
  underlying_same t u e = underlying_told new t u (underlying_stays t u (told_underlying old t u e))

  family_stays : (t : TypeTree) (o : Option TypeTree) (c : Const) → underlying_of old t ≡ o → is_family (family_of_const c) (family_of_type o) ≡ true → is_family (family_of_const c) (family_of_type (underlying_of new t)) ≡ true
  family_stays t None c m e = cc
  family_stays t (Some u) c m e = subst (λ z. is_family (family_of_const c) (family_of_type z) ≡ true) (sym (underlying_same t u m)) e

  keeps_more : (x : Stands) → KeepsFamily old x → KeepsFamily new x
  keeps_more (sort.Constant t c) e = family_stays t (underlying_of old t) c refl e
  keeps_more x e = tt

  known_more : (x : Stands) → IsKnownObject old x → IsKnownObject new x
  known_more x h = record { fit = h.fit; family = keeps_more x h.family }

pub around_known : (ss : List Source) (u : UsesView) (e : Environment) → ObjectsAreKnown (package_of ss u) e → (rights : Rights) (o : Portion) → ((n : ℕ) (r : TypeTree) → HasRight e.rights n r → HasRight rights n r)
    → ObjectsAreGood (length e.objects) (scope_of (surroundings_of u e) rights o)
around_known ss u e h rights o kept = λ m l.
    let x = inside e.objects m l in
    let good : IsGood rights (referent_at (package_of ss u) m) x.0 = record { known = known_more e.rights rights kept x.0 (h.each m x.0 x.1); typed = λ k r. h.typed m k x.0 x.1 r } in
    subst (λ z. IsGood rights (referent_at (package_of ss u) m) (stands_there z)) (sym x.1) good
