-- What tests of places come to.
use Rattle.std.proofs.Common.{◌≡◌, ◌<◌, ◌≤◌, ℕ, suc, List, [], ◌∷◌, ◌++◌, take, drop, refl, sym, ap, ◌∙◌, Option, Some, None, arith}
use Rattle.std.specs.Prelude.{false}
use Rattle.go_types_relations.specs.Questions.{entry}
use Rattle.go_typed.specs.declared.node.TypedNode.{TypedNode}
use Rattle.go_typed.specs.declared.node.TypedNode.TheViews.{out-TypedNode}
use Rattle.go_typed.specs.Funcs.{size, sizes}
use Rattle.go_typed.specs.Packages.{PackageView}
use Rattle.go_typed.specs.Views as nodes
use Rattle.go_meaning.specs.Values.{Value, Truth, nth}
use Rattle.go_meaning.specs.Computations.{Comp, undecided, end_by, give}
use Rattle.go_meaning.specs.Doings.{Doing, at, values_of}
use Rattle.go_meaning.specs.Doings as doings_of
use Rattle.go_eval_plans.specs.Places.{place_doing, IsPlace}
use Rattle.go_eval_plans.specs.Programs.{doing, doings}
use Rattle.go_eval_plans.specs.declared.places.Place.TheVariants as the_place
use Rattle.go_eval_plans.proofs.Public.{at_some, at_none, size_node, size_entry}
use Rattle.go_eval_machine.specs.declared.task.What.TheVariants as what
use Rattle.go_eval_machine.specs.Rests.{Rest, before, then_rest}
use Rattle.go_eval_machine.specs.Tasks.{parts_of, task_rest}
use Rattle.go_eval_machine.specs.Engines.{lays}
use Rattle.go_eval_machine.proofs.Rests.{Same, whole}
use Rattle.go_eval_machine.proofs.Values.{nth_drop}
use Rattle.go_eval_machine.specs.Tests.{tests}

-- a part has fewer nodes
pub smaller_part : (x y : TypedNode) (k : ℕ) (xs : List (Option TypedNode)) → xs ≡ (out-TypedNode x).parts.items → entry xs k ≡ Some y → size (nodes.view y) < size (nodes.view x)
smaller_part x y k xs e h =
    let a : size (nodes.view y) ≤ sizes (nodes.views xs) = size_entry xs k y h in
    let b : size (nodes.view x) ≡ suc (sizes (nodes.views (out-TypedNode x).parts.items)) = size_node x in
    let c : sizes (nodes.views xs) ≡ sizes (nodes.views (out-TypedNode x).parts.items) = ap (λ (zs : List (Option TypedNode)). sizes (nodes.views zs)) e in
    omega (arith, a, b, c)

module _ (p : PackageView) (n : ℕ) (x : TypedNode) (k : ℕ) (xs : List (Option TypedNode)) (e : xs ≡ (out-TypedNode x).parts.items) where
  pub test_none : entry xs k ≡ None → (us : List Value) → (at (parts_of p n x) k).test us ≡ undecided
  test_none h us = ap (λ (z : Doing). z.test us) (at_none p n (out-TypedNode x).parts.items k (ap (λ (ys : List (Option TypedNode)). entry ys k) (sym e) ∙ h))

  module _ (y : TypedNode) (h : entry xs k ≡ Some y) where
    pub test_some : (D : Doing) → IsPlace (doing p n y) D → (us : List Value) → (at (parts_of p n x) k).test us ≡ D.test us
    test_some D i us = ap (λ (z : Doing). z.test us) (at_some p n (out-TypedNode x).parts.items k y (ap (λ (ys : List (Option TypedNode)). entry ys k) (sym e) ∙ h)) ∙ ap (λ (g : List Value → Comp). g us) i.test

    module _ (b : ℕ) (r : Rest) (vs : List Value) where
      -- the same computation
      pub tests_by : (c : Comp) (D : Doing) → IsPlace (doing p n y) D → D.test (drop b vs) ≡ c → Same (tests p x k b n r vs) (then_rest c r vs)
      tests_by c D i q d f w t = ap (λ (c1 : Comp). then_rest c1 r vs d f w t) (test_some D i (drop b vs) ∙ q)

      pub tests_otherwise : IsPlace (doing p n y) (place_doing the_place.Otherwise (doings p n (out-TypedNode y).parts.items)) → Same (tests p x k b n r vs) (r.go (vs ++ Truth false ∷ []))
      unfolding before end_by
      tests_otherwise i d f w t = tests_by (give (Truth false ∷ [])) (place_doing the_place.Otherwise (doings p n (out-TypedNode y).parts.items)) i refl d f w t

      pub tests_case : (m : ℕ) → IsPlace (doing p n y) (place_doing (the_place.Case m) (doings p n (out-TypedNode y).parts.items)) → Same (tests p x k b n r vs) (lays p y (what.Matches 0 m b) n r vs)
      unfolding task_rest
      tests_case m i d f w t = tests_by (doings_of.matches (nth (drop b vs) 0) (values_of (take m (parts_of p n y)))) (place_doing (the_place.Case m) (doings p n (out-TypedNode y).parts.items)) i refl d f w t
          ∙ (ap (λ (v : Value). then_rest (doings_of.matches v (values_of (take m (parts_of p n y)))) r vs d f w t) (nth_drop vs b)
          ∙ ap (λ (us : List Value). then_rest (doings_of.matches (nth us b) (values_of (take m (parts_of p n y)))) r us d f w t) (sym (whole vs)))
