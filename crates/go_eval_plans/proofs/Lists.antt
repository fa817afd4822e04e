-- What the parts of a node can be asked to do.
use Rattle.std.proofs.Common.{◌≡◌, ℕ, zero, suc, List, [], ◌∷◌, refl, ap, Option, Some, None}
use Rattle.go_types_relations.specs.Questions.{entry}
use Rattle.go_typed.specs.declared.node.TypedNode.{TypedNode}
use Rattle.go_typed.specs.Packages.{PackageView}
use Rattle.go_meaning.specs.Doings.{absent, at}
use Rattle.go_eval_plans.specs.Programs.{doing, doings}

module _ (p : PackageView) (n : ℕ) where
  pub at_some : (xs : List (Option TypedNode)) (k : ℕ) (x : TypedNode) → entry xs k ≡ Some x → at (doings p n xs) k ≡ doing p n x
  unfolding doings doing
  at_some [] k x e = absurd cc
  at_some (None ∷ xs) zero x e = absurd cc
  at_some (Some y ∷ xs) zero x e = let s : y ≡ x = cc in ap (doing p n) s
  at_some (None ∷ xs) (suc k) x e = at_some xs k x e
  at_some (Some y ∷ xs) (suc k) x e = at_some xs k x e

  pub at_none : (xs : List (Option TypedNode)) (k : ℕ) → entry xs k ≡ None → at (doings p n xs) k ≡ absent
  unfolding doings
  at_none [] zero e = refl
  at_none [] (suc k) e = refl
  at_none (None ∷ xs) zero e = refl
  at_none (Some y ∷ xs) zero e = absurd cc
  at_none (None ∷ xs) (suc k) e = at_none xs k e
  at_none (Some y ∷ xs) (suc k) e = at_none xs k e
