-- How many nodes trees have.
use Rattle.std.proofs.Common.{◌≡◌, ℕ, zero, suc, ◌<◌, ◌≤◌, List, [], ◌∷◌, ap, Option, Some, None, arith}
use Rattle.go_types_relations.specs.Questions.{entry}
use Rattle.go_typed.specs.declared.node.TypedNode.{TypedNode}
use Rattle.go_typed.specs.declared.node.TypedNode.TheViews.{out-TypedNode}
use Rattle.go_typed.specs.Funcs.{size, sizes}
use Rattle.go_typed.specs.Views.{view, views}
use Rattle.go_eval_plans.proofs.Seen.{opened}

pub size_node : (x : TypedNode) → size (view x) ≡ suc (sizes (views (out-TypedNode x).parts.items))
size_node x = ap size (opened x)

pub size_entry : (xs : List (Option TypedNode)) (k : ℕ) (x : TypedNode) → entry xs k ≡ Some x → size (view x) ≤ sizes (views xs)
size_entry [] k x e = absurd cc
size_entry (None ∷ xs) zero x e = absurd cc
size_entry (Some y ∷ xs) zero x e = let s : y ≡ x = cc in let t : size (view y) ≡ size (view x) = ap (λ (z : TypedNode). size (view z)) s in omega (arith, t)
size_entry (None ∷ xs) (suc k) x e = size_entry xs k x e
size_entry (Some y ∷ xs) (suc k) x e = let t : size (view x) ≤ sizes (views xs) = size_entry xs k x e in omega (arith, t)

-- the parts of a part have fewer nodes
pub smaller : (xs : List (Option TypedNode)) (k : ℕ) (x : TypedNode) (ys : List (Option TypedNode)) → entry xs k ≡ Some x → ys ≡ (out-TypedNode x).parts.items → sizes (views ys) < sizes (views xs)
smaller xs k x ys e s =
    let a : size (view x) ≤ sizes (views xs) = size_entry xs k x e in
    let b : size (view x) ≡ suc (sizes (views (out-TypedNode x).parts.items)) = size_node x in
    let c : sizes (views ys) ≡ sizes (views (out-TypedNode x).parts.items) = ap (λ (zs : List (Option TypedNode)). sizes (views zs)) s in
    omega (arith, a, b, c)
