-- The first item of one list behind another.
use Rattle.std.proofs.Common.{◌≡◌, ◌∙◌, Bool, true, false, List, [], ◌∷◌, ◌++◌, Some, ℕ, refl, sym, ap}
use Rattle.std.proofs.lemmas.List.Elements.{filter-append}
use Rattle.std.specs.Prelude.{filter, if◌then◌else◌}
use Rattle.clone_window.proofs.Public.{view_out}
use Rattle.go_typed.specs.declared.node.TypedNode.{TypedNode}
use Rattle.go_typed.specs.declared.node.TypedNode.TheViews.{out-TypedNode}
use Rattle.go_typed.specs.Places.{nodes, nodes_among}
use Rattle.go_typed.specs.Trees.{Typed, form_of}
use Rattle.go_typed.specs.Views.{view, views}
use Rattle.escape_check.specs.Firsts.{either, first, first_where}
use Rattle.escape_check.specs.Statements.{is_return}

pub first_append : {X : Type 0} (xs ys : List X) → first (xs ++ ys) ≡ either (first xs) (first ys)
first_append [] ys = refl
first_append (x ∷ xs) ys = refl

pub where_append : {X : Type 0} (test : X → Bool) (xs ys : List X) → first_where test (xs ++ ys) ≡ either (first_where test xs) (first_where test ys)
where_append test xs ys = ap first (filter-append test xs ys) ∙ first_append _ _

-- ---- the first return of a node

first_if : {X : Type 0} (b : Bool) (x : X) (xs : List X) → first (if b then x ∷ xs else xs) ≡ (if b then Some x else first xs)
first_if true x xs = refl
first_if false x xs = refl

pub return_node : (x : TypedNode) → first_where (λ y. is_return (form_of y)) (nodes (view x)) ≡ (if is_return (out-TypedNode x).form then Some (view x) else first_where (λ y. is_return (form_of y)) (nodes_among (views (out-TypedNode x).parts.items)))
return_node x =
    let test : Typed ℕ → Bool = λ y. is_return (form_of y) in
    let rest = nodes_among (views (out-TypedNode x).parts.items) in
    ap (λ y. first_where test (nodes y)) (view_out x)
    ∙ first_if (is_return (out-TypedNode x).form) _ (filter test rest)
    ∙ ap (λ y. if is_return (out-TypedNode x).form then Some y else first_where test rest) (sym (view_out x))
