use Rattle.std.proofs.Common.{sym, ap, ◌∙◌, ℕ, List, Option}
use Rattle.go_types.specs.Tables.{type_of}
use Rattle.go_typed.specs.declared.node.TypedNode.{TypedNode}
use Rattle.go_typed.specs.Trees.{Typed, mapped, all_mapped, parts_of}
use Rattle.go_typed.specs.Views.{view, views}
use Rattle.go_meaning.specs.Planning.{is_there, part_at}
use Rattle.go_eval_plans.proofs.Seen.{opened}
use Rattle.go_eval_plans.specs.Programs.{code_of}
use Rattle.go_eval_plans.proofs.calls.has_body.Goals as goal

pub returns : goal.returns
unfolding code_of
returns c = λ t.
    let f = type_of t.shapes in
    c.is_there.ensures f
    ∙ (ap (λ (xs : List (Option TypedNode)). is_there (part_at (all_mapped f (views xs)) 0)) c.deref.ensures.value
    ∙ (ap (λ (v : Typed ℕ). is_there (part_at (parts_of (mapped f v)) 0)) (sym (opened c.root.result.now))
    ∙ ap (λ (y : TypedNode). is_there (part_at (parts_of (mapped f (view y))) 0)) c.root.ensures.root))
