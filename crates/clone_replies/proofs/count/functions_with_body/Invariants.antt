use Rattle.std.proofs.Common.{◌≡◌, ◌+◌, cond, drop}
use Rattle.std.specs.List.{sum_by}
use Rattle.go_typed.specs.Funcs.{tree_of}
use Rattle.clone_replies.specs.Numbers.{has_body}
use Rattle.clone_replies.proofs.count.functions_with_body.Given as goal

abbrev pub invariant-loop-f : goal.invariant-loop-f
invariant-loop-f l = sum_by (λ f. cond (has_body (tree_of f)) 1 0) l.functions ≡ l.count + sum_by (λ f. cond (has_body (tree_of f)) 1 0) (drop l.f-index l.functions)
