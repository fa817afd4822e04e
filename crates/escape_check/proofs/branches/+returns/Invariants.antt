use Rattle.std.proofs.Common.{◌≡◌, drop}
use Rattle.go_typed.specs.Places.{nodes_among}
use Rattle.go_typed.specs.Trees.{form_of}
use Rattle.go_typed.specs.Views.{views}
use Rattle.escape_check.specs.Firsts.{first_where}
use Rattle.escape_check.specs.Statements.{is_return}
use Rattle.escape_check.proofs.branches.+returns.Given as goal

abbrev pub invariant-first_return-loop-part : goal.invariant-first_return-loop-part
invariant-first_return-loop-part l =
    first_where (λ x. is_return (form_of x)) (nodes_among (views l.parts)) ≡ first_where (λ x. is_return (form_of x)) (nodes_among (views (drop l.part-index l.parts)))
