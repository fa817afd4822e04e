use Rattle.std.proofs.Common.{subst}
use Rattle.go_base.specs.Gives.{Gives}
use Rattle.go_types.specs.Tables.{rights_of}
use Rattle.go_typed.specs.Views.{sort_seen}
use Rattle.go_exprs_rules.specs.Faults.{least, judged, refusal_of}
use Rattle.go_exprs_rules.specs.Sorts.{constant_of}
use Rattle.go_exprs_rules.specs.Operators.{compared_sort, folded_both, out_of_range, result_in, in_kind}
use Rattle.go_exprs_rules.specs.declared.family.OpenKind.TheVariants.{Boolean}
use Rattle.go_exprs_rules.proofs.Comparing.{compared_in_range}
use Rattle.go_exprs_rules.proofs.compare.truth.Goals as goal

pub returns-clause-exact : goal.returns-clause-exact
returns-clause-exact c =
    let t = c.args.types.now in
    let a = constant_of (sort_seen t c.args.left.now) in
    let b = constant_of (sort_seen t c.args.right.now) in
    let see = sort_seen t in
    let given = subst (λ o. Gives see refusal_of c.operation.result (judged (least (out_of_range (rights_of t) c.args.place.first c.args.place.last (in_kind Boolean) (folded_both o a b))) (result_in (in_kind Boolean) (folded_both o a b)))) c.comparing.ensures c.operation.ensures.exact in
    subst (λ fs. Gives see refusal_of c.operation.result (judged (least fs) (compared_sort c.args.operator (see c.args.left.now) (see c.args.right.now)))) (compared_in_range (rights_of t) c.args.place.first c.args.place.last c.args.operator a b) given
