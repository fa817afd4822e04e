use Rattle.std.proofs.Common.{ℕ, ◌<◌, length, sym, subst}
use Rattle.std.specs.List.{AllByRecursion}
use Rattle.go_types.specs.Tables.{HasPartsBelow}
use Rattle.go_exprs_calls.proofs.Lists.{back_known}
use Rattle.go_exprs_calls.proofs.functions.called_sort.Goals as goal

pub called-requires-clause-results : goal.called-requires-clause-results
called-requires-clause-results c =
    let k = length c.args.types.now.shapes in
    let P : ℕ → Type 0 = λ n. n < k in
    subst (AllByRecursion P) (sym c.as_slice.ensures) (back_known P c.in-Some-Func.field-0-0 c.in-Some-Func.results (subst (HasPartsBelow k) c.in-Some-Func.field-0-is c.in-Some-Func.ensures.parts))
